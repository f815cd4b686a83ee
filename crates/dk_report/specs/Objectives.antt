-- Which rows have one value to compare.
use Rattle.std.specs.Prelude.{◌≡◌, true, length}
use Rattle.dk_types.specs.declared.study.Study.{Study}

-- just one objective function
pub record HasOneObjective (study : Study) : Type 0 where
  pub objectives : study.responses.objectives ≡ true
  pub one : length study.responses.labels ≡ 1
