-- How many numbers each row has.
use Rattle.std.specs.Prelude.{◌≡◌, List, length}
use Rattle.std.specs.List.{All}
use Rattle.dk_types.specs.declared.study.Study.{Study}
use Rattle.dk_types.specs.declared.rows.Row.{Row}

-- a decimal for each variable, and a value for each response
pub record HasWidths (study : Study) (row : Row) : Type 0 where
  pub point : length row.point ≡ length study.variables.labels
  pub values : length row.values ≡ length study.responses.labels

abbrev pub HaveWidths : Study → List Row → Type 0
HaveWidths study rows = All (HasWidths study) rows
