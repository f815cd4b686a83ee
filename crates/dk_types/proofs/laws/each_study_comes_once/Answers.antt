use Rattle.dk_types.proofs.Once.{each_comes_once}
use Rattle.dk_types.proofs.laws.each_study_comes_once.Goals as goal

pub returns : goal.returns
returns c = λ study outcomes. each_comes_once study outcomes
