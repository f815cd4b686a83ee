use Rattle.dk_types.proofs.Once.{each_ends_once}
use Rattle.dk_types.proofs.laws.each_study_ends_once.Goals as goal

pub returns : goal.returns
returns c = λ study child. each_ends_once study child
