use Rattle.dk_method.proofs.Spanned.{each_vector_goes_on}
use Rattle.dk_method.proofs.laws.each_vector_goes_on.Goals as goal

pub returns : goal.returns
returns c = record { holds = each_vector_goes_on }
