use Rattle.dk_method.proofs.Spanned.{each_point_is_whole}
use Rattle.dk_method.proofs.laws.each_point_is_whole.Goals as goal

pub returns : goal.returns
returns c = record { holds = each_point_is_whole }
