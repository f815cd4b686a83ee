use Rattle.dk_method.proofs.PointLaws.{each_move_is_made_once}
use Rattle.dk_method.proofs.laws.each_move_once.Goals as goal

pub returns : goal.returns
returns c = record { holds = each_move_is_made_once }
