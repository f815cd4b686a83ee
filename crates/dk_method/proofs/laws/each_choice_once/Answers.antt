use Rattle.dk_method.proofs.GridLaws.{each_choice_is_made_once}
use Rattle.dk_method.proofs.laws.each_choice_once.Goals as goal

pub returns : goal.returns
returns c = record { holds = each_choice_is_made_once }
