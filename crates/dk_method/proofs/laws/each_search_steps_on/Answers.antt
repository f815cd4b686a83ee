use Rattle.dk_method.proofs.SearchLaws.{each_steps_on}
use Rattle.dk_method.proofs.laws.each_search_steps_on.Goals as goal

pub returns : goal.returns
returns c = record { holds = each_steps_on }
