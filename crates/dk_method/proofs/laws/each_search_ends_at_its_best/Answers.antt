use Rattle.dk_method.proofs.SearchLaws.{each_ends_at_best}
use Rattle.dk_method.proofs.laws.each_search_ends_at_its_best.Goals as goal

pub returns : goal.returns
returns c = record { holds = each_ends_at_best }
