use Rattle.dk_method.proofs.Spanned.{centered_begins_at_its_centre}
use Rattle.dk_method.proofs.laws.each_centered_begins_at_its_centre.Goals as goal

pub returns : goal.returns
returns c = record { holds = centered_begins_at_its_centre }
