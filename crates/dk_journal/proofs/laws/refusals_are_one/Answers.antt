use Rattle.dk_journal.proofs.Refusals.{refusals_are_one}
use Rattle.dk_journal.proofs.laws.refusals_are_one.Goals as goal

pub returns : goal.returns
returns c = refusals_are_one
