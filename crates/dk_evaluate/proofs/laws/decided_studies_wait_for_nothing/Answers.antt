use Rattle.dk_evaluate.proofs.Waiting.{decided_waits_for_nothing}
use Rattle.dk_evaluate.proofs.laws.decided_studies_wait_for_nothing.Goals as goal

pub returns : goal.returns
returns c = decided_waits_for_nothing
