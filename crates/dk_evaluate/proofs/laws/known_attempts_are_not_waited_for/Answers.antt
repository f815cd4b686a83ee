use Rattle.dk_evaluate.proofs.Waiting.{known_is_not_waited_for}
use Rattle.dk_evaluate.proofs.laws.known_attempts_are_not_waited_for.Goals as goal

pub returns : goal.returns
returns c = known_is_not_waited_for
