use Rattle.dk_types.proofs.CardAnswers.{next_due}
use Rattle.dk_types.proofs.laws.next_is_the_next_attempt.Goals as goal

pub returns : goal.returns
returns c = next_due
