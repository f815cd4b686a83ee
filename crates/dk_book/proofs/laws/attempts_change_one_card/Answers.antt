use Rattle.dk_book.proofs.OtherCards.{one_changed}
use Rattle.dk_book.proofs.laws.attempts_change_one_card.Goals as goal

pub returns : goal.returns
returns c = record { holds = one_changed }
