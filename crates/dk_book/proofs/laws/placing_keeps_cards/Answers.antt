use Rattle.dk_book.proofs.OtherCards.{placed_kept}
use Rattle.dk_book.proofs.laws.placing_keeps_cards.Goals as goal

pub returns : goal.returns
returns c = record { holds = placed_kept }
