use Rattle.dk_types.proofs.SummedUp.{cards_say}
use Rattle.dk_types.proofs.laws.cards_say_the_same.Goals as goal

pub returns : goal.returns
returns c = cards_say
