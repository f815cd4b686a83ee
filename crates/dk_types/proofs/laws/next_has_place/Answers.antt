use Rattle.dk_types.proofs.Placed.{next_has_place}
use Rattle.dk_types.proofs.laws.next_has_place.Goals as goal

pub returns : goal.returns
returns c = next_has_place
