use Rattle.dk_types.proofs.Placed.{places_stay}
use Rattle.dk_types.proofs.laws.places_stay.Goals as goal

pub returns : goal.returns
returns c = places_stay
