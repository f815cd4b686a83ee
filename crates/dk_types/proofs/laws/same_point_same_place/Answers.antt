use Rattle.dk_types.proofs.Placed.{same_point_same_place}
use Rattle.dk_types.proofs.laws.same_point_same_place.Goals as goal

pub returns : goal.returns
returns c = same_point_same_place
