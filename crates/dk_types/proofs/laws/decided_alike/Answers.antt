use Rattle.dk_types.proofs.Growth.{decided_alike}
use Rattle.dk_types.proofs.laws.decided_alike.Goals as goal

pub returns : goal.returns
returns c = decided_alike
