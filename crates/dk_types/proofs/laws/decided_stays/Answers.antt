use Rattle.dk_types.proofs.Growth.{decided_stays}
use Rattle.dk_types.proofs.laws.decided_stays.Goals as goal

pub returns : goal.returns
returns c = decided_stays
