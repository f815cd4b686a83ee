use Rattle.dk_types.proofs.Growth.{decided_as_alone}
use Rattle.dk_types.proofs.laws.decided_as_alone.Goals as goal

pub returns : goal.returns
returns c = decided_as_alone
