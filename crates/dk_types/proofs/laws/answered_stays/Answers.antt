use Rattle.dk_types.proofs.Growth.{answered_stays}
use Rattle.dk_types.proofs.laws.answered_stays.Goals as goal

pub returns : goal.returns
returns c = answered_stays
