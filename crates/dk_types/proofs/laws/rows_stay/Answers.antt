use Rattle.dk_types.proofs.Growth.{rows_stay}
use Rattle.dk_types.proofs.laws.rows_stay.Goals as goal

pub returns : goal.returns
returns c = rows_stay
