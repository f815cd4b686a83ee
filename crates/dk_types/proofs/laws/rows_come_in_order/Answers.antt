use Rattle.dk_types.proofs.Alone.{rows_in_order}
use Rattle.dk_types.proofs.laws.rows_come_in_order.Goals as goal

pub returns : goal.returns
returns c = λ study outcomes rows verdict. rows_in_order study outcomes rows verdict
