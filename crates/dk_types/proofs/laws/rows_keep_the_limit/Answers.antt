use Rattle.dk_types.proofs.Alone.{rows_keep_limit}
use Rattle.dk_types.proofs.laws.rows_keep_the_limit.Goals as goal

pub returns : goal.returns
returns c = λ study outcomes rows verdict. rows_keep_limit study outcomes rows verdict
