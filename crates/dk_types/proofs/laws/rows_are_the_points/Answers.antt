use Rattle.dk_types.proofs.Alone.{rows_are_points}
use Rattle.dk_types.proofs.laws.rows_are_the_points.Goals as goal

pub returns : goal.returns
returns c = λ study outcomes rows verdict known comes. rows_are_points study outcomes rows verdict known comes
