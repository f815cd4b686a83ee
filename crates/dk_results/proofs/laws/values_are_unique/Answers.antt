use Rattle.dk_results.proofs.Readings.{unique_values}
use Rattle.dk_results.proofs.laws.values_are_unique.Goals as goal

pub returns : goal.returns
returns c = unique_values
