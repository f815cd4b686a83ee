use Rattle.dk_results.proofs.Failures.{failures_no_numbers}
use Rattle.dk_results.proofs.laws.failures_are_no_numbers.Goals as goal

pub returns : goal.returns
returns c = failures_no_numbers
