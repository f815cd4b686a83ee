use Rattle.dk_num.proofs.Refusals.{difference_is_canonical, difference_value}
use Rattle.dk_num.proofs.laws.arithmetic.differences_are_differences.Goals as goal

pub returns-clause-is_canonical : goal.returns-clause-is_canonical
returns-clause-is_canonical c = difference_is_canonical

pub returns-clause-subtracts_values : goal.returns-clause-subtracts_values
returns-clause-subtracts_values c = difference_value
