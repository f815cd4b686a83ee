use Rattle.dk_num.proofs.ValueLaws.{sum_is_canonical, sum_value}
use Rattle.dk_num.proofs.laws.arithmetic.sums_are_sums.Goals as goal

pub returns-clause-is_canonical : goal.returns-clause-is_canonical
returns-clause-is_canonical c = sum_is_canonical

pub returns-clause-adds_values : goal.returns-clause-adds_values
returns-clause-adds_values c = sum_value
