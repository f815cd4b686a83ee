use Rattle.dk_num.proofs.ValueLaws.{one_for_a_value, one_for_equals}
use Rattle.dk_num.proofs.laws.values.one_pair_for_each_value.Goals as goal

pub returns-clause-holds_by_value : goal.returns-clause-holds_by_value
returns-clause-holds_by_value c = one_for_a_value

pub returns-clause-holds_by_order : goal.returns-clause-holds_by_order
returns-clause-holds_by_order c = one_for_equals
