use Rattle.std.proofs.Common.{rules}
use Rattle.dk_num.proofs.ValueLaws.{pairs_decide}
use Rattle.dk_num.proofs.order.DecPartialEq.eq.Goals as goal

pub returns-then-a-b-clause-compares_values : goal.returns-then-a-b-clause-compares_values
returns-then-a-b-clause-compares_values c = pairs_decide _ _ _ c.pair-a.ensures.is_canonical c.pair-b.ensures.is_canonical (search rules)

pub returns-else-a-b-clause-compares_values : goal.returns-else-a-b-clause-compares_values
returns-else-a-b-clause-compares_values c = pairs_decide _ _ _ c.pair-a.ensures.is_canonical c.pair-b.ensures.is_canonical (search rules)
