use Rattle.dk_pool.proofs.Cut.{counted, stays_small}
use Rattle.dk_pool.proofs.pool.Pool.count.Goals as goal

pub returns-clause-gives_count : goal.returns-clause-gives_count
returns-clause-gives_count c = counted _ _ _ _ _ _ c.self.view_is c.self.invariant

pub returns-clause-stays_small : goal.returns-clause-stays_small
returns-clause-stays_small c = stays_small _ _ _ _ _ _ c.self.view_is c.self.invariant
