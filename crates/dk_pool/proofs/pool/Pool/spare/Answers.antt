use Rattle.dk_pool.proofs.Cut.{stays_small}
use Rattle.dk_pool.proofs.pool.Pool.spare.Goals as goal

pub returns-clause-stays_small : goal.returns-clause-stays_small
returns-clause-stays_small c = stays_small _ _ _ _ _ _ c.self.view_is c.self.invariant
