use denote.RattleType.{RattleType}
use denote.Param.Send.{IsSync}
use Rattle.std.specs.declared.alloc.Allocator.{Ghosts}
use Rattle.dk_pool.proofs.Crossing.{region-sync}
use Rattle.dk_pool.specs.contracts.region.Region.{the_row}

pub sync : (R A : RattleType) (g : Ghosts A.Denot) → IsSync R → IsSync A → IsSync (the_row R A g)
sync = region-sync
