use Rattle.std.proofs.Common.{◌-◌}
use Rattle.std.specs.Prelude.{vec_len}
use Rattle.dakota.proofs.carry_out.benches.Given as goal

abbrev pub decreases-loop-prints : goal.decreases-loop-prints
decreases-loop-prints g l = 64 - vec_len l.benches
