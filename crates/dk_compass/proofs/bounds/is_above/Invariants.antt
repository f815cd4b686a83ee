use Rattle.std.specs.Prelude.{set}
use Rattle.dk_compass.proofs.Kept.{AreBelow}
use Rattle.dk_compass.proofs.bounds.is_above.Given as goal

abbrev pub invariant-loop-variable : goal.invariant-loop-variable
invariant-loop-variable l = AreBelow l.lower (set l.x l.place l.fn.number) l.variable
