use Rattle.dk_types.specs.Points.{after_steps}
use Rattle.dk_method.proofs.Slots.{Filled}
use Rattle.dk_method.proofs.vector.put_after_steps.Given as goal

abbrev pub invariant-loop-place : goal.invariant-loop-place
invariant-loop-place l = Filled l.unit.exponent (after_steps l.i l.from l.step) l.out l.place
