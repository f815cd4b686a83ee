use Rattle.dk_method.proofs.Formulas.{way}
use Rattle.dk_method.proofs.Slots.{Filled}
use Rattle.dk_method.proofs.vector.put_towards.Given as goal

abbrev pub invariant-loop-place : goal.invariant-loop-place
invariant-loop-place l = Filled l.unit.exponent (way l.i l.steps l.from l.to) l.out l.place
