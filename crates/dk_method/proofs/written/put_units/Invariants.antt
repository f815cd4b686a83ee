use Rattle.dk_method.proofs.Slots.{Filled}
use Rattle.dk_method.proofs.written.put_units.Given as goal

abbrev pub invariant-loop-place : goal.invariant-loop-place
invariant-loop-place l = Filled l.unit.exponent l.numbers l.out l.place
