use Rattle.dk_method.proofs.Moved.{IsLeft}
use Rattle.dk_method.proofs.centered.move_of.Given as goal

abbrev pub invariant-loop-variable : goal.invariant-loop-variable
invariant-loop-variable l = IsLeft l.counts l.k l.variable l.left
