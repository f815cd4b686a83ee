use Rattle.dk_num.proofs.Digits.{Stripped}
use Rattle.dk_num.proofs.dec.strip.Given as goal

abbrev pub invariant-loop-rest : goal.invariant-loop-rest
invariant-loop-rest l = Stripped l.n l.rest l.zeros

abbrev pub decreases-loop-rest : goal.decreases-loop-rest
decreases-loop-rest l = l.rest
