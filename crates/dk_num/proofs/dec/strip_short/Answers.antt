use Rattle.std.proofs.Common.{arith}
use Rattle.dk_num.proofs.Digits.{stripped_none, stripped_more}
use Rattle.dk_num.proofs.dec.strip_short.Goals as goal

pub loop-rest-init : goal.loop-rest-init
loop-rest-init c = stripped_none _ c.requires (omega arith)

pub loop-rest-preserved : goal.loop-rest-preserved
loop-rest-preserved c = stripped_more _ _ _ c.loop-rest-test.true c.loop-rest.invariant
