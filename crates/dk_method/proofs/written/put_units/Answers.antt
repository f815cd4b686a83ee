use Rattle.std.proofs.Common.{arith}
use Rattle.dk_method.proofs.Quantities.{number_read}
use Rattle.dk_method.proofs.Slots.{filled_none, filled_more, filled_all}
use Rattle.dk_method.proofs.written.put_units.Goals as goal

pub loop-place-init : goal.loop-place-init
loop-place-init c = filled_none _ _ _ c.requires.room

pub loop-place-preserved : goal.loop-place-preserved
loop-place-preserved c = filled_more _ _ _ _ _ _ c.loop-place-test.true c.from_units.ensures.gives_units (number_read _ _ _ c.requires.numbers c.loop-place-test.true) c.loop-place.invariant

pub returns : goal.returns
returns c = filled_all _ _ _ _ (omega arith) c.loop-place.invariant
