use Rattle.std.proofs.Common.{◌∙◌, refl, arith}
use Rattle.dk_method.proofs.Quantities.{small_read}
use Rattle.dk_method.proofs.Moved.{left_first, left_more, none_left, moved_here}
use Rattle.dk_method.proofs.centered.move_of.Goals as goal

pub loop-variable-init : goal.loop-variable-init
loop-variable-init c = left_first c.args.counts.now c.args.k c.requires.within

pub returns-then-left-count : goal.returns-then-left-count
returns-then-left-count c =
    let few = c.offset-offset.ensures.few in
    let read = small_read c.offset-offset.result (omega arith) in
    moved_here _ _ _ _ _ c.loop-variable-test.true c.if-left-count.true c.loop-variable.invariant refl (read ∙ c.offset-offset.ensures.value) (rw read few)

pub loop-variable-preserved : goal.loop-variable-preserved
loop-variable-preserved c = left_more _ _ _ _ c.loop-variable-test.true c.if-left-count.false c.loop-variable.invariant

pub unreachable-requires : goal.unreachable-requires
unreachable-requires c = none_left _ _ _ _ (omega arith) c.loop-variable.invariant
