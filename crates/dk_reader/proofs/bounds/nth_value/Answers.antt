use Rattle.std.proofs.Common.{◌<◌, ◌≤◌, ◌-◌, subst, ap, ◌∙◌}
use Rattle.std.specs.Prelude.{slice_get}
use Rattle.std.proofs.Common.{◌+◌, drop}
use Rattle.dk_reader.specs.Values.{spread}
use Rattle.dk_reader.proofs.Spread.{value_here, value_behind}
use Rattle.dk_reader.proofs.bounds.nth_value.Goals as goal

pub returns-then-left-copies : goal.returns-then-left-copies
returns-then-left-copies c =
    value_here c.args.values.now c.loop-value.value-index c.value-item.result c.loop-value-test.true c.value-item.is c.loop-value.left _
    (subst (λ n. c.loop-value.left < n) c.count-copies.ensures c.if-left-copies.true) c.loop-value.invariant

pub loop-value-preserved : goal.loop-value-preserved
loop-value-preserved c =
    ap (λ n. slice_get (spread (drop (c.loop-value.value-index + 1) c.args.values.now)) (c.loop-value.left - n)) c.count-copies.ensures
    ∙ value_behind c.args.values.now c.loop-value.value-index c.value-item.result c.loop-value-test.true c.value-item.is c.loop-value.left _
    (subst (λ n. n ≤ c.loop-value.left) c.count-copies.ensures c.if-left-copies.false) c.loop-value.invariant
