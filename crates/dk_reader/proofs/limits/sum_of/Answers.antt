use Rattle.std.proofs.Common.{◌<◌, ◌∙◌, arith}
use Rattle.dk_reader.proofs.Sizes.{sum_value, product_small}
use Rattle.dk_reader.proofs.limits.sum_of.Goals as goal

pub loop-value-preserved : goal.loop-value-preserved
loop-value-preserved c =
    let copies : c.from.result < 4294967296 = omega arith in
    let whole : c.from-in-loop-value.result < 4294967296 = omega arith in
    let product = product_small c.from.result c.from-in-loop-value.result copies whole in
    record {
      value =
          sum_value c.loop-value.sum c.loop-value.value-index c.from.result c.from-in-loop-value.result c.args.values.now c.value-item.result _
          c.loop-value-test.true c.value-item.is (c.from.ensures ∙ c.count.ensures) (c.from-in-loop-value.ensures ∙ c.whole.ensures) c.loop-value.invariant.value;
      small = omega arith;
    }
