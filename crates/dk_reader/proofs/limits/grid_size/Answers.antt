use Rattle.std.proofs.Common.{arith}
use Rattle.dk_reader.proofs.Sizes.{grid_value}
use Rattle.dk_reader.proofs.limits.grid_size.Goals as goal

pub loop-value-preserved : goal.loop-value-preserved
loop-value-preserved c = record {
  value =
      grid_value 100001 c.loop-value.points c.loop-value.value-index c.count.result c.whole.result c.grown_grid-points.result c.args.partitions.now c.value-item.result _
      c.loop-value-test.true c.value-item.is c.count.ensures c.whole.ensures c.grown_grid-points.ensures c.loop-value.invariant.value;
  small = omega arith;
}
