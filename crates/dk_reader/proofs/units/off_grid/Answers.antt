use Rattle.dk_reader.proofs.Within.{value_within}
use Rattle.dk_reader.proofs.units.off_grid.Goals as goal

pub is_off_grid-requires : goal.is_off_grid-requires
is_off_grid-requires c = value_within c.args.unit.exponent c.args.values.now c.loop-value.value-index c.value-item.result c.loop-value-test.true c.value-item.is c.requires
