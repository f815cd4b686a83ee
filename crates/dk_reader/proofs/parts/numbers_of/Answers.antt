use Rattle.std.proofs.Common.{arith}
use Rattle.std.proofs.lemmas.Grind.{common_steps}
use Rattle.dk_reader.specs.Values.{number}
use Rattle.dk_reader.proofs.Copies.{spread_more}
use Rattle.dk_reader.proofs.parts.numbers_of.Goals as goal

pub loop-value-preserved : goal.loop-value-preserved
loop-value-preserved c =
    let one = spread_more number c.args.values.now c.loop-value.value-index c.value-item.result c.loop-value-test.true c.value-item.is in
    grind (arith, common_steps, one)
