use Rattle.std.proofs.Common.{◌≡◌, ◌∙◌, rules, to_z, of_z}
use Rattle.std.proofs.lemmas.Int.{to_z-of_z}
use Rattle.dk_reader.specs.Study.{unit_value}
use Rattle.dk_reader.proofs.Within.{value_within}
use Rattle.dk_reader.proofs.Copies.{add_spread}
use Rattle.dk_reader.proofs.units.add_units.Goals as goal
use mir.Syntax.{w128}

pub unit_value-requires : goal.unit_value-requires
unit_value-requires c = value_within c.args.unit.exponent c.args.values.now c.loop-value.value-index c.value-item.result c.loop-value-test.true c.value-item.is c.requires

pub loop-value-preserved : goal.loop-value-preserved
loop-value-preserved c =
    let unit : to_z w128 (of_z w128 c.unit_value.result) ≡ c.unit_value.result = to_z-of_z w128 _ (search rules) in
    add_spread (unit_value c.args.unit.exponent) c.args.values.now c.loop-value.value-index c.value-item.result c.count.result (to_z w128 (of_z w128 c.unit_value.result))
    c.args.units.now.items c.loop-value.units.items c.push_copies.new.items.items
    c.loop-value-test.true c.value-item.is c.count.ensures (unit ∙ c.unit_value.ensures) c.loop-value.invariant c.in_ok-push_copies.ensures
