use Rattle.std.proofs.Common.{◌∙◌, sym, ap, map, arith}
use Rattle.dk_num.specs.Units.{in_units}
use Rattle.dk_method.proofs.Formulas.{way_long, way_at, way_made, towards_some}
use Rattle.dk_method.proofs.Slots.{filled_none, filled_more, filled_all}
use Rattle.dk_method.proofs.vector.put_towards.Goals as goal

pub loop-place-init : goal.loop-place-init
loop-place-init c = filled_none _ _ _ (c.requires.room ∙ sym (way_long c.args.i c.args.steps c.args.from.now c.args.to.now c.requires.along))

pub loop-place-preserved : goal.loop-place-preserved
loop-place-preserved c =
    let long = way_long c.args.i c.args.steps c.args.from.now c.args.to.now c.requires.along in
    filled_more _ _ _ _ _ _ (omega arith) c.from_units.ensures.gives_units
    (way_made c.args.unit.exponent c.args.i c.args.steps c.args.from.now c.args.to.now c.loop-place.place c.part_way.result c.requires.from c.requires.to c.loop-place-test.true (omega arith)
    c.part_way.ensures.small c.part_way.ensures.value ∙ way_at c.args.i c.args.steps c.args.from.now c.args.to.now c.loop-place.place c.loop-place-test.true c.requires.along)
    c.loop-place.invariant

pub returns : goal.returns
returns c =
    let long = way_long c.args.i c.args.steps c.args.from.now c.args.to.now c.requires.along in
    filled_all _ _ _ _ (omega arith) c.loop-place.invariant ∙ ap (map (in_units c.args.unit.exponent)) (sym (towards_some c.args.i c.args.steps c.args.from.now c.args.to.now c.if-steps-eq0.false))
