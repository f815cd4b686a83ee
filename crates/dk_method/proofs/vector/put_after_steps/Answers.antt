use Rattle.std.proofs.Common.{◌∙◌, sym, arith}
use Rattle.dk_method.proofs.Formulas.{steps_long, steps_made}
use Rattle.dk_method.proofs.Slots.{filled_none, filled_more, filled_all}
use Rattle.dk_method.proofs.vector.put_after_steps.Goals as goal

pub loop-place-init : goal.loop-place-init
loop-place-init c = filled_none _ _ _ (c.requires.room ∙ sym (steps_long c.args.i c.args.from.now c.args.step.now c.requires.along))

pub loop-place-preserved : goal.loop-place-preserved
loop-place-preserved c =
    let long = steps_long c.args.i c.args.from.now c.args.step.now c.requires.along in
    filled_more _ _ _ _ _ _ (omega arith) c.from_units.ensures.gives_units
    (steps_made c.args.unit.exponent c.args.i c.args.from.now c.args.step.now c.loop-place.place c.from.result c.stepped.result c.requires.from c.requires.step c.loop-place-test.true
    c.requires.along c.requires.number c.from.ensures c.stepped.ensures.small c.stepped.ensures.value)
    c.loop-place.invariant

pub returns : goal.returns
returns c =
    let long = steps_long c.args.i c.args.from.now c.args.step.now c.requires.along in
    filled_all _ _ _ _ (omega arith) c.loop-place.invariant
