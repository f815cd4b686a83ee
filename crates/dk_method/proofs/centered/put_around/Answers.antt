use Rattle.std.proofs.Common.{◌∙◌, ◌+ℤ◌, ◌*ℤ◌, ◌<◌, length, get_or, ap, sym, map, set, arith, pos, ℤ}
use Rattle.dk_num.specs.Units.{in_units}
use Rattle.std.proofs.lemmas.List.{map-set}
use Rattle.dk_method.proofs.Moved.{around_centre, around_moved, move_made}
use Rattle.dk_method.proofs.centered.put_around.Goals as goal

pub returns-then-i-gt0 : goal.returns-then-i-gt0
returns-then-i-gt0 c =
    let is = c.move_of-moved.ensures in
    let inside : c.move_of-moved.result.variable < length c.args.centre.now = (let v = is.variable in let l = c.requires.counted in omega arith) in
    let new : ℤ = get_or c.args.centre.now c.move_of-moved.result.variable (pos 0) +ℤ (c.move_of-moved.result.offset *ℤ get_or c.args.step.now c.move_of-moved.result.variable (pos 0)) in
    let made = move_made c.args.unit.exponent c.args.centre.now c.args.step.now c.move_of-moved.result.variable c.move_of-moved.result.offset c.stepped.result c.requires.centre c.requires.step inside
    c.requires.along is.few c.stepped.ensures.small c.stepped.ensures.value in
    ap (λ l. set l c.move_of-moved.result.variable c.from_units.result) c.put_units.ensures
    ∙ ap (set (map (in_units c.args.unit.exponent) c.args.centre.now) c.move_of-moved.result.variable) (c.from_units.ensures.gives_units ∙ ap (in_units c.args.unit.exponent) made)
    ∙ sym (map-set (in_units c.args.unit.exponent) c.args.centre.now c.move_of-moved.result.variable new)
    ∙ ap (map (in_units c.args.unit.exponent)) (around_moved c.args.i c.args.centre.now c.args.step.now c.args.counts.now c.move_of-moved.result (omega arith) is c.requires.along c.requires.counted)

pub returns-else-i-gt0 : goal.returns-else-i-gt0
returns-else-i-gt0 c = c.put_units.ensures ∙ ap (map (in_units c.args.unit.exponent)) (around_centre c.args.i c.args.centre.now c.args.step.now c.args.counts.now (omega arith) c.requires.along c.requires.counted)
