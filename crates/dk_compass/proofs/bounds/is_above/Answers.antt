use Rattle.std.proofs.Common.{◌≡◌, ◌∙◌, ℤ, false, sym, ap, subst, get_or, set, pos, arith, rules, int_le, FitsSigned, to_z, of_z}
use Rattle.std.proofs.lemmas.Int.{to_z-of_z}
use Rattle.std.proofs.lemmas.List.{length-set}
use mir.Syntax.{w128}
use Rattle.dk_compass.proofs.Kept.{AreBelow, all_below, one_above, read_above}
use Rattle.dk_compass.proofs.bounds.is_above.Goals as goal

pub returns-then-lower-variable : goal.returns-then-lower-variable
returns-then-lower-variable c =
    let long = length-set c.args.x.now c.args.place c.args.number in
    let number : to_z w128 (of_z w128 c.args.number) ≡ c.args.number = to_z-of_z w128 c.args.number c.ranges.number in
    let is : c.number_at.result ≡ get_or (set c.args.x.now c.args.place c.args.number) c.loop-variable.variable (pos 0)
    = c.number_at.ensures ∙ ap (λ z. get_or (set c.args.x.now c.args.place z) c.loop-variable.variable (pos 0)) number in
    let fits : FitsSigned w128 (get_or c.args.lower.now c.loop-variable.variable (pos 0)) = search rules in
    let above : int_le (get_or c.args.lower.now c.loop-variable.variable (pos 0)) (get_or (set c.args.x.now c.args.place c.args.number) c.loop-variable.variable (pos 0)) ≡ false
    = ap (int_le (get_or c.args.lower.now c.loop-variable.variable (pos 0))) (sym is) ∙ read_above (get_or c.args.lower.now c.loop-variable.variable (pos 0)) c.number_at.result fits (search rules) c.if-lower-variable.true in
    sym (one_above c.args.lower.now (set c.args.x.now c.args.place c.args.number) c.loop-variable.variable (omega arith) (omega arith) above)

pub returns : goal.returns
returns c =
    let long = length-set c.args.x.now c.args.place c.args.number in
    let number : to_z w128 (of_z w128 c.args.number) ≡ c.args.number = to_z-of_z w128 c.args.number c.ranges.number in
    let are = subst (λ (z : ℤ). AreBelow c.args.lower.now (set c.args.x.now c.args.place z) c.loop-variable.variable) number c.loop-variable.invariant in
    sym (all_below c.args.lower.now (set c.args.x.now c.args.place c.args.number) (omega arith) (λ k h. are k (omega arith)))
