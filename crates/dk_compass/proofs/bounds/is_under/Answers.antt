use Rattle.std.proofs.Common.{◌≡◌, ◌∙◌, ℤ, false, sym, ap, subst, get_or, set, pos, arith, rules, int_le, FitsSigned, to_z, of_z}
use Rattle.std.proofs.lemmas.Int.{to_z-of_z}
use Rattle.std.proofs.lemmas.List.{length-set}
use mir.Syntax.{w128}
use Rattle.dk_compass.proofs.Kept.{AreBelow, all_below, one_above, read_above}
use Rattle.dk_compass.proofs.bounds.is_under.Goals as goal

pub returns-then-number_at-upper : goal.returns-then-number_at-upper
returns-then-number_at-upper c =
    let long = length-set c.args.x.now c.args.place c.args.number in
    let number : to_z w128 (of_z w128 c.args.number) ≡ c.args.number = to_z-of_z w128 c.args.number c.ranges.number in
    let is : c.number_at.result ≡ get_or (set c.args.x.now c.args.place c.args.number) c.loop-variable.variable (pos 0)
    = c.number_at.ensures ∙ ap (λ z. get_or (set c.args.x.now c.args.place z) c.loop-variable.variable (pos 0)) number in
    let fits : FitsSigned w128 (get_or c.args.upper.now c.loop-variable.variable (pos 0)) = search rules in
    let above : int_le (get_or (set c.args.x.now c.args.place c.args.number) c.loop-variable.variable (pos 0)) (get_or c.args.upper.now c.loop-variable.variable (pos 0)) ≡ false
    = ap (λ k. int_le k (get_or c.args.upper.now c.loop-variable.variable (pos 0))) (sym is) ∙ read_above c.number_at.result (get_or c.args.upper.now c.loop-variable.variable (pos 0)) (search rules) fits c.if-number_at-upper.true in
    sym (one_above (set c.args.x.now c.args.place c.args.number) c.args.upper.now c.loop-variable.variable (omega arith) (omega arith) above)

pub returns : goal.returns
returns c =
    let long = length-set c.args.x.now c.args.place c.args.number in
    let number : to_z w128 (of_z w128 c.args.number) ≡ c.args.number = to_z-of_z w128 c.args.number c.ranges.number in
    let are = subst (λ (z : ℤ). AreBelow (set c.args.x.now c.args.place z) c.args.upper.now c.loop-variable.variable) number c.loop-variable.invariant in
    sym (all_below (set c.args.x.now c.args.place c.args.number) c.args.upper.now (omega arith) (λ k h. are k (omega arith)))
