use Rattle.std.proofs.Common.{◌≡◌, ◌∙◌, ◌/◌, ℤ, List, Some, ap, sym, set, arith, to_z, of_z}
use mir.Syntax.{w128}
use Rattle.dk_compass.proofs.Sized.{small_read}
use Rattle.dk_compass.proofs.Stepped.{iterate_at, has_moved}
use Rattle.dk_compass.proofs.stepping.step.Goals as goal

pub returns-clause-gives_iterate : goal.returns-clause-gives_iterate
returns-clause-gives_iterate c =
    let small = c.moved-number.ensures.small in
    let number : to_z w128 (of_z w128 c.moved-number.result) ≡ c.moved-number.result = small_read c.moved-number.result (omega arith) in
    ap (λ (x : List ℤ). iterate_at x (Some c.index-values-place.result) c.args.state.now.delta)
    (c.set.ensures.sets_number ∙ ap (set c.args.state.now.x (c.direction_at-direction.result / 2)) number)
    ∙ has_moved c.args.variables.now c.args.state.now.x c.args.state.now.value c.args.state.now.delta c.args.values.now c.in-Some.place c.direction_at-direction.result c.moved-number.result
    c.index-values-place.result c.requires.has_value (sym c.in-Some.ensures.value) c.in-Some.ensures.within c.requires.has_all_values c.direction_at-direction.ensures.value c.moved-number.ensures.value c.index-values-place.is
