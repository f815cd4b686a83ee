use Rattle.std.proofs.Common.{◌≡◌, ◌+ℤ◌, sym, ap, ◌∙◌, to_z, of_z, rules, FitsSigned}
use Rattle.std.proofs.lemmas.Int.{to_z-of_z}
use Rattle.dk_num.specs.Decimal.{decimal_of}
use Rattle.dk_num.proofs.Canonical.{same_decimal}
use Rattle.dk_num.proofs.Sums.{sum_from}
use Rattle.dk_num.proofs.dec.sum.Goals as goal
use mir.Syntax.{w128, w32}

pub returns-in-Some-shifted : goal.returns-in-Some-shifted
returns-in-Some-shifted c =
    let a : to_z w128 (of_z w128 c.args.a) ≡ c.args.a = to_z-of_z w128 _ c.ranges.a in
    let b : to_z w128 (of_z w128 c.args.b) ≡ c.args.b = to_z-of_z w128 _ c.ranges.b in
    let p : to_z w32 (of_z w32 c.args.p) ≡ c.args.p = to_z-of_z w32 _ c.ranges.p in
    let q : to_z w32 (of_z w32 c.args.q) ≡ c.args.q = to_z-of_z w32 _ c.ranges.q in
    let e : to_z w32 (of_z w32 c.min-exponent.result) ≡ c.min-exponent.result = to_z-of_z w32 _ (search rules) in
    let f : to_z w128 (of_z w128 c.in-Some.first) ≡ c.in-Some.first = to_z-of_z w128 _ (search rules) in
    let s : to_z w128 (of_z w128 c.in-Some-shifted.second) ≡ c.in-Some-shifted.second = to_z-of_z w128 _ (search rules) in
    let fits : FitsSigned w128 (to_z w128 (of_z w128 c.in-Some.first) +ℤ to_z w128 (of_z w128 c.in-Some-shifted.second)) = search rules in
    c.of.ensures
    ∙ ap decimal_of (same_decimal (to_z-of_z w128 _ fits ∙ ap (λ x. x +ℤ to_z w128 (of_z w128 c.in-Some-shifted.second)) f ∙ ap (λ y. c.in-Some.first +ℤ y) s) e)
    ∙ sym (sum_from _ _ _ _ c.min-exponent.result c.places_between.result c.places_between-in-Some.result _ _
    (rw (p, q) at c.min-exponent.ensures.value) (rw (p, e) at c.places_between.ensures) (rw (q, e) at c.places_between-in-Some.ensures)
    (sym (rw a at c.in-Some.ensures.value)) (sym (rw b at c.in-Some-shifted.ensures.value)))
