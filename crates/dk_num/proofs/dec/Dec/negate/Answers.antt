use Rattle.std.proofs.Common.{◌≡◌, ◌-ℤ◌, pos, ap, ◌∙◌, rules, to_z, of_z, unsigned_abs, FitsSigned}
use Rattle.std.proofs.lemmas.Int.{to_z-of_z}
use Rattle.dk_num.proofs.Canonical.{canonical_like, abs_minus}
use Rattle.dk_num.proofs.dec.Dec.negate.Goals as goal
use mir.Syntax.{w128, w32}

pub invariant_of-result : goal.invariant_of-result
invariant_of-result c =
    let m : to_z w128 (of_z w128 c.self.inside.mantissa) ≡ c.self.inside.mantissa = to_z-of_z w128 _ (search rules) in
    let e : to_z w32 (of_z w32 c.self.inside.exponent) ≡ c.self.inside.exponent = to_z-of_z w32 _ (search rules) in
    let fits : FitsSigned w128 (pos 0 -ℤ to_z w128 (of_z w128 c.self.inside.mantissa)) = search rules in
    canonical_like _ _ _ (ap unsigned_abs (to_z-of_z w128 _ fits) ∙ abs_minus (to_z w128 (of_z w128 c.self.inside.mantissa)) ∙ ap unsigned_abs m) e c.self.invariant
