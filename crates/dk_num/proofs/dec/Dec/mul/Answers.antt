use Rattle.std.proofs.Common.{arith, rules, ◌≡◌, ◌<◌, ◌≤◌, ◌^◌, ◌+ℤ◌, sym, ap, ◌∙◌, unsigned_abs, to_z, of_z, FitsSigned}
use Rattle.std.proofs.lemmas.Int.{to_z-of_z, fits_signed_from_abs}
use Rattle.dk_num.specs.Decimal.{decimal_of}
use Rattle.dk_num.proofs.Canonical.{exponents_near, decimal_of_large, same_decimal}
use Rattle.dk_num.proofs.dec.Dec.mul.Goals as goal
use mir.Syntax.{w128, w32}

pub returns-in-None : goal.returns-in-None
returns-in-None c = record {
  gives_product =
      let a : to_z w128 (of_z w128 c.self.inside.mantissa) ≡ c.self.inside.mantissa = to_z-of_z w128 _ (search rules) in
      let b : to_z w128 (of_z w128 c.other.inside.mantissa) ≡ c.other.inside.mantissa = to_z-of_z w128 _ (search rules) in
      rw (← c.self.view_is, ← c.other.view_is) (sym (decimal_of_large _ (rw (a, b) at c.in-None.ensures.wide)));
}

pub overflow_add-self-inside : goal.overflow_add-self-inside
overflow_add-self-inside c =
    let p : to_z w32 (of_z w32 c.self.inside.exponent) ≡ c.self.inside.exponent = to_z-of_z w32 _ (search rules) in
    let q : to_z w32 (of_z w32 c.other.inside.exponent) ≡ c.other.inside.exponent = to_z-of_z w32 _ (search rules) in
    let near : unsigned_abs (to_z w32 (of_z w32 c.self.inside.exponent) +ℤ to_z w32 (of_z w32 c.other.inside.exponent)) ≤ 20064 = exponents_near _ _ _ _ p q c.self.invariant c.other.invariant in
    let below : unsigned_abs (to_z w32 (of_z w32 c.self.inside.exponent) +ℤ to_z w32 (of_z w32 c.other.inside.exponent)) < 2 ^ 31 = omega arith in
    let fits : FitsSigned w32 (to_z w32 (of_z w32 c.self.inside.exponent) +ℤ to_z w32 (of_z w32 c.other.inside.exponent)) = fits_signed_from_abs w32 _ below in
    fits

pub of-requires : goal.of-requires
of-requires c =
    let p : to_z w32 (of_z w32 c.self.inside.exponent) ≡ c.self.inside.exponent = to_z-of_z w32 _ (search rules) in
    let q : to_z w32 (of_z w32 c.other.inside.exponent) ≡ c.other.inside.exponent = to_z-of_z w32 _ (search rules) in
    let near : unsigned_abs (to_z w32 (of_z w32 c.self.inside.exponent) +ℤ to_z w32 (of_z w32 c.other.inside.exponent)) ≤ 20064 = exponents_near _ _ _ _ p q c.self.invariant c.other.invariant in
    let below : unsigned_abs (to_z w32 (of_z w32 c.self.inside.exponent) +ℤ to_z w32 (of_z w32 c.other.inside.exponent)) < 2 ^ 31 = omega arith in
    let fits : FitsSigned w32 (to_z w32 (of_z w32 c.self.inside.exponent) +ℤ to_z w32 (of_z w32 c.other.inside.exponent)) = fits_signed_from_abs w32 _ below in
    rw (to_z-of_z w32 _ fits) (omega arith)

pub returns-in-Some : goal.returns-in-Some
returns-in-Some c = record {
  gives_product =
      let p : to_z w32 (of_z w32 c.self.inside.exponent) ≡ c.self.inside.exponent = to_z-of_z w32 _ (search rules) in
      let q : to_z w32 (of_z w32 c.other.inside.exponent) ≡ c.other.inside.exponent = to_z-of_z w32 _ (search rules) in
      let near : unsigned_abs (to_z w32 (of_z w32 c.self.inside.exponent) +ℤ to_z w32 (of_z w32 c.other.inside.exponent)) ≤ 20064 = exponents_near _ _ _ _ p q c.self.invariant c.other.invariant in
      let below : unsigned_abs (to_z w32 (of_z w32 c.self.inside.exponent) +ℤ to_z w32 (of_z w32 c.other.inside.exponent)) < 2 ^ 31 = omega arith in
      let fits : FitsSigned w32 (to_z w32 (of_z w32 c.self.inside.exponent) +ℤ to_z w32 (of_z w32 c.other.inside.exponent)) = fits_signed_from_abs w32 _ below in
      let a : to_z w128 (of_z w128 c.self.inside.mantissa) ≡ c.self.inside.mantissa = to_z-of_z w128 _ (search rules) in
      let b : to_z w128 (of_z w128 c.other.inside.mantissa) ≡ c.other.inside.mantissa = to_z-of_z w128 _ (search rules) in
      let m : to_z w128 (of_z w128 c.in-Some.mantissa) ≡ c.in-Some.mantissa = to_z-of_z w128 _ (search rules) in
      rw (← c.self.view_is, ← c.other.view_is)
      (c.of.ensures ∙ ap decimal_of (same_decimal (m ∙ rw (a, b) at c.in-Some.ensures.value)
      (to_z-of_z w32 _ fits ∙ ap (λ x. x +ℤ to_z w32 (of_z w32 c.other.inside.exponent)) p ∙ ap (λ y. c.self.inside.exponent +ℤ y) q)));
}
