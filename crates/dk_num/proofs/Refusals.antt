-- Where sums, differences and products have no decimal.
use Rattle.std.proofs.Common.{◌≡◌, ◌≢◌, ◌↔◌, ◌⊎◌, Bool, true, false, ◌*◌, ◌^◌, ◌<◌, Option, Some, None, refl, ap, sym, ◌∙◌, arith, inl, inr, ⊎_elim, ℤ, pos, negsuc, neg_ℤ, ◌+ℤ◌, ◌-ℤ◌, ◌*ℤ◌, unsigned_abs, if◌then◌else◌, option_and_then}
use Rattle.std.specs.Int.{int_min}
use Rattle.std.proofs.lemmas.Grind.{common_steps}
use Rattle.std.proofs.lemmas.Int.{ints, unsigned_abs-mul}
use Rattle.std.proofs.Math.IntN.{zero-*ℤ, *ℤ_comm}
use Rattle.std.proofs.Math.Nat.{eq-zero-or-pos, mul-lt-mul_of_pos_right}
use Rattle.dk_num.specs.Decimal.{Decimal, IsCanonical, decimal_of, zero_decimal, is_small}
use Rattle.dk_num.specs.Arithmetic.{whole_value, sum_of, product, difference, negated}
use Rattle.dk_num.specs.Laws.{IsTooWide, HasNoDecimal, HasNoSum, HasNoProduct, mantissa_with}
use Rattle.dk_num.proofs.Canonical.{abs_neg, decimal_of_zero, canonical_like, same_decimal}
use Rattle.dk_num.proofs.Scaling.{negated_times}
use Rattle.dk_num.proofs.Sums.{sum_of_some}
use Rattle.dk_num.proofs.Values.{abs_zero, not_some}
use Rattle.dk_num.proofs.ValueLaws.{none_where, sum_of_left_none, sum_of_right_none, sum_is_canonical, sum_value}

pub some_abs : (z : ℤ) → z ≢ pos 0 → 0 < unsigned_abs z
some_abs z h = ⊎_elim (λ none. absurd (h (abs_zero z none))) (λ some. some) (eq-zero-or-pos (unsigned_abs z))

pub not_zero : (z : ℤ) → 0 < unsigned_abs z → z ≢ pos 0
not_zero z some e = let n : unsigned_abs z ≡ 0 = ap unsigned_abs e in omega arith

pub no_decimal_where : (d : Decimal) → decimal_of d ≡ None ↔ HasNoDecimal d
no_decimal_where d = (
  λ e. ⊎_elim (λ wide. inl wide) (λ far. inr (not_zero d.mantissa far.0, far.1)) ((none_where d).0 e),
  λ h. (none_where d).1 (⊎_elim (λ wide. inl wide) (λ far. inr (some_abs d.mantissa far.0, far.1)) h),
)

wide_from_test : (m : ℤ) → is_small m ≡ false → IsTooWide m
wide_from_test m t = grind (arith, common_steps)

test_from_wide : (m : ℤ) → IsTooWide m → is_small m ≡ false
test_from_wide m h = grind (arith, common_steps)

-- two mantissas at one exponent have no sum
abbrev HaveNoSum : (a b exponent : ℤ) → Type 0
HaveNoSum a b e = IsTooWide a ⊎ IsTooWide b ⊎ HasNoDecimal (record { mantissa = a +ℤ b; exponent = e })

-- the mantissa, where it is small
abbrev kept : Bool → ℤ → Option ℤ
kept small m = if small then Some m else None

-- two mantissas at one exponent, added where both are small
abbrev added : (a b : Option ℤ) → ℤ → Option Decimal
added a b e = option_and_then (λ p. option_and_then (λ q. decimal_of (record { mantissa = p +ℤ q; exponent = e })) b) a

refused_first : (b : Bool) (n e : ℤ) (a : Bool) (m : ℤ) → a ≡ false → added (kept a m) (kept b n) e ≡ None
refused_first b n e a m t = rw t refl

refused_second : (s t : Bool) (m n e : ℤ) → t ≡ false → added (kept s m) (kept t n) e ≡ None
refused_second true t m n e f = rw f refl
refused_second false t m n e f = refl

refused_sum : (s t : Bool) (m n e : ℤ) → decimal_of (record { mantissa = m +ℤ n; exponent = e }) ≡ None → added (kept s m) (kept t n) e ≡ None
refused_sum true true m n e h = h
refused_sum true false m n e h = refl
refused_sum false t m n e h = refl

why_refused : (s t : Bool) (m n e : ℤ) → added (kept s m) (kept t n) e ≡ None →
    (s ≡ false) ⊎ ((t ≡ false) ⊎ (decimal_of (record { mantissa = m +ℤ n; exponent = e }) ≡ None))
why_refused true true m n e h = inr (inr h)
why_refused true false m n e h = inr (inl refl)
why_refused false t m n e h = inl refl

at_common : (m n e : ℤ) → added (kept (is_small m) m) (kept (is_small n) n) e ≡ None ↔ HaveNoSum m n e
at_common m n e = (
  λ h. ⊎_elim (λ f. inl (wide_from_test m f))
      (λ r. inr (⊎_elim (λ f. inl (wide_from_test n f)) (λ none. inr ((no_decimal_where (record { mantissa = m +ℤ n; exponent = e })).0 none)) r))
      (why_refused (is_small m) (is_small n) m n e h),
  λ h. ⊎_elim (λ wide. refused_first (is_small n) n e (is_small m) m (test_from_wide m wide))
      (λ r. ⊎_elim (λ wide. refused_second (is_small m) (is_small n) m n e (test_from_wide n wide))
      (λ none. refused_sum (is_small m) (is_small n) m n e ((no_decimal_where (record { mantissa = m +ℤ n; exponent = e })).1 none)) r)
      h,
)

pub no_sum_where : (x y : Decimal) → sum_of x y ≡ None ↔ HasNoSum x y
no_sum_where x y = (
  λ h. ⊎_elim (λ a. not_some y h (sum_of_left_none x y a)) (λ a.
      ⊎_elim (λ b. not_some x h (sum_of_right_none x y a b)) (λ b. (
        not_zero x.mantissa a,
        not_zero y.mantissa b,
        (at_common (mantissa_with (int_min x.exponent y.exponent) x) (mantissa_with (int_min x.exponent y.exponent) y) (int_min x.exponent y.exponent)).0 (sym (sum_of_some x y a b) ∙ h),
      ))
      (eq-zero-or-pos (unsigned_abs y.mantissa)))
      (eq-zero-or-pos (unsigned_abs x.mantissa)),
  λ h. sum_of_some x y (some_abs x.mantissa h.0) (some_abs y.mantissa h.1)
      ∙ (at_common (mantissa_with (int_min x.exponent y.exponent) x) (mantissa_with (int_min x.exponent y.exponent) y) (int_min x.exponent y.exponent)).1 h.2,
)

pub sum_with_zero_first : (x y : Decimal) → x.mantissa ≡ pos 0 → sum_of x y ≡ Some y
sum_with_zero_first x y e = sum_of_left_none x y (ap unsigned_abs e)

pub sum_with_zero_second : (x y : Decimal) → IsCanonical x → IsCanonical y → y.mantissa ≡ pos 0 → sum_of x y ≡ Some x
sum_with_zero_second x y cx cy e =
    ⊎_elim (λ a. sum_of_left_none x y a ∙ ap Some (same_decimal (e ∙ sym (abs_zero x.mantissa a)) (cy.zero (ap unsigned_abs e) ∙ sym (cx.zero a))))
    (λ a. sum_of_right_none x y a (ap unsigned_abs e))
    (eq-zero-or-pos (unsigned_abs x.mantissa))

abs_negated : (z : ℤ) → unsigned_abs (neg_ℤ z) ≡ unsigned_abs z
abs_negated (pos n) = abs_neg n
abs_negated (negsuc n) = refl

negated_is_canonical : (y : Decimal) → IsCanonical y → IsCanonical (negated y)
negated_is_canonical y cy = canonical_like y (neg_ℤ y.mantissa) y.exponent (abs_negated y.mantissa) refl cy

pub difference_is_canonical : (x y z : Decimal) → IsCanonical x → IsCanonical y → difference x y ≡ Some z → IsCanonical z
difference_is_canonical x y z cx cy h = sum_is_canonical x (negated y) z cx (negated_is_canonical y cy) h

plus_negated : (v w u : ℤ) → u ≡ neg_ℤ w → v +ℤ u ≡ v -ℤ w
plus_negated v w u e = omega (arith, ints)

pub difference_value : (x y z : Decimal) → IsCanonical x → IsCanonical y → difference x y ≡ Some z → whole_value z ≡ whole_value x -ℤ whole_value y
difference_value x y z cx cy h =
    sum_value x (negated y) z cx (negated_is_canonical y cy) h
    ∙ plus_negated (whole_value x) (whole_value y) (whole_value (negated y)) (negated_times y.mantissa (10 ^ unsigned_abs (y.exponent +ℤ pos 10032)))

no_factor : (a b : ℤ) → a ≡ pos 0 → a *ℤ b ≡ pos 0
no_factor a b e = ap (λ z. z *ℤ b) e ∙ zero-*ℤ b

no_second_factor : (a b : ℤ) → b ≡ pos 0 → a *ℤ b ≡ pos 0
no_second_factor a b e = *ℤ_comm a b ∙ no_factor b a e

some_product : (a b : ℤ) → a ≢ pos 0 → b ≢ pos 0 → (a *ℤ b) ≢ pos 0
some_product a b some_a some_b e =
    let t : 0 * unsigned_abs b < unsigned_abs a * unsigned_abs b = mul-lt-mul_of_pos_right (some_abs a some_a) (some_abs b some_b) in
    let n : unsigned_abs a * unsigned_abs b ≡ 0 = sym (unsigned_abs-mul a b) ∙ ap unsigned_abs e in
    omega arith

wide_is_some : (z : ℤ) → IsTooWide z → z ≢ pos 0
wide_is_some z wide = not_zero z (omega arith)

-- the product of the mantissas at the sum of the exponents
abbrev multiplied : Decimal → Decimal → Decimal
multiplied x y = record { mantissa = x.mantissa *ℤ y.mantissa; exponent = x.exponent +ℤ y.exponent }

pub no_product_where : (x y : Decimal) → product x y ≡ None ↔ HasNoProduct x y
no_product_where x y = (
  λ h. ⊎_elim (λ wide. (first (wide_is_some _ wide), second (wide_is_some _ wide), inl wide)) (λ far. (first far.0, second far.0, inr far.1))
      ((no_decimal_where (multiplied x y)).0 h),
  λ h. (no_decimal_where (multiplied x y)).1 (⊎_elim (λ wide. inl wide) (λ far. inr (some_product x.mantissa y.mantissa h.0 h.1, far)) h.2),
)
  where
    first : (x.mantissa *ℤ y.mantissa) ≢ pos 0 → x.mantissa ≢ pos 0
    first some e = some (no_factor x.mantissa y.mantissa e)

    second : (x.mantissa *ℤ y.mantissa) ≢ pos 0 → y.mantissa ≢ pos 0
    second some e = some (no_second_factor x.mantissa y.mantissa e)

pub product_with_zero_first : (x y : Decimal) → x.mantissa ≡ pos 0 → product x y ≡ Some zero_decimal
product_with_zero_first x y e = decimal_of_zero (multiplied x y) (ap unsigned_abs (no_factor x.mantissa y.mantissa e))

pub product_with_zero_second : (x y : Decimal) → y.mantissa ≡ pos 0 → product x y ≡ Some zero_decimal
product_with_zero_second x y e = decimal_of_zero (multiplied x y) (ap unsigned_abs (no_second_factor x.mantissa y.mantissa e))
