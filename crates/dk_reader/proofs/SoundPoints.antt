-- The numbers of a document without faults, in units.
use Rattle.std.proofs.Common.{◌≡◌, ℕ, ◌+◌, ◌^◌, ◌<◌, ◌≤◌, Bool, true, false, refl, sym, ap, ◌∙◌, subst, arith, lit<, Some, None, ℤ, pos, ◌+ℤ◌, ◌-ℤ◌, ◌*ℤ◌, unsigned_abs, unwrap_or}
use Rattle.std.specs.Prelude.{◌||◌, ◌==◌, ◌≤ℤ◌, int_le, IsTrue, if◌then◌else◌}
use Rattle.std.proofs.lemmas.Grind.{common_steps}
use Rattle.std.proofs.lemmas.Int.{ints}
use Rattle.dk_num.specs.Decimal.{Decimal, IsCanonical, zero_decimal, digit_count}
use Rattle.dk_num.specs.Arithmetic.{whole_value}
use Rattle.dk_num.specs.Units.{is_moderate, IsUnitExponent, IsWithin, AreWithin, units_of}
use Rattle.dk_num.specs.Units as units
use Rattle.dk_num.proofs.Canonical.{decimal_of_zero}
use Rattle.dk_num.proofs.Multiples.{units_count, units_some, lengthened_below}
use Rattle.dk_num.proofs.Values.{decimal_is_canonical, decimal_value}
use Rattle.dk_num.proofs.ValueLaws.{one_for_a_value}
use Rattle.dk_types.specs.Sound.{IsNumber}

-- a decimal within the digits of its unit is at most 29 digits of it
few_units : (e m x k : ℤ) → (unsigned_abs m == 0 || int_le ((x +ℤ pos (digit_count (unsigned_abs m))) -ℤ pos 1) (e +ℤ pos 28)) ≡ true →
    units_of e (record { mantissa = m; exponent = x }) ≡ Some k → unsigned_abs k < 10 ^ 29
few_units e m x k within is = by (unsigned_abs m == 0) within (int_le e x) refl is
  where
    by : (z : Bool) → (z || int_le ((x +ℤ pos (digit_count (unsigned_abs m))) -ℤ pos 1) (e +ℤ pos 28)) ≡ true → (t : Bool) → int_le e x ≡ t →
        (if z then Some (pos 0) else (if t then Some (m *ℤ pos (10 ^ unsigned_abs (x -ℤ e))) else None)) ≡ Some k → unsigned_abs k < 10 ^ 29
    by true h t l is = let same : pos 0 ≡ k = cc in subst (λ z. unsigned_abs z < 10 ^ 29) same (lit< tt)
    by false h true l is =
        let same : m *ℤ pos (10 ^ unsigned_abs (x -ℤ e)) ≡ k = cc in
        let low : e ≤ℤ x = grind (arith, ints, common_steps) in
        let high : ((x +ℤ pos (digit_count (unsigned_abs m))) -ℤ pos 1) ≤ℤ (e +ℤ pos 28) = grind (arith, ints, common_steps) in
        subst (λ z. unsigned_abs z < 10 ^ 29) same (lengthened_below m (unsigned_abs (x -ℤ e)) (room (digit_count (unsigned_abs m)) (x -ℤ e) (omega (arith, ints)) (omega (arith, ints))))
      where
        room : (n : ℕ) (z : ℤ) → pos 0 ≤ℤ z → (z +ℤ pos n) ≤ℤ pos 29 → n + unsigned_abs z ≤ 29
        room n z low high = omega (arith, ints)
    by false h false l is = absurd (cc)

-- so many units are the decimal again
units_again : (e : ℤ) (x : Decimal) (k : ℤ) → IsUnitExponent e → IsCanonical x → unsigned_abs k < 10 ^ 29 → units_of e x ≡ Some k → units.in_units e k ≡ x
units_again e x k near is few h =
    let got = units_some k e (omega arith) near in
    let value : whole_value got.0 ≡ whole_value x = decimal_value (record { mantissa = k; exponent = e }) got.0 got.1 ∙ sym (units_count 10032 e x.mantissa x.exponent k (omega (arith, ints)) h) in
    let same : got.0 ≡ x = one_for_a_value got.0 x (decimal_is_canonical (record { mantissa = k; exponent = e }) got.0 got.1) is value in
    ap (λ o. unwrap_or o zero_decimal) got.1 ∙ same

-- a moderate decimal within the digits of its unit is a number of it
pub number_in : (e : ℤ) (x : Decimal) (k : ℤ) → IsUnitExponent e → IsCanonical x → IsTrue (is_moderate x) → IsWithin e x → units_of e x ≡ Some k → IsNumber e k
number_in e x k near is moderate within h =
    let few : unsigned_abs k < 10 ^ 29 = few_units e x.mantissa x.exponent k within h in
    record { few = few; moderate = subst (λ y. IsTrue (is_moderate y)) (sym (units_again e x k near is few h)) moderate }

-- zero is a number of each unit
pub no_units : (e : ℤ) → IsNumber e (pos 0)
no_units e = record {
  few = lit< tt;
  moderate = let z : units.in_units e (pos 0) ≡ zero_decimal = ap (λ o. unwrap_or o zero_decimal) (decimal_of_zero (record { mantissa = pos 0; exponent = e }) refl) in
      subst (λ y. IsTrue (is_moderate y)) (sym z) refl;
}
