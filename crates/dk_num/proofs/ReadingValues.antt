-- The decimal that a number's text gives, from the number of its digits.
use Rattle.std.proofs.Common.{◌≡◌, ◌⊎◌, inl, inr, ◌==◌, ◌&&◌, Bool, true, false, ℕ, zero, suc, ◌+◌, ◌-◌, ◌*◌, ◌/◌, ◌^◌, ◌<◌, ◌≤◌, length, Result, Ok, Err, refl, ap, subst, ◌∙◌, arith, ℤ, pos, neg_ℤ, ◌+ℤ◌, ◌-ℤ◌, unsigned_abs, int_div, int_le, nat_lt, min, codes, if◌then◌else◌}
use Rattle.std.specs.Prelude.{◌≤ℤ◌, nat_eq}
use Rattle.std.specs.List.{starts_with}
use Rattle.std.proofs.lemmas.Grind.{common_steps}
use Rattle.std.proofs.lemmas.Int.{ints}
use Rattle.std.proofs.lemmas.Bool.{cases_lt}
use Rattle.std.proofs.Math.Nat.{mul-div_cancel, mul-le-mul_right}
use Rattle.dk_num.specs.Decimal.{Decimal, canonical, zero_decimal, leading, is_in_range, digit_count, zero_count, IsCanonical}
use Rattle.dk_num.specs.Numbers.{Spelling, number_of, written, with_sign, mantissa_digits, numeral_value}
use Rattle.dk_num.specs.Reading.{IsSignificand, significant_count}
use Rattle.dk_num.specs.declared.mantissa.Significand.{Significand}
use Rattle.dk_num.specs.declared.read.NumFault.{NumFault}
use Rattle.dk_num.specs.declared.read.NumFault.TheVariants.{TooLong, OutOfRange}
use Rattle.dk_num.proofs.Canonical.{abs_neg, same_decimal, range_low, range_high}
use Rattle.dk_num.proofs.Significands.{below_power}
use Rattle.dk_num.proofs.Powers.{ten_pow_le}

abbrev pub signed_by : Bool → ℕ → ℤ
signed_by b n = if b then neg_ℤ (pos n) else pos n

pub abs_signed : (b : Bool) (n : ℕ) → unsigned_abs (signed_by b n) ≡ n
abs_signed true n = abs_neg n
abs_signed false n = refl

div_neg : (n p : ℕ) → 0 < p → int_div (neg_ℤ (pos n)) (pos p) ≡ neg_ℤ (pos (n / p))
div_neg zero p h = let e : 0 / p ≡ 0 = omega arith in rw e refl
div_neg (suc n) p h = refl

pub signed_div : (b : Bool) (n p : ℕ) → 0 < p → int_div (signed_by b (n * p)) (pos p) ≡ signed_by b n
signed_div true n p h = div_neg (n * p) p h ∙ ap (λ k. neg_ℤ (pos k)) (mul-div_cancel n h)
signed_div false n p h = ap pos (mul-div_cancel n h)

far_low : (l : ℤ) → int_le (neg_ℤ (pos 9999)) l ≡ false → is_in_range l ≡ false
far_low l e = rw e refl

far_high : (l : ℤ) → int_le l (pos 9999) ≡ false → is_in_range l ≡ false
far_high l e = both (int_le (neg_ℤ (pos 9999)) l) e
  where
    both : (b : Bool) {c : Bool} → c ≡ false → (b && c) ≡ false
    both true e' = e'
    both false e' = refl

-- an exponent this great is out of range, whatever the digits are
pub far : (b : Bool) (n fraction count : ℕ) → 10 ^ 20 ≤ n → fraction < 2 ^ 64 → count < 2 ^ 65 → is_in_range (((signed_by b n -ℤ pos fraction) +ℤ pos count) -ℤ pos 1) ≡ false
far true n fraction count h f k = far_low (((neg_ℤ (pos n) -ℤ pos fraction) +ℤ pos count) -ℤ pos 1) (grind (arith, ints, common_steps))
far false n fraction count h f k = far_high (((pos n -ℤ pos fraction) +ℤ pos count) -ℤ pos 1) (grind (arith, ints, common_steps))

-- what the digits and the exponent give
abbrev pub outcome : Bool → Significand → ℤ → Result Decimal NumFault
outcome b s place = if is_in_range ((place +ℤ pos (s.count + s.zeros)) -ℤ pos 1) then Ok (record { mantissa = signed_by b s.core; exponent = place +ℤ pos s.zeros }) else Err OutOfRange

number_some : (n : ℕ) (s : Significand) → IsSignificand n s → (s.core ≡ 0 → ⊥) → 0 < n
number_some n s is some =
    let one : 10 ^ 0 ≤ 10 ^ s.zeros = ten_pow_le 0 s.zeros (omega arith) in
    let m : 1 * 10 ^ s.zeros ≤ s.core * 10 ^ s.zeros = mul-le-mul_right (10 ^ s.zeros) (positive s.core some) in
    let w = is.whole in
    omega arith
  where
    positive : (k : ℕ) → (k ≡ 0 → ⊥) → 1 ≤ k
    positive k h = grind arith

pub zero_is : (s : Spelling) (r : Significand) → IsSignificand (mantissa_digits s) r → r.core ≡ 0 → number_of s ≡ Ok zero_decimal
unfolding number_of
zero_is s r is none =
    let z : mantissa_digits s ≡ 0 = is.whole ∙ ap (λ k. k * 10 ^ r.zeros) none ∙ omega arith in
    rw z refl

pub too_long_is : (s : Spelling) → 34 < significant_count (mantissa_digits s) → number_of s ≡ Err TooLong
unfolding number_of
too_long_is s many =
    let z : (mantissa_digits s == 0) ≡ false = some (mantissa_digits s) many in
    let t : nat_lt 34 (digit_count (mantissa_digits s) - zero_count (mantissa_digits s)) ≡ true = grind (arith, common_steps) in
    rw (z, t) refl
  where
    some : (n : ℕ) → 34 < significant_count n → (n == 0) ≡ false
    some zero h = absurd (omega arith)
    some (suc n) h = grind (arith, common_steps)

-- where the exponent is as read
pub near_is : (s : Spelling) (r : Significand) → IsSignificand (mantissa_digits s) r → (r.core ≡ 0 → ⊥) →
    number_of s ≡ outcome (starts_with nat_eq s.sign (codes "-")) r (with_sign s.exponent_sign (numeral_value s.exponent) -ℤ pos (length s.fraction))
unfolding number_of
near_is s r is some =
    let n : ℕ = mantissa_digits s in
    let b : Bool = starts_with nat_eq s.sign (codes "-") in
    let place : ℤ = with_sign s.exponent_sign (numeral_value s.exponent) -ℤ pos (length s.fraction) in
    let positive : 0 < n = number_some n r is some in
    let z : (mantissa_digits s == 0) ≡ false = grind (arith, common_steps) in
    let fits : nat_lt 34 (digit_count n - zero_count n) ≡ false = few n r is in
    let abs : unsigned_abs (signed_by b n) ≡ n = abs_signed b n in
    let lead : leading (written s) ≡ (place +ℤ pos (r.count + r.zeros)) -ℤ pos 1 = ap (λ k. (place +ℤ pos k) -ℤ pos 1) (ap digit_count abs ∙ is.digits) in
    let ended : zero_count (unsigned_abs (signed_by b n)) ≡ r.zeros = ap zero_count abs ∙ is.ended in
    let power : 0 < 10 ^ r.zeros = (let one : 10 ^ 0 ≤ 10 ^ r.zeros = ten_pow_le 0 r.zeros (omega arith) in omega arith) in
    let m : int_div (signed_by b n) (pos (10 ^ zero_count (unsigned_abs (signed_by b n)))) ≡ signed_by b r.core
    = ap (λ k. int_div (signed_by b n) (pos (10 ^ k))) ended ∙ ap (λ k. int_div (signed_by b k) (pos (10 ^ r.zeros))) is.whole ∙ signed_div b r.core (10 ^ r.zeros) power in
    let e : canonical (written s) ≡ record { mantissa = signed_by b r.core; exponent = place +ℤ pos r.zeros } = same_decimal m (ap (λ k. place +ℤ pos k) ended) in
    let g : Decimal → ℤ → Result Decimal NumFault = λ d l. if is_in_range l then Ok d else Err OutOfRange in
    rw (z, fits) (ap (λ l. g (canonical (written s)) l) lead ∙ ap (λ d. g d ((place +ℤ pos (r.count + r.zeros)) -ℤ pos 1)) e)
  where
    few : (n : ℕ) (r' : Significand) → IsSignificand n r' → nat_lt 34 (digit_count n - zero_count n) ≡ false
    few n r' i = let d = i.digits in let e = i.ended in let f = i.few in grind (arith, common_steps)

-- where the exponent is bounded
pub bounded_is : (b c : Bool) (r : Significand) (n fraction : ℕ) → fraction < 2 ^ 64 → r.count + r.zeros < 2 ^ 65 →
    outcome b r (signed_by c (min (10 ^ 20) n) -ℤ pos fraction) ≡ outcome b r (signed_by c n -ℤ pos fraction)
bounded_is b c r n fraction f k = elim (which n) [
  | inl small ↦ ap (λ m. outcome b r (signed_by c m -ℤ pos fraction)) small
  | inr large ↦ (
      let p = far c (min (10 ^ 20) n) fraction (r.count + r.zeros) large.0 f k in let q = far c n fraction (r.count + r.zeros) large.1 f k in rw (p, q) refl)
]
  where
    which : (m : ℕ) → (min (10 ^ 20) m ≡ m) ⊎ ((10 ^ 20 ≤ min (10 ^ 20) m) × (10 ^ 20 ≤ m))
    which m = elim (cases_lt m (10 ^ 20)) [ inl h ↦ inl (omega arith) | inr h ↦ inr (omega arith, omega arith) ]

-- a pair whose digits end with none that is zero, where the first one's power is in range
pub placed_is : (m : ℤ) (place : ℤ) (count zeros : ℕ) → 0 < unsigned_abs m → digit_count (unsigned_abs m) ≡ count → zero_count (unsigned_abs m) ≡ 0 → count ≤ 34 →
    is_in_range ((place +ℤ pos (count + zeros)) -ℤ pos 1) ≡ true → IsCanonical (record { mantissa = m; exponent = place +ℤ pos zeros })
placed_is m place count zeros some digits ends few range =
    let small : unsigned_abs m < 10 ^ count = subst (λ k. unsigned_abs m < 10 ^ k) digits (below_power (unsigned_abs m)) in
    let le : 10 ^ count ≤ 10 ^ 34 = ten_pow_le count 34 few in
    let low : neg_ℤ (pos 9999) ≤ℤ ((place +ℤ pos (count + zeros)) -ℤ pos 1) = range_low _ range in
    let high : ((place +ℤ pos (count + zeros)) -ℤ pos 1) ≤ℤ pos 9999 = range_high _ range in
    record {
      small = omega arith;
      zero = λ h. absurd (omega arith);
      stripped = λ h. ends;
      lowest = λ h. omega (arith, ints);
      highest = λ h. omega (arith, ints);
    }
