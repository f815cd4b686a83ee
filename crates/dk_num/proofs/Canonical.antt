-- Which decimal a mantissa and an exponent give.
use Rattle.std.proofs.Common.{◌≡◌, ◌==◌, ◌&&◌, Bool, true, false, ℕ, zero, suc, ◌+◌, ◌*◌, ◌/◌, ◌^◌, ◌<◌, ◌≤◌, Some, None, refl, ap, sym, ◌∙◌, arith, lit≤, ℤ, pos, negsuc, neg_ℤ, ◌+ℤ◌, ◌-ℤ◌, unsigned_abs, int_div, nat_lt}
use Rattle.std.specs.Prelude.{◌≤ℤ◌}
use Rattle.std.proofs.lemmas.Grind.{common_steps}
use Rattle.std.proofs.lemmas.Int.{ints}
use Rattle.std.proofs.Math.Nat.{mul-div_cancel, div-le_self}
use Rattle.dk_num.specs.Decimal.{Decimal, decimal_of, canonical, zero_decimal, leading, is_in_range, is_small, digit_count, zero_count, IsCanonical}
use Rattle.dk_num.proofs.Digits.{digit_count_below, digit_count_some}

pub abs_neg : (n : ℕ) → unsigned_abs (neg_ℤ (pos n)) ≡ n
abs_neg zero = refl
abs_neg (suc n) = refl

pub abs_div : (m : ℤ) (p : ℕ) → unsigned_abs (int_div m (pos p)) ≡ unsigned_abs m / p
abs_div (pos a) p = refl
abs_div (negsuc a) p = abs_neg (suc a / p)

pub decimal_of_zero : (d : Decimal) → unsigned_abs d.mantissa ≡ 0 → decimal_of d ≡ Some zero_decimal
unfolding decimal_of
decimal_of_zero d e = rw e refl

pub decimal_of_large : (d : Decimal) → 10 ^ 34 ≤ unsigned_abs d.mantissa → decimal_of d ≡ None
unfolding decimal_of
decimal_of_large d h =
    let z : (unsigned_abs d.mantissa == 0) ≡ false = grind (arith, common_steps) in
    let s : nat_lt (unsigned_abs d.mantissa) (10 ^ 34) ≡ false = grind (arith, common_steps) in
    rw (z, s) refl

and_false : (b c : Bool) → c ≡ false → (b && c) ≡ false
and_false true c e = e
and_false false c e = refl

pub decimal_of_far : (d : Decimal) → 0 < unsigned_abs d.mantissa → is_in_range (leading d) ≡ false → decimal_of d ≡ None
unfolding decimal_of
decimal_of_far d h e =
    let z : (unsigned_abs d.mantissa == 0) ≡ false = grind (arith, common_steps) in
    let s : (is_small d.mantissa && is_in_range (leading d)) ≡ false = and_false _ _ e in
    rw (z, s) refl

pub decimal_of_some : (d : Decimal) → 0 < unsigned_abs d.mantissa → unsigned_abs d.mantissa < 10 ^ 34 → is_in_range (leading d) ≡ true → decimal_of d ≡ Some (canonical d)
unfolding decimal_of
decimal_of_some d h small e =
    let z : (unsigned_abs d.mantissa == 0) ≡ false = grind (arith, common_steps) in
    let s : nat_lt (unsigned_abs d.mantissa) (10 ^ 34) ≡ true = grind (arith, common_steps) in
    rw (z, s, e) refl

pub abs_between : (x : ℤ) → neg_ℤ (pos 10032) ≤ℤ x → x ≤ℤ pos 10032 → unsigned_abs x ≤ 10032
abs_between (pos n) low high = grind (arith, ints)
abs_between (negsuc n) low high = grind (arith, ints)

pub range_low : (l : ℤ) → is_in_range l ≡ true → neg_ℤ (pos 9999) ≤ℤ l
range_low l e = grind (arith, ints, common_steps)

pub range_high : (l : ℤ) → is_in_range l ≡ true → l ≤ℤ pos 9999
range_high l e = grind (arith, ints, common_steps)

pub canonical_is : (m e r x : ℤ) (rest power ended : ℕ) →
    0 < unsigned_abs m → unsigned_abs m < 10 ^ 34 → is_in_range ((e +ℤ pos (digit_count (unsigned_abs m))) -ℤ pos 1) ≡ true →
    r ≡ int_div m (pos power) → x ≡ e +ℤ pos ended → 0 < power → unsigned_abs m ≡ rest * power → zero_count rest ≡ 0 →
    digit_count (unsigned_abs m) ≡ ended + digit_count rest → IsCanonical (record { mantissa = r; exponent = x })
canonical_is m e r x rest power ended some small range r_is x_is power_some whole ends count =
    let abs_r : unsigned_abs r ≡ rest = ap unsigned_abs r_is ∙ abs_div m power ∙ ap (λ n. n / power) whole ∙ mul-div_cancel rest power_some in
    let le : unsigned_abs m / power ≤ unsigned_abs m = div-le_self (unsigned_abs m) power in
    let at : unsigned_abs r ≡ unsigned_abs m / power = ap unsigned_abs r_is ∙ abs_div m power in
    let count_r : digit_count (unsigned_abs r) ≡ digit_count rest = ap digit_count abs_r in
    let count_rest : digit_count (unsigned_abs m) ≡ ended + digit_count (unsigned_abs r) = count ∙ ap (λ n. ended + n) (sym count_r) in
    let low : neg_ℤ (pos 9999) ≤ℤ ((e +ℤ pos (digit_count (unsigned_abs m))) -ℤ pos 1) = range_low _ range in
    let high : ((e +ℤ pos (digit_count (unsigned_abs m))) -ℤ pos 1) ≤ℤ pos 9999 = range_high _ range in
    record {
      small = omega arith;
      zero = λ h. absurd (let w : rest ≡ 0 = sym abs_r ∙ h in let z : unsigned_abs m ≡ 0 * power = whole ∙ ap (λ n. n * power) w in omega arith);
      stripped = λ h. ap zero_count abs_r ∙ ends;
      lowest = λ h. omega (arith, ints);
      highest = λ h. omega (arith, ints);
    }

-- the exponent of a decimal lies where its leading one does, less its digits
pub exponent_near : (d : Decimal) → IsCanonical d → unsigned_abs d.exponent ≤ 10032
exponent_near d is =
    let few : digit_count (unsigned_abs d.mantissa) ≤ 34 = digit_count_below 34 _ is.small in
    near (unsigned_abs d.mantissa) refl few
  where
    near : (n : ℕ) → unsigned_abs d.mantissa ≡ n → digit_count (unsigned_abs d.mantissa) ≤ 34 → unsigned_abs d.exponent ≤ 10032
    near zero e few = rw (is.zero e) (lit≤ tt)
    near (suc n) e few =
        let some : 0 < unsigned_abs d.mantissa = omega arith in
        let low : neg_ℤ (pos 9999) ≤ℤ leading d = is.lowest some in
        let high : leading d ≤ℤ pos 9999 = is.highest some in
        abs_between d.exponent (omega (arith, ints)) (omega (arith, ints))

pub same_decimal : {m m' e e' : ℤ} → m ≡ m' → e ≡ e' → ◌≡◌ {A = Decimal} (record { mantissa = m; exponent = e }) (record { mantissa = m'; exponent = e' })
same_decimal {m} {m'} {e} {e'} p q = ap (λ (x : ℤ). let d : Decimal = record { mantissa = x; exponent = e } in d) p ∙ ap (λ (x : ℤ). let d : Decimal = record { mantissa = m'; exponent = x } in d) q

within : (k : ℕ) → 0 < k → k ≤ 34 → is_in_range ((pos 0 +ℤ pos k) -ℤ pos 1) ≡ true
within k h few = grind (arith, ints, common_steps)

pub whole_some : (n : ℤ) → unsigned_abs n < 10 ^ 34 → (d : Decimal) × (decimal_of (record { mantissa = n; exponent = pos 0 }) ≡ Some d)
whole_some n small = at (unsigned_abs n) refl
  where
    at : (k : ℕ) → unsigned_abs n ≡ k → (d : Decimal) × (decimal_of (record { mantissa = n; exponent = pos 0 }) ≡ Some d)
    at zero e = (zero_decimal, decimal_of_zero _ e)
    at (suc k) e =
        let some : 0 < unsigned_abs n = omega arith in
        let few : digit_count (unsigned_abs n) ≤ 34 = digit_count_below 34 _ small in
        (canonical (record { mantissa = n; exponent = pos 0 }), decimal_of_some _ some small (within (digit_count (unsigned_abs n)) (digit_count_some _ some) few))

zero_minus : (m : ℤ) → pos 0 -ℤ m ≡ neg_ℤ m
zero_minus m = omega (arith, ints)

pub abs_minus : (m : ℤ) → unsigned_abs (pos 0 -ℤ m) ≡ unsigned_abs m
abs_minus (pos n) = ap unsigned_abs (zero_minus (pos n)) ∙ abs_neg n
abs_minus (negsuc n) = ap unsigned_abs (zero_minus (negsuc n))

-- only the magnitude counts
pub canonical_like : (d : Decimal) (z x : ℤ) → unsigned_abs z ≡ unsigned_abs d.mantissa → x ≡ d.exponent → IsCanonical d → IsCanonical (record { mantissa = z; exponent = x })
canonical_like d z x e f is = record {
  small = rw e is.small;
  zero = λ h. f ∙ is.zero (sym e ∙ h);
  stripped = λ h. ap zero_count e ∙ is.stripped (rw e at h);
  lowest = λ h. rw (e, f) (is.lowest (rw e at h));
  highest = λ h. rw (e, f) (is.highest (rw e at h));
}

pub abs_sum : (p q : ℤ) (a b : ℕ) → unsigned_abs p ≤ a → unsigned_abs q ≤ b → unsigned_abs (p +ℤ q) ≤ a + b
abs_sum p q a b h k = omega (arith, ints)

-- the sum of two decimals' exponents
pub exponents_near : (x y : Decimal) (p q : ℤ) → p ≡ x.exponent → q ≡ y.exponent → IsCanonical x → IsCanonical y → unsigned_abs (p +ℤ q) ≤ 20064
exponents_near x y p q p_is q_is cx cy =
    let h : unsigned_abs p ≤ 10032 = rw p_is (exponent_near x cx) in
    let k : unsigned_abs q ≤ 10032 = rw q_is (exponent_near y cy) in
    abs_sum p q 10032 10032 h k
