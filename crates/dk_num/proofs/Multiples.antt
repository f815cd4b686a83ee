-- Whole numbers of a unit.
use Rattle.std.proofs.Common.{◌≡◌, ◌==◌, Bool, true, false, ℕ, zero, suc, ◌+◌, ◌*◌, ◌/◌, ◌%◌, ◌^◌, ◌<◌, ◌≤◌, refl, ap, sym, ◌∙◌, arith, lit≤, lit<, ℤ, pos, negsuc, neg_ℤ, ◌+ℤ◌, ◌-ℤ◌, ◌*ℤ◌, unsigned_abs, int_le, Option, Some, None, if◌then◌else◌}
use Rattle.std.specs.Prelude.{◌≤ℤ◌, ◌<ℤ◌}
use Rattle.std.specs.Int.Digits.{digits_of, number_from_digits}
use Rattle.std.proofs.lemmas.Grind.{common_steps}
use Rattle.std.proofs.lemmas.Int.{ints, unsigned_abs-mul}
use Rattle.std.proofs.lemmas.Int.Digits.{number_lt, number_digits_of, all_below_base_digits_of}
use Rattle.std.proofs.lemmas.Nat.{pow-add}
use Rattle.std.proofs.Math.IntN.{zero-*ℤ}
use Rattle.std.proofs.Math.Nat.{mul_assoc, eq_of_mul-eq-mul_right, mul-le-mul_right, mul-lt-mul_of_pos_right, one-le-pow, pow-suc}
use Rattle.dk_num.specs.Decimal.{Decimal, IsCanonical, decimal_of, canonical, zero_decimal, is_in_range, digit_count, zero_count}
use Rattle.dk_num.specs.Units.{IsUnitExponent, units_of}
use Rattle.dk_num.proofs.Canonical.{decimal_of_zero, decimal_of_some, exponent_near}
use Rattle.dk_num.proofs.Digits.{digit_count_below, zero_count_more}
use Rattle.dk_num.proofs.Powers.{ten_pow_le}

-- a number is below the power of ten that its digits count
pub below_its_power : (n : ℕ) → n < 10 ^ digit_count n
below_its_power n =
    let less : number_from_digits 10 (digits_of 10 n) < 10 ^ digit_count n = number_lt 10 (digits_of 10 n) (all_below_base_digits_of 10 n (lit≤ tt)) in
    let same : number_from_digits 10 (digits_of 10 n) ≡ n = number_digits_of 10 n (lit≤ tt) in
    rw same at less

-- few digits stay few with some zeros more
pub lengthened_below : (m : ℤ) (k : ℕ) → digit_count (unsigned_abs m) + k ≤ 29 → unsigned_abs (m *ℤ pos (10 ^ k)) < 10 ^ 29
lengthened_below m k h =
    let e : unsigned_abs (m *ℤ pos (10 ^ k)) ≡ unsigned_abs m * 10 ^ k = unsigned_abs-mul m (pos (10 ^ k)) in
    let less : unsigned_abs m * 10 ^ k < 10 ^ digit_count (unsigned_abs m) * 10 ^ k = mul-lt-mul_of_pos_right (below_its_power (unsigned_abs m)) (one-le-pow k 10 (lit< tt)) in
    let power : 10 ^ (digit_count (unsigned_abs m) + k) ≡ 10 ^ digit_count (unsigned_abs m) * 10 ^ k = pow-add 10 (digit_count (unsigned_abs m)) k in
    let le : 10 ^ (digit_count (unsigned_abs m) + k) ≤ 10 ^ 29 = ten_pow_le (digit_count (unsigned_abs m) + k) 29 h in
    omega arith

unit_in_range : (e : ℤ) (n : ℕ) → IsUnitExponent e → n ≤ 34 → is_in_range ((e +ℤ pos n) -ℤ pos 1) ≡ true
unit_in_range e n h few = let low = h.0 in let high = h.1 in grind (arith, ints, common_steps)

-- a small number of units is a decimal
pub units_some : (k e : ℤ) → unsigned_abs k < 10 ^ 34 → IsUnitExponent e → (d : Decimal) × (decimal_of (record { mantissa = k; exponent = e }) ≡ Some d)
units_some k e small h = at (unsigned_abs k) refl
  where
    at : (n : ℕ) → unsigned_abs k ≡ n → (d : Decimal) × (decimal_of (record { mantissa = k; exponent = e }) ≡ Some d)
    at zero z = (zero_decimal, decimal_of_zero _ z)
    at (suc n) z =
        let some : 0 < unsigned_abs k = omega arith in
        let few : digit_count (unsigned_abs k) ≤ 34 = digit_count_below 34 _ small in
        (canonical (record { mantissa = k; exponent = e }), decimal_of_some _ some small (unit_in_range e (digit_count (unsigned_abs k)) h few))

-- a mantissa with so many zeros more, and then with more
zeros_more : (m : ℤ) (i j : ℕ) → (m *ℤ pos (10 ^ i)) *ℤ pos (10 ^ j) ≡ m *ℤ pos (10 ^ (i + j))
zeros_more m i j = rw (pow-add 10 i j) (times m (10 ^ i) (10 ^ j))
  where
    negative : (a b : ℕ) → neg_ℤ (pos a) *ℤ pos b ≡ neg_ℤ (pos (a * b))
    negative zero b = let z : 0 * b ≡ 0 = omega arith in ap pos z ∙ ap (λ n. neg_ℤ (pos n)) (sym z)
    negative (suc a) b = refl

    times : (m : ℤ) (a b : ℕ) → (m *ℤ pos a) *ℤ pos b ≡ m *ℤ pos (a * b)
    times (pos n) a b = ap pos (mul_assoc n a b)
    times (negsuc n) a b = negative (suc n * a) b ∙ ap (λ n. neg_ℤ (pos n)) (mul_assoc (suc n) a b)

not_negative : (x q : ℕ) → 0 < q → pos x ≡ neg_ℤ (pos q) → ⊥
not_negative x zero some h = omega arith
not_negative x (suc q) some h = cc

-- two mantissas with as many zeros more are equal only where they are
same_zeros : (a b : ℤ) (p : ℕ) → 0 < p → a *ℤ pos p ≡ b *ℤ pos p → a ≡ b
same_zeros a b p some e = signs a b (eq_of_mul-eq-mul_right p some (unsigned_abs a) (unsigned_abs b) magnitudes) e
  where
    magnitudes : unsigned_abs a * p ≡ unsigned_abs b * p
    magnitudes = sym (unsigned_abs-mul a (pos p)) ∙ ap unsigned_abs e ∙ unsigned_abs-mul b (pos p)

    apart : (m n : ℕ) → pos (m * p) ≡ neg_ℤ (pos (suc n * p)) → ⊥
    apart m n h =
        let le : 1 * p ≤ suc n * p = mul-le-mul_right p (omega arith) in
        not_negative (m * p) (suc n * p) (omega arith) h

    signs : (a b : ℤ) → unsigned_abs a ≡ unsigned_abs b → a *ℤ pos p ≡ b *ℤ pos p → a ≡ b
    signs (pos m) (pos n) h e = ap pos h
    signs (pos m) (negsuc n) h e = absurd (apart m n e)
    signs (negsuc m) (pos n) h e = absurd (apart n m (sym e))
    signs (negsuc m) (negsuc n) h e = omega (arith, ints)

zero_from_abs : (m : ℤ) → unsigned_abs m ≡ 0 → m ≡ pos 0
zero_from_abs (pos n) h = ap pos h
zero_from_abs (negsuc n) h = absurd (omega arith)

abs_sum : (a b c : ℤ) → pos 0 ≤ℤ a → pos 0 ≤ℤ b → c ≡ a +ℤ b → unsigned_abs c ≡ unsigned_abs a + unsigned_abs b
abs_sum (pos a) (pos b) c h k e = ap unsigned_abs e
abs_sum (pos a) (negsuc b) c h k e = absurd (omega (arith, ints))
abs_sum (negsuc a) b c h k e = absurd (omega (arith, ints))

-- the places above the least exponent: those above the unit's, and the unit's
places : (n : ℕ) (e x : ℤ) → neg_ℤ (pos n) ≤ℤ e → e ≤ℤ x → unsigned_abs (x +ℤ pos n) ≡ unsigned_abs (x -ℤ e) + unsigned_abs (e +ℤ pos n)
places n e x low le = abs_sum (x -ℤ e) (e +ℤ pos n) (x +ℤ pos n) (omega (arith, ints)) (omega (arith, ints)) (omega (arith, ints))

no_value : {k : ℤ} → ◌≡◌ {A = Option ℤ} None (Some k) → ⊥
no_value h = cc

-- so many units make up the value
pub units_count : (n : ℕ) (e m x k : ℤ) → neg_ℤ (pos n) ≤ℤ e → units_of e (record { mantissa = m; exponent = x }) ≡ Some k →
    m *ℤ pos (10 ^ unsigned_abs (x +ℤ pos n)) ≡ k *ℤ pos (10 ^ unsigned_abs (e +ℤ pos n))
units_count n e m x k low h = at (unsigned_abs m == 0) (int_le e x) h zero_test le_test
  where
    zero_test : (unsigned_abs m == 0) ≡ true → unsigned_abs m ≡ 0
    zero_test t = grind (arith, common_steps)

    le_test : int_le e x ≡ true → e ≤ℤ x
    le_test t = grind (arith, ints, common_steps)

    at : (z t : Bool) → (if z then Some (pos 0) else (if t then Some (m *ℤ pos (10 ^ unsigned_abs (x -ℤ e))) else None)) ≡ Some k →
        (z ≡ true → unsigned_abs m ≡ 0) → (t ≡ true → e ≤ℤ x) → m *ℤ pos (10 ^ unsigned_abs (x +ℤ pos n)) ≡ k *ℤ pos (10 ^ unsigned_abs (e +ℤ pos n))
    at true t h is_zero_of le_of =
        let k_is : pos 0 ≡ k = cc in
        rw (zero_from_abs m (is_zero_of refl), ← k_is) (zero-*ℤ (pos (10 ^ unsigned_abs (x +ℤ pos n))) ∙ sym (zero-*ℤ (pos (10 ^ unsigned_abs (e +ℤ pos n)))))
    at false true h is_zero_of le_of =
        let k_is : m *ℤ pos (10 ^ unsigned_abs (x -ℤ e)) ≡ k = cc in
        ap (λ i. m *ℤ pos (10 ^ i)) (places n e x low (le_of refl))
        ∙ sym (zeros_more m (unsigned_abs (x -ℤ e)) (unsigned_abs (e +ℤ pos n)))
        ∙ ap (λ q. q *ℤ pos (10 ^ unsigned_abs (e +ℤ pos n))) k_is
    at false false h is_zero_of le_of = absurd (no_value h)

ends_in_zero : (m k : ℤ) (i : ℕ) → 0 < unsigned_abs m → 0 < i → m ≡ k *ℤ pos (10 ^ i) → zero_count (unsigned_abs m) ≡ 0 → ⊥
ends_in_zero m k zero some more e none = omega arith
ends_in_zero m k (suc i) some more e none =
    let power : 10 ^ suc i ≡ 10 ^ i * 10 = pow-suc 10 i in
    let whole : unsigned_abs m ≡ unsigned_abs k * 10 ^ i * 10 = ap unsigned_abs e ∙ unsigned_abs-mul k (pos (10 ^ suc i)) ∙ ap (λ p. unsigned_abs k * p) power ∙ sym (mul_assoc (unsigned_abs k) (10 ^ i) 10) in
    let rest : unsigned_abs m % 10 ≡ 0 = omega arith in
    let count : zero_count (unsigned_abs m) ≡ zero_count (unsigned_abs m / 10) + 1 = zero_count_more (unsigned_abs m) some rest in
    omega arith

gap : (z : ℤ) → pos 0 <ℤ z → 0 < unsigned_abs z
gap (pos zero) h = omega (arith, ints)
gap (pos (suc z)) h = omega arith
gap (negsuc z) h = omega arith

above : (x e : ℤ) → x <ℤ e → 0 < unsigned_abs (e -ℤ x)
above x e less = gap (e -ℤ x) (omega (arith, ints))

-- a value that so many units make up is that many
pub count_units : (n : ℕ) (e m x k : ℤ) → neg_ℤ (pos n) ≤ℤ e → neg_ℤ (pos n) ≤ℤ x → (0 < unsigned_abs m → zero_count (unsigned_abs m) ≡ 0) →
    m *ℤ pos (10 ^ unsigned_abs (x +ℤ pos n)) ≡ k *ℤ pos (10 ^ unsigned_abs (e +ℤ pos n)) → units_of e (record { mantissa = m; exponent = x }) ≡ Some k
count_units n e m x k low low_x stripped h = at (unsigned_abs m == 0) (int_le e x) zero_test some_test le_test less_test
  where
    some_power : (j : ℕ) → 0 < 10 ^ j
    some_power j = one-le-pow j 10 (lit< tt)

    zero_test : (unsigned_abs m == 0) ≡ true → unsigned_abs m ≡ 0
    zero_test t = grind (arith, common_steps)

    some_test : (unsigned_abs m == 0) ≡ false → 0 < unsigned_abs m
    some_test t = grind (arith, common_steps)

    le_test : int_le e x ≡ true → e ≤ℤ x
    le_test t = grind (arith, ints, common_steps)

    less_test : int_le e x ≡ false → x <ℤ e
    less_test t = grind (arith, ints, common_steps)

    at : (z t : Bool) → (z ≡ true → unsigned_abs m ≡ 0) → (z ≡ false → 0 < unsigned_abs m) → (t ≡ true → e ≤ℤ x) → (t ≡ false → x <ℤ e) →
        (if z then Some (pos 0) else (if t then Some (m *ℤ pos (10 ^ unsigned_abs (x -ℤ e))) else None)) ≡ Some k
    at true t zero_of some_of le_of less_of =
        let none : k *ℤ pos (10 ^ unsigned_abs (e +ℤ pos n)) ≡ pos 0 *ℤ pos (10 ^ unsigned_abs (e +ℤ pos n))
        = sym h ∙ ap (λ q. q *ℤ pos (10 ^ unsigned_abs (x +ℤ pos n))) (zero_from_abs m (zero_of refl)) ∙ zero-*ℤ (pos (10 ^ unsigned_abs (x +ℤ pos n))) ∙ sym (zero-*ℤ (pos (10 ^ unsigned_abs (e +ℤ pos n)))) in
        ap Some (sym (same_zeros k (pos 0) (10 ^ unsigned_abs (e +ℤ pos n)) (some_power (unsigned_abs (e +ℤ pos n))) none))
    at false true zero_of some_of le_of less_of =
        ap Some (same_zeros (m *ℤ pos (10 ^ unsigned_abs (x -ℤ e))) k (10 ^ unsigned_abs (e +ℤ pos n)) (some_power (unsigned_abs (e +ℤ pos n)))
        (zeros_more m (unsigned_abs (x -ℤ e)) (unsigned_abs (e +ℤ pos n)) ∙ ap (λ i. m *ℤ pos (10 ^ i)) (sym (places n e x low (le_of refl))) ∙ h))
    at false false zero_of some_of le_of less_of =
        let less : x <ℤ e = less_of refl in
        let le : x ≤ℤ e = omega (arith, ints) in
        let mantissas : m ≡ k *ℤ pos (10 ^ unsigned_abs (e -ℤ x))
        = same_zeros m (k *ℤ pos (10 ^ unsigned_abs (e -ℤ x))) (10 ^ unsigned_abs (x +ℤ pos n)) (some_power (unsigned_abs (x +ℤ pos n)))
        (h ∙ ap (λ i. k *ℤ pos (10 ^ i)) (places n x e low_x le) ∙ sym (zeros_more k (unsigned_abs (e -ℤ x)) (unsigned_abs (x +ℤ pos n)))) in
        absurd (ends_in_zero m k (unsigned_abs (e -ℤ x)) (some_of refl) (above x e less) mantissas (stripped (some_of refl)))

-- no decimal's exponent is below the least one
pub least_exponent : (d : Decimal) → IsCanonical d → neg_ℤ (pos 10032) ≤ℤ d.exponent
least_exponent d is = at d.exponent (exponent_near d is)
  where
    at : (x : ℤ) → unsigned_abs x ≤ 10032 → neg_ℤ (pos 10032) ≤ℤ x
    at (pos n) h = omega (arith, ints)
    at (negsuc n) h = omega (arith, ints)

-- how many units a decimal is that isn't finer than they are
pub units_of_some : (e : ℤ) (d : Decimal) → 0 < unsigned_abs d.mantissa → e ≤ℤ d.exponent →
    units_of e d ≡ Some (d.mantissa *ℤ pos (10 ^ unsigned_abs (d.exponent -ℤ e)))
units_of_some e d some le =
    let z : (unsigned_abs d.mantissa == 0) ≡ false = grind (arith, common_steps) in
    let t : int_le e d.exponent ≡ true = grind (arith, ints, common_steps) in
    rw (z, t) refl
