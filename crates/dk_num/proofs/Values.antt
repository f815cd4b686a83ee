-- Decimals as values, in units of a power of ten.
use Rattle.std.proofs.Common.{◌≡◌, ◌≢◌, true, false, ℕ, zero, suc, ◌+◌, ◌*◌, ◌/◌, ◌%◌, ◌^◌, ◌<◌, ◌≤◌, Option, Some, None, refl, ap, sym, subst, ◌∙◌, arith, lit<, ⊎_elim, ℤ, pos, negsuc, neg_ℤ, ◌+ℤ◌, ◌-ℤ◌, ◌*ℤ◌, unsigned_abs, int_div}
use Rattle.std.specs.Prelude.{◌≤ℤ◌, int_lt, if◌then◌else◌}
use Rattle.std.proofs.lemmas.Bool.{cases_lt, cases_Bool}
use Rattle.std.proofs.lemmas.Grind.{common_steps}
use Rattle.std.proofs.lemmas.Int.{ints, unsigned_abs-mul}
use Rattle.std.proofs.lemmas.Nat.{pow-add}
use Rattle.std.proofs.Math.IntN.{zero-*ℤ}
use Rattle.std.proofs.Math.Nat.{eq-zero-or-pos, mul-lt-mul_of_pos_right, mul-div_cancel}
use Rattle.dk_num.specs.Decimal.{Decimal, decimal_of, canonical, zero_decimal, leading, is_in_range, digit_count, zero_count, IsCanonical}
use Rattle.dk_num.specs.Arithmetic.{whole_value}
use Rattle.dk_num.proofs.Digits.{digit_count_below, zero_count_none}
use Rattle.dk_num.proofs.Canonical.{decimal_of_zero, decimal_of_large, decimal_of_far, decimal_of_some, canonical_is, same_decimal, range_low}
use Rattle.dk_num.proofs.Scaling.{scaled_twice, same_scaled, divided_back}
use Rattle.dk_num.proofs.Endings.{split, ten_some, no_zeros_ends, one_power, one_rest}

pub some_is : {A : Type 0} {x y : A} → Some x ≡ Some y → x ≡ y
some_is e = cc

pub not_some : {A : Type 0} {P : Type 0} (x : A) {o : Option A} → o ≡ None → o ≡ Some x → P
not_some x e f = cc

pub abs_zero : (z : ℤ) → unsigned_abs z ≡ 0 → z ≡ pos 0
abs_zero (pos n) e = ap pos e
abs_zero (negsuc n) e = absurd (omega arith)

-- a number that isn't negative is its magnitude
pub abs_is : (z : ℤ) → pos 0 ≤ℤ z → pos (unsigned_abs z) ≡ z
abs_is (pos n) h = refl
abs_is (negsuc n) h = absurd (omega (arith, ints))

pub abs_low : (z : ℤ) (n : ℕ) → unsigned_abs z ≤ n → pos 0 ≤ℤ (z +ℤ pos n)
abs_low (pos m) n h = omega (arith, ints)
abs_low (negsuc m) n h = omega (arith, ints)

scaled_abs : (m : ℤ) (p : ℕ) → unsigned_abs (m *ℤ pos p) ≡ unsigned_abs m * p
scaled_abs m p = unsigned_abs-mul m (pos p)

pub scaled_none : (m : ℤ) (p : ℕ) → unsigned_abs m ≡ 0 → m *ℤ pos p ≡ pos 0
scaled_none m p e = ap (λ z. z *ℤ pos p) (abs_zero m e) ∙ zero-*ℤ (pos p)

-- the value in units of ten to the power of -k
abbrev pub value_at : ℕ → Decimal → ℤ
value_at k d = d.mantissa *ℤ pos (10 ^ unsigned_abs (d.exponent +ℤ pos k))

lift_one : (k : ℕ) (e f : ℤ) → unsigned_abs e ≤ k → unsigned_abs f ≤ k → unsigned_abs (e +ℤ pos k) ≡ unsigned_abs (f +ℤ pos k) → e ≡ f
lift_one k e f near_e near_f same =
    let x : pos (unsigned_abs (e +ℤ pos k)) ≡ e +ℤ pos k = abs_is _ (abs_low e k near_e) in
    let y : pos (unsigned_abs (f +ℤ pos k)) ≡ f +ℤ pos k = abs_is _ (abs_low f k near_f) in
    let z : e +ℤ pos k ≡ f +ℤ pos k = sym x ∙ ap pos same ∙ y in
    omega (arith, ints)

zero_factor : (n p : ℕ) → 0 < p → n * p ≡ 0 → n ≡ 0
zero_factor zero p some e = refl
zero_factor (suc n) p some e = absurd (let t : 0 * p < suc n * p = mul-lt-mul_of_pos_right (let l : 0 < suc n = omega arith in l) some in omega arith)

-- pairs of one value are one pair, where they aren't zero
some_same : (k : ℕ) (x y : Decimal) (s t : ℕ) → unsigned_abs x.exponent ≤ k → unsigned_abs y.exponent ≤ k → IsCanonical x → IsCanonical y →
    unsigned_abs (x.exponent +ℤ pos k) ≡ s → unsigned_abs (y.exponent +ℤ pos k) ≡ t → x.mantissa *ℤ pos (10 ^ s) ≡ y.mantissa *ℤ pos (10 ^ t) →
    unsigned_abs x.mantissa * 10 ^ s ≡ unsigned_abs y.mantissa * 10 ^ t → 0 < unsigned_abs x.mantissa → 0 < unsigned_abs y.mantissa → x ≡ y
some_same k x y s t near_x near_y cx cy s_is t_is e mags some_x some_y =
    let ends_x : unsigned_abs x.mantissa % 10 ≢ 0 = no_zeros_ends (unsigned_abs x.mantissa) some_x (cx.stripped some_x) in
    let ends_y : unsigned_abs y.mantissa % 10 ≢ 0 = no_zeros_ends (unsigned_abs y.mantissa) some_y (cy.stripped some_y) in
    let places : s ≡ t = one_power (unsigned_abs x.mantissa) (unsigned_abs y.mantissa) s t ends_x ends_y mags in
    let rests : unsigned_abs x.mantissa ≡ unsigned_abs y.mantissa = one_rest (unsigned_abs x.mantissa) (unsigned_abs y.mantissa) s t places mags in
    same_decimal (same_scaled x.mantissa y.mantissa (10 ^ s) (10 ^ t) (ten_some s) (ten_some t) e rests)
    (lift_one k x.exponent y.exponent near_x near_y (s_is ∙ places ∙ sym t_is))

no_product : (n m p q : ℕ) → 0 < p → n * p ≡ m * q → m ≡ 0 → n ≡ 0
no_product n m p q some e none = zero_factor n p some (e ∙ ap (λ k. k * q) none ∙ (let z : 0 * q ≡ 0 = omega arith in z))

-- pairs of one value are one pair
pub same_values : (k : ℕ) (x y : Decimal) → unsigned_abs x.exponent ≤ k → unsigned_abs y.exponent ≤ k → IsCanonical x → IsCanonical y → value_at k x ≡ value_at k y → x ≡ y
same_values k x y near_x near_y cx cy e =
    at (unsigned_abs (x.exponent +ℤ pos k)) (unsigned_abs (y.exponent +ℤ pos k)) refl refl e
  where
    at : (s t : ℕ) → unsigned_abs (x.exponent +ℤ pos k) ≡ s → unsigned_abs (y.exponent +ℤ pos k) ≡ t → x.mantissa *ℤ pos (10 ^ s) ≡ y.mantissa *ℤ pos (10 ^ t) → x ≡ y
    at s t s_is t_is v =
        let mags : unsigned_abs x.mantissa * 10 ^ s ≡ unsigned_abs y.mantissa * 10 ^ t
        = sym (scaled_abs x.mantissa (10 ^ s)) ∙ ap unsigned_abs v ∙ scaled_abs y.mantissa (10 ^ t) in
        ⊎_elim (λ none.
        let other : unsigned_abs y.mantissa ≡ 0 = no_product (unsigned_abs y.mantissa) (unsigned_abs x.mantissa) (10 ^ t) (10 ^ s) (ten_some t) (sym mags) none in
        same_decimal (abs_zero x.mantissa none ∙ sym (abs_zero y.mantissa other)) (cx.zero none ∙ sym (cy.zero other)))
        (λ some.
        ⊎_elim (λ none. absurd (let z : unsigned_abs x.mantissa ≡ 0 = no_product (unsigned_abs x.mantissa) (unsigned_abs y.mantissa) (10 ^ s) (10 ^ t) (ten_some s) mags none in omega arith))
        (λ other. some_same k x y s t near_x near_y cx cy s_is t_is v mags some other)
        (eq-zero-or-pos (unsigned_abs y.mantissa)))
        (eq-zero-or-pos (unsigned_abs x.mantissa))

-- the four ways in which a pair has a decimal or has none
pub by_size : {P : Type 0} (d : Decimal) →
    (unsigned_abs d.mantissa ≡ 0 → decimal_of d ≡ Some zero_decimal → P) →
    (10 ^ 34 ≤ unsigned_abs d.mantissa → decimal_of d ≡ None → P) →
    (0 < unsigned_abs d.mantissa → is_in_range (leading d) ≡ false → decimal_of d ≡ None → P) →
    (0 < unsigned_abs d.mantissa → unsigned_abs d.mantissa < 10 ^ 34 → is_in_range (leading d) ≡ true → decimal_of d ≡ Some (canonical d) → P) → P
by_size d none large far near =
    ⊎_elim (λ z. none z (decimal_of_zero d z)) (λ some.
    ⊎_elim (λ small.
    ⊎_elim (λ r. near some small r (decimal_of_some d some small r)) (λ r. far some r (decimal_of_far d some r)) (cases_Bool (is_in_range (leading d))))
    (λ l. large l (decimal_of_large d l))
    (cases_lt (unsigned_abs d.mantissa) (10 ^ 34)))
    (eq-zero-or-pos (unsigned_abs d.mantissa))

zero_is_canonical : IsCanonical zero_decimal
zero_is_canonical = record { small = lit< tt; zero = λ h. refl; stripped = λ h. absurd (omega arith); lowest = λ h. absurd (omega arith); highest = λ h. absurd (omega arith) }

pub canonical_is_canonical : (d : Decimal) → 0 < unsigned_abs d.mantissa → unsigned_abs d.mantissa < 10 ^ 34 → is_in_range (leading d) ≡ true → IsCanonical (canonical d)
canonical_is_canonical d some small range =
    let s = split (unsigned_abs d.mantissa) some in
    canonical_is d.mantissa d.exponent _ _ s.rest (10 ^ zero_count (unsigned_abs d.mantissa)) (zero_count (unsigned_abs d.mantissa))
    some small range refl refl (ten_some (zero_count (unsigned_abs d.mantissa))) s.whole (zero_count_none s.rest s.left s.ends) s.digits

pub decimal_is_canonical : (d c : Decimal) → decimal_of d ≡ Some c → IsCanonical c
decimal_is_canonical d c e =
    by_size d
    (λ z o. subst IsCanonical (some_is (sym o ∙ e)) zero_is_canonical)
    (λ l o. not_some c o e)
    (λ some r o. not_some c o e)
    (λ some small r o. subst IsCanonical (some_is (sym o ∙ e)) (canonical_is_canonical d some small r))

power_more : (x : ℤ) (k z : ℕ) → pos 0 ≤ℤ (x +ℤ pos k) → 10 ^ unsigned_abs ((x +ℤ pos z) +ℤ pos k) ≡ 10 ^ z * 10 ^ unsigned_abs (x +ℤ pos k)
power_more x k z low =
    let a : pos (unsigned_abs (x +ℤ pos k)) ≡ x +ℤ pos k = abs_is _ low in
    let b : pos (unsigned_abs ((x +ℤ pos z) +ℤ pos k)) ≡ (x +ℤ pos z) +ℤ pos k = abs_is _ (omega (arith, ints)) in
    let e : unsigned_abs ((x +ℤ pos z) +ℤ pos k) ≡ z + unsigned_abs (x +ℤ pos k) = omega (arith, ints) in
    ap (λ n. 10 ^ n) e ∙ pow-add 10 z (unsigned_abs (x +ℤ pos k))

pub canonical_value : (k : ℕ) (d : Decimal) → 0 < unsigned_abs d.mantissa → pos 0 ≤ℤ (d.exponent +ℤ pos k) → value_at k (canonical d) ≡ value_at k d
canonical_value k d some low =
    let s = split (unsigned_abs d.mantissa) some in
    ap (λ p. int_div d.mantissa (pos (10 ^ zero_count (unsigned_abs d.mantissa))) *ℤ pos p) (power_more d.exponent k (zero_count (unsigned_abs d.mantissa)) low)
    ∙ sym (scaled_twice (int_div d.mantissa (pos (10 ^ zero_count (unsigned_abs d.mantissa)))) (10 ^ zero_count (unsigned_abs d.mantissa)) (10 ^ unsigned_abs (d.exponent +ℤ pos k)))
    ∙ ap (λ m. m *ℤ pos (10 ^ unsigned_abs (d.exponent +ℤ pos k))) (divided_back d.mantissa s.rest (10 ^ zero_count (unsigned_abs d.mantissa)) s.whole (ten_some (zero_count (unsigned_abs d.mantissa))))

-- a small number in range has an exponent that isn't below -10032
pub exponent_low : (d : Decimal) → unsigned_abs d.mantissa < 10 ^ 34 → is_in_range (leading d) ≡ true → pos 0 ≤ℤ (d.exponent +ℤ pos 10032)
exponent_low d small range =
    let few : digit_count (unsigned_abs d.mantissa) ≤ 34 = digit_count_below 34 _ small in
    let low : neg_ℤ (pos 9999) ≤ℤ leading d = range_low _ range in
    omega (arith, ints)

pub decimal_value : (d c : Decimal) → decimal_of d ≡ Some c → whole_value c ≡ whole_value d
decimal_value d c e =
    by_size d
    (λ z o. ap whole_value (sym (some_is (sym o ∙ e))) ∙ sym (scaled_none d.mantissa (10 ^ unsigned_abs (d.exponent +ℤ pos 10032)) z))
    (λ l o. not_some c o e)
    (λ some r o. not_some c o e)
    (λ some small r o. ap whole_value (sym (some_is (sym o ∙ e))) ∙ canonical_value 10032 d some (exponent_low d small r))

whole_quotient : (m : ℤ) → int_div m (pos 1) ≡ m
whole_quotient (pos n) = ap pos (let e : n / 1 ≡ n = omega arith in e)
whole_quotient (negsuc n) = ap (λ k. neg_ℤ (pos k)) (let e : suc n / 1 ≡ suc n = omega arith in e)

pub in_range : (l : ℤ) → neg_ℤ (pos 9999) ≤ℤ l → l ≤ℤ pos 9999 → is_in_range l ≡ true
in_range l low high = grind (arith, ints, common_steps)

pub own_decimal : (c : Decimal) → IsCanonical c → decimal_of c ≡ Some c
own_decimal c is =
    ⊎_elim (λ z. decimal_of_zero c z ∙ ap Some (same_decimal (sym (abs_zero c.mantissa z)) (sym (is.zero z)))) (λ some.
    let none : zero_count (unsigned_abs c.mantissa) ≡ 0 = is.stripped some in
    decimal_of_some c some is.small (in_range (leading c) (is.lowest some) (is.highest some))
    ∙ ap Some (same_decimal
    (ap (λ k. int_div c.mantissa (pos (10 ^ k))) none ∙ whole_quotient c.mantissa)
    (ap (λ k. c.exponent +ℤ pos k) none ∙ (let e : c.exponent +ℤ pos 0 ≡ c.exponent = omega (arith, ints) in e))))
    (eq-zero-or-pos (unsigned_abs c.mantissa))

signed_quotient : (m : ℤ) (rest p : ℕ) → 0 < p → unsigned_abs m ≡ rest * p → (if int_lt m (pos 0) then neg_ℤ (pos rest) else pos rest) ≡ int_div m (pos p)
signed_quotient (pos a) rest p some whole =
    let t : int_lt (pos a) (pos 0) ≡ false = grind (arith, ints) in
    let q : a / p ≡ rest = ap (λ n. n / p) whole ∙ mul-div_cancel rest some in
    rw t (ap pos (sym q))
signed_quotient (negsuc a) rest p some whole =
    let q : suc a / p ≡ rest = ap (λ n. n / p) whole ∙ mul-div_cancel rest some in
    ap (λ n. neg_ℤ (pos n)) (sym q)

-- r and x are those of the decimal of m and e
pub record Found (m e r x : ℤ) : Type 0 where
  pub some : 0 < unsigned_abs m
  pub small : unsigned_abs m < 10 ^ 34
  pub range : is_in_range ((e +ℤ pos (digit_count (unsigned_abs m))) -ℤ pos 1) ≡ true
  pub same : ◌≡◌ {A = Decimal} (record { mantissa = r; exponent = x }) (canonical (record { mantissa = m; exponent = e }))

pub found : (m e m' e' r x : ℤ) (magnitude rest zeros : ℕ) → m' ≡ m → e' ≡ e → magnitude ≡ unsigned_abs m' → (magnitude ≡ 0 → ⊥) → magnitude < 10 ^ 34 →
    true ≡ is_in_range ((e' +ℤ pos (digit_count magnitude)) -ℤ pos 1) → zeros ≡ zero_count magnitude → magnitude ≡ rest * 10 ^ zero_count magnitude →
    r ≡ (if int_lt m' (pos 0) then neg_ℤ (pos rest) else pos rest) → x ≡ e' +ℤ pos zeros → Found m e r x
found m e m' e' r x magnitude rest zeros m_is e_is mag_is some small range zeros_is whole r_is x_is =
    let mag : magnitude ≡ unsigned_abs m = mag_is ∙ ap unsigned_abs m_is in
    record {
      some = omega arith;
      small = omega arith;
      range = ap (λ y. is_in_range ((y +ℤ pos (digit_count (unsigned_abs m))) -ℤ pos 1)) (sym e_is) ∙ ap (λ n. is_in_range ((e' +ℤ pos (digit_count n)) -ℤ pos 1)) (sym mag) ∙ sym range;
      same = same_decimal
          (r_is ∙ ap (λ y. if int_lt y (pos 0) then neg_ℤ (pos rest) else pos rest) m_is
          ∙ signed_quotient m rest (10 ^ zero_count (unsigned_abs m)) (ten_some (zero_count (unsigned_abs m))) (subst (λ k. k ≡ rest * 10 ^ zero_count k) mag whole))
          (x_is ∙ ap (λ y. y +ℤ pos zeros) e_is ∙ ap (λ n. e +ℤ pos n) (zeros_is ∙ ap zero_count mag));
    }
