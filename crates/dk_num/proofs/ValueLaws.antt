-- Sums, products and the order, as those of values.
use Rattle.std.proofs.Common.{◌≡◌, ◌↔◌, ◌⊎◌, ◌==◌, Bool, true, false, ℕ, ◌+◌, ◌*◌, ◌^◌, ◌<◌, ◌≤◌, Some, None, refl, ap, sym, subst, ◌∙◌, arith, inl, inr, ⊎_elim, ℤ, pos, neg_ℤ, ◌+ℤ◌, ◌-ℤ◌, ◌*ℤ◌, unsigned_abs, int_le}
use Rattle.std.specs.Prelude.{◌≤ℤ◌, ◌<ℤ◌}
use Rattle.std.specs.Int.{int_min}
use Rattle.std.specs.declared.cmp.Ordering.TheVariants.{Less, Equal, Greater}
use Rattle.std.specs.declared.cmp.Ordering.{Ordering}
use Rattle.std.specs.Ordering.{is_eq, eq_by_cmp}
use Rattle.std.proofs.lemmas.Bool.{cases_Bool, and_cases, both_ways, false_from_ne_true}
use Rattle.std.proofs.lemmas.Cmp.{int_ranked, tied_itself, int_cmp_total}
use Rattle.std.proofs.lemmas.Grind.{common_steps}
use Rattle.std.proofs.lemmas.Int.{ints, clamps}
use Rattle.std.proofs.lemmas.Nat.{pow-add}
use Rattle.std.proofs.Math.IntN.{zero-*ℤ}
use Rattle.std.proofs.Math.Nat.{eq-zero-or-pos}
use Rattle.dk_num.specs.Decimal.{Decimal, decimal_of, zero_decimal, leading, is_in_range, is_small, IsCanonical}
use Rattle.dk_num.specs.Arithmetic.{whole_value, decimal_cmp, sum_at, sum_of, product}
use Rattle.dk_num.proofs.Canonical.{decimal_of_large, decimal_of_far, exponent_near}
use Rattle.dk_num.proofs.Sums.{sum_of_some}
use Rattle.dk_num.proofs.Scaling.{scaled_twice, scaled_sum, scaled_product}
use Rattle.dk_num.proofs.Values.{same_values, value_at, some_is, not_some, by_size, abs_is, abs_low, scaled_none, decimal_is_canonical, decimal_value, exponent_low}

pub one_for_a_value : (x y : Decimal) → IsCanonical x → IsCanonical y → whole_value x ≡ whole_value y → x ≡ y
one_for_a_value x y cx cy e = same_values 10032 x y (exponent_near x cx) (exponent_near y cy) cx cy e

pub one_for_equals : (x y : Decimal) → IsCanonical x → IsCanonical y → decimal_cmp x y ≡ Equal → x ≡ y
one_for_equals x y cx cy e = one_for_a_value x y cx cy (int_ranked (whole_value x) (whole_value y) Equal (sym e))

abbrev IsFar : ℤ → Type 0
IsFar l = (l <ℤ neg_ℤ (pos 9999)) ⊎ (pos 9999 <ℤ l)

too_low : (l : ℤ) → int_le (neg_ℤ (pos 9999)) l ≡ false → l <ℤ neg_ℤ (pos 9999)
too_low l e = grind (arith, ints, common_steps)

too_high : (l : ℤ) → int_le l (pos 9999) ≡ false → pos 9999 <ℤ l
too_high l e = grind (arith, ints, common_steps)

far_from_test : (l : ℤ) → is_in_range l ≡ false → IsFar l
far_from_test l e = ⊎_elim (λ low. inl (too_low l low)) (λ high. inr (too_high l high)) (and_cases (int_le (neg_ℤ (pos 9999)) l) (int_le l (pos 9999)) e)

below_range : (l : ℤ) → l <ℤ neg_ℤ (pos 9999) → is_in_range l ≡ false
below_range l h = grind (arith, ints, common_steps)

above_range : (l : ℤ) → pos 9999 <ℤ l → is_in_range l ≡ false
above_range l h = grind (arith, ints, common_steps)

test_from_far : (l : ℤ) → IsFar l → is_in_range l ≡ false
test_from_far l h = ⊎_elim (below_range l) (above_range l) h

pub none_where : (d : Decimal) → decimal_of d ≡ None ↔ ((10 ^ 34 ≤ unsigned_abs d.mantissa) ⊎ ((0 < unsigned_abs d.mantissa) × IsFar (leading d)))
none_where d = (
  λ e. by_size d (λ z o. not_some zero_decimal e o) (λ large o. inl large) (λ some r o. inr (some, far_from_test (leading d) r)) (λ some small r o. not_some _ e o),
  λ h. ⊎_elim (λ large. decimal_of_large d large) (λ far. decimal_of_far d far.0 (test_from_far (leading d) far.1)) h,
)

common_value : (k : ℕ) (e : ℤ) (d : Decimal) → e ≤ℤ d.exponent → pos 0 ≤ℤ (e +ℤ pos k) →
    (d.mantissa *ℤ pos (10 ^ unsigned_abs (d.exponent -ℤ e))) *ℤ pos (10 ^ unsigned_abs (e +ℤ pos k)) ≡ value_at k d
common_value k e d below low =
    let a : pos (unsigned_abs (d.exponent -ℤ e)) ≡ d.exponent -ℤ e = abs_is _ (omega (arith, ints)) in
    let b : pos (unsigned_abs (e +ℤ pos k)) ≡ e +ℤ pos k = abs_is _ low in
    let c : pos (unsigned_abs (d.exponent +ℤ pos k)) ≡ d.exponent +ℤ pos k = abs_is _ (omega (arith, ints)) in
    let f : unsigned_abs (d.exponent -ℤ e) + unsigned_abs (e +ℤ pos k) ≡ unsigned_abs (d.exponent +ℤ pos k) = omega (arith, ints) in
    scaled_twice d.mantissa (10 ^ unsigned_abs (d.exponent -ℤ e)) (10 ^ unsigned_abs (e +ℤ pos k))
    ∙ ap (λ p. d.mantissa *ℤ pos p) (sym (pow-add 10 (unsigned_abs (d.exponent -ℤ e)) (unsigned_abs (e +ℤ pos k))) ∙ ap (λ n. 10 ^ n) f)

-- the mantissa of a sum, written with the exponent e
abbrev sum_mantissa : ℤ → Decimal → Decimal → ℤ
sum_mantissa e x y = x.mantissa *ℤ pos (10 ^ unsigned_abs (x.exponent -ℤ e)) +ℤ y.mantissa *ℤ pos (10 ^ unsigned_abs (y.exponent -ℤ e))

sum_at_is : (e : ℤ) (x y z : Decimal) → sum_at e x y ≡ Some z → decimal_of (record { mantissa = sum_mantissa e x y; exponent = e }) ≡ Some z
sum_at_is e x y z h =
    ⊎_elim (λ a. ⊎_elim (λ b. both a b) (λ b. wide_right a b) (cases_Bool (is_small (y.mantissa *ℤ pos (10 ^ unsigned_abs (y.exponent -ℤ e))))))
    (λ a. wide_left a)
    (cases_Bool (is_small (x.mantissa *ℤ pos (10 ^ unsigned_abs (x.exponent -ℤ e)))))
  where
    both : is_small (x.mantissa *ℤ pos (10 ^ unsigned_abs (x.exponent -ℤ e))) ≡ true → is_small (y.mantissa *ℤ pos (10 ^ unsigned_abs (y.exponent -ℤ e))) ≡ true →
        decimal_of (record { mantissa = sum_mantissa e x y; exponent = e }) ≡ Some z
    both a b = rw (a, b) at h

    wide_right : is_small (x.mantissa *ℤ pos (10 ^ unsigned_abs (x.exponent -ℤ e))) ≡ true → is_small (y.mantissa *ℤ pos (10 ^ unsigned_abs (y.exponent -ℤ e))) ≡ false →
        decimal_of (record { mantissa = sum_mantissa e x y; exponent = e }) ≡ Some z
    wide_right a b = let n = rw (a, b) at h in cc

    wide_left : is_small (x.mantissa *ℤ pos (10 ^ unsigned_abs (x.exponent -ℤ e))) ≡ false → decimal_of (record { mantissa = sum_mantissa e x y; exponent = e }) ≡ Some z
    wide_left a = let n = rw a at h in cc

sum_at_value : (e : ℤ) (x y z : Decimal) → e ≤ℤ x.exponent → e ≤ℤ y.exponent → pos 0 ≤ℤ (e +ℤ pos 10032) → sum_at e x y ≡ Some z →
    whole_value z ≡ whole_value x +ℤ whole_value y
sum_at_value e x y z below_x below_y low h =
    decimal_value _ z (sum_at_is e x y z h)
    ∙ scaled_sum (x.mantissa *ℤ pos (10 ^ unsigned_abs (x.exponent -ℤ e))) (y.mantissa *ℤ pos (10 ^ unsigned_abs (y.exponent -ℤ e))) (10 ^ unsigned_abs (e +ℤ pos 10032))
    ∙ ap (λ v. v +ℤ (y.mantissa *ℤ pos (10 ^ unsigned_abs (y.exponent -ℤ e))) *ℤ pos (10 ^ unsigned_abs (e +ℤ pos 10032))) (common_value 10032 e x below_x low)
    ∙ ap (λ v. whole_value x +ℤ v) (common_value 10032 e y below_y low)

pub sum_of_left_none : (x y : Decimal) → unsigned_abs x.mantissa ≡ 0 → sum_of x y ≡ Some y
sum_of_left_none x y e = rw e refl

pub sum_of_right_none : (x y : Decimal) → 0 < unsigned_abs x.mantissa → unsigned_abs y.mantissa ≡ 0 → sum_of x y ≡ Some x
sum_of_right_none x y some e = let a : (unsigned_abs x.mantissa == 0) ≡ false = grind (arith, common_steps) in rw (a, e) refl

-- which sum it is
by_terms : {P : Type 0} (x y : Decimal) →
    (unsigned_abs x.mantissa ≡ 0 → sum_of x y ≡ Some y → P) →
    (unsigned_abs y.mantissa ≡ 0 → sum_of x y ≡ Some x → P) →
    (sum_of x y ≡ sum_at (int_min x.exponent y.exponent) x y → P) → P
by_terms x y left right both =
    ⊎_elim (λ a. left a (sum_of_left_none x y a)) (λ a.
    ⊎_elim (λ b. right b (sum_of_right_none x y a b)) (λ b. both (sum_of_some x y a b)) (eq-zero-or-pos (unsigned_abs y.mantissa)))
    (eq-zero-or-pos (unsigned_abs x.mantissa))

pub sum_is_canonical : (x y z : Decimal) → IsCanonical x → IsCanonical y → sum_of x y ≡ Some z → IsCanonical z
sum_is_canonical x y z cx cy h =
    by_terms x y
    (λ a o. subst IsCanonical (some_is (sym o ∙ h)) cy)
    (λ b o. subst IsCanonical (some_is (sym o ∙ h)) cx)
    (λ o. decimal_is_canonical _ z (sum_at_is (int_min x.exponent y.exponent) x y z (sym o ∙ h)))

min_low : (p q : ℤ) → unsigned_abs p ≤ 10032 → unsigned_abs q ≤ 10032 → pos 0 ≤ℤ (int_min p q +ℤ pos 10032)
min_low p q h k = let a = abs_low p 10032 h in let b = abs_low q 10032 k in omega (arith, ints, clamps)

min_left : (p q : ℤ) → int_min p q ≤ℤ p
min_left p q = omega (arith, ints, clamps)

min_right : (p q : ℤ) → int_min p q ≤ℤ q
min_right p q = omega (arith, ints, clamps)

pub sum_value : (x y z : Decimal) → IsCanonical x → IsCanonical y → sum_of x y ≡ Some z → whole_value z ≡ whole_value x +ℤ whole_value y
sum_value x y z cx cy h =
    by_terms x y
    (λ a o.
    let v : whole_value x ≡ pos 0 = scaled_none x.mantissa (10 ^ unsigned_abs (x.exponent +ℤ pos 10032)) a in
    ap whole_value (sym (some_is (sym o ∙ h))) ∙ nothing_left (whole_value x) (whole_value y) v)
    (λ b o.
    let v : whole_value y ≡ pos 0 = scaled_none y.mantissa (10 ^ unsigned_abs (y.exponent +ℤ pos 10032)) b in
    ap whole_value (sym (some_is (sym o ∙ h))) ∙ nothing_right (whole_value x) (whole_value y) v)
    (λ o. sum_at_value (int_min x.exponent y.exponent) x y z (min_left x.exponent y.exponent) (min_right x.exponent y.exponent)
    (min_low x.exponent y.exponent (exponent_near x cx) (exponent_near y cy)) (sym o ∙ h))
  where
    nothing_left : (v w : ℤ) → v ≡ pos 0 → w ≡ v +ℤ w
    nothing_left v w e = omega (arith, ints)

    nothing_right : (v w : ℤ) → w ≡ pos 0 → v ≡ v +ℤ w
    nothing_right v w e = omega (arith, ints)

pub product_is_canonical : (x y z : Decimal) → product x y ≡ Some z → IsCanonical z
product_is_canonical x y z h = decimal_is_canonical _ z h

product_at : (k : ℕ) (a b e f : ℤ) → pos 0 ≤ℤ (e +ℤ pos k) → pos 0 ≤ℤ (f +ℤ pos k) → pos 0 ≤ℤ ((e +ℤ f) +ℤ pos k) →
    ((a *ℤ b) *ℤ pos (10 ^ unsigned_abs ((e +ℤ f) +ℤ pos k))) *ℤ pos (10 ^ k) ≡ (a *ℤ pos (10 ^ unsigned_abs (e +ℤ pos k))) *ℤ (b *ℤ pos (10 ^ unsigned_abs (f +ℤ pos k)))
product_at k a b e f low_e low_f low =
    let s : pos (unsigned_abs (e +ℤ pos k)) ≡ e +ℤ pos k = abs_is _ low_e in
    let t : pos (unsigned_abs (f +ℤ pos k)) ≡ f +ℤ pos k = abs_is _ low_f in
    let u : pos (unsigned_abs ((e +ℤ f) +ℤ pos k)) ≡ (e +ℤ f) +ℤ pos k = abs_is _ low in
    let g : unsigned_abs ((e +ℤ f) +ℤ pos k) + k ≡ unsigned_abs (e +ℤ pos k) + unsigned_abs (f +ℤ pos k) = omega (arith, ints) in
    scaled_twice (a *ℤ b) (10 ^ unsigned_abs ((e +ℤ f) +ℤ pos k)) (10 ^ k)
    ∙ ap (λ p. (a *ℤ b) *ℤ pos p)
    (sym (pow-add 10 (unsigned_abs ((e +ℤ f) +ℤ pos k)) k) ∙ ap (λ n. 10 ^ n) g ∙ pow-add 10 (unsigned_abs (e +ℤ pos k)) (unsigned_abs (f +ℤ pos k)))
    ∙ scaled_product a b (10 ^ unsigned_abs (e +ℤ pos k)) (10 ^ unsigned_abs (f +ℤ pos k))

nothing_at : (a b : ℤ) (p q r : ℕ) (v : ℤ) → v ≡ pos 0 → unsigned_abs (a *ℤ b) ≡ 0 → v *ℤ pos r ≡ (a *ℤ pos p) *ℤ (b *ℤ pos q)
nothing_at a b p q r v e none = ap (λ w. w *ℤ pos r) e ∙ zero-*ℤ (pos r) ∙ sym (scaled_none (a *ℤ b) (p * q) none) ∙ scaled_product a b p q

some_at : (a b e f : ℤ) (p q r : ℕ) (k : ℕ) (v : ℤ) → pos 0 ≤ℤ (e +ℤ pos k) → pos 0 ≤ℤ (f +ℤ pos k) → pos 0 ≤ℤ ((e +ℤ f) +ℤ pos k) →
    p ≡ 10 ^ unsigned_abs (e +ℤ pos k) → q ≡ 10 ^ unsigned_abs (f +ℤ pos k) → r ≡ 10 ^ k → v ≡ (a *ℤ b) *ℤ pos (10 ^ unsigned_abs ((e +ℤ f) +ℤ pos k)) →
    v *ℤ pos r ≡ (a *ℤ pos p) *ℤ (b *ℤ pos q)
some_at a b e f p q r k v low_e low_f low p_is q_is r_is v_is =
    rw (p_is, q_is, r_is, v_is) (product_at k a b e f low_e low_f low)

pub product_value : (x y z : Decimal) → IsCanonical x → IsCanonical y → product x y ≡ Some z → whole_value z *ℤ pos (10 ^ 10032) ≡ whole_value x *ℤ whole_value y
product_value x y z cx cy h =
    by_size (record { mantissa = x.mantissa *ℤ y.mantissa; exponent = x.exponent +ℤ y.exponent })
    (λ none o. nothing_at x.mantissa y.mantissa (10 ^ unsigned_abs (x.exponent +ℤ pos 10032)) (10 ^ unsigned_abs (y.exponent +ℤ pos 10032)) (10 ^ 10032) (whole_value z)
    (ap whole_value (sym (some_is (sym o ∙ h)))) none)
    (λ l o. not_some z o h)
    (λ some r o. not_some z o h)
    (λ some small r o. some_at x.mantissa y.mantissa x.exponent y.exponent (10 ^ unsigned_abs (x.exponent +ℤ pos 10032)) (10 ^ unsigned_abs (y.exponent +ℤ pos 10032)) (10 ^ 10032) 10032 (whole_value z)
    (abs_low x.exponent 10032 (exponent_near x cx)) (abs_low y.exponent 10032 (exponent_near y cy))
    (exponent_low (record { mantissa = x.mantissa *ℤ y.mantissa; exponent = x.exponent +ℤ y.exponent }) small r)
    refl refl refl (decimal_value _ z h))

equal_from : (o : Ordering) → is_eq o ≡ true → o ≡ Equal
equal_from Less e = absurd (cc)
equal_from Equal e = refl
equal_from Greater e = absurd (cc)

-- what compares as equal is one pair, and what doesn't is two
pub pairs_decide : (b : Bool) (x y : Decimal) → IsCanonical x → IsCanonical y → ((b ≡ true) ↔ (x ≡ y)) → b ≡ eq_by_cmp decimal_cmp x y
pairs_decide b x y cx cy h =
    ⊎_elim (λ t. t ∙ sym (same (h.0 t))) (λ f. f ∙ sym (false_from_ne_true (eq_by_cmp decimal_cmp x y) (λ e. both_ways b f (h.1 (one_for_equals x y cx cy (is_eq-true e)))))) (cases_Bool b)
  where
    same : x ≡ y → eq_by_cmp decimal_cmp x y ≡ true
    same e = ap (λ d. eq_by_cmp decimal_cmp x d) (sym e) ∙ ap is_eq (tied_itself int_cmp_total (whole_value x))

    is_eq-true : eq_by_cmp decimal_cmp x y ≡ true → decimal_cmp x y ≡ Equal
    is_eq-true e = equal_from (decimal_cmp x y) e
