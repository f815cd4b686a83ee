-- The unit of some numbers, the decimals of so many units, and where a value lies.
use Rattle.std.proofs.Common.{◌≡◌, ◌≢◌, ◌⊎◌, ◌==◌, Bool, true, false, ℕ, zero, suc, ◌+◌, ◌-◌, ◌^◌, ◌<◌, ◌≤◌, List, [], ◌∷◌, length, get_or, Option, Some, None, refl, ap, sym, subst, ◌∙◌, arith, inl, inr, ⊎_elim, ℤ, pos, ◌+ℤ◌, ◌-ℤ◌, ◌*ℤ◌, neg_ℤ, unsigned_abs, int_le, if◌then◌else◌, unwrap_or}
use Rattle.std.specs.Prelude.{◌≤ℤ◌, ◌||◌, All, Contains}
use Rattle.std.specs.Int.{int_max}
use Rattle.std.proofs.lemmas.Bool.{cases_Bool}
use Rattle.std.proofs.lemmas.Grind.{common_steps}
use Rattle.std.proofs.lemmas.Int.{ints, clamps, unsigned_abs-mul}
use Rattle.std.proofs.lemmas.List.Elements.{All-head, All-tail}
use Rattle.std.proofs.lemmas.Nat.{pow-add}
use Rattle.std.proofs.Math.Nat.{mul-le-mul_right, mul-lt-mul_of_pos_right}
use Rattle.dk_num.specs.Decimal.{Decimal, IsCanonical, decimal_of, zero_decimal, is_zero, leading, digit_count}
use Rattle.dk_num.specs.Arithmetic.{whole_value}
use Rattle.dk_num.specs.Units.{greatest_leading, greater_of, unit_exponent, IsWithin, AreWithin, IsUnitExponent, in_units}
use Rattle.dk_num.specs.Laws.{SomeLeads, IsGreatestLeading}
use Rattle.dk_num.proofs.Canonical.{exponent_near}
use Rattle.dk_num.proofs.Digits.{digit_count_some}
use Rattle.dk_num.proofs.Endings.{count_is, ten_some}
use Rattle.dk_num.proofs.Leading.{all_within, within_unit}
use Rattle.dk_num.proofs.Multiples.{units_some}
use Rattle.dk_num.proofs.Refusals.{some_abs, not_zero}
use Rattle.dk_num.proofs.Values.{some_is, not_some, abs_is, abs_low, decimal_is_canonical, decimal_value}

within_at : (e : ℤ) (ds : List Decimal) (k : ℕ) (x : Decimal) → k < length ds → AreWithin e ds → IsWithin e (get_or ds k x)
within_at e [] k x h all = absurd (omega arith)
within_at e (d ∷ ds) zero x h all = all.0
within_at e (d ∷ ds) (suc k) x h all = within_at e ds k x (omega arith) all.1

within_leads : (e : ℤ) (d : Decimal) → IsWithin e d → d.mantissa ≢ pos 0 → leading d ≤ℤ (e +ℤ pos 28)
within_leads e d within some =
    let size : 0 < unsigned_abs d.mantissa = some_abs d.mantissa some in
    by_zero (is_zero d) (leading d) (grind (arith, common_steps)) within
  where
    by_zero : (z : Bool) (l : ℤ) → z ≡ false → (z || int_le l (e +ℤ pos 28)) ≡ true → l ≤ℤ (e +ℤ pos 28)
    by_zero true l f h = absurd (cc)
    by_zero false l f h = grind (arith, ints, common_steps)

each_within : (e : ℤ) (ds : List Decimal) (d : Decimal) → AreWithin e ds → Contains ds d → d.mantissa ≢ pos 0 → leading d ≤ℤ (e +ℤ pos 28)
each_within e ds d all in_it some = within_leads e d (subst (IsWithin e) in_it.2 (within_at e ds in_it.0 d in_it.1 all)) some

leads_more : (d : Decimal) (ds : List Decimal) (l : ℤ) → SomeLeads ds l → SomeLeads (d ∷ ds) l
leads_more d ds l h = let within : h.1.0 < length ds = h.1.1 in (h.0, (suc h.1.0, omega arith, h.1.2), h.2, h.3)

first_leads : (d : Decimal) (ds : List Decimal) → d.mantissa ≢ pos 0 → SomeLeads (d ∷ ds) (leading d)
first_leads d ds some = (d, (0, omega arith, refl), some, refl)

max_is : (l k : ℤ) → (k ≡ int_max l k) ⊎ (l ≡ int_max l k)
max_is l k =
    ⊎_elim (λ (t : int_le l k ≡ true). inl (let h : l ≤ℤ k = grind (arith, ints, common_steps) in omega (arith, ints, clamps)))
    (λ (f : int_le l k ≡ false). inr (let h : k ≤ℤ l = grind (arith, ints, common_steps) in omega (arith, ints, clamps)))
    (cases_Bool (int_le l k))

test_some : (d : Decimal) → is_zero d ≡ false → d.mantissa ≢ pos 0
test_some d f = let size : 0 < unsigned_abs d.mantissa = grind (arith, common_steps) in not_zero d.mantissa size

-- the greatest is that of one of them
greatest_at : (ds : List Decimal) (g : ℤ) → greatest_leading ds ≡ Some g → SomeLeads ds g
greatest_at [] g e = not_some g refl e
greatest_at (d ∷ ds) g e = at (is_zero d) (greatest_leading ds) (λ k r. greatest_at ds k r) (test_some d) e
  where
    at : (z : Bool) (rest : Option ℤ) → ((k : ℤ) → rest ≡ Some k → SomeLeads ds k) → (z ≡ false → d.mantissa ≢ pos 0) →
        (if z then rest else greater_of (Some (leading d)) rest) ≡ Some g → SomeLeads (d ∷ ds) g
    at true rest of_rest some h = leads_more d ds g (of_rest g h)
    at false None of_rest some h = subst (SomeLeads (d ∷ ds)) (some_is h) (first_leads d ds (some refl))
    at false (Some k) of_rest some h =
        ⊎_elim (λ later. subst (SomeLeads (d ∷ ds)) (later ∙ some_is h) (leads_more d ds k (of_rest k refl)))
        (λ first. subst (SomeLeads (d ∷ ds)) (first ∙ some_is h) (first_leads d ds (some refl)))
        (max_is (leading d) k)

some_greatest : (ds : List Decimal) (d : Decimal) → Contains ds d → d.mantissa ≢ pos 0 → greatest_leading ds ≡ None → ⊥
some_greatest ds d in_it some none =
    let all : AreWithin (leading d -ℤ pos 29) ds = all_within (leading d -ℤ pos 29) ds (rw none tt) in
    let below : leading d ≤ℤ ((leading d -ℤ pos 29) +ℤ pos 28) = each_within (leading d -ℤ pos 29) ds d all in_it some in
    too_low (leading d) below
  where
    too_low : (l : ℤ) → l ≤ℤ ((l -ℤ pos 29) +ℤ pos 28) → ⊥
    too_low l h = omega (arith, ints)

back : (g : ℤ) → g ≡ (g -ℤ pos 28) +ℤ pos 28
back g = omega (arith, ints)

reached_at : (ds : List Decimal) (o : Option ℤ) → greatest_leading ds ≡ o → (o ≡ None → ⊥) → SomeLeads ds ((unwrap_or o (pos 0) -ℤ pos 28) +ℤ pos 28)
reached_at ds None e some = absurd (some refl)
reached_at ds (Some g) e some = subst (SomeLeads ds) (back g) (greatest_at ds g e)

pub meets_greatest : (ds : List Decimal) (d : Decimal) → Contains ds d → d.mantissa ≢ pos 0 → IsGreatestLeading ds (unit_exponent ds +ℤ pos 28)
meets_greatest ds d in_it some = record {
  reached = reached_at ds (greatest_leading ds) refl (some_greatest ds d in_it some);
  greatest = λ x in_x some_x. each_within (unit_exponent ds) ds x (within_unit ds (unit_exponent ds) refl) in_x some_x;
}

none_of_zeros : (ds : List Decimal) → All (λ d. d.mantissa ≡ pos 0) ds → greatest_leading ds ≡ None
none_of_zeros [] h = refl
none_of_zeros (d ∷ ds) h =
    let none : d.mantissa ≡ pos 0 = All-head (λ d. d.mantissa ≡ pos 0) d ds h in
    let z : (unsigned_abs d.mantissa == 0) ≡ true = ap (λ m. unsigned_abs m == 0) none in
    rw z (none_of_zeros ds (All-tail (λ d. d.mantissa ≡ pos 0) d ds h))

pub zeros_have_low_unit : (ds : List Decimal) → All (λ d. d.mantissa ≡ pos 0) ds → unit_exponent ds ≡ neg_ℤ (pos 28)
zeros_have_low_unit ds h = ap (λ o. unwrap_or o (pos 0) -ℤ pos 28) (none_of_zeros ds h)

pub units_decimal : (e k : ℤ) → IsUnitExponent e → unsigned_abs k < 10 ^ 34 → decimal_of (record { mantissa = k; exponent = e }) ≡ Some (in_units e k)
units_decimal e k is small =
    let got = units_some k e small is in
    got.1 ∙ ap Some (sym (ap (λ o. unwrap_or o zero_decimal) got.1))

pub units_canonical : (e k : ℤ) → IsUnitExponent e → unsigned_abs k < 10 ^ 34 → IsCanonical (in_units e k)
units_canonical e k is small = decimal_is_canonical _ _ (units_decimal e k is small)

pub units_value : (e k : ℤ) → IsUnitExponent e → unsigned_abs k < 10 ^ 34 → whole_value (in_units e k) ≡ whole_value (record { mantissa = k; exponent = e })
units_value e k is small = decimal_value _ _ (units_decimal e k is small)

-- the power of the first digit, from a lower unit
lead_power : (e : ℤ) (digits lift : ℕ) → 0 < digits → pos 0 ≤ℤ (e +ℤ pos lift) →
    unsigned_abs (((e +ℤ pos digits) -ℤ pos 1) +ℤ pos lift) ≡ (digits - 1) + unsigned_abs (e +ℤ pos lift)
lead_power e digits lift some low =
    let a : pos (unsigned_abs (e +ℤ pos lift)) ≡ e +ℤ pos lift = abs_is _ low in
    let b : pos (unsigned_abs (((e +ℤ pos digits) -ℤ pos 1) +ℤ pos lift)) ≡ ((e +ℤ pos digits) -ℤ pos 1) +ℤ pos lift = abs_is _ (omega (arith, ints)) in
    omega (arith, ints)

lead_next : (e : ℤ) (digits lift : ℕ) → pos 0 ≤ℤ (e +ℤ pos lift) →
    unsigned_abs (((e +ℤ pos digits) -ℤ pos 1) +ℤ pos (lift + 1)) ≡ digits + unsigned_abs (e +ℤ pos lift)
lead_next e digits lift low =
    let a : pos (unsigned_abs (e +ℤ pos lift)) ≡ e +ℤ pos lift = abs_is _ low in
    let b : pos (unsigned_abs (((e +ℤ pos digits) -ℤ pos 1) +ℤ pos (lift + 1))) ≡ ((e +ℤ pos digits) -ℤ pos 1) +ℤ pos (lift + 1) = abs_is _ (omega (arith, ints)) in
    omega (arith, ints)

leads_from_at : (lift : ℕ) (d : Decimal) → 0 < unsigned_abs d.mantissa → pos 0 ≤ℤ (d.exponent +ℤ pos lift) →
    10 ^ unsigned_abs (leading d +ℤ pos lift) ≤ unsigned_abs (d.mantissa *ℤ pos (10 ^ unsigned_abs (d.exponent +ℤ pos lift)))
leads_from_at lift d some low =
    let size : 10 ^ (digit_count (unsigned_abs d.mantissa) - 1) ≤ unsigned_abs d.mantissa = ((count_is (unsigned_abs d.mantissa) (digit_count (unsigned_abs d.mantissa)) some).0 refl).0 in
    let times = mul-le-mul_right (10 ^ unsigned_abs (d.exponent +ℤ pos lift)) size in
    rw (
      lead_power d.exponent (digit_count (unsigned_abs d.mantissa)) lift (digit_count_some _ some) low,
      pow-add 10 (digit_count (unsigned_abs d.mantissa) - 1) (unsigned_abs (d.exponent +ℤ pos lift)),
      unsigned_abs-mul d.mantissa (pos (10 ^ unsigned_abs (d.exponent +ℤ pos lift))),
    ) times

leads_below_at : (lift : ℕ) (d : Decimal) → 0 < unsigned_abs d.mantissa → pos 0 ≤ℤ (d.exponent +ℤ pos lift) →
    unsigned_abs (d.mantissa *ℤ pos (10 ^ unsigned_abs (d.exponent +ℤ pos lift))) < 10 ^ unsigned_abs (leading d +ℤ pos (lift + 1))
leads_below_at lift d some low =
    let size : unsigned_abs d.mantissa < 10 ^ digit_count (unsigned_abs d.mantissa) = ((count_is (unsigned_abs d.mantissa) (digit_count (unsigned_abs d.mantissa)) some).0 refl).1 in
    let times = mul-lt-mul_of_pos_right size (ten_some (unsigned_abs (d.exponent +ℤ pos lift))) in
    rw (
      lead_next d.exponent (digit_count (unsigned_abs d.mantissa)) lift low,
      pow-add 10 (digit_count (unsigned_abs d.mantissa)) (unsigned_abs (d.exponent +ℤ pos lift)),
      unsigned_abs-mul d.mantissa (pos (10 ^ unsigned_abs (d.exponent +ℤ pos lift))),
    ) times

pub leads_from : (d : Decimal) → IsCanonical d → d.mantissa ≢ pos 0 → 10 ^ unsigned_abs (leading d +ℤ pos 10032) ≤ unsigned_abs (whole_value d)
leads_from d is some = leads_from_at 10032 d (some_abs d.mantissa some) (abs_low d.exponent 10032 (exponent_near d is))

pub leads_below : (d : Decimal) → IsCanonical d → d.mantissa ≢ pos 0 → unsigned_abs (whole_value d) < 10 ^ unsigned_abs (leading d +ℤ pos 10033)
leads_below d is some = leads_below_at 10032 d (some_abs d.mantissa some) (abs_low d.exponent 10032 (exponent_near d is))
