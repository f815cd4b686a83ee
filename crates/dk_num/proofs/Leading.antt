-- The greatest leading exponent of some decimals.
use Rattle.std.proofs.Common.{◌≡◌, ◌&&◌, Bool, true, false, ℕ, ◌+◌, ◌<◌, ◌≤◌, List, [], ◌∷◌, length, drop, get_or, refl, ap, sym, ◌∙◌, arith, ℤ, pos, neg_ℤ, ◌+ℤ◌, ◌-ℤ◌, int_le, Option, Some, None, if◌then◌else◌, IfSome, unwrap_or}
use Rattle.std.specs.Prelude.{◌≤ℤ◌, ◌||◌, IsTrue}
use Rattle.std.specs.Int.{int_max}
use Rattle.std.proofs.lemmas.Grind.{common_steps}
use Rattle.std.proofs.lemmas.Int.{ints, clamps}
use Rattle.std.proofs.lemmas.List.{at_drop_more, at_drop_all}
use Rattle.dk_num.specs.Decimal.{Decimal, is_zero, leading}
use Rattle.dk_num.specs.Units.{is_moderate, AreModerate, greatest_leading, greater_of, IsModerateExponent, IsWithin, AreWithin, unit_exponent}

-- the leading exponent, where there is one
abbrev pub leading_of : Decimal → Option ℤ
leading_of d = if is_zero d then None else Some (leading d)

greatest_more : (d : Decimal) (ds : List Decimal) → greatest_leading (d ∷ ds) ≡ greater_of (leading_of d) (greatest_leading ds)
greatest_more d ds = elim (is_zero d) as (λ z. (if z then greatest_leading ds else greater_of (Some (leading d)) (greatest_leading ds)) ≡ greater_of (if z then None else Some (leading d)) (greatest_leading ds)) [ true ↦ refl | false ↦ refl ]

greater_assoc : (a b c : Option ℤ) → greater_of (greater_of a b) c ≡ greater_of a (greater_of b c)
greater_assoc None b c = refl
greater_assoc (Some l) None None = refl
greater_assoc (Some l) None (Some k) = refl
greater_assoc (Some l) (Some k) None = refl
greater_assoc (Some l) (Some k) (Some j) = ap Some (max_assoc l k j)
  where
    max_assoc : (l k j : ℤ) → int_max (int_max l k) j ≡ int_max l (int_max k j)
    max_assoc l k j = omega (arith, ints, clamps)

-- the greatest so far and that of what is left make up that of all
pub greatest_step : (ds : List Decimal) (i : ℕ) (a : Option ℤ) (d : Decimal) → i < length ds →
    greater_of a (greatest_leading (drop i ds)) ≡ greatest_leading ds →
    greater_of (greater_of a (leading_of (get_or ds i d))) (greatest_leading (drop (i + 1) ds)) ≡ greatest_leading ds
greatest_step ds i a d h e =
    let next : greatest_leading (drop i ds) ≡ greatest_leading (get_or ds i d ∷ drop (i + 1) ds) = at_drop_more greatest_leading ds i d h in
    greater_assoc a (leading_of (get_or ds i d)) (greatest_leading (drop (i + 1) ds))
    ∙ ap (greater_of a) (sym (next ∙ greatest_more (get_or ds i d) (drop (i + 1) ds)))
    ∙ e

greater_none : (a : Option ℤ) → greater_of a None ≡ a
greater_none None = refl
greater_none (Some l) = refl

pub greatest_end : (ds : List Decimal) (i : ℕ) (a : Option ℤ) → length ds ≤ i →
    greater_of a (greatest_leading (drop i ds)) ≡ greatest_leading ds → a ≡ greatest_leading ds
greatest_end ds i a h e =
    let none : greatest_leading (drop i ds) ≡ None = at_drop_all greatest_leading ds i h in
    sym (greater_none a) ∙ ap (greater_of a) (sym none) ∙ e

moderate_leading : (d : Decimal) → IsTrue (is_moderate d) → IfSome (leading_of d) IsModerateExponent
moderate_leading d h = by_zero (is_zero d) (leading d) h
  where
    by_zero : (z : Bool) (l : ℤ) → (z || (int_le (neg_ℤ (pos 400)) l && int_le l (pos 400))) ≡ true → IfSome (if z then None else Some l) IsModerateExponent
    by_zero true l h = tt
    by_zero false l h = (grind (arith, ints, common_steps), grind (arith, ints, common_steps))

moderate_greater : (a b : Option ℤ) → IfSome a IsModerateExponent → IfSome b IsModerateExponent → IfSome (greater_of a b) IsModerateExponent
moderate_greater None b f g = g
moderate_greater (Some l) None f g = f
moderate_greater (Some l) (Some k) f g = (omega (arith, ints, clamps), omega (arith, ints, clamps))

-- the greatest of moderate numbers is moderate
pub greatest_moderate : (ds : List Decimal) → AreModerate ds → IfSome (greatest_leading ds) IsModerateExponent
greatest_moderate [] h = tt
greatest_moderate (d ∷ ds) h =
    let both : IfSome (greater_of (leading_of d) (greatest_leading ds)) IsModerateExponent
    = moderate_greater (leading_of d) (greatest_leading ds) (moderate_leading d h.0) (greatest_moderate ds h.1) in
    rw (greatest_more d ds) both

within_one : (e : ℤ) (d : Decimal) (rest : Option ℤ) → IfSome (greater_of (leading_of d) rest) (λ g. g ≤ℤ (e +ℤ pos 28)) →
    IsWithin e d × IfSome rest (λ g. g ≤ℤ (e +ℤ pos 28))
within_one e d rest h = by_zero (is_zero d) (leading d) rest h
  where
    by_zero : (z : Bool) (l : ℤ) (rest : Option ℤ) → IfSome (greater_of (if z then None else Some l) rest) (λ g. g ≤ℤ (e +ℤ pos 28)) →
        ((z || int_le l (e +ℤ pos 28)) ≡ true) × IfSome rest (λ g. g ≤ℤ (e +ℤ pos 28))
    by_zero true l rest h = (refl, h)
    by_zero false l None h = (grind (arith, ints, common_steps), tt)
    by_zero false l (Some k) h =
        let first : l ≤ℤ (e +ℤ pos 28) = omega (arith, ints, clamps) in
        (grind (arith, ints, common_steps), omega (arith, ints, clamps))

-- where the greatest is within the unit's digits, all are
pub all_within : (e : ℤ) (ds : List Decimal) → IfSome (greatest_leading ds) (λ g. g ≤ℤ (e +ℤ pos 28)) → AreWithin e ds
all_within e [] h = tt
all_within e (d ∷ ds) h =
    let both : IsWithin e d × IfSome (greatest_leading ds) (λ g. g ≤ℤ (e +ℤ pos 28)) = within_one e d (greatest_leading ds) (rw (greatest_more d ds) at h) in
    (both.0, all_within e ds both.1)

-- the unit is 28 below the greatest
pub within_unit : (ds : List Decimal) (e : ℤ) → e ≡ unit_exponent ds → AreWithin e ds
within_unit ds e h = all_within e ds (at (greatest_leading ds) h)
  where
    at : (g : Option ℤ) → e ≡ unwrap_or g (pos 0) -ℤ pos 28 → IfSome g (λ g. g ≤ℤ (e +ℤ pos 28))
    at None h = tt
    at (Some g) h = omega (arith, ints)
