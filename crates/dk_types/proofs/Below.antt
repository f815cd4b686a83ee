-- The order of rows by their values.
use Rattle.std.proofs.Common.{◌≡◌, ◌<◌, Bool, true, false, List, [], ◌∷◌, length, refl, sym, arith, ℤ}
use Rattle.std.specs.Prelude.{◌<ℤ◌}
use Rattle.std.specs.Ordering.{int_cmp, is_lt}
use Rattle.std.specs.declared.cmp.Ordering.{Ordering}
use Rattle.std.specs.declared.cmp.Ordering.TheVariants.{Less, Equal, Greater}
use Rattle.std.proofs.lemmas.Cmp.{int_ranked}
use Rattle.std.proofs.lemmas.Int.{ints, by_lt_z}
use Rattle.dk_num.specs.Decimal.{Decimal}
use Rattle.dk_num.specs.Arithmetic.{whole_value}
use Rattle.dk_types.specs.Best.{is_below}

-- what the test for less says of two numbers, and what says it
less_from : (a b : ℤ) → is_lt (int_cmp a b) ≡ true → a <ℤ b
less_from a b e = at (int_cmp a b) refl e
  where
    at : (o : Ordering) → int_cmp a b ≡ o → is_lt o ≡ true → a <ℤ b
    at Less is e = int_ranked a b Less (sym is)
    at Equal is e = absurd (cc)
    at Greater is e = absurd (cc)

not_less_from : (a b : ℤ) → is_lt (int_cmp a b) ≡ false → (a <ℤ b → ⊥)
not_less_from a b e = at (int_cmp a b) refl e
  where
    at : (o : Ordering) → int_cmp a b ≡ o → is_lt o ≡ false → (a <ℤ b → ⊥)
    at Less is e = absurd (cc)
    at Equal is e = let h : a ≡ b = int_ranked a b Equal (sym is) in λ l. omega (arith, ints)
    at Greater is e = let h : b <ℤ a = int_ranked a b Greater (sym is) in λ l. omega (arith, ints)

from_less : (a b : ℤ) → a <ℤ b → is_lt (int_cmp a b) ≡ true
from_less a b l = at (is_lt (int_cmp a b)) refl
  where
    at : (t : Bool) → is_lt (int_cmp a b) ≡ t → is_lt (int_cmp a b) ≡ true
    at true e = e
    at false e = absurd (not_less_from a b e l)

from_not_less : (a b : ℤ) → (a <ℤ b → ⊥) → is_lt (int_cmp a b) ≡ false
from_not_less a b l = at (is_lt (int_cmp a b)) refl
  where
    at : (t : Bool) → is_lt (int_cmp a b) ≡ t → is_lt (int_cmp a b) ≡ false
    at true e = absurd (l (less_from a b e))
    at false e = e

-- nothing is below itself
pub not_below_itself : (x : List Decimal) → is_below x x ≡ false
not_below_itself [] = refl
not_below_itself (x ∷ xs) = from_not_less (whole_value x) (whole_value x) (λ l. omega (arith, ints))

-- what is below one is below all that aren't below that one
pub below_along : (x y z : List Decimal) → 0 < length z → is_below x y ≡ true → is_below z y ≡ false → is_below x z ≡ true
below_along [] y z some e f = absurd (cc)
below_along (x ∷ xs) [] z some e f = absurd (cc)
below_along (x ∷ xs) (y ∷ ys) [] some e f = absurd (omega arith)
below_along (x ∷ xs) (y ∷ ys) (z ∷ zs) some e f =
    let l = less_from (whole_value x) (whole_value y) e in
    let n = not_less_from (whole_value z) (whole_value y) f in
    from_less (whole_value x) (whole_value z) (turned (whole_value x) (whole_value y) (whole_value z) l n)
  where
    turned : (a b c : ℤ) → a <ℤ b → (c <ℤ b → ⊥) → a <ℤ c
    turned a b c l n = by_lt_z c b (λ m. absurd (n m)) (λ m. omega (arith, ints))

-- of two, the other isn't below
pub not_both_below : (x y : List Decimal) → is_below x y ≡ true → is_below y x ≡ false
not_both_below [] y e = absurd (cc)
not_both_below (x ∷ xs) [] e = absurd (cc)
not_both_below (x ∷ xs) (y ∷ ys) e =
    let l = less_from (whole_value x) (whole_value y) e in
    from_not_less (whole_value y) (whole_value x) (λ m. omega (arith, ints))
