-- Numbers that are compared with others, one place after another.
use Rattle.std.proofs.Common.{◌≡◌, ℕ, zero, suc, ◌<◌, Bool, true, false, ◌&&◌, List, [], ◌∷◌, length, get_or, refl, ap, sym, ◌∙◌, arith, ℤ, pos, int_le, int_lt, to_z, of_z, FitsSigned}
use Rattle.std.proofs.lemmas.Int.{ints, to_z-of_z}
use Rattle.std.specs.Prelude.{zip}
use Rattle.std.specs.List.{list_all}
use mir.Syntax.{w128}

-- each of the first ones is at most the other at its place
abbrev pub AreBelow : (xs ys : List ℤ) → (count : ℕ) → Type 0
AreBelow xs ys count = (k : ℕ) → k < count → int_le (get_or xs k (pos 0)) (get_or ys k (pos 0)) ≡ true

pub all_below : (xs ys : List ℤ) → length ys ≡ length xs → AreBelow xs ys (length xs) → list_all (λ c. int_le c.0 c.1) (zip xs ys) ≡ true
all_below [] ys long are = refl
all_below (x ∷ xs) [] long are = refl
all_below (x ∷ xs) (y ∷ ys) long are =
    let first : int_le x y ≡ true = are 0 (omega arith) in
    let others = all_below xs ys (omega arith) (λ k h. are (suc k) (omega arith)) in
    ap (λ b. b && list_all (λ c. int_le c.0 c.1) (zip xs ys)) first ∙ others

pub one_above : (xs ys : List ℤ) (k : ℕ) → k < length xs → length ys ≡ length xs → int_le (get_or xs k (pos 0)) (get_or ys k (pos 0)) ≡ false → list_all (λ c. int_le c.0 c.1) (zip xs ys) ≡ false
one_above [] ys k within long above = absurd (omega arith)
one_above (x ∷ xs) [] k within long above = absurd (let l : zero ≡ suc (length xs) = long in omega arith)
one_above (x ∷ xs) (y ∷ ys) zero within long above = ap (λ b. b && list_all (λ c. int_le c.0 c.1) (zip xs ys)) above
one_above (x ∷ xs) (y ∷ ys) (suc k) within long above = ap (λ b. int_le x y && b) (one_above xs ys k (omega arith) (omega arith) above) ∙ never (int_le x y)
  where
    never : (b : Bool) → (b && false) ≡ false
    never true = refl
    never false = refl

-- a number that is read as above another one
pub read_above : (a b : ℤ) → FitsSigned w128 a → FitsSigned w128 b → int_lt (to_z w128 (of_z w128 b)) (to_z w128 (of_z w128 a)) ≡ true → int_le a b ≡ false
read_above a b fits_a fits_b above =
    let read : int_lt b a ≡ true = ap (λ k. int_lt k a) (sym (to_z-of_z w128 b fits_b)) ∙ ap (int_lt (to_z w128 (of_z w128 b))) (sym (to_z-of_z w128 a fits_a)) ∙ above in
    grind (arith, ints)
