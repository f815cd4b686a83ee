-- A label is no number.
use Rattle.std.proofs.Common.{◌≡◌, ℕ, Bool, true, false, cond, List, [], ◌∷◌, length, ◌&&◌, refl, arith}
use Rattle.std.specs.Prelude.{Ok, Err}
use Rattle.std.proofs.lemmas.Grind.{common_steps}
use Rattle.std.proofs.lemmas.Bool.Decides.{nat_tests}
use Rattle.dk_num.specs.Decimal.{Decimal}
use Rattle.dk_num.specs.Numbers.{read_of, number_of, parts, is_complete, is_digit, is_sign_byte, is_point_byte, Spelling, spelled}
use Rattle.dk_num.specs.declared.read.NumFault.TheVariants.{Shape}
use Rattle.dk_results.specs.Results.{begins_label, is_label}

no_digit : (b : ℕ) → begins_label b ≡ true → is_digit b ≡ false
no_digit b h = grind (arith, nat_tests, common_steps)

no_sign : (b : ℕ) → begins_label b ≡ true → is_sign_byte b ≡ false
no_sign b h = grind (arith, nat_tests, common_steps)

no_point : (b : ℕ) → begins_label b ≡ true → is_point_byte b ≡ false
no_point b h = grind (arith, nat_tests, common_steps)

fails_between : (x y : Bool) → (x && false && y) ≡ false
fails_between true y = refl
fails_between false y = refl

-- what begins with no digit, sign or point has no digits
incomplete : (b : ℕ) (bs : List ℕ) → is_sign_byte b ≡ false → is_digit b ≡ false → is_point_byte b ≡ false → is_complete (b ∷ bs) (parts (b ∷ bs)) ≡ false
incomplete b bs e f g = rw (e, f, g, f) (fails_between _ _)

no_number : (b : ℕ) (bs : List ℕ) (s : Spelling) (t : Bool) (v : Decimal) → t ≡ false → cond t (number_of s) (Err (Shape (length (spelled s)))) ≡ Ok v → ⊥
no_number b bs s true v e h = let k : true ≡ false = e in cc
no_number b bs s false v e h = cc

-- what is a number is no label
pub number_no_label : (piece : List ℕ) (v : Decimal) → read_of piece ≡ Ok v → is_label piece ≡ false
unfolding read_of
number_no_label [] v h = refl
number_no_label (b ∷ bs) v h = at (is_label (b ∷ bs)) refl
  where
    at : (t : Bool) → is_label (b ∷ bs) ≡ t → is_label (b ∷ bs) ≡ false
    at true e = absurd (no_number b bs (parts (b ∷ bs)) (is_complete (b ∷ bs) (parts (b ∷ bs))) v (incomplete b bs (no_sign b e) (no_digit b e) (no_point b e)) h)
    at false e = e
