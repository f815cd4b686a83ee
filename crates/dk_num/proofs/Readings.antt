-- What a text is read as, from its parts.
use Rattle.std.proofs.Common.{◌≡◌, ◌==◌, ◌&&◌, ◌||◌, true, false, ℕ, ◌+◌, ◌-◌, ◌<◌, List, [], ◌∷◌, ◌++◌, length, Err, refl, ap, subst, ◌∙◌, arith, length-append, nat_lt}
use Rattle.std.proofs.lemmas.Grind.{common_steps}
use Rattle.std.proofs.lemmas.List.{nil_from_length}
use Rattle.dk_num.specs.Numbers.{Spelling, AreDigits, parts, spelled, is_complete, read_of, number_of}
use Rattle.dk_num.proofs.Cuts.{parts_cut, run_digits, run_digits_if, tail1, tail3, tail6, rest_of}
use Rattle.dk_num.specs.declared.read.NumFault.TheVariants.{Empty, Shape}

pub whole_digits : (text : List ℕ) → AreDigits (parts text).whole
whole_digits text = subst AreDigits (parts_cut text).whole (run_digits (tail1 (parts text) (rest_of text)))

pub fraction_digits : (text : List ℕ) → AreDigits (parts text).fraction
fraction_digits text = subst AreDigits (parts_cut text).fraction (run_digits (tail3 (parts text) (rest_of text)))

pub exponent_digits : (text : List ℕ) → AreDigits (parts text).exponent
exponent_digits text = subst AreDigits (parts_cut text).exponent (run_digits_if (nat_lt 0 (length (parts text).mark)) (tail6 (parts text) (rest_of text)))

pub reads_empty : (text : List ℕ) → length text ≡ 0 → read_of text ≡ Err Empty
unfolding read_of
reads_empty text e = rw (nil_from_length text e) refl

pub reads_complete : (text : List ℕ) → 0 < length text → is_complete text (parts text) ≡ true → read_of text ≡ number_of (parts text)
unfolding read_of
reads_complete [] some h = absurd (omega arith)
reads_complete (b ∷ bs) some h = rw h refl

pub reads_incomplete : (text : List ℕ) → 0 < length text → is_complete text (parts text) ≡ false → read_of text ≡ Err (Shape (length (spelled (parts text))))
unfolding read_of
reads_incomplete [] some h = absurd (omega arith)
reads_incomplete (b ∷ bs) some h = rw h refl

pub complete_is : (text rest : List ℕ) (s : Spelling) → text ≡ spelled s ++ rest →
    is_complete text s ≡ ((length rest == 0) && nat_lt 0 (length s.whole + length s.fraction) && ((length s.mark == 0) || nat_lt 0 (length s.exponent)))
complete_is text rest s e =
    let n : length text ≡ length (spelled s) + length rest = ap length e ∙ length-append (spelled s) rest in
    let same : (length (spelled s) == length text) ≡ (length rest == 0) = rw n (none_left (length (spelled s)) (length rest)) in
    rw same refl
  where
    none_left : (a b : ℕ) → (a == a + b) ≡ (b == 0)
    none_left a b = grind (arith, common_steps)

pub left_is : (text rest : List ℕ) (s : Spelling) → text ≡ spelled s ++ rest → length text - length rest ≡ length (spelled s)
left_is text rest s e = let n : length text ≡ length (spelled s) + length rest = ap length e ∙ length-append (spelled s) rest in omega arith
