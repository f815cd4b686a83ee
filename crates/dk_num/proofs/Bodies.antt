-- Which of the two texts of the digits it is.
use Rattle.std.proofs.Common.{◌≡◌, ◌&&◌, List, ◌++◌, ℕ, true, false, ap, ◌∙◌, append_assoc, ℤ, pos, neg_ℤ, int_le}
use Rattle.dk_num.specs.Texts.{body_text, plain_digits, pointed, exponent_text}

pub body_plain : (ds : List ℕ) (e l : ℤ) (old new : List ℕ) → (int_le (neg_ℤ (pos 6)) l && int_le l (pos 33)) ≡ true → new ≡ old ++ plain_digits ds e → new ≡ old ++ body_text ds e l
body_plain ds e l old new t h = rw t h

pub body_exponent : (ds : List ℕ) (e l : ℤ) (old middle new : List ℕ) → (int_le (neg_ℤ (pos 6)) l && int_le l (pos 33)) ≡ false →
    middle ≡ old ++ pointed ds → new ≡ middle ++ exponent_text l → new ≡ old ++ body_text ds e l
body_exponent ds e l old middle new t h k = rw t (k ∙ ap (λ m. m ++ exponent_text l) h ∙ append_assoc old (pointed ds) (exponent_text l))
