-- Points that are one.
use Rattle.std.proofs.Common.{◌≡◌, Bool, true, false, List, [], ◌∷◌, refl, ap, sym, ◌∙◌, ℤ, ◌&&◌}
use Rattle.std.specs.Ordering.{is_eq, int_cmp}
use Rattle.std.specs.declared.cmp.Ordering.{Ordering}
use Rattle.std.specs.declared.cmp.Ordering.TheVariants.{Less, Equal, Greater}
use Rattle.std.proofs.lemmas.Cmp.{int_ranked, int_cmp_total, tied_itself}
use Rattle.dk_num.specs.Decimal.{Decimal}
use Rattle.dk_num.specs.Arithmetic.{decimal_cmp, whole_value}
use Rattle.dk_types.specs.Best.{same_point}

-- a point is the same as itself
pub same_itself : (p : List Decimal) → same_point p p ≡ true
same_itself [] = refl
same_itself (x ∷ xs) = rw (tied_itself int_cmp_total (whole_value x), same_itself xs) refl

-- numbers that compare as equal are equal
equal_from : (a b : ℤ) → is_eq (int_cmp a b) ≡ true → a ≡ b
equal_from a b e = at (int_cmp a b) refl e
  where
    at : (o : Ordering) → int_cmp a b ≡ o → is_eq o ≡ true → a ≡ b
    at Less is e = absurd (cc)
    at Equal is e = int_ranked a b Equal (sym is)
    at Greater is e = absurd (cc)

both : (a b : Bool) → (a && b) ≡ true → (a ≡ true) × (b ≡ true)
both true true e = (refl, refl)
both true false e = absurd (cc)
both false b e = absurd (cc)

-- points that are one are the same as the same points
pub same_alike : (x p q : List Decimal) → same_point p q ≡ true → same_point x p ≡ same_point x q
same_alike x [] [] e = refl
same_alike x [] (q ∷ qs) e = absurd (cc)
same_alike x (p ∷ ps) [] e = absurd (cc)
same_alike [] (p ∷ ps) (q ∷ qs) e = refl
same_alike (x ∷ xs) (p ∷ ps) (q ∷ qs) e =
    let h = both (is_eq (decimal_cmp p q)) (same_point ps qs) e in
    ap (λ v. is_eq (int_cmp (whole_value x) v) && same_point xs ps) (equal_from (whole_value p) (whole_value q) h.0)
    ∙ ap (λ t. is_eq (decimal_cmp x q) && t) (same_alike xs ps qs h.1)

-- and either way round
pub same_turned : (p q : List Decimal) → same_point p q ≡ true → same_point q p ≡ true
same_turned p q e = same_alike q p q e ∙ same_itself q

pub apart_turned : (p q : List Decimal) → same_point p q ≡ false → same_point q p ≡ false
apart_turned p q e = at (same_point q p) refl
  where
    at : (t : Bool) → same_point q p ≡ t → same_point q p ≡ false
    at true h = absurd (let k : same_point p q ≡ true = same_turned q p h in cc)
    at false h = h
