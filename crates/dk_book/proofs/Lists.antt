-- Lists with one element more, and where the first element stands that passes a test.
use Rattle.std.proofs.Common.{◌≡◌, ℕ, zero, suc, ◌+◌, ◌<◌, Bool, true, false, not, List, [], ◌∷◌, ◌++◌, length, Some, None, refl, ap, ◌∙◌, arith, cond, nat_lt, length-append}
use Rattle.std.specs.Prelude.{position, slice_get}
use Rattle.std.specs.List.{position_or_len}
use Rattle.std.proofs.lemmas.Bool.{lt-ltb, le-ltb, ltb-true, ltb-false, eq-eqb, ne_eqb}
use Rattle.std.proofs.lemmas.List.Folds.{position_or_len_push}
use Rattle.std.proofs.lemmas.List.Sums.{prefix_len-le-length}

-- the elements that were there
pub item_kept : {A : Type 0} (xs : List A) (y : A) (i : ℕ) → i < length xs → slice_get (xs ++ y ∷ []) i ≡ slice_get xs i
item_kept [] y i h = absurd (omega arith)
item_kept (x ∷ xs) y zero h = refl
item_kept (x ∷ xs) y (suc i) h = item_kept xs y i (omega arith)

-- the new one
pub item_last : {A : Type 0} (xs : List A) (y : A) → slice_get (xs ++ y ∷ []) (length xs) ≡ Some y
item_last [] y = refl
item_last (x ∷ xs) y = item_last xs y

-- what was found is found
pub place_kept : {A : Type 0} (f : A → Bool) (xs : List A) (y : A) (k : ℕ) → position f xs ≡ Some k → position f (xs ++ y ∷ []) ≡ Some k
place_kept f xs y k h = at (nat_lt (position_or_len f xs) (length xs)) refl h
  where
    at : (t : Bool) → nat_lt (position_or_len f xs) (length xs) ≡ t → cond t (Some (position_or_len f xs)) None ≡ Some k → position f (xs ++ y ∷ []) ≡ Some k
    at false e g = absurd (cc)
    at true e g =
        let l = ltb-true (position_or_len f xs) (length xs) e in
        let n : position_or_len f xs ≡ k = cc in
        let p : position_or_len f (xs ++ y ∷ []) ≡ position_or_len f xs
        = position_or_len_push f xs y ∙ ap (λ t. cond t (length xs + cond (f y) 0 1) (position_or_len f xs)) (ne_eqb (position_or_len f xs) (length xs) (λ e. omega arith)) in
        let long = length-append xs (y ∷ []) in
        ap (λ m. cond (nat_lt m (length (xs ++ y ∷ []))) (Some m) None) p
        ∙ ap (λ t. cond t (Some (position_or_len f xs)) None) (lt-ltb (position_or_len f xs) (length (xs ++ y ∷ [])) (omega arith)) ∙ ap Some n

pub none_first : {A : Type 0} (f : A → Bool) (xs : List A) → position f xs ≡ None → position_or_len f xs ≡ length xs
none_first f xs e = at (nat_lt (position_or_len f xs) (length xs)) refl e
  where
    at : (t : Bool) → nat_lt (position_or_len f xs) (length xs) ≡ t → cond t (Some (position_or_len f xs)) None ≡ None → position_or_len f xs ≡ length xs
    at true h e = absurd (cc)
    at false h e = omega (arith, ltb-false (position_or_len f xs) (length xs) h, prefix_len-le-length (λ x. not (f x)) xs)

-- where none passes, the new one is the first that may
pub behind_none : {A : Type 0} (f : A → Bool) (xs : List A) (y : A) (t : Bool) → f y ≡ t → position f xs ≡ None → position f (xs ++ y ∷ []) ≡ cond t (Some (length xs)) None
behind_none f xs y t passes none =
    let first : position_or_len f (xs ++ y ∷ []) ≡ length xs + cond t 0 1
    = position_or_len_push f xs y
    ∙ ap (λ b. cond b (length xs + cond (f y) 0 1) (position_or_len f xs)) (eq-eqb (position_or_len f xs) (length xs) (none_first f xs none))
    ∙ ap (λ b. length xs + cond b 0 1) passes in
    ap (λ n. cond (nat_lt n (length (xs ++ y ∷ []))) (Some n) None) first ∙ at t
  where
    long : length (xs ++ y ∷ []) ≡ length xs + 1
    long = length-append xs (y ∷ [])

    at : (t : Bool) → cond (nat_lt (length xs + cond t 0 1) (length (xs ++ y ∷ []))) (Some (length xs + cond t 0 1)) None ≡ cond t (Some (length xs)) None
    at true =
        let l = long in
        ap (λ b. cond b (Some (length xs + 0)) None) (lt-ltb (length xs + 0) (length (xs ++ y ∷ [])) (omega arith)) ∙ ap Some (let e : length xs + 0 ≡ length xs = omega arith in e)
    at false =
        let l = long in
        ap (λ b. cond b (Some (length xs + 1)) None) (le-ltb (length xs + 1) (length (xs ++ y ∷ [])) (omega arith))
