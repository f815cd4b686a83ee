-- One token more before the place.
use Rattle.std.proofs.Common.{◌≡◌, suc, ◌+◌, Bool, true, false, not, List, [], ◌∷◌, ◌++◌, refl, arith, append-nil}
use Rattle.std.specs.Prelude.{Option, Some, None, reverse, if◌then◌else◌}
use Rattle.std.specs.List.{filter_map, take_while, prefix_len}
use Rattle.std.proofs.lemmas.List.{reverse-append}
use Rattle.std.proofs.lemmas.List.Elements.{filter_map-append}
use Rattle.dk_grammar.specs.Lists.{last, behind_last, places_after}

-- the last of a list with one element more
pub last-push : {X : Type 0} (xs : List X) (x : X) → last (xs ++ x ∷ []) ≡ Some x
last-push xs x = rw (reverse-append xs (x ∷ [])) refl

-- where it gives something, it is the last that does
pub last-push_some : {X Y : Type 0} (f : X → Option Y) (xs : List X) (x : X) (y : Y) → f x ≡ Some y → last (filter_map f (xs ++ x ∷ [])) ≡ Some y
last-push_some f xs x y e = rw (filter_map-append f xs (x ∷ []), e) (last-push (filter_map f xs) y)

-- where it gives nothing, the last stays
pub last-push_none : {X Y : Type 0} (f : X → Option Y) (xs : List X) (x : X) → f x ≡ None → last (filter_map f (xs ++ x ∷ [])) ≡ last (filter_map f xs)
last-push_none f xs x e = rw (filter_map-append f xs (x ∷ []), e, append-nil (filter_map f xs)) refl

-- the places of what is left go on from one token more
pub places-next : {X : Type 0} (before : List X) (x : X) (xs : List X) → places_after before (x ∷ xs) ≡ record { before = before; here = x; after = xs } ∷ places_after (before ++ x ∷ []) xs
places-next before x xs = refl

take_while-cons : {X : Type 0} (p : X → Bool) (x : X) (xs : List X) (b : Bool) → p x ≡ b → take_while p (x ∷ xs) ≡ (if b then x ∷ take_while p xs else [])
take_while-cons p x xs true e = let one : 1 + prefix_len p xs ≡ suc (prefix_len p xs) = omega arith in rw (e, one) refl
take_while-cons p x xs false e = rw e refl

-- behind one that passes there is nothing
pub behind_last-opens : {X : Type 0} (p : X → Bool) (xs : List X) (x : X) → p x ≡ true → behind_last p (xs ++ x ∷ []) ≡ []
behind_last-opens p xs x e = rw (reverse-append xs (x ∷ []), take_while-cons (λ y. not (p y)) x (reverse xs) false (rw e refl)) refl

-- one that doesn't pass joins those behind the last that does
pub behind_last-more : {X : Type 0} (p : X → Bool) (xs : List X) (x : X) → p x ≡ false → behind_last p (xs ++ x ∷ []) ≡ behind_last p xs ++ x ∷ []
behind_last-more p xs x e = rw (reverse-append xs (x ∷ []), take_while-cons (λ y. not (p y)) x (reverse xs) true (rw e refl)) (reverse-append (x ∷ []) (take_while (λ y. not (p y)) (reverse xs)))
