-- First elements of lists.
use Rattle.std.proofs.Common.{◌≡◌, List, [], ◌∷◌, ◌++◌, refl, ap}
use Rattle.std.specs.Prelude.{Some, None}
use Rattle.dk_words.specs.Lists.{first, IsFirst}

-- a list with no first element is empty
pub no_first : {X : Type 0} (xs : List X) → first xs ≡ None → xs ≡ []
no_first [] e = refl
no_first (x ∷ xs) e = absurd (cc)

-- what is the first element begins the list
pub some_first : {X : Type 0} (xs : List X) (x : X) → first xs ≡ Some x → IsFirst x xs
some_first [] x e = absurd (cc)
some_first (y ∷ ys) x e = let same : y ≡ x = cc in (ys, ap (λ z. z ∷ ys) same)

-- the first of a front is the first of the whole
pub first_of_front : {X : Type 0} (x : X) (xs ys : List X) → IsFirst x xs → IsFirst x (xs ++ ys)
first_of_front x xs ys (others, e) = (others ++ ys, ap (λ l. l ++ ys) e)
