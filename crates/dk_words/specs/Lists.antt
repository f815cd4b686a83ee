-- Lists of faults, of which the first counts.
use Rattle.std.specs.Prelude.{◌≡◌, Bool, List, [], ◌∷◌, ◌++◌, Option, if◌then◌else◌}
use Rattle.std.specs.List.{slice_get}

-- the first element, where there is one
abbrev pub first : {X : Type 0} → List X → Option X
first xs = slice_get xs 0

-- one element where a test holds
abbrev pub when : {X : Type 0} → Bool → X → List X
when b x = if b then x ∷ [] else []

-- the list begins with this element
abbrev pub IsFirst : {X : Type 0} → X → List X → Type 0
IsFirst {X} x xs = (others : List X) × (xs ≡ x ∷ others)

-- an element of a list, with those before it
pub record Place (X : Type 0) : Type 0 where
  pub before : List X
  pub here : X

-- the places of a list's end, where these elements stand before it
abbrev pub places_after : {X : Type 0} → List X → List X → List (Place X)
places_after before [] = []
places_after before (x ∷ xs) = record { before = before; here = x } ∷ places_after (before ++ x ∷ []) xs

-- each element at its place
abbrev pub places : {X : Type 0} → List X → List (Place X)
places xs = places_after [] xs
