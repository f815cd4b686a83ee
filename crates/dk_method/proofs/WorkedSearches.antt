-- Worked examples of the compass search, computed: two variables from (0, 0) on, with steps of 10 that may get as short as 5.
use Rattle.std.proofs.Common.{◌≡◌, ℕ, List, [], ◌∷◌, refl, Option, Some, None, pos, neg_ℤ, ℤ}
use Rattle.std.specs.Prelude.{codes}
use Rattle.dk_num.specs.Decimal.{Decimal}
use Rattle.dk_types.specs.declared.study.Variables.{Variables}
use Rattle.dk_types.specs.declared.study.Why.TheVariants.{Threshold, Iterations, Evaluations}
use Rattle.dk_types.specs.Search.{search, Found, Poll, Ends, first_least, polls}

-- a minus sign
abbrev back : ℕ → ℤ
back n = neg_ℤ (pos n)

abbrev at : ℤ → ℤ → List ℤ
at x y = x ∷ y ∷ []

-- variables within these bounds
abbrev within : Option (List ℤ) → Option (List ℤ) → Variables
within lower upper = record { labels = codes "x" ∷ codes "y" ∷ []; initial = at (pos 0) (pos 0); lower = lower; upper = upper }

abbrev wide : Variables
wide = within (Some (at (back 20) (back 20))) (Some (at (pos 20) (pos 20)))

-- the values of rows, whole numbers
abbrev values : List ℤ → List (List Decimal)
values [] = []
values (v ∷ vs) = (record { mantissa = v; exponent = pos 0 } ∷ []) ∷ values vs

-- what comes behind these values, with 100 iterations and 1000 evaluations
abbrev found : List ℤ → Found
found vs = search wide (pos 10) (pos 5) 100 1000 (values vs)

-- the initial point comes first, alone
first_is : found [] ≡ Poll (at (pos 0) (pos 0)) []
first_is = refl

-- then the polls: on and back along each variable
polls_are : found (pos 1 ∷ []) ≡ Poll (at (pos 10) (pos 0)) (at (back 10) (pos 0) ∷ at (pos 0) (pos 10) ∷ at (pos 0) (back 10) ∷ [])
polls_are = refl

-- one poll at a time gets its values
polls_go_on : found (pos 1 ∷ pos 0 ∷ pos 104 ∷ []) ≡ Poll (at (pos 0) (pos 10)) (at (pos 0) (back 10) ∷ [])
polls_go_on = refl

-- no poll is below: the step is halved
contracts : found (pos 1 ∷ pos 100 ∷ pos 104 ∷ pos 101 ∷ pos 101 ∷ [])
    ≡ Poll (at (pos 5) (pos 0)) (at (back 5) (pos 0) ∷ at (pos 0) (pos 5) ∷ at (pos 0) (back 5) ∷ [])
contracts = refl

-- a poll that ties with the iterate isn't below it
contracts_at_tie : found (pos 1 ∷ pos 1 ∷ pos 104 ∷ pos 101 ∷ pos 101 ∷ [])
    ≡ Poll (at (pos 5) (pos 0)) (at (back 5) (pos 0) ∷ at (pos 0) (pos 5) ∷ at (pos 0) (back 5) ∷ [])
contracts_at_tie = refl

-- the last poll is below: the search moves there, and the step stays
moves : found (pos 1 ∷ pos 100 ∷ pos 104 ∷ pos 101 ∷ pos 0 ∷ [])
    ≡ Poll (at (pos 10) (back 10)) (at (back 10) (back 10) ∷ at (pos 0) (pos 0) ∷ at (pos 0) (back 20) ∷ [])
moves = refl

-- of two least polls the first one is taken, though an earlier one is below the iterate too
takes_first : found (pos 9 ∷ pos 7 ∷ pos 3 ∷ pos 3 ∷ pos 8 ∷ [])
    ≡ Poll (at (pos 0) (pos 0)) (at (back 20) (pos 0) ∷ at (back 10) (pos 10) ∷ at (back 10) (back 10) ∷ [])
takes_first = refl

-- values below 0 are below those above
compares : first_least (values (pos 3 ∷ back 2 ∷ pos 1 ∷ back 2 ∷ [])) ≡ Some 1
compares = refl

-- at a bound there are fewer polls
keeps_bounds_given : search (within (Some (at (pos 0) (pos 0))) (Some (at (pos 20) (pos 20)))) (pos 10) (pos 5) 100 1000 (values (pos 1 ∷ []))
    ≡ Poll (at (pos 10) (pos 0)) (at (pos 0) (pos 10) ∷ [])
keeps_bounds_given = refl

-- with no bounds there are all of them, however long the step
has_no_bounds : polls (within None None) (at (pos 0) (pos 0)) (pos 30) ≡ at (pos 30) (pos 0) ∷ at (back 30) (pos 0) ∷ at (pos 0) (pos 30) ∷ at (pos 0) (back 30) ∷ []
has_no_bounds = refl

-- where all directions leave the bounds, the iteration has no polls, and contracts
has_no_polls : search (within (Some (at (back 8) (back 8))) (Some (at (pos 8) (pos 8)))) (pos 10) (pos 5) 100 1000 (values (pos 1 ∷ []))
    ≡ Poll (at (pos 5) (pos 0)) (at (back 5) (pos 0) ∷ at (pos 0) (pos 5) ∷ at (pos 0) (back 5) ∷ [])
has_no_polls = refl

-- the ends: the step is below the threshold, after two contractions
ends_by_threshold : found (pos 1 ∷ pos 100 ∷ pos 104 ∷ pos 101 ∷ pos 101 ∷ pos 2 ∷ pos 2 ∷ pos 2 ∷ pos 2 ∷ []) ≡ Ends Threshold
ends_by_threshold = refl

-- or from the beginning, even with no iteration left
ends_at_once : search wide (pos 10) (pos 20) 0 1000 (values (pos 1 ∷ [])) ≡ Ends Threshold
ends_at_once = refl

-- no iteration is left
ends_by_iterations : search wide (pos 10) (pos 5) 0 1000 (values (pos 1 ∷ [])) ≡ Ends Iterations
ends_by_iterations = refl

-- the polls of another iteration are more than the evaluations that are left; those of the first aren't
ends_by_evaluations : search wide (pos 10) (pos 5) 100 5 (values (pos 1 ∷ pos 100 ∷ pos 104 ∷ pos 101 ∷ pos 101 ∷ [])) ≡ Ends Evaluations
ends_by_evaluations = refl

fits_evaluations : search wide (pos 10) (pos 5) 100 5 (values (pos 1 ∷ [])) ≡ Poll (at (pos 10) (pos 0)) (at (back 10) (pos 0) ∷ at (pos 0) (pos 10) ∷ at (pos 0) (back 10) ∷ [])
fits_evaluations = refl

-- an odd step is halved rounded down
rounds_down : search wide (pos 5) (pos 1) 100 1000 (values (pos 1 ∷ pos 2 ∷ pos 2 ∷ pos 2 ∷ pos 2 ∷ []))
    ≡ Poll (at (pos 2) (pos 0)) (at (back 2) (pos 0) ∷ at (pos 0) (pos 2) ∷ at (pos 0) (back 2) ∷ [])
rounds_down = refl
