-- Compass search: what comes next, by the values so far (Kolda, Lewis and Torczon, "Optimization by Direct Search: New
-- Perspectives on Some Classical and Modern Methods", SIAM Review 45, 2003, section 3, "Compass search"). That paper leaves
-- open in which order polls are made and which of those below the iterate is taken: here all polls of an iteration are
-- made, and the first least one is taken. Bounds and the limits of iterations and evaluations are our own.
use Rattle.std.specs.Prelude.{ℕ, zero, suc, ◌+◌, ◌*◌, ◌/◌, ◌%◌, ◌==◌, Bool, true, not, ◌&&◌, List, [], ◌∷◌, length, map, zip, take, drop, set, get_or, position, Option, Some, None, if◌then◌else◌, nat_lt, ℤ, pos, neg_ℤ, ◌+ℤ◌, int_lt, int_le, int_div}
use Rattle.std.specs.List.{filter, list_all, range_with_len}
use Rattle.dk_num.specs.Decimal.{Decimal}
use Rattle.dk_types.specs.declared.study.Variables.{Variables}
use Rattle.dk_types.specs.declared.study.Why.{Why}
use Rattle.dk_types.specs.declared.study.Why.TheVariants.{Threshold, Iterations, Evaluations}
use Rattle.dk_types.specs.Best.{is_below}

-- The 2n directions are numbered from 0: on along the first variable, back along it, on along the second, and so on. The
-- point that lies so far from x in this direction:
abbrev pub poll_at : (x : List ℤ) → (delta : ℤ) → (direction : ℕ) → List ℤ
poll_at x delta direction =
    set x (direction / 2) (get_or x (direction / 2) (pos 0) +ℤ (if direction % 2 == 0 then delta else neg_ℤ delta))

-- a point keeps the bounds that are given
abbrev pub keeps_lower : Option (List ℤ) → List ℤ → Bool
keeps_lower None q = true
keeps_lower (Some lower) q = list_all (λ c. int_le c.0 c.1) (zip lower q)

abbrev pub keeps_upper : Option (List ℤ) → List ℤ → Bool
keeps_upper None q = true
keeps_upper (Some upper) q = list_all (λ c. int_le c.0 c.1) (zip q upper)

abbrev pub keeps_bounds : Variables → List ℤ → Bool
keeps_bounds variables q = keeps_lower variables.lower q && keeps_upper variables.upper q

-- the directions in which the bounds are kept, in order; each has the number that it has among all
abbrev pub directions : Variables → (x : List ℤ) → (delta : ℤ) → List ℕ
directions variables x delta = filter (λ d. keeps_bounds variables (poll_at x delta d)) (range_with_len 0 (2 * length x))

-- the points of an iteration
abbrev pub polls : Variables → (x : List ℤ) → (delta : ℤ) → List (List ℤ)
polls variables x delta = map (poll_at x delta) (directions variables x delta)

-- where a search stands: its best point so far, the values there, and how long a step is
pub record Iterate : Type 0 where
  pub x : List ℤ
  pub values : List Decimal
  pub delta : ℤ

-- the step is halved, rounded down
abbrev pub contracted : Iterate → Iterate
contracted at = record { x = at.x; values = at.values; delta = int_div at.delta (pos 2) }

-- where the first poll stands that no other one is below; none where there are no polls
abbrev pub first_least : List (List Decimal) → Option ℕ
first_least values = position (λ v. list_all (λ other. not (is_below other v)) values) values

-- the iteration moves to the poll at this place where it is below the iterate; else it contracts
abbrev pub moved_or_contracted : Iterate → (points : List (List ℤ)) → (values : List (List Decimal)) → Option ℕ → Iterate
moved_or_contracted at points values None = contracted at
moved_or_contracted at points values (Some i) =
    if is_below (get_or values i []) at.values then record { x = get_or points i []; values = get_or values i []; delta = at.delta } else contracted at

-- the iterate behind an iteration with these polls and their values
abbrev pub iterated : Iterate → (points : List (List ℤ)) → (values : List (List Decimal)) → Iterate
iterated at points values = moved_or_contracted at points values (first_least values)

-- what comes next: a point, and behind it those of the same batch; or the end
pub data Found : Type 0 where
  Poll : (point : List ℤ) → (behind : List (List ℤ)) → Found
  Ends : Why → Found

-- the polls that have no values yet; where there are none, what comes behind the iteration
abbrev pub unless_polls_wait : List (List ℤ) → (next : Found) → Found
unless_polls_wait [] next = next
unless_polls_wait (point ∷ behind) next = Poll point behind

-- From an iterate on, with so many iterations left and so many rows before these values, where each iteration begins:
-- the step is below the threshold; the iterations are used up; rows and polls together are more than the evaluations;
-- a poll has no values yet; or the iteration is done, and the next one begins.
abbrev pub search_from : Variables → (threshold : ℤ) → (evaluations left rows : ℕ) → Iterate → List (List Decimal) → Found
search_from variables threshold evaluations zero rows at values = if int_lt at.delta threshold then Ends Threshold else Ends Iterations
search_from variables threshold evaluations (suc left) rows at values =
    if int_lt at.delta threshold then Ends Threshold
    else if nat_lt evaluations (rows + length (polls variables at.x at.delta)) then Ends Evaluations
    else unless_polls_wait (drop (length values) (polls variables at.x at.delta))
    (search_from variables threshold evaluations left (rows + length (polls variables at.x at.delta))
    (iterated at (polls variables at.x at.delta) (take (length (polls variables at.x at.delta)) values))
    (drop (length (polls variables at.x at.delta)) values))

-- the search by the values of its rows so far: the first row is that of the initial point
abbrev pub search : Variables → (delta threshold : ℤ) → (iterations evaluations : ℕ) → List (List Decimal) → Found
search variables delta threshold iterations evaluations [] = Poll variables.initial []
search variables delta threshold iterations evaluations (v ∷ values) =
    search_from variables threshold evaluations iterations 1 (record { x = variables.initial; values = v; delta = delta }) values
