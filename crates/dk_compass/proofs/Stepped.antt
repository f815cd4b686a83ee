-- What an iteration does, by the place of the poll that it moves to.
use Rattle.std.proofs.Common.{◌≡◌, ℕ, ◌/◌, ◌<◌, Bool, true, false, List, [], ◌∷◌, length, get_or, set, Option, Some, None, ap, sym, ◌∙◌, arith, ℤ, pos, ◌+ℤ◌, if◌then◌else◌}
use Rattle.std.specs.Prelude.{option_map, option_and_then, IsSome}
use Rattle.std.proofs.lemmas.List.{get_or-map, length-map}
use Rattle.dk_num.specs.Decimal.{Decimal}
use Rattle.dk_types.specs.declared.study.Variables.{Variables}
use Rattle.dk_types.specs.Best.{is_below}
use Rattle.dk_types.specs.Search.{poll_at, directions, polls, Iterate, contracted, first_least, moved_or_contracted, iterated}
use Rattle.dk_compass.specs.States.{single, below_at, better}
use Rattle.dk_compass.proofs.Sized.{way}

-- the iterate at this poll
abbrev at_poll : Iterate → (points : List (List ℤ)) → (values : List (List Decimal)) → ℕ → Iterate
at_poll at points values i = record { x = get_or points i []; values = get_or values i []; delta = at.delta }

-- a better poll is the next iterate
moves : (at : Iterate) (points : List (List ℤ)) (values : List (List Decimal)) (o : Option ℕ) (i : ℕ) → below_at values at.values o ≡ Some i → moved_or_contracted at points values o ≡ at_poll at points values i
moves at points values None i e = absurd (cc)
moves at points values (Some j) i e = by (is_below (get_or values j []) at.values) e
  where
    by : (b : Bool) → (if b then Some j else None) ≡ Some i → (if b then at_poll at points values j else contracted at) ≡ at_poll at points values i
    by true e = ap (at_poll at points values) (let same : j ≡ i = cc in same)
    by false e = absurd (cc)

-- the iterate of these parts, where its value is known
abbrev pub iterate_at : (x : List ℤ) → (value : Option Decimal) → (delta : ℤ) → Option Iterate
iterate_at x value delta = option_map (λ v. record { x = x; values = v ∷ []; delta = delta }) value

-- the poll at a place, by its direction
poll_is : (variables : Variables) (x : List ℤ) (delta : ℤ) (place direction : ℕ) (number : ℤ) → place < length (polls variables x delta) → direction ≡ get_or (directions variables x delta) place 0 →
    number ≡ get_or x (direction / 2) (pos 0) +ℤ way delta direction → set x (direction / 2) number ≡ get_or (polls variables x delta) place []
poll_is variables x delta place direction number within at is =
    let long : length (polls variables x delta) ≡ length (directions variables x delta) = length-map (directions variables x delta) (poll_at x delta) in
    ap (set x (direction / 2)) is ∙ ap (poll_at x delta) at ∙ sym (get_or-map (poll_at x delta) (directions variables x delta) place 0 [] (omega arith))

-- what is left behind a move to the poll in this direction is the next iterate
pub has_moved : (variables : Variables) (x : List ℤ) (value : Option Decimal) (delta : ℤ) (values : List Decimal) (place direction : ℕ) (number : ℤ) (v : Decimal) → IsSome value →
    option_and_then (λ v. better (single values) (v ∷ [])) value ≡ Some place → place < length values → length values ≡ length (polls variables x delta) →
    direction ≡ get_or (directions variables x delta) place 0 → number ≡ get_or x (direction / 2) (pos 0) +ℤ way delta direction → v ≡ get_or values place v →
    iterate_at (set x (direction / 2) number) (Some v) delta ≡ option_map (λ at. iterated at (polls variables x delta) (single values)) (iterate_at x value delta)
has_moved variables x None delta values place direction number v known better within all at is read = absurd (cc)
has_moved variables x (Some w) delta values place direction number v known better within all at is read =
    let point : set x (direction / 2) number ≡ get_or (polls variables x delta) place [] = poll_is variables x delta place direction number (omega arith) at is in
    let value : v ∷ [] ≡ get_or (single values) place [] = ap (λ (u : Decimal). u ∷ []) read ∙ sym (get_or-map (λ (u : Decimal). u ∷ []) values place v [] within) in
    let to : iterated (record { x = x; values = w ∷ []; delta = delta }) (polls variables x delta) (single values) ≡ record { x = get_or (polls variables x delta) place []; values = get_or (single values) place []; delta = delta }
    = moves (record { x = x; values = w ∷ []; delta = delta }) (polls variables x delta) (single values) (first_least (single values)) place better in
    ap (λ (p : List ℤ). Some (record { x = p; values = v ∷ []; delta = delta })) point
    ∙ ap (λ (l : List Decimal). Some (record { x = get_or (polls variables x delta) place []; values = l; delta = delta })) value
    ∙ sym (ap Some to)
