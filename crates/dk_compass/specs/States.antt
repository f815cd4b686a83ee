-- What holds of a search between its iterations, and what an iteration does.
use Rattle.std.specs.Prelude.{◌≡◌, ℕ, ◌*◌, ◌^◌, ◌<◌, List, [], ◌∷◌, length, map, get_or, Option, Some, None, IfSome, option_map, if◌then◌else◌, ℤ, pos, ◌≤ℤ◌, unsigned_abs}
use Rattle.std.specs.List.{All}
use Rattle.dk_num.specs.Decimal.{Decimal}
use Rattle.dk_types.specs.declared.study.Variables.{Variables}
use Rattle.dk_types.specs.Best.{is_below}
use Rattle.dk_types.specs.Search.{poll_at, directions, Iterate, first_least}
use Rattle.dk_compass.specs.declared.iterate.State.{State}
use Rattle.dk_compass.specs.declared.iterate.Step.{Step}
use Rattle.dk_compass.specs.declared.iterate.Step.TheVariants.{Moved, Contracted}

-- a bound, where it is given, has one number for each variable
abbrev pub HasOneEach : (variables : ℕ) → Option (List ℤ) → Type 0
HasOneEach variables bound = IfSome bound (λ ks. length ks ≡ variables)

-- at most 34 digits
abbrev pub IsSmall : ℤ → Type 0
IsSmall k = unsigned_abs k < 10 ^ 34

-- the iterate and each bound that is given have one number for each variable, the step isn't negative, and the numbers
-- of all polls are small, also of those that leave the bounds
pub record IsSearchState (variables : Variables) (state : State) : Type 0 where
  pub one_each : length state.x ≡ length variables.labels
  pub lower : HasOneEach (length variables.labels) variables.lower
  pub upper : HasOneEach (length variables.labels) variables.upper
  pub forward : pos 0 ≤ℤ state.delta
  pub small : (direction : ℕ) → direction < 2 * length state.x → All IsSmall (poll_at state.x state.delta direction)

-- the iterate, where its value is known
abbrev pub iterate_of : State → Option Iterate
iterate_of state = option_map (λ v. record { x = state.x; values = v ∷ []; delta = state.delta }) state.value

-- the values of rows with one response
abbrev pub single : List Decimal → List (List Decimal)
single values = map (λ v. v ∷ []) values

-- this place, where the poll there is below the iterate
abbrev pub below_at : (values : List (List Decimal)) → (iterate : List Decimal) → Option ℕ → Option ℕ
below_at values iterate None = None
below_at values iterate (Some i) = if is_below (get_or values i []) iterate then Some i else None

-- the place of the poll that an iteration moves to: the first least one, where it is below the iterate
abbrev pub better : (values : List (List Decimal)) → (iterate : List Decimal) → Option ℕ
better values iterate = below_at values iterate (first_least values)

-- a move to the poll at this place tells the number that its direction has among all
abbrev pub step_to : (directions : List ℕ) → Option ℕ → Step
step_to directions None = Contracted
step_to directions (Some i) = Moved (get_or directions i 0)

abbrev pub step_of : Variables → Iterate → (values : List (List Decimal)) → Step
step_of variables at values = step_to (directions variables at.x at.delta) (better values at.values)
