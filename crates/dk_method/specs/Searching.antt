-- What a compass search keeps between two batches, and what that means.
use Rattle.std.specs.Prelude.{◌≡◌, ◌⊎◌, ℕ, ◌+◌, ◌-◌, ◌*◌, ◌^◌, ◌<◌, ◌≤◌, false, List, [], ◌∷◌, ◌++◌, length, map, Option, Some, None, ℤ, pos, ◌≤ℤ◌, unsigned_abs, int_lt}
use Rattle.std.specs.List.{All}
use Rattle.dk_num.specs.Decimal.{Decimal}
use Rattle.dk_num.specs.Units.{in_units}
use Rattle.dk_types.specs.declared.study.Study.{Study}
use Rattle.dk_types.specs.declared.study.Method.TheVariants as method
use Rattle.dk_types.specs.declared.rows.Row.{Row}
use Rattle.dk_types.specs.declared.planner.Plan.{Plan}
use Rattle.dk_types.specs.Search.{polls, Iterate, search, search_from}
use Rattle.dk_types.specs.Planned.{plan, rest, values_in}
use Rattle.dk_compass.specs.States.{iterate_of}
use Rattle.dk_compass.specs.declared.iterate.State.{State}
use Rattle.dk_method.specs.declared.search.Search.{Search}
use Rattle.dk_method.specs.declared.search.Terms.{Terms}

-- whatever values come behind those of the rows, the search goes on with them from the iterate; before the first value
-- there are no rows
abbrev pub GoesOnFrom : Study → Terms → (iterations : ℕ) → Option Iterate → List Row → Type 0
GoesOnFrom study terms iterations None rows = rows ≡ []
GoesOnFrom study terms iterations (Some at) rows = (more : List (List Decimal)) →
    search study.variables terms.delta terms.threshold terms.iterations terms.evaluations (values_in rows ++ more)
    ≡ search_from study.variables terms.threshold terms.evaluations (terms.iterations - iterations) (length rows) at more

-- the values of the rows lead to where the search stands
abbrev pub HasLed : Study → Search → List Row → Type 0
HasLed study s rows = GoesOnFrom study s.terms s.state.iteration (iterate_of s.state) rows

-- decimals of points
abbrev pub as_decimals : Study → List (List ℤ) → List (List Decimal)
as_decimals study points = map (map (in_units study.unit.exponent)) points

-- it begins: the initial point is or isn't handed out, and its value isn't known
pub record IsAtStart (study : Study) (before : ℕ) (s : Search) : Type 0 where
  pub before_is : before ≡ 0
  pub x : s.state.x ≡ study.variables.initial
  pub delta : s.state.delta ≡ s.terms.delta
  pub iteration : s.state.iteration ≡ 0
  pub handed : (s.polls.rows ≡ []) ⊎ (s.polls.rows ≡ as_decimals study (study.variables.initial ∷ []))

-- the polls of an iteration are handed out behind so many rows, and nothing ends the search before it
pub record IsUnderWay (study : Study) (before : ℕ) (s : Search) : Type 0 where
  pub handed : s.polls.rows ≡ as_decimals study (polls study.variables s.state.x s.state.delta)
  pub high : int_lt s.state.delta s.terms.threshold ≡ false
  pub left : s.state.iteration < s.terms.iterations
  pub room : before + length (polls study.variables s.state.x s.state.delta) ≤ s.terms.evaluations

-- which points are handed out
abbrev pub HandedOut : Study → (before : ℕ) → Search → Option Decimal → Type 0
HandedOut study before s None = IsAtStart study before s
HandedOut study before s (Some value) = (s.polls.rows ≡ []) ⊎ IsUnderWay study before s

-- where the search stands: each number is at most as far off as the iterations so far may have led
pub record IsStanding (study : Study) (terms : Terms) (state : State) : Type 0 where
  pub one_each : length state.x ≡ length study.variables.labels
  pub forward : pos 0 ≤ℤ state.delta
  pub step : unsigned_abs state.delta ≤ 10 ^ 29
  pub numbers : All (λ k. unsigned_abs k ≤ 10 ^ 29 + state.iteration * 10 ^ 29) state.x
  pub few : state.iteration ≤ terms.iterations

-- a search of the study behind so many rows, with room for the polls of an iteration
pub record IsSearching (study : Study) (before : ℕ) (s : Search) : Type 0 where
  pub terms : study.method ≡ method.Compass s.terms.delta s.terms.threshold s.terms.iterations s.terms.evaluations
  pub standing : IsStanding study s.terms s.state
  pub within : before ≤ s.terms.evaluations
  pub width : s.polls.width ≡ length study.variables.labels
  pub spare : length s.polls.rows + s.polls.spare ≡ 2 * length study.variables.labels
  pub values : length s.values.items ≡ 2 * length study.variables.labels
  pub handed_out : HandedOut study before s s.state.value

-- a search before its first batch
pub record IsBegun (study : Study) (terms : Terms) (s : Search) : Type 0 where
  pub terms_are : s.terms ≡ terms
  pub searching : IsSearching study 0 s
  pub no_value : s.state.value ≡ None
  pub no_polls : s.polls.rows ≡ []

-- the points handed out are the batch behind the rows, whose values led here
pub record Plans (study : Study) (rows : List Row) (s : Search) (answer : Plan) : Type 0 where
  pub led : HasLed study s rows
  pub batch : s.polls.rows ≡ rest study rows
  pub answer_is : answer ≡ plan study rows
