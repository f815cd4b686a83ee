-- What a planner keeps of a study and of the rows that it was given.
use Rattle.std.specs.Prelude.{◌≡◌, ℕ, ◌-◌, ◌≤◌, List, [], length, Option, Some, None, IfSome}
use Rattle.dk_num.specs.Decimal.{Decimal}
use Rattle.dk_types.specs.declared.study.Study.{Study}
use Rattle.dk_types.specs.declared.study.Method.{Method}
use Rattle.dk_types.specs.declared.study.Method.TheVariants as method
use Rattle.dk_types.specs.declared.rows.Row.{Row}
use Rattle.dk_types.specs.Points.{size}
use Rattle.dk_types.specs.Planned.{points_from, AnswersLast}
use Rattle.dk_method.specs.declared.search.Search.{Search}
use Rattle.dk_method.specs.Searching.{HasLed, IsSearching, IsBegun}

-- A study, and how many rows the plan was given last; of a study whose points are known from the beginning how many points
-- the batch behind them has; and the search of a compass search.
pub record PlanningState : Type 0 where
  pub study : Study
  pub before : ℕ
  pub count : ℕ
  pub search : Option Search

-- the points that a search handed out last
abbrev pub handed_out : Option Search → List (List Decimal)
handed_out None = []
handed_out (Some s) = s.polls.rows

-- the points of the last batch
abbrev pub batch_by : PlanningState → Method → List (List Decimal)
batch_by planned (method.Compass delta threshold iterations evaluations) = handed_out planned.search
batch_by planned _ = points_from planned.study planned.before planned.count

abbrev pub batch_of : PlanningState → List (List Decimal)
batch_of planned = batch_by planned planned.study.method

-- these may be the rows that the plan was given last: they are so many, and their values led to where its search stands
pub record WasGiven (planned : PlanningState) (rows : List Row) : Type 0 where
  pub count : length rows ≡ planned.before
  pub led : IfSome planned.search (λ s. HasLed planned.study s rows)

-- a plan of the study, of which no batch is handed out yet
pub record IsNew (study : Study) (planned : PlanningState) : Type 0 where
  pub study_is : planned.study ≡ study
  pub none : AnswersLast (WasGiven planned) (batch_of planned) []

-- the search that a study begins with
abbrev pub BeginsBy : Study → Option Search → Method → Type 0
BeginsBy study search (method.Compass delta threshold iterations evaluations) = (s : Search) × (search ≡ Some s) × IsBegun study (record { delta = delta; threshold = threshold; iterations = iterations; evaluations = evaluations }) s
BeginsBy study search _ = search ≡ None

-- a compass search has its search; each other study has none, and a batch of its points
abbrev pub PlansBy : PlanningState → Method → Type 0
PlansBy planned (method.Compass delta threshold iterations evaluations) =
    (s : Search) × (planned.search ≡ Some s) × IsSearching planned.study planned.before s
PlansBy planned _ = (planned.search ≡ None) × (planned.count ≤ size planned.study - planned.before)

-- such a study, and a batch of points that it has
pub record IsPlanningState (planned : PlanningState) : Type 0 where
  pub plans : PlansBy planned planned.study.method
