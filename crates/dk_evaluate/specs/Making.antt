-- What attempts do to a bench, and what is known of their outcomes. Where a bench doesn't tell nothing is known of them.
use Rattle.std.specs.Prelude.{◌≡◌, ◌⊎◌, ℕ, ◌+◌, List, [], ◌∷◌, ◌++◌, length, map, Option, IfSome}
use Rattle.std.specs.List.{All}
use Rattle.dk_num.specs.Decimal.{Decimal}
use Rattle.dk_outside.specs.declared.run.Run.{Run}
use Rattle.dk_outside.specs.Benches.{Contents, Leaves}
use Rattle.dk_types.specs.declared.study.Study.{Study}
use Rattle.dk_types.specs.declared.study.Driver.{Driver}
use Rattle.dk_types.specs.declared.study.Driver.TheVariants.{Direct, Fork}
use Rattle.dk_types.specs.declared.entry.Entry.{Entry}
use Rattle.dk_types.specs.declared.rows.Row.{Row}
use Rattle.dk_types.specs.Solo.{Seq, Open, rosenbrock_child}
use Rattle.dk_params.specs.declared.task.Task.{Task}
use Rattle.dk_params.specs.Params.{task_of}
use Rattle.dk_fork.specs.Allowed.{Allowed, IsAnswer}
use Rattle.dk_fork.specs.Runs.{run, run_of}
use Rattle.dk_fork.specs.Serving.{Stands}
use Rattle.dk_fork.specs.declared.serve.BenchStep.{BenchStep}
use Rattle.dk_fork.specs.declared.serve.BenchStep.TheVariants.{ClearBefore, Lay, Run as AtRun, Fetch, ClearAfter}

-- the entry says what the program's own function gives
abbrev pub IsOwn : Entry → Type 0
IsOwn e = e.said ≡ rosenbrock_child e.point e.attempt

-- Of one row

abbrev pub runs_in : Task → (row : ℕ) → List Entry → List Run
runs_in task row added = map (λ e. run_of task row e.point e.attempt) added

-- the child ran once for each of these, and each says what something that it may have left comes to
pub record HaveRun (leaves : Leaves) (task : Task) (row : ℕ) (added : List Entry) (was now : Contents) : Type 0 where
  pub runs : now.runs ≡ was.runs ++ runs_in task row added
  pub answers : All (λ e. IsAnswer leaves task row e.point e.attempt e.said) added

abbrev pub MakesBy : Driver → Leaves → Task → (row : ℕ) → (added : List Entry) → (old new : Option Contents) → Type 0
MakesBy Direct leaves task row added old new = (new ≡ old) × All IsOwn added
MakesBy (Fork words) leaves task row added old new = IfSome old (λ was. Stands new (HaveRun leaves task row added was))

-- these attempts of a row were made
abbrev pub Makes : Leaves → Task → (row : ℕ) → (added : List Entry) → (old new : Option Contents) → Type 0
Makes leaves task row added old new = MakesBy task.interface.driver leaves task row added old new

-- the run of an attempt that failed on its bench, by the call that failed
abbrev pub MayRun : BenchStep → Run → (was now : List Run) → Type 0
MayRun ClearBefore run was now = now ≡ was
MayRun Lay run was now = now ≡ was
MayRun AtRun run was now = (now ≡ was) ⊎ (now ≡ was ++ run ∷ [])
MayRun Fetch run was now = now ≡ was ++ run ∷ []
MayRun ClearAfter run was now = now ≡ was ++ run ∷ []

pub record HaveBroken (leaves : Leaves) (task : Task) (row : ℕ) (added : List Entry) (p : List Decimal) (attempt : ℕ) (step : BenchStep) (was now : Contents) : Type 0 where
  pub runs : MayRun step (run_of task row p attempt) (was.runs ++ runs_in task row added) now.runs
  pub answers : All (λ e. IsAnswer leaves task row e.point e.attempt e.said) added

abbrev pub BreaksBy : Driver → Leaves → Task → (row : ℕ) → (added : List Entry) → (p : List Decimal) → (attempt : ℕ) → BenchStep → (old new : Option Contents) → Type 0
BreaksBy Direct leaves task row added p attempt step old new = ⊥
BreaksBy (Fork words) leaves task row added p attempt step old new = IfSome old (λ was. Stands new (HaveBroken leaves task row added p attempt step was))

-- these attempts of a row were made, and one call of the next one's failed
abbrev pub Breaks : Leaves → Task → (row : ℕ) → (added : List Entry) → (p : List Decimal) → (attempt : ℕ) → BenchStep → (old new : Option Contents) → Type 0
Breaks leaves task row added p attempt step old new = BreaksBy task.interface.driver leaves task row added p attempt step old new

-- Of a study

-- the study waits for this attempt behind these entries, the child ran for it in the row that comes next, and its outcome is one
-- that the attempt may have there
pub record IsAccount (leaves : Leaves) (study : Study) (entries : List Entry) (e : Entry) (ran : Run) : Type 0 where
  pub rows : List Row
  pub waits : Seq study entries rows (Open e.point e.attempt)
  pub allowed : IsAnswer leaves (task_of study) (length rows + 1) e.point e.attempt e.said
  pub run_is : ran ≡ run study (length rows + 1) e.point e.attempt

-- each of these is such an attempt behind those before it, with its run
abbrev pub Accounts : Leaves → Study → (before added : List Entry) → List Run → Type 0
Accounts leaves study before [] runs = runs ≡ []
Accounts leaves study before (e ∷ added) [] = ⊥
Accounts leaves study before (e ∷ added) (ran ∷ runs) = IsAccount leaves study before e ran × Accounts leaves study (before ++ e ∷ []) added runs

pub record HaveAllRun (leaves : Leaves) (study : Study) (before added : List Entry) (was now : Contents) : Type 0 where
  pub records : List Run
  pub accounts : Accounts leaves study before added records
  pub runs : now.runs ≡ was.runs ++ records

abbrev pub AreMadeBy : Driver → Leaves → Study → (before added : List Entry) → (old new : Option Contents) → Type 0
AreMadeBy Direct leaves study before added old new = (new ≡ old) × All IsOwn added
AreMadeBy (Fork words) leaves study before added old new = IfSome old (λ was. Stands new (HaveAllRun leaves study before added was))

-- these attempts of a study were made
abbrev pub AreMade : Leaves → Study → (before added : List Entry) → (old new : Option Contents) → Type 0
AreMade leaves study before added old new = AreMadeBy study.interface.driver leaves study before added old new

pub record HaveAllBroken (leaves : Leaves) (study : Study) (before added : List Entry) (row : ℕ) (p : List Decimal) (attempt : ℕ) (step : BenchStep) (was now : Contents) : Type 0 where
  pub records : List Run
  pub accounts : Accounts leaves study before added records
  pub runs : MayRun step (run study row p attempt) (was.runs ++ records) now.runs

abbrev pub AreBrokenBy : Driver → Leaves → Study → (before added : List Entry) → (row : ℕ) → (p : List Decimal) → (attempt : ℕ) → BenchStep → (old new : Option Contents) → Type 0
AreBrokenBy Direct leaves study before added row p attempt step old new = ⊥
AreBrokenBy (Fork words) leaves study before added row p attempt step old new = IfSome old (λ was. Stands new (HaveAllBroken leaves study before added row p attempt step was))

-- these attempts of a study were made, and one call of the next one's failed
abbrev pub AreBroken : Leaves → Study → (before added : List Entry) → (row : ℕ) → (p : List Decimal) → (attempt : ℕ) → BenchStep → (old new : Option Contents) → Type 0
AreBroken leaves study before added row p attempt step old new = AreBrokenBy study.interface.driver leaves study before added row p attempt step old new
