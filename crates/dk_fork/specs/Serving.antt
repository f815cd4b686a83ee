-- What the calls of one attempt do to a bench.
use Rattle.std.specs.Prelude.{◌≡◌, ◌≢◌, ◌⊎◌, ℕ, Bool, true, false, List, [], ◌∷◌, ◌++◌, Option, Some, None, Result, Ok, Err, OnOk}
use Rattle.dk_outside.specs.declared.bench.Fetched.{Fetched}
use Rattle.dk_outside.specs.Benches.{Contents, Leaves, IsFetched}
use Rattle.dk_outside.specs.declared.run.Run.{Run}
use Rattle.dk_fork.specs.declared.serve.BenchStep.{BenchStep}
use Rattle.dk_fork.specs.declared.serve.BenchStep.TheVariants.{ClearBefore, Lay, Run as AtRun, Fetch, ClearAfter}

-- a bench tells, and what it tells is so
pub record Stands (held : Option Contents) (P : Contents → Type 0) : Type 0 where
  pub now : Contents
  pub told : held ≡ Some now
  pub is : P now

-- no files but the two of the run changed
abbrev pub KeepsOthers : Run → (old now : Contents) → Type 0
KeepsOthers run old now = (other : List ℕ) → other ≢ run.parameters → other ≢ run.results → now.file other ≡ old.file other

abbrev pub one_more : Contents → Run → List Run
one_more old run = old.runs ++ run ∷ []

-- with `file_save` both files stand as they were laid and left; without it they are gone
abbrev pub LeavesFiles : (save : Bool) → Run → (left : Option (List ℕ)) → Contents → Type 0
LeavesFiles true run left now = (now.file run.parameters ≡ Some run.bytes) × (now.file run.results ≡ left)
LeavesFiles false run left now = (now.file run.parameters ≡ None) × (now.file run.results ≡ None)

-- the child ran once, and what it left was fetched
pub record IsServed (leaves : Leaves) (save : Bool) (run : Run) (fetched : Fetched) (buffer : List ℕ) (old now : Contents) : Type 0 where
  pub runs : now.runs ≡ one_more old run
  pub left : Option (List ℕ)
  pub may : leaves run.bytes run.attempt left
  pub fetched_is : IsFetched left fetched buffer
  pub files : LeavesFiles save run left now
  pub others : KeepsOthers run old now

-- what stands where a call failed, by the step
abbrev pub IsBroken : BenchStep → (save : Bool) → Run → (old now : Contents) → Type 0
IsBroken ClearBefore save run old now = (now.runs ≡ old.runs) × ((other : List ℕ) → other ≢ run.results → now.file other ≡ old.file other)
IsBroken Lay save run old now = (now.runs ≡ old.runs) × (now.file run.results ≡ None) × KeepsOthers run old now
IsBroken AtRun save run old now = ((now.runs ≡ old.runs) ⊎ (now.runs ≡ one_more old run)) × (now.file run.parameters ≡ Some run.bytes) × KeepsOthers run old now
IsBroken Fetch save run old now = (now.runs ≡ one_more old run) × (now.file run.parameters ≡ Some run.bytes) × KeepsOthers run old now
IsBroken ClearAfter save run old now = (now.runs ≡ one_more old run) × (save ≡ false) × KeepsOthers run old now

abbrev pub Serves : Leaves → (save : Bool) → Run → Result Fetched BenchStep → (buffer : List ℕ) → (old : Contents) → Option Contents → Type 0
Serves leaves save run (Ok fetched) buffer old new = Stands new (IsServed leaves save run fetched buffer old)
Serves leaves save run (Err step) buffer old new = Stands new (IsBroken step save run old)

-- both files are gone, or at least one call failed; the runs and all other files stand
pub record AreCleared {E : Type 0} (parameters results : List ℕ) (result : Result (Unit {0}) E) (old now : Contents) : Type 0 where
  pub runs : now.runs ≡ old.runs
  pub others : (other : List ℕ) → other ≢ parameters → other ≢ results → now.file other ≡ old.file other
  pub gone : OnOk result ((now.file parameters ≡ None) × (now.file results ≡ None))

abbrev pub ClearsBoth : {E : Type 0} → (parameters results : List ℕ) → Result (Unit {0}) E → (old : Contents) → Option Contents → Type 0
ClearsBoth parameters results result old new = Stands new (AreCleared parameters results result old)
