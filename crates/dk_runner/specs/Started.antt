-- What a run does on its bench, and what became of the last attempt for which its study waited.
use Rattle.std.specs.Prelude.{◌≡◌, ℕ, ◌+◌, ◌≤◌, List, [], ◌∷◌, ◌++◌, length, Option, Some, None, IfSome}
use Rattle.std.specs.List.{All}
use Rattle.dk_num.specs.Decimal.{Decimal}
use Rattle.dk_outside.specs.declared.run.Run.{Run}
use Rattle.dk_outside.specs.Benches.{Contents, Leaves}
use Rattle.dk_types.specs.declared.study.Study.{Study}
use Rattle.dk_types.specs.declared.study.Driver.{Driver}
use Rattle.dk_types.specs.declared.study.Driver.TheVariants.{Direct, Fork}
use Rattle.dk_types.specs.declared.study.FailRule.{FailRule}
use Rattle.dk_types.specs.declared.entry.Entry.{Entry}
use Rattle.dk_types.specs.declared.rows.Row.{Row}
use Rattle.dk_types.specs.Answers.{Next, answer}
use Rattle.dk_types.specs.Entries.{said}
use Rattle.dk_types.specs.Sheets.{IsPlace}
use Rattle.dk_types.specs.Solo.{Seq, Open}
use Rattle.dk_fork.specs.Allowed.{Allowed}
use Rattle.dk_fork.specs.Runs.{run}
use Rattle.dk_fork.specs.Serving.{Stands}
use Rattle.dk_fork.specs.declared.serve.BenchStep.{BenchStep}
use Rattle.dk_fork.specs.declared.serve.BenchStep.TheVariants.{ClearBefore, Lay, Run as AtRun, Fetch, ClearAfter}
use Rattle.dk_evaluate.specs.Making.{Accounts}

-- What became of the last attempt for which the study waited: it is kept, as those before it; it was made, and the disk failed
-- while it was appended; it was made, and the file has no room for it; or a call of its bench failed.
pub data Last : Type 0 where
  is_kept : Last
  is_torn : Entry → Last
  is_refused : Entry → Last
  is_lost : (row : ℕ) → (point : List Decimal) → (attempt : ℕ) → BenchStep → Last

-- the attempt that the file may have beside those that were appended
abbrev pub torn_of : Last → List Entry
torn_of (is_torn e) = e ∷ []
torn_of _ = []

-- the attempt that was made and isn't kept
abbrev pub unkept : Last → List Entry
unkept (is_torn e) = e ∷ []
unkept (is_refused e) = e ∷ []
unkept _ = []

-- the bench tells of its runs, or none is used
abbrev pub TellsRuns : Driver → Option Contents → Type 0
TellsRuns Direct held = Unit {0}
TellsRuns (Fork words) None = ⊥
TellsRuns (Fork words) (Some contents) = Unit {0}

-- the outcome is one that the attempt may have in the row that is its point's place in the sheet
pub record IsAllowed (leaves : Leaves) (study : Study) (entries : List Entry) (e : Entry) : Type 0 where
  pub row : ℕ
  pub place : IsPlace study entries e.point row
  pub allowed : Allowed leaves study row e.point e.attempt e.said

-- Each of these was made where its point had no answer by those before it. So a point that has its answer, as that of a
-- duplicate, starts nothing.
abbrev pub AreOpen : FailRule → (before made : List Entry) → Type 0
AreOpen rule before [] = Unit {0}
AreOpen rule before (e ∷ made) = (answer rule before e.point ≡ Next e.attempt) × AreOpen rule (before ++ e ∷ []) made

-- the run of an attempt that none of the entries is, and for which the study waits behind them
pub record IsExtra (study : Study) (entries : List Entry) (ran : Run) : Type 0 where
  pub rows : List Row
  pub point : List Decimal
  pub attempt : ℕ
  pub waits : Seq study entries rows (Open point attempt)
  pub new : said entries point attempt ≡ None
  pub run_is : ran ≡ run study (length rows + 1) point attempt

-- how many such runs there are
abbrev pub AreExtra : Last → ℕ → Type 0
AreExtra is_kept count = count ≡ 0
AreExtra (is_torn e) count = count ≡ 1
AreExtra (is_refused e) count = count ≡ 1
AreExtra (is_lost row p attempt ClearBefore) count = count ≡ 0
AreExtra (is_lost row p attempt Lay) count = count ≡ 0
AreExtra (is_lost row p attempt AtRun) count = count ≤ 1
AreExtra (is_lost row p attempt Fetch) count = count ≡ 1
AreExtra (is_lost row p attempt ClearAfter) count = count ≡ 1

-- a bench gained the runs of the entries that were added, in their order, and behind them at most an extra one
pub record HasGained (leaves : Leaves) (study : Study) (before added : List Entry) (last : Last) (was now : Contents) : Type 0 where
  pub records : List Run
  pub extra : List Run
  pub accounts : Accounts leaves study before added records
  pub runs : now.runs ≡ was.runs ++ (records ++ extra)
  pub few : AreExtra last (length extra)
  pub extras : All (IsExtra study (before ++ added)) extra

-- the same, where there is a driver and its bench tells; without one the bench is as it was
abbrev pub GainsBy : Driver → Leaves → Study → (before added : List Entry) → Last → (old new : Option Contents) → Type 0
GainsBy Direct leaves study before added last old new = new ≡ old
GainsBy (Fork words) leaves study before added last old new = IfSome old (λ was. Stands new (HasGained leaves study before added last was))

abbrev pub Gains : Leaves → Study → (before added : List Entry) → Last → (old new : Option Contents) → Type 0
Gains leaves study before added last old new = GainsBy study.interface.driver leaves study before added last old new
