-- What a run makes of its restart file, of the book and of its bench, and why it stops over them.
use Rattle.std.specs.Prelude.{◌≡◌, ◌⊎◌, ℕ, ◌+◌, ◌*◌, ◌^◌, ◌<◌, ◌≤◌, List, [], ◌∷◌, ◌++◌, length, Option, Some, None, IfSome}
use Rattle.std.specs.List.{All}
use Rattle.dk_outside.specs.Causes.{Rose}
use Rattle.dk_outside.specs.declared.course.Course.{Course}
use Rattle.dk_outside.specs.declared.disk.Mode.{Mode}
use Rattle.dk_outside.specs.declared.disk.Mode.TheVariants.{Fresh}
use Rattle.dk_types.specs.declared.study.Study.{Study}
use Rattle.dk_types.specs.declared.study.Ending.{Ending}
use Rattle.dk_types.specs.declared.entry.Entry.{Entry}
use Rattle.dk_types.specs.declared.rows.Row.{Row}
use Rattle.dk_types.specs.Entries.{IsNextEntry, AreEntries}
use Rattle.dk_types.specs.Answers.{retries}
use Rattle.dk_types.specs.EntryLaws.{AreAnswersOf}
use Rattle.dk_types.specs.Solo.{Seq, Solo, Child, Ended, Open, rosenbrock_child}
use Rattle.dk_types.specs.declared.study.Driver.TheVariants.{Direct}
use Rattle.dk_num.specs.Decimal.{Decimal}
use Rattle.dk_outside.specs.Benches.{Leaves}
use Rattle.dk_fork.specs.Allowed.{IsSingleValued}
use Rattle.dk_fork.specs.declared.station.BenchFault.{BenchFault}
use Rattle.dk_book.specs.Books.{BookState}
use Rattle.dk_book.specs.Told.{StandsFor}
use Rattle.dk_record.specs.Files.{Stands, used}
use Rattle.dk_journal.specs.declared.fault.OpenFault.{OpenFault}
use Rattle.dk_journal.specs.declared.fault.OpenFault.TheVariants as opening
use Rattle.dk_journal.specs.Journals.{CoversTold}
use Rattle.dk_journal.specs.Openings.{CanOpen, OpensOverTold, RefusesTold}
use Rattle.dk_journal.specs.Sessions.{shape_of}
use Rattle.dk_evaluate.specs.Evaluated.{AreWaitedFor, LeavesWithin}
use Rattle.dk_evaluate.specs.Laws.{AreNew}
use Rattle.dk_runner.specs.Outsides.{Outside}
use Rattle.dk_runner.specs.Started.{Last, is_kept, is_torn, is_refused, is_lost, torn_of, unkept, TellsRuns, IsAllowed, AreOpen, Gains}
use Rattle.dk_runner.specs.Sessions.{GivesSessions, ReturnsSessions}

-- the most bytes that a restart file may have
abbrev pub most_bytes : ℕ
most_bytes = 2 ^ 28

-- the entries of before: those that the file stood for, where its disk tells, and none in a fresh one
pub record Stood (study : Study) (o : Outside) (before : List Entry) : Type 0 where
  pub fresh : o.mode ≡ Fresh → before ≡ []
  pub told : IfSome o.old (λ course. CanOpen o.mode (shape_of study) most_bytes course.now.bytes before)

-- why the last attempt isn't kept: the disk failed, or the file has no room, or a call of the bench failed
abbrev pub IsWhy : Study → Outside → List Entry → Last → Type 0
IsWhy study o entries is_kept = Unit {0}
IsWhy study o entries (is_torn e) = Rose o.before o.now
IsWhy study o entries (is_refused e) = most_bytes < used (shape_of study) (entries ++ e ∷ [])
IsWhy study o entries (is_lost row p attempt step) = Rose o.bench_before o.bench_now × ((rows : List Row) × (row ≡ length rows + 1) × Seq study entries rows (Open p attempt))

-- The file was opened over the entries of before, and these were appended, each where the study waited for it and with an
-- outcome that it may have in its row. What became of the last attempt is told apart: it may be none of these.
--
-- So no attempt of before is made again (`new`), nor one of a point that has its answer, as a duplicate's (`unanswered`); where the
-- study was decided before, none is made (`settled`); and the children that ran are those of the attempts that were made
-- (`gains`). The book has all that were appended. At each moment a crash leaves the entries of before and a front of those
-- behind, with which a later run goes on; and at the end it leaves all that the book has.
pub record Continues (leaves : Leaves) (study : Study) (o : Outside) (book : BookState) (before added : List Entry) (last : Last) : Type 0 where
  pub handed : o.book ≡ Some book
  pub stood : Stood study o before
  pub stands_for : StandsFor book (before ++ added)
  pub variables : book.variables ≡ length study.variables.labels
  pub responses : book.responses ≡ length study.responses.labels
  pub well_formed : AreEntries (length study.variables.labels) (length study.responses.labels) (before ++ (added ++ unkept last))
  pub waited_for : AreWaitedFor study before (added ++ unkept last)
  pub new : AreNew before (added ++ unkept last)
  pub unanswered : AreOpen study.interface.rule before (added ++ unkept last)
  pub settled : (rows : List Row) (ending : Ending) → Seq study before rows (Ended ending) → (added ≡ []) × (last ≡ is_kept)
  pub allowed : TellsRuns study.interface.driver o.bench_old → All (IsAllowed leaves study (before ++ added)) (added ++ unkept last)
  pub gains : Gains leaves study before added last o.bench_old o.bench_new
  pub cause : IsWhy study o (before ++ added) last
  pub covers : CoversTold (shape_of study) o.old o.new before (added ++ torn_of last)
  pub within : LeavesWithin (shape_of study) o.new (before ++ added) (torn_of last)
  pub sessions : GivesSessions study o.old o.new before (added ++ torn_of last)
  pub later : o.before ≤ o.now
  pub bench_later : o.bench_before ≤ o.bench_now

-- The file wasn't opened: it stands for what it stood for, also at each moment, no book is handed back, and no child ran.
pub record LeavesAlone (study : Study) (o : Outside) : Type 0 where
  pub handed : o.book ≡ None
  pub over : OpensOverTold (shape_of study) o.old o.new
  pub sessions : (before : List Entry) → IfSome o.old (λ course. Stands (shape_of study) course.now.bytes before) → GivesSessions study o.old o.new before []
  pub later : o.before ≤ o.now
  pub rests : o.bench_new ≡ o.bench_old

-- no rows and ending are those of the study by these entries
abbrev pub IsUndecided : Study → List Entry → Type 0
IsUndecided study entries = (rows : List Row) (ending : Ending) → Seq study entries rows (Ended ending) → ⊥

-- The study is decided by the entries of before and those that were appended. Where each attempt can have just one outcome, and
-- those of before have it, that is the study evaluated over this child alone: so it is the same for each chain of runs.
pub record IsDecided (leaves : Leaves) (study : Study) (o : Outside) (rows : List Row) (ending : Ending) : Type 0 where
  pub book : BookState
  pub before : List Entry
  pub added : List Entry
  pub continues : Continues leaves study o book before added is_kept
  pub decided : Seq study (before ++ added) rows (Ended ending)
  pub session : ReturnsSessions study o.old o.new before added (record { rows = rows; ending = ending })
  pub alone : (child : Child) → IsSingleValued leaves study child → TellsRuns study.interface.driver o.bench_old → AreAnswersOf child before → Solo study child [] rows ending
  pub own : study.interface.driver ≡ Direct → AreAnswersOf rosenbrock_child before → Solo study rosenbrock_child [] rows ending

-- the file is refused by the first test that fails
pub record IsRefusedFile (study : Study) (o : Outside) (fault : OpenFault) : Type 0 where
  pub alone : LeavesAlone study o
  pub refuses : RefusesTold o.mode (shape_of study) most_bytes o.old o.new fault

-- an append failed on the disk, and the study waits for its entry
pub record IsBroken (leaves : Leaves) (study : Study) (o : Outside) : Type 0 where
  pub book : BookState
  pub before : List Entry
  pub added : List Entry
  pub e : Entry
  pub continues : Continues leaves study o book before added (is_torn e)
  pub undecided : IsUndecided study (before ++ added)

-- the disk failed, while the file was opened or in an append
pub record IsDiskFault (leaves : Leaves) (study : Study) (o : Outside) : Type 0 where
  pub rose : Rose o.before o.now
  pub left : LeavesAlone study o ⊎ IsBroken leaves study o

-- the entry for which the study waits would make the file so long
pub record IsFull (leaves : Leaves) (study : Study) (o : Outside) (size : ℕ) : Type 0 where
  pub book : BookState
  pub before : List Entry
  pub added : List Entry
  pub e : Entry
  pub continues : Continues leaves study o book before added (is_refused e)
  pub next : IsNextEntry (length study.variables.labels) (length study.responses.labels) (before ++ added) e
  pub few : length added + 1 ≤ (retries study.interface.rule + 1) * study.limit
  pub size_is : size ≡ used (shape_of study) ((before ++ added) ++ e ∷ [])
  pub too_long : most_bytes < size
  pub waits : (rows : List Row) × Seq study (before ++ added) rows (Open e.point e.attempt)
  pub undecided : IsUndecided study (before ++ added)

-- a call of the first bench failed, in an attempt for which the study waits
pub record IsLost (leaves : Leaves) (study : Study) (o : Outside) (fault : BenchFault) : Type 0 where
  pub book : BookState
  pub before : List Entry
  pub added : List Entry
  pub row : ℕ
  pub point : List Decimal
  pub attempt : ℕ
  pub slot_is : fault.slot ≡ 0
  pub rose : Rose o.bench_before o.bench_now
  pub continues : Continues leaves study o book before added (is_lost row point attempt fault.step)
  pub undecided : IsUndecided study (before ++ added)

-- memory ran out before the first attempt
pub record IsOutOfMemory (leaves : Leaves) (study : Study) (o : Outside) : Type 0 where
  pub left : LeavesAlone study o ⊎ ((book : BookState) × (before : List Entry) × Continues leaves study o book before [] is_kept)

-- there is room in the file for each entry that the study can come to
abbrev pub HasRoom : Study → List Entry → Type 0
HasRoom study entries = used (shape_of study) entries + (retries study.interface.rule + 1) * study.limit * (18 * (length study.variables.labels + length study.responses.labels) + 6) ≤ most_bytes

-- why the file wasn't opened: the disk failed, or there was no memory, or a test failed
abbrev pub IsNotOpened : Study → Mode → (old new : Option Course) → (before now : ℕ) → OpenFault → Type 0
IsNotOpened study mode old new before now opening.Disk = Rose before now
IsNotOpened study mode old new before now opening.NoMemory = Unit {0}
IsNotOpened study mode old new before now fault = RefusesTold mode (shape_of study) most_bytes old new fault

-- the file is as it was, or was opened and gone on with
abbrev pub LeavesFile : Leaves → Study → Outside → Type 0
LeavesFile leaves study o = LeavesAlone study o ⊎ ((book : BookState) × (before : List Entry) × (added : List Entry) × (last : Last) × Continues leaves study o book before added last)

-- where no attempt is lost, torn or refused, the children that ran are those of the entries that were added, and no more
abbrev pub KeepsAll : Leaves → Study → Outside → Type 0
KeepsAll leaves study o = LeavesAlone study o ⊎ ((book : BookState) × (before : List Entry) × (added : List Entry) × Continues leaves study o book before added is_kept)
