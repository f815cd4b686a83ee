-- What a run has written, and why it ended so.
use Rattle.std.specs.Prelude.{◌≡◌, ◌⊎◌, ℕ, List, Option, Some, None, IfSome, IsTrue}
use Rattle.dk_outside.specs.Causes.{Rose}
use Rattle.dk_outside.specs.declared.course.Course.{Course}
use Rattle.dk_outside.specs.Benches.{Leaves}
use Rattle.dk_outside.specs.Sinks.{Held, Grows, GrowsByFront, with_more}
use Rattle.dk_types.specs.declared.study.Study.{Study}
use Rattle.dk_types.specs.declared.study.Driver.TheVariants.{Direct}
use Rattle.dk_types.specs.declared.study.Ending.{Ending}
use Rattle.dk_types.specs.declared.rows.Row.{Row}
use Rattle.dk_types.specs.declared.entry.Entry.{Entry}
use Rattle.dk_journal.specs.Openings.{CanOpen}
use Rattle.dk_journal.specs.Sessions.{shape_of}
use Rattle.dk_runner.specs.Outsides.{Outside}
use Rattle.dk_runner.specs.Restarts.{IsDecided, IsRefusedFile, IsDiskFault, IsFull, IsLost, HasRoom, most_bytes}
use Rattle.dk_words.specs.Words.{RunsIn}
use Rattle.dk_outside.specs.declared.disk.Mode.{Mode}
use Rattle.dk_types.specs.Texts.{table, summary}
use Rattle.dk_report.specs.Tables.{HasTable, HasFront}
use Rattle.dk_reader.specs.Reading.{Reads}
use Rattle.dk_runner.specs.Accepted.{Accepts, Refused}
use Rattle.dk_runner.specs.Lines.{status_of, is_decided as is_decided_status}
use Rattle.dk_runner.specs.declared.status.Status.{Status}
use Rattle.dk_runner.specs.declared.status.Status.TheVariants.{StudyRefused, RestartRefused, DiskFault, RestartFull, BenchFault, NoMemory}
use Rattle.dk_reader.specs.declared.fault.StudyFault.{StudyFault}

-- a study's text, its rows and its ending, where it is evaluated one point at a time by what the restart file has at the
-- end
pub record Evaluates (leaves : Leaves) (text : List ℕ) (o : Outside) (study : Study) (rows : List Row) (ending : Ending) : Type 0 where
  pub accepts : Accepts text study
  pub is_decided : IsDecided leaves study o rows ending

-- the table and the summary are written whole
pub record Written (leaves : Leaves) (text : List ℕ) (o : Outside) (status : Status) (table_old table_new out_old out_new : Option Held) : Type 0 where
  pub study : Study
  pub rows : List Row
  pub ending : Ending
  pub evaluates : Evaluates leaves text o study rows ending
  pub status_is : status ≡ status_of ending
  pub in_table : HasTable study (table study rows) table_old table_new
  pub in_out : Grows out_old out_new (summary study rows ending)

-- the table's sink failed: it holds what it held, or was begun and has taken a front of the table
pub record BreaksTable (leaves : Leaves) (text : List ℕ) (o : Outside) (old new : Option Held) : Type 0 where
  pub study : Study
  pub rows : List Row
  pub ending : Ending
  pub evaluates : Evaluates leaves text o study rows ending
  pub in_table : HasFront study (table study rows) old new

-- `out` failed: it has taken a front of the summary, and the table is written whole
pub record BreaksSummary (leaves : Leaves) (text : List ℕ) (o : Outside) (table_old table_new out_old out_new : Option Held) : Type 0 where
  pub study : Study
  pub rows : List Row
  pub ending : Ending
  pub evaluates : Evaluates leaves text o study rows ending
  pub in_table : HasTable study (table study rows) table_old table_new
  pub in_out : GrowsByFront out_old out_new (summary study rows ending)

-- the sink wasn't begun, and has taken some bytes more, or none
abbrev pub OnlyGrows : (old new : Option Held) → Type 0
OnlyGrows old new = IfSome old (λ held. (bytes : List ℕ) × (new ≡ Some (with_more held bytes)))

-- the text was taken, or, only where a count rose, a front of it
abbrev pub Says : (old new : Option Held) (before now : ℕ) → List ℕ → Type 0
Says old new before now text = Grows old new text ⊎ (Rose before now × GrowsByFront old new text)

-- where the text is refused the status says so, unless memory ran out
abbrev pub TellsRefusal : List ℕ → Status → Type 0
TellsRefusal text status = (fault : StudyFault) → Refused text fault → (status ≡ StudyRefused fault) ⊎ (status ≡ NoMemory)

-- the text's study can be run to its end: the disk tells of a file that can be opened, and that has room
pub record CanRun (text : List ℕ) (o : Outside) : Type 0 where
  pub study : Study
  pub accepts : Accepts text study
  pub course : Course
  pub tells : o.old ≡ Some course
  pub before : List Entry
  pub can_open : CanOpen o.mode (shape_of study) most_bytes course.now.bytes before
  pub has_room : HasRoom study before

-- the study was decided, unless memory ran out
abbrev pub EndsDecided : Status → Type 0
EndsDecided status = IsTrue (is_decided_status status) ⊎ (status ≡ NoMemory)

-- why the restart file wasn't opened, or an append failed
pub record TellsOver (text : List ℕ) (P : Study → Type 0) : Type 0 where
  pub study : Study
  pub accepts : Accepts text study
  pub is : P study

-- where the text says a study that asks for no table, this stands
abbrev pub WithoutTable : List ℕ → Type 0 → Type 0
WithoutTable text untouched = (study : Study) → Reads text study → study.table ≡ None → untouched

-- where the text says a study without a driver, this stands
abbrev pub WithoutDriver : List ℕ → Type 0 → Type 0
WithoutDriver text untouched = (study : Study) → Accepts text study → study.interface.driver ≡ Direct → untouched

-- in the mode in which the words open the restart file
abbrev pub InMode : List (List ℕ) → (Mode → Type 0) → Type 0
InMode words P = (mode : Mode) → RunsIn words mode → P mode

-- why a run of an accepted study stopped over its restart file or its bench
abbrev pub StopsOver : Leaves → List ℕ → Outside → Status → Type 0
StopsOver leaves text o (RestartRefused fault) = TellsOver text (λ study. IsRefusedFile study o fault)
StopsOver leaves text o DiskFault = TellsOver text (λ study. IsDiskFault leaves study o)
StopsOver leaves text o (RestartFull size) = TellsOver text (λ study. IsFull leaves study o size)
StopsOver leaves text o (BenchFault fault) = TellsOver text (λ study. IsLost leaves study o fault)
StopsOver leaves text o _ = Unit {0}
