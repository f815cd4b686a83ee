-- How a run ends, status by status. The clauses of the top call follow from it.
use Rattle.std.specs.Prelude.{◌≡◌, ◌⊎◌, ℕ, List, Option, None, IfSome}
use Rattle.dk_outside.specs.Causes.{Rose}
use Rattle.dk_outside.specs.Sinks.{Held, Grows, GrowsByFront}
use Rattle.dk_outside.specs.Benches.{Leaves}
use Rattle.dk_types.specs.declared.study.Study.{Study}
use Rattle.dk_types.specs.declared.study.Ending.{Ending}
use Rattle.dk_types.specs.declared.rows.Row.{Row}
use Rattle.dk_types.specs.Texts.{table, summary}
use Rattle.dk_words.specs.Words.{IsFor}
use Rattle.dk_runner.specs.Causes.{IsCause}
use Rattle.dk_evaluate.specs.declared.evaluation.Verdict.{Verdict}
use Rattle.dk_evaluate.specs.declared.evaluation.Verdict.TheVariants.{Decided, Stopped}
use Rattle.dk_runner.specs.Lines.{line, status_of, status_of_stop}
use Rattle.dk_report.specs.Tables.{HasTable, HasFront}
use Rattle.dk_runner.specs.Outsides.{Outside}
use Rattle.dk_runner.specs.Restarts.{IsDecided, IsRefusedFile, IsDiskFault, IsFull, IsLost, IsOutOfMemory}
use Rattle.dk_runner.specs.Headline.{Written, BreaksTable, BreaksSummary, Says, TellsOver}
use Rattle.dk_runner.specs.declared.status.Status.{Status}
use Rattle.dk_runner.specs.declared.status.Status.TheVariants.{Finished, Aborted, RestartRefused, DiskFault, RestartFull, BenchFault, SinkFault, NoMemory}
use Rattle.dk_words.specs.declared.purpose.Purpose.TheVariants.{Run}
use Rattle.dk_runner.specs.declared.status.Which.TheVariants.{Table, Out}

-- how the summary of a decided study was written
abbrev pub Summarizes : Study → List Row → Ending → (out_old out_new : Option Held) (before now : ℕ) → Status → Type 0
Summarizes study rows ending out_old out_new before now Finished = (Finished ≡ status_of ending) × Grows out_old out_new (summary study rows ending)
Summarizes study rows ending out_old out_new before now Aborted = (Aborted ≡ status_of ending) × Grows out_old out_new (summary study rows ending)
Summarizes study rows ending out_old out_new before now (SinkFault Out) = Rose before now × GrowsByFront out_old out_new (summary study rows ending)
Summarizes study rows ending out_old out_new before now _ = ⊥

-- how both texts of a decided study were written
abbrev pub Reports : Study → List Row → Ending → (table_old table_new : Option Held) (table_before table_now : ℕ) (out_old out_new : Option Held) (out_before out_now : ℕ) → Status → Type 0
Reports study rows ending table_old table_new table_before table_now out_old out_new out_before out_now (SinkFault Table) =
    Rose table_before table_now × HasFront study (table study rows) table_old table_new × Says out_old out_new out_before out_now (line (SinkFault Table))
Reports study rows ending table_old table_new table_before table_now out_old out_new out_before out_now status =
    HasTable study (table study rows) table_old table_new × Summarizes study rows ending out_old out_new out_before out_now status

-- the words, and what the source and the sinks hold and count before and after
pub record Scene : Type 0 where
  pub words : List (List ℕ)
  pub left : Option (List ℕ)
  pub source_before : ℕ
  pub source_now : ℕ
  pub table_old : Option Held
  pub table_new : Option Held
  pub table_before : ℕ
  pub table_now : ℕ
  pub out_old : Option Held
  pub out_new : Option Held
  pub out_before : ℕ
  pub out_now : ℕ

abbrev pub scene : List (List ℕ) → Option (List ℕ) → ℕ → ℕ → Option Held → Option Held → ℕ → ℕ → Option Held → Option Held → ℕ → ℕ → Scene
scene words left source_before source_now table_old table_new table_before table_now out_old out_new out_before out_now = record {
  words = words;
  left = left;
  source_before = source_before;
  source_now = source_now;
  table_old = table_old;
  table_new = table_new;
  table_before = table_before;
  table_now = table_now;
  out_old = out_old;
  out_new = out_new;
  out_before = out_before;
  out_now = out_now;
}

abbrev pub SaysLine : Scene → Status → Type 0
SaysLine s status = Says s.out_old s.out_new s.out_before s.out_now (line status)

-- a run that ends before its study is accepted: the table and the restart file stay as they are
abbrev pub EndsEarly : Scene → (untouched : Type 0) → Status → Type 0
EndsEarly s untouched status = IsCause Run s.words s.left s.source_before s.source_now status × untouched × SaysLine s status

-- a run of an accepted study that ends before the study is decided: the table stays as it is
abbrev pub StopsEarly : Scene → (untouched : Type 0) → Status → (why : Study → Type 0) → Type 0
StopsEarly s untouched status why = IsFor Run s.words × untouched × SaysLine s status × IfSome s.left (λ text. TellsOver text why)

-- why a run of an accepted study stopped over its restart file or its bench
abbrev pub IsStop : Leaves → Study → Outside → Status → Type 0
IsStop leaves study o (RestartRefused fault) = IsRefusedFile study o fault
IsStop leaves study o DiskFault = IsDiskFault leaves study o
IsStop leaves study o (RestartFull size) = IsFull leaves study o size
IsStop leaves study o (BenchFault fault) = IsLost leaves study o fault
IsStop leaves study o NoMemory = IsOutOfMemory leaves study o
IsStop leaves study o _ = ⊥

-- how a run ended: its table is as it was (`untouched`), and its restart file and its benches (`uncalled`)
abbrev pub EndsSo : Leaves → Scene → Outside → (untouched uncalled : Type 0) → Status → Type 0
EndsSo leaves s o untouched uncalled Finished = IsFor Run s.words × IfSome s.left (λ text. Written leaves text o Finished s.table_old s.table_new s.out_old s.out_new)
EndsSo leaves s o untouched uncalled Aborted = IsFor Run s.words × IfSome s.left (λ text. Written leaves text o Aborted s.table_old s.table_new s.out_old s.out_new)
EndsSo leaves s o untouched uncalled (SinkFault Table) = IsFor Run s.words × Rose s.table_before s.table_now × IfSome s.left (λ text. BreaksTable leaves text o s.table_old s.table_new) × SaysLine s (SinkFault Table)
EndsSo leaves s o untouched uncalled (SinkFault Out) = IsFor Run s.words × Rose s.out_before s.out_now × IfSome s.left (λ text. BreaksSummary leaves text o s.table_old s.table_new s.out_old s.out_new)
EndsSo leaves s o untouched uncalled (RestartRefused fault) = StopsEarly s untouched (RestartRefused fault) (λ study. IsStop leaves study o (RestartRefused fault))
EndsSo leaves s o untouched uncalled DiskFault = StopsEarly s untouched DiskFault (λ study. IsStop leaves study o DiskFault)
EndsSo leaves s o untouched uncalled (RestartFull size) = StopsEarly s untouched (RestartFull size) (λ study. IsStop leaves study o (RestartFull size))
EndsSo leaves s o untouched uncalled (BenchFault fault) = StopsEarly s untouched (BenchFault fault) (λ study. IsStop leaves study o (BenchFault fault))
EndsSo leaves s o untouched uncalled NoMemory =
    (EndsEarly s untouched NoMemory × uncalled × (o.book ≡ None)) ⊎ StopsEarly s untouched NoMemory (λ study. IsStop leaves study o NoMemory)
EndsSo leaves s o untouched uncalled status = EndsEarly s untouched status × uncalled × (o.book ≡ None)

-- how a run of an accepted study ended
abbrev pub EndsStudy : Leaves → Study → Scene → Outside → (untouched : Type 0) → Status → Type 0
EndsStudy leaves study s o untouched (RestartRefused fault) = IsStop leaves study o (RestartRefused fault) × untouched × SaysLine s (RestartRefused fault)
EndsStudy leaves study s o untouched DiskFault = IsStop leaves study o DiskFault × untouched × SaysLine s DiskFault
EndsStudy leaves study s o untouched (RestartFull size) = IsStop leaves study o (RestartFull size) × untouched × SaysLine s (RestartFull size)
EndsStudy leaves study s o untouched (BenchFault fault) = IsStop leaves study o (BenchFault fault) × untouched × SaysLine s (BenchFault fault)
EndsStudy leaves study s o untouched NoMemory = IsStop leaves study o NoMemory × untouched × SaysLine s NoMemory
EndsStudy leaves study s o untouched status = (rows : List Row) × (ending : Ending) × IsDecided leaves study o rows ending
    × Reports study rows ending s.table_old s.table_new s.table_before s.table_now s.out_old s.out_new s.out_before s.out_now status

-- what a verdict told: the texts of a study that was decided, or the line of what stopped it
abbrev pub Tells : Study → Scene → (untouched : Type 0) → List Row → Verdict → Status → Type 0
Tells study s untouched rows (Decided ending) status = Reports study rows ending s.table_old s.table_new s.table_before s.table_now s.out_old s.out_new s.out_before s.out_now status
Tells study s untouched rows (Stopped stop) status = (status ≡ status_of_stop stop) × untouched × SaysLine s status
