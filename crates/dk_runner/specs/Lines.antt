-- The line of a status on `out`, and the exit status.
use Rattle.std.specs.Prelude.{ℕ, Bool, true, false, not, List, [], ◌++◌, codes, decimal}
use Rattle.dk_types.specs.declared.study.Ending.{Ending}
use Rattle.dk_types.specs.declared.study.Ending.TheVariants.{Finished as EndingFinished, Aborted as EndingAborted}
use Rattle.dk_runner.specs.declared.status.Status.{Status}
use Rattle.dk_runner.specs.declared.status.Status.TheVariants.{Finished, Aborted, Usage, StudyRefused, SourceFault, RestartRefused, DiskFault, RestartFull, BenchFault, SinkFault, NoMemory}
use Rattle.dk_fork.specs.declared.serve.BenchStep.{BenchStep}
use Rattle.dk_fork.specs.declared.serve.BenchStep.TheVariants.{ClearBefore, Lay, Run as AtRun, Fetch, ClearAfter}
use Rattle.dk_evaluate.specs.declared.settle.Stop.{Stop}
use Rattle.dk_evaluate.specs.declared.settle.Stop.TheVariants as stop
use Rattle.dk_journal.specs.declared.fault.AppendFault.{AppendFault}
use Rattle.dk_journal.specs.declared.fault.AppendFault.TheVariants as append
use Rattle.dk_journal.specs.declared.fault.OpenFault.{OpenFault}
use Rattle.dk_journal.specs.declared.fault.OpenFault.TheVariants as opening
use Rattle.dk_reader.specs.declared.fault.StudyKind.{StudyKind}
use Rattle.dk_reader.specs.declared.fault.StudyKind.TheVariants as kinds
use Rattle.dk_runner.specs.declared.status.Which.TheVariants.{Table, Out}

abbrev pub code : Status → ℕ
code Finished = 0
code Aborted = 1
code (Usage at) = 2
code (StudyRefused fault) = 3
code SourceFault = 4
code (RestartRefused fault) = 5
code DiskFault = 6
code (RestartFull size) = 7
code (BenchFault fault) = 8
code (SinkFault which) = 9
code NoMemory = 10

abbrev pub kind_text : StudyKind → List ℕ
kind_text kinds.TooLong = codes "TooLong"
kind_text kinds.OpenString = codes "OpenString"
kind_text kinds.BadByte = codes "BadByte"
kind_text kinds.UnknownKeyword = codes "UnknownKeyword"
kind_text kinds.Unsupported = codes "Unsupported"
kind_text kinds.Repeated = codes "Repeated"
kind_text kinds.Misplaced = codes "Misplaced"
kind_text kinds.MissingBlock = codes "MissingBlock"
kind_text kinds.Missing = codes "Missing"
kind_text kinds.Conflict = codes "Conflict"
kind_text kinds.WrongCount = codes "WrongCount"
kind_text kinds.BadNumber = codes "BadNumber"
kind_text kinds.BadWhole = codes "BadWhole"
kind_text kinds.BadLabel = codes "BadLabel"
kind_text kinds.OutsideBounds = codes "OutsideBounds"
kind_text kinds.TooMany = codes "TooMany"
kind_text kinds.OffGrid = codes "OffGrid"

-- why a restart file is refused, as its line has it
abbrev pub refusal_text : OpenFault → List ℕ
refusal_text (opening.NotEmpty size) = codes "NotEmpty (length " ++ (decimal size ++ codes ")")
refusal_text opening.NotARestart = codes "NotARestart"
refusal_text (opening.OtherShape stored wanted) = codes "OtherShape"
refusal_text (opening.Damaged offset) = codes "Damaged (offset " ++ (decimal offset ++ codes ")")
refusal_text (opening.TooLarge size) = codes "TooLarge (length " ++ (decimal size ++ codes ")")
refusal_text opening.Disk = codes "Disk"
refusal_text opening.NoMemory = codes "NoMemory"

-- the call of an attempt that failed, as its line has it
abbrev pub step_text : BenchStep → List ℕ
step_text ClearBefore = codes "clear"
step_text Lay = codes "lay"
step_text AtRun = codes "run"
step_text Fetch = codes "fetch"
step_text ClearAfter = codes "clear after"

abbrev pub line : Status → List ℕ
line Finished = []
line Aborted = []
line (Usage at) = codes "dakota: usage: word " ++ (decimal at ++ codes "\n")
line (StudyRefused fault) =
    codes "dakota: study refused: " ++ (kind_text fault.kind ++ (codes " at bytes " ++ (decimal fault.span.from ++ (codes ".." ++ (decimal fault.span.to ++ codes "\n")))))
line SourceFault = codes "dakota: study not readable\n"
line (RestartRefused fault) = codes "dakota: restart refused: " ++ (refusal_text fault ++ codes "\n")
line DiskFault = codes "dakota: restart file failed\n"
line (RestartFull size) = codes "dakota: restart file full (length " ++ (decimal size ++ codes ")\n")
line (BenchFault fault) = codes "dakota: bench " ++ (decimal fault.slot ++ (codes " failed at " ++ (step_text fault.step ++ codes "\n")))
line (SinkFault Table) = codes "dakota: table not written\n"
line (SinkFault Out) = []
line NoMemory = codes "dakota: out of memory\n"

abbrev pub status_of : Ending → Status
status_of (EndingFinished why) = Finished
status_of (EndingAborted evaluation attempts) = Aborted

-- the study was decided, and all text was written
abbrev pub is_decided : Status → Bool
is_decided Finished = true
is_decided Aborted = true
is_decided _ = false

-- the table wasn't begun
abbrev pub is_early : Status → Bool
is_early (Usage at) = true
is_early (StudyRefused fault) = true
is_early SourceFault = true
is_early (RestartRefused fault) = true
is_early DiskFault = true
is_early (RestartFull size) = true
is_early (BenchFault fault) = true
is_early NoMemory = true
is_early _ = false

-- the study wasn't accepted, so that no restart file was called
abbrev pub is_before_file : Status → Bool
is_before_file (Usage at) = true
is_before_file (StudyRefused fault) = true
is_before_file SourceFault = true
is_before_file _ = false

abbrev pub is_too_long : StudyKind → Bool
is_too_long kinds.TooLong = true
is_too_long _ = false

-- the study's text was taken to its end
abbrev pub is_read : Status → Bool
is_read Finished = true
is_read Aborted = true
is_read (StudyRefused fault) = not (is_too_long fault.kind)
is_read (RestartRefused fault) = true
is_read DiskFault = true
is_read (RestartFull size) = true
is_read (BenchFault fault) = true
is_read (SinkFault which) = true
is_read _ = false

-- `out` got the line of the status
abbrev pub has_line : Status → Bool
has_line Finished = false
has_line Aborted = false
has_line (SinkFault Out) = false
has_line _ = true

-- the status of a restart file that isn't opened, and of an entry that isn't appended
abbrev pub status_of_fault : OpenFault → Status
status_of_fault opening.Disk = DiskFault
status_of_fault opening.NoMemory = NoMemory
status_of_fault fault = RestartRefused fault

abbrev pub status_of_refused : AppendFault → Status
status_of_refused append.Disk = DiskFault
status_of_refused (append.Full size) = RestartFull size

-- the status of an attempt that isn't kept
abbrev pub status_of_stop : Stop → Status
status_of_stop (stop.Append fault) = status_of_refused fault
status_of_stop (stop.Bench fault) = BenchFault fault
