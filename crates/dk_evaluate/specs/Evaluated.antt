-- What holds of an evaluation over a book and a journal, point after point.
use Rattle.std.specs.Prelude.{◌≡◌, ℕ, ◌+◌, ◌*◌, ◌≤◌, false, List, [], ◌∷◌, ◌++◌, length, map, position, slice_set, get_or, Option, Some, None, IfSome, if◌then◌else◌, ◌==◌}
use Rattle.std.specs.List.{All}
use Rattle.dk_outside.specs.Causes.{Rose}
use Rattle.dk_outside.specs.declared.course.Course.{Course}
use Rattle.dk_outside.specs.Disks.{IsImage}
use Rattle.dk_num.specs.Decimal.{Decimal}
use Rattle.dk_types.specs.declared.study.Study.{Study}
use Rattle.dk_types.specs.declared.study.Shape.{Shape}
use Rattle.dk_types.specs.declared.study.FailRule.{FailRule}
use Rattle.dk_types.specs.declared.study.Ending.{Ending}
use Rattle.dk_types.specs.declared.entry.Entry.{Entry}
use Rattle.dk_types.specs.declared.entry.Said.TheVariants.{Values, Failed}
use Rattle.dk_types.specs.declared.rows.Row.{Row}
use Rattle.dk_types.specs.Best.{same_point}
use Rattle.dk_types.specs.Planned.{next, At}
use Rattle.dk_types.specs.Entries.{said}
use Rattle.dk_types.specs.Answers.{Answer, Value, Dead, Next, answer, answer_by, retries}
use Rattle.dk_types.specs.Cards.{Card}
use Rattle.dk_types.specs.Solo.{Seq, Child, Outcomes, Ended, Open, with_row}
use Rattle.dk_book.specs.Books.{BookState, IsBook}
use Rattle.dk_book.specs.Told.{StandsFor}
use Rattle.dk_journal.specs.declared.fault.AppendFault.{AppendFault}
use Rattle.dk_journal.specs.declared.fault.AppendFault.TheVariants as append
use Rattle.dk_record.specs.Files.{Stands}
use Rattle.dk_journal.specs.Covers.{StandsWithin}
use Rattle.dk_journal.specs.Journals.{JournalState, Holds, ComesNext, IsTooLong, CoversTold}
use Rattle.dk_evaluate.specs.Keeping.{KeepSome}
use Rattle.dk_outside.specs.Benches.{Contents, Leaves}
use Rattle.dk_params.specs.declared.task.Task.{Task}
use Rattle.dk_fork.specs.declared.serve.BenchStep.{BenchStep}
use Rattle.dk_evaluate.specs.Making.{Makes, Breaks, AreMade, AreBroken}
use Rattle.dk_evaluate.specs.declared.settle.Stop.{Stop}
use Rattle.dk_evaluate.specs.declared.settle.Stop.TheVariants as stop
use Rattle.dk_evaluate.specs.declared.settle.Settled.{Settled}
use Rattle.dk_evaluate.specs.declared.settle.Settled.TheVariants as settled

-- the entry says what the child gives
abbrev pub IsAnswerOf : Child → Entry → Type 0
IsAnswerOf child e = e.said ≡ child e.point e.attempt

-- the rows are those that the attempts come to one after another, as far as this
pub data Reaches (study : Study) (outcomes : Outcomes) : List Row → Type 0 where
  start : Reaches study outcomes []
  row : (rows : List Row) (p v : List Decimal) → Reaches study outcomes rows → next study rows ≡ At p → answer_by study.interface.rule (outcomes p) ≡ Value v →
      Reaches study outcomes (with_row rows p v)

-- each of these is an attempt of the point, and the one that the rule asks for next by those before it
abbrev pub AreAsked : FailRule → List Decimal → (entries added : List Entry) → Type 0
AreAsked rule p entries [] = Unit {0}
AreAsked rule p entries (e ∷ added) = (e.point ≡ p) × (answer rule entries p ≡ Next e.attempt) × AreAsked rule p (entries ++ e ∷ []) added

-- for each of these the study waits, one point at a time, behind those before it
abbrev pub AreWaitedFor : Study → (before added : List Entry) → Type 0
AreWaitedFor study before [] = Unit {0}
AreWaitedFor study before (e ∷ added) = ((rows : List Row) × Seq study before rows (Open e.point e.attempt)) × AreWaitedFor study (before ++ e ∷ []) added

-- whatever a crash leaves of the file, where its disk tells, stands for these entries and a front of those that are tried
abbrev pub LeavesWithin : Shape → Option Course → (entries tried : List Entry) → Type 0
LeavesWithin shape told entries tried = IfSome told (λ course. (bytes : List ℕ) → IsImage course.now bytes → StandsWithin (Stands shape) entries tried bytes)

-- the journal, which held the entries, holds these more
pub record HasAppended (old now : JournalState) (entries added : List Entry) : Type 0 where
  pub holds : Holds now (entries ++ added)
  pub covers : CoversTold old.shape old.told now.told entries added
  pub shape : now.shape ≡ old.shape
  pub limit : now.limit ≡ old.limit
  pub later : old.faults ≤ now.faults

-- these more were appended, and the disk failed while this one was
pub record HasBroken (old now : JournalState) (entries added : List Entry) (e : Entry) : Type 0 where
  pub broken : now.whole ≡ false
  pub leaves : LeavesWithin old.shape now.told (entries ++ added) (e ∷ [])
  pub covers : CoversTold old.shape old.told now.told entries (added ++ e ∷ [])
  pub shape : now.shape ≡ old.shape
  pub later : old.faults ≤ now.faults
  pub rose : Rose old.faults now.faults

-- these more were appended, and for this one there is no room
pub record HasFilled (old now : JournalState) (entries added : List Entry) (e : Entry) (size : ℕ) : Type 0 where
  pub appended : HasAppended old now entries added
  pub too_long : IsTooLong old (entries ++ added) e size

-- why the entry behind these wasn't appended
abbrev pub HasStopped : (old now : JournalState) → (entries added : List Entry) → Entry → AppendFault → Type 0
HasStopped old now entries added e append.Disk = HasBroken old now entries added e
HasStopped old now entries added e (append.Full size) = HasFilled old now entries added e size

-- attempts of the point were made in its row and appended, each where the rule asked for it, until they came to this answer
pub record ComesTo (leaves : Leaves) (task : Task) (rule : FailRule) (row : ℕ) (p : List Decimal) (a : Answer) (book : BookState) (old now : JournalState) (bench later : Option Contents) (entries : List Entry) : Type 0 where
  pub added : List Entry
  pub few : length added ≤ retries rule + 1
  pub asked : AreAsked rule p entries added
  pub appended : HasAppended old now entries added
  pub made : Makes leaves task row added bench later
  pub stands : StandsFor book (entries ++ added)
  pub is : answer rule (entries ++ added) p ≡ a

-- attempts of the point were made and appended up to this one, which was made and not appended
pub record StopsAt (leaves : Leaves) (task : Task) (rule : FailRule) (row : ℕ) (p : List Decimal) (fault : AppendFault) (book : BookState) (old now : JournalState) (bench later : Option Contents) (entries : List Entry) : Type 0 where
  pub added : List Entry
  pub e : Entry
  pub few : length added + 1 ≤ retries rule + 1
  pub asked : AreAsked rule p entries (added ++ e ∷ [])
  pub stands : StandsFor book (entries ++ added)
  pub next : ComesNext old.shape (entries ++ added) e
  pub made : Makes leaves task row (added ++ e ∷ []) bench later
  pub stopped : HasStopped old now entries added e fault

-- attempts of the point were made and appended, and one call of the next one's failed
pub record BreaksAt (leaves : Leaves) (task : Task) (rule : FailRule) (row : ℕ) (p : List Decimal) (step : BenchStep) (book : BookState) (old now : JournalState) (bench later : Option Contents) (entries : List Entry) : Type 0 where
  pub added : List Entry
  pub attempt : ℕ
  pub few : length added + 1 ≤ retries rule + 1
  pub asked : AreAsked rule p entries added
  pub waits : answer rule (entries ++ added) p ≡ Next attempt
  pub appended : HasAppended old now entries added
  pub stands : StandsFor book (entries ++ added)
  pub broke : Breaks leaves task row added p attempt step bench later

-- what became of a point: its values, which were written, its end after so many attempts, or an attempt that wasn't kept
-- or couldn't be made
abbrev pub Settles : Leaves → Task → FailRule → (number : ℕ) → (p values : List Decimal) → BookState → (old now : JournalState) → (bench later : Option Contents) → List Entry → Settled → Type 0
Settles leaves task rule number p values book old now bench later entries settled.Values = ComesTo leaves task rule number p (Value values) book old now bench later entries
Settles leaves task rule number p values book old now bench later entries (settled.Dead attempts) = ComesTo leaves task rule number p (Dead attempts) book old now bench later entries
Settles leaves task rule number p values book old now bench later entries (settled.Stopped (stop.Append fault)) = StopsAt leaves task rule number p fault book old now bench later entries
Settles leaves task rule number p values book old now bench later entries (settled.Stopped (stop.Bench fault)) = BreaksAt leaves task rule number p fault.step book old now bench later entries

-- the points of cards
abbrev pub points_of : List Card → List (List Decimal)
points_of cards = map (λ card. card.point) cards

-- what a book holds behind the attempts of one of its points, besides what they gave
pub record SettlesBook (old new : BookState) : Type 0 where
  pub book : IsBook new
  pub points : points_of new.cards ≡ points_of old.cards
  pub spare : new.spare ≡ old.spare
  pub room : old.room ≤ new.room + 1
  pub variables : new.variables ≡ old.variables
  pub responses : new.responses ≡ old.responses

-- the number at a place, which becomes this one where it is 0
pub record TakesNumber (old new : List ℕ) (place number taken : ℕ) : Type 0 where
  pub taken_is : taken ≡ (if get_or old place 0 == 0 then number else get_or old place 0)
  pub new_is : new ≡ slice_set old place taken

-- where the first row with a point stands, counted from 0
abbrev pub row_with : List Row → List Decimal → Option ℕ
row_with rows p = position (λ row. same_point row.point p) rows

-- its number, counted from 1; 0 where there is none
abbrev pub number_of : Option ℕ → ℕ
number_of None = 0
number_of (Some place) = place + 1

-- the number of the first row with the point of a card; 0 where there is no card
abbrev pub first_row_of : List Row → (point : Option (List Decimal)) → ℕ
first_row_of rows None = 0
first_row_of rows (Some p) = number_of (row_with rows p)

-- the labels of the journal are the study's
pub record IsOfStudy (study : Study) (journal : JournalState) : Type 0 where
  pub variables : journal.shape.variables ≡ study.variables.labels
  pub responses : journal.shape.responses ≡ study.responses.labels

-- A book and a journal over which the study can be evaluated: both keep the same entries, with the study's widths.
pub record IsOpen (study : Study) (book : BookState) (journal : JournalState) : Type 0 where
  pub of_study : IsOfStudy study journal
  pub is_book : IsBook book
  pub variables : book.variables ≡ length study.variables.labels
  pub responses : book.responses ≡ length study.responses.labels
  pub some : KeepSome book journal

-- An evaluation under way: these entries were made and appended behind those of before, each where the study waited for it,
-- the book stands for all of them, and the rows so far are what they come to.
pub record IsRunning (leaves : Leaves) (study : Study) (start : JournalState) (bench : Option Contents) (before added : List Entry) (book : BookState) (now : JournalState) (later : Option Contents) (rows : List Row) : Type 0 where
  pub of_study : IsOfStudy study start
  pub appended : HasAppended start now before added
  pub made : AreMade leaves study before added bench later
  pub stands : StandsFor book (before ++ added)
  pub reaches : Reaches study (said (before ++ added)) rows
  pub waited_for : AreWaitedFor study before added
  pub few : length added ≤ (retries study.interface.rule + 1) * length rows

-- some such evaluation
pub record Runs (leaves : Leaves) (study : Study) (start : JournalState) (bench : Option Contents) (before : List Entry) (book : BookState) (now : JournalState) (later : Option Contents) (rows : List Row) : Type 0 where
  pub added : List Entry
  pub running : IsRunning leaves study start bench before added book now later rows

-- The study is decided by the entries of before and those that were made and appended, each where it waited for it.
pub record Decides (leaves : Leaves) (study : Study) (start : JournalState) (bench : Option Contents) (before : List Entry) (book : BookState) (now : JournalState) (later : Option Contents) (rows : List Row) (ending : Ending) : Type 0 where
  pub added : List Entry
  pub appended : HasAppended start now before added
  pub made : AreMade leaves study before added bench later
  pub stands : StandsFor book (before ++ added)
  pub waited_for : AreWaitedFor study before added
  pub decided : Seq study (before ++ added) rows (Ended ending)

-- An entry wasn't appended: the study waits for it behind the entries of before and those that were appended.
pub record Halts (leaves : Leaves) (study : Study) (start : JournalState) (bench : Option Contents) (before : List Entry) (book : BookState) (now : JournalState) (later : Option Contents) (fault : AppendFault) : Type 0 where
  pub added : List Entry
  pub e : Entry
  pub few : length added + 1 ≤ (retries study.interface.rule + 1) * study.limit
  pub made : AreMade leaves study before (added ++ e ∷ []) bench later
  pub stands : StandsFor book (before ++ added)
  pub waited_for : AreWaitedFor study before (added ++ e ∷ [])
  pub next : ComesNext start.shape (before ++ added) e
  pub stopped : HasStopped start now before added e fault

-- An attempt couldn't be made: the study waits for it behind the entries of before and those that were appended.
pub record Loses (leaves : Leaves) (study : Study) (start : JournalState) (bench : Option Contents) (before : List Entry) (book : BookState) (now : JournalState) (later : Option Contents) (step : BenchStep) : Type 0 where
  pub added : List Entry
  pub rows : List Row
  pub p : List Decimal
  pub attempt : ℕ
  pub few : length added + 1 ≤ (retries study.interface.rule + 1) * study.limit
  pub appended : HasAppended start now before added
  pub stands : StandsFor book (before ++ added)
  pub waited_for : AreWaitedFor study before added
  pub waits : Seq study (before ++ added) rows (Open p attempt)
  pub broke : AreBroken leaves study before added (length rows + 1) p attempt step bench later
