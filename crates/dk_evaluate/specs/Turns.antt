-- What an evaluation has of rows, and what its turns make of it.
use Rattle.std.specs.Prelude.{◌≡◌, ℕ, ◌+◌, ◌<◌, ◌≤◌, List, [], length, slice_get, Option, Some, None}
use Rattle.dk_num.specs.Decimal.{Decimal}
use Rattle.dk_types.specs.declared.study.Study.{Study}
use Rattle.dk_types.specs.declared.entry.Entry.{Entry}
use Rattle.dk_types.specs.declared.rows.Row.{Row}
use Rattle.dk_types.specs.Cards.{place_of}
use Rattle.dk_types.specs.Solo.{with_row}
use Rattle.dk_outside.specs.Benches.{Contents, Leaves}
use Rattle.dk_types.specs.Widths.{HaveWidths}
use Rattle.dk_book.specs.Books.{BookState}
use Rattle.dk_journal.specs.Journals.{JournalState}
use Rattle.dk_method.specs.Plans.{IsNew}
use Rattle.dk_evaluate.specs.Evaluated.{Runs, Decides, Halts, Loses, row_with, first_row_of, points_of}
use Rattle.dk_evaluate.specs.declared.evaluation.Table.{Table}
use Rattle.dk_evaluate.specs.declared.evaluation.Prepared.{Prepared}
use Rattle.dk_evaluate.specs.declared.evaluation.Verdict.{Verdict}
use Rattle.dk_evaluate.specs.declared.evaluation.Verdict.TheVariants.{Decided, Stopped}
use Rattle.dk_evaluate.specs.declared.settle.Stop.TheVariants.{Append, Bench}

-- The rows so far, beside a book: each row's point has a card, the first row of each card's point is known, and there is
-- room for all rows that the study can still have, and for a point and its values.
pub record IsSoFar (study : Study) (book : BookState) (table : Table) : Type 0 where
  pub variables : book.variables ≡ length study.variables.labels
  pub responses : book.responses ≡ length study.responses.labels
  pub spare : study.limit ≤ length table.rows.rows + book.spare
  pub room : study.limit ≤ length table.rows.rows + book.room
  pub row_variables : table.rows.variables ≡ length study.variables.labels
  pub row_responses : table.rows.responses ≡ length study.responses.labels
  pub places : study.limit ≡ length table.rows.rows + table.rows.spare
  pub widths : HaveWidths study table.rows.rows
  pub carded : (p : List Decimal) → place_of book.cards p ≡ None → row_with table.rows.rows p ≡ None
  pub long : length book.cards + book.spare ≡ length table.firsts.items
  pub firsts : (k : ℕ) → k < length table.firsts.items → slice_get table.firsts.items k ≡ Some (first_row_of table.rows.rows (slice_get (points_of book.cards) k))
  pub point : length table.point.items ≡ length study.variables.labels
  pub values : length table.values.items ≡ length study.responses.labels

-- no rows so far, and no batch
pub record IsPrepared (study : Study) (book : BookState) (prepared : Prepared) : Type 0 where
  pub so_far : IsSoFar study book prepared.table
  pub none : prepared.table.rows.rows ≡ []
  pub planned : IsNew study prepared.planning

-- the point got its row
pub record GetsRow (p : List Decimal) (old new : List Row) : Type 0 where
  pub values : List Decimal
  pub rows : new ≡ with_row old p values

-- how an evaluation ended
abbrev pub EndsRun : Leaves → Study → (start : JournalState) → (bench : Option Contents) → (before : List Entry) → BookState → (now : JournalState) → (later : Option Contents) → List Row → Verdict → Type 0
EndsRun leaves study start bench before book now later rows (Decided ending) = Decides leaves study start bench before book now later rows ending
EndsRun leaves study start bench before book now later rows (Stopped (Append fault)) = Halts leaves study start bench before book now later fault
EndsRun leaves study start bench before book now later rows (Stopped (Bench fault)) = Loses leaves study start bench before book now later fault.step

-- it goes on, or ended
abbrev pub EndsSo : Leaves → Study → (start : JournalState) → (bench : Option Contents) → (before : List Entry) → BookState → (now : JournalState) → (later : Option Contents) → List Row → Option Verdict → Type 0
EndsSo leaves study start bench before book now later rows None = Runs leaves study start bench before book now later rows
EndsSo leaves study start bench before book now later rows (Some verdict) = EndsRun leaves study start bench before book now later rows verdict
