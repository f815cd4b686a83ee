-- A book and a journal that keep the same attempts.
use Rattle.std.specs.Prelude.{◌≡◌, ℕ, false, List, [], ◌∷◌, ◌++◌, length, Some, Result, Ok, Err}
use Rattle.dk_num.specs.Decimal.{Decimal}
use Rattle.dk_types.specs.declared.entry.Entry.{Entry}
use Rattle.dk_types.specs.declared.entry.Said.{Said}
use Rattle.dk_types.specs.Entries.{next_attempt}
use Rattle.dk_book.specs.Books.{BookState}
use Rattle.dk_book.specs.Told.{StandsFor}
use Rattle.dk_journal.specs.declared.fault.AppendFault.{AppendFault}
use Rattle.dk_journal.specs.declared.fault.AppendFault.TheVariants.{Disk, Full}
use Rattle.dk_journal.specs.Journals.{JournalState, Holds, IsTooLong, CoversTold, LeavesTold}

abbrev pub entry_with : List Decimal → (attempt : ℕ) → Said → Entry
entry_with point attempt said = record { point = point; attempt = attempt; said = said }

-- the book stands for these entries, and the journal holds them
pub record Keeps (book : BookState) (journal : JournalState) (entries : List Entry) : Type 0 where
  pub stands : StandsFor book entries
  pub holds : Holds journal entries

-- there are entries that both keep
pub record KeepSome (book : BookState) (journal : JournalState) : Type 0 where
  pub entries : List Entry
  pub keeps : Keeps book journal entries

-- points and values have as many decimals in the book as the journal has labels
pub record AreAlike (book : BookState) (journal : JournalState) : Type 0 where
  pub variables : book.variables ≡ length journal.shape.variables
  pub responses : book.responses ≡ length journal.shape.responses

-- both keep the entry behind these
pub record KeepsNext (book : BookState) (old new : JournalState) (entries : List Entry) (e : Entry) : Type 0 where
  pub keeps : Keeps book new (entries ++ e ∷ [])
  pub covers : CoversTold old.shape old.told new.told entries (e ∷ [])

-- the disk failed: the journal isn't whole any more, and its file may have the entry or not
pub record BreaksAt (old new : JournalState) (entries : List Entry) (e : Entry) : Type 0 where
  pub broken : new.whole ≡ false
  pub leaves : LeavesTold old.shape new.told entries e
  pub covers : CoversTold old.shape old.told new.told entries (e ∷ [])

-- the entry had no room: nothing changed
pub record IsFullFor (old new : JournalState) (entries : List Entry) (e : Entry) (size : ℕ) : Type 0 where
  pub same : new ≡ old
  pub too_long : IsTooLong old entries e size

-- both keep one entry more, or why not
abbrev pub KeepsOne : (old_book new_book : BookState) (old new : JournalState) → List Entry → Entry → Result (Unit {0}) AppendFault → Type 0
KeepsOne old_book new_book old new entries e (Ok _) = KeepsNext new_book old new entries e
KeepsOne old_book new_book old new entries e (Err Disk) = BreaksAt old new entries e
KeepsOne old_book new_book old new entries e (Err (Full size)) = IsFullFor old new entries e size

-- the journal holds entries behind which this attempt of the point may come
pub record WaitsFor (journal : JournalState) (p : List Decimal) (attempt : ℕ) : Type 0 where
  pub entries : List Entry
  pub holds : Holds journal entries
  pub width : length p ≡ length journal.shape.variables
  pub next : next_attempt entries p ≡ Some attempt
