-- What one attempt makes of a book, a journal and a bench.
use Rattle.std.specs.Prelude.{◌≡◌, ℕ, ◌+◌, ◌≤◌, List, [], ◌∷◌, length, IfSome, Option, Result, Ok, Err}
use Rattle.dk_num.specs.Decimal.{Decimal}
use Rattle.dk_outside.specs.Benches.{Contents, Leaves}
use Rattle.dk_outside.specs.Causes.{Rose}
use Rattle.dk_types.specs.declared.entry.Entry.{Entry}
use Rattle.dk_types.specs.declared.entry.Said.{Said}
use Rattle.dk_types.specs.Entries.{values_of}
use Rattle.dk_book.specs.Books.{BookState, IsBook, with_attempt, room_taken}
use Rattle.dk_journal.specs.declared.fault.AppendFault.{AppendFault}
use Rattle.dk_journal.specs.declared.fault.AppendFault.TheVariants.{Disk}
use Rattle.dk_journal.specs.Journals.{JournalState, ComesNext}
use Rattle.dk_params.specs.declared.task.Task.{Task}
use Rattle.dk_fork.specs.Allowed.{said_of}
use Rattle.dk_fork.specs.declared.serve.BenchStep.{BenchStep}
use Rattle.dk_results.specs.declared.reading.Reading.{Reading}
use Rattle.dk_results.specs.Results.{read_as}
use Rattle.dk_evaluate.specs.Keeping.{Keeps, KeepsNext, KeepsOne, entry_with}
use Rattle.dk_evaluate.specs.Making.{Makes, Breaks}
use Rattle.dk_evaluate.specs.declared.settle.Stop.{Stop}
use Rattle.dk_evaluate.specs.declared.settle.Stop.TheVariants.{Append, Bench}

-- what an attempt said, by its reading and the values that were written
abbrev pub said_as : Reading → (values : List Decimal) → Said
said_as reading values = said_of (read_as reading values)

-- the next attempt of a card's point is in the book and in the journal, with this outcome
pub record Kept (said : Said) (index : ℕ) (p : List Decimal) (attempt : ℕ) (old_book book : BookState) (old now : JournalState) : Type 0 where
  pub keeps : (entries : List Entry) → Keeps old_book old entries → ComesNext old.shape entries (entry_with p attempt said) → KeepsNext book old now entries (entry_with p attempt said)
  pub cards : book.cards ≡ with_attempt old_book.cards index said
  pub room : book.room + room_taken said ≡ old_book.room
  pub spare : book.spare ≡ old_book.spare
  pub variables : book.variables ≡ old_book.variables
  pub responses : book.responses ≡ old_book.responses
  pub is_book : IsBook book
  pub later : old.faults ≤ now.faults
  pub shape : now.shape ≡ old.shape
  pub limit : now.limit ≡ old.limit

-- it isn't, and the book is as it was
pub record NotKept (said : Said) (p : List Decimal) (attempt : ℕ) (fault : AppendFault) (old_book book : BookState) (old now : JournalState) : Type 0 where
  pub keeps_not : (entries : List Entry) → Keeps old_book old entries → ComesNext old.shape entries (entry_with p attempt said) → KeepsOne old_book book old now entries (entry_with p attempt said) (Err fault)
  pub same : book ≡ old_book
  pub rose : fault ≡ Disk → Rose old.faults now.faults
  pub later : old.faults ≤ now.faults
  pub shape : now.shape ≡ old.shape

abbrev pub KeptSo : (said : Said) → (index : ℕ) → (p : List Decimal) → (attempt : ℕ) → (old_book book : BookState) → (old now : JournalState) → Result (Unit {0}) Stop → Type 0
KeptSo said index p attempt old_book book old now (Ok _) = Kept said index p attempt old_book book old now
KeptSo said index p attempt old_book book old now (Err (Append fault)) = NotKept said p attempt fault old_book book old now
KeptSo said index p attempt old_book book old now (Err (Bench fault)) = ⊥

-- the attempt was made in its row, and kept
pub record IsKept (leaves : Leaves) (task : Task) (row index : ℕ) (p : List Decimal) (attempt : ℕ) (old_book book : BookState) (old now : JournalState) (bench later : Option Contents) : Type 0 where
  pub said : Said
  pub wide : IfSome (values_of said) (λ given. length given ≡ old_book.responses)
  pub made : Makes leaves task row (entry_with p attempt said ∷ []) bench later
  pub kept : Kept said index p attempt old_book book old now

-- it was made, and not kept
pub record IsNotKept (leaves : Leaves) (task : Task) (row : ℕ) (p : List Decimal) (attempt : ℕ) (fault : AppendFault) (old_book book : BookState) (old now : JournalState) (bench later : Option Contents) : Type 0 where
  pub said : Said
  pub wide : IfSome (values_of said) (λ given. length given ≡ old_book.responses)
  pub made : Makes leaves task row (entry_with p attempt said ∷ []) bench later
  pub not_kept : NotKept said p attempt fault old_book book old now

-- it wasn't made: a call of its bench failed
pub record IsNotMade (leaves : Leaves) (task : Task) (row : ℕ) (p : List Decimal) (attempt : ℕ) (step : BenchStep) (old_book book : BookState) (old now : JournalState) (bench later : Option Contents) : Type 0 where
  pub broke : Breaks leaves task row [] p attempt step bench later
  pub same_book : book ≡ old_book
  pub same_journal : now ≡ old

abbrev pub Attempted : Leaves → Task → (row index : ℕ) → (p : List Decimal) → (attempt : ℕ) → (old_book book : BookState) → (old now : JournalState) → (bench later : Option Contents) → Result (Unit {0}) Stop → Type 0
Attempted leaves task row index p attempt old_book book old now bench later (Ok _) = IsKept leaves task row index p attempt old_book book old now bench later
Attempted leaves task row index p attempt old_book book old now bench later (Err (Append fault)) = IsNotKept leaves task row p attempt fault old_book book old now bench later
Attempted leaves task row index p attempt old_book book old now bench later (Err (Bench fault)) = IsNotMade leaves task row p attempt fault.step old_book book old now bench later

-- where a call of the bench failed, it was that of the bench with this number, whose count of faults rose
abbrev pub IsItsFault : (slot before now : ℕ) → Stop → Type 0
IsItsFault slot before now (Append fault) = Unit {0}
IsItsFault slot before now (Bench fault) = (fault.slot ≡ slot) × Rose before now
