-- What the bytes of a restart file are read as: entries, or a reason why they stand for none.
use Rattle.std.specs.Prelude.{◌≡◌, ℕ, ◌+◌, ◌<◌, ◌≤◌, List, [], ◌∷◌, ◌++◌, length}
use Rattle.dk_types.specs.declared.study.Shape.{Shape}
use Rattle.dk_types.specs.declared.entry.Entry.{Entry}
use Rattle.dk_record.specs.Payloads.{header_payload, IsShape}
use Rattle.dk_record.specs.Files.{IsFront, AreKept, IsBorn, used}
use Rattle.dk_book.specs.Books.{BookState}
use Rattle.dk_book.specs.Told.{StandsFor}
use Rattle.dk_journal.specs.declared.reading.Reading.{Reading}
use Rattle.dk_journal.specs.declared.reading.Reading.TheVariants.{Entries, NotARestart, OtherShape, Damaged}
use Rattle.dk_journal.specs.Walks.{HasNextRecord}

-- a header of this shape stands behind the first byte
pub record HasHeader (shape : Shape) (bytes : List ℕ) : Type 0 where
  pub is_shape : IsShape shape
  pub gate : ℕ
  pub rest : List ℕ
  pub split : bytes ≡ gate ∷ (header_payload shape ++ rest)

-- an entry's record stands here that may come behind these entries
abbrev pub HasNext : Shape → List Entry → (tail : List ℕ) → Type 0
HasNext shape entries tail = HasNextRecord (length shape.variables) (length shape.responses) entries tail

-- what follows the front can't be read on: the file ends where a gate is due, or behind an open gate stands no record
-- that may come next
abbrev pub IsBroken : Shape → List Entry → (tail : List ℕ) → Type 0
IsBroken shape entries [] = Unit {0}
IsBroken shape entries (gate ∷ tail) = (0 < gate) × (HasNext shape entries (gate ∷ tail) → ⊥)

-- damage at this place
pub record IsDamaged (shape : Shape) (bytes : List ℕ) (offset : ℕ) : Type 0 where
  pub entries : List Entry
  pub front : List ℕ
  pub tail : List ℕ
  pub is_front : IsFront shape entries front
  pub kept : AreKept shape entries
  pub split : bytes ≡ front ++ tail
  pub place : length front ≡ offset
  pub broken : IsBroken shape entries tail

-- The bytes stand for so many entries, for which the book stands, and their end gate is here. The book has the shape's
-- widths, and room for so many cards more, each of them with values.
pub record HasEntries (shape : Shape) (bytes : List ℕ) (cards : ℕ) (book : BookState) (count end : ℕ) : Type 0 where
  pub entries : List Entry
  pub is_born : IsBorn shape bytes entries
  pub ends : end + 1 ≡ used shape entries
  pub stands : StandsFor book entries
  pub count_is : count ≡ length entries
  pub variables : book.variables ≡ length shape.variables
  pub responses : book.responses ≡ length shape.responses
  pub spare : cards ≤ book.spare
  pub room : cards ≤ book.room

-- what the bytes of a file that isn't unborn are read as, for this shape
abbrev pub Reads : Shape → (bytes : List ℕ) → (cards : ℕ) → Reading → Type 0
Reads shape bytes cards (Entries book count end) = HasEntries shape bytes cards book count end
Reads shape bytes cards NotARestart = (stored : Shape) → HasHeader stored bytes → ⊥
Reads shape bytes cards (OtherShape stored) = HasHeader stored bytes × (stored ≡ shape → ⊥)
Reads shape bytes cards (Damaged offset) = HasHeader shape bytes × IsDamaged shape bytes offset
