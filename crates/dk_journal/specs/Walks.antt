-- Records that are read one behind the other.
use Rattle.std.specs.Prelude.{◌≡◌, ℕ, ◌+◌, ◌<◌, ◌≤◌, Bool, true, false, List, [], ◌∷◌, ◌++◌, length, Option, Some, None, ◌==◌}
use Rattle.std.specs.List.{All}
use Rattle.dk_num.specs.Decimal.{Decimal}
use Rattle.dk_types.specs.declared.entry.Entry.{Entry}
use Rattle.dk_types.specs.declared.entry.Said.{Said}
use Rattle.dk_types.specs.declared.entry.Said.TheVariants.{Values, Failed}
use Rattle.dk_types.specs.Entries.{next_attempt, IsNextEntry}
use Rattle.dk_record.specs.declared.record.Decoded.{Decoded}
use Rattle.dk_record.specs.Payloads.{payload, IsStored}
use Rattle.dk_record.specs.Files.{AreRecords}
use Rattle.dk_record.specs.Readings.{said_by}
use Rattle.dk_book.specs.Books.{BookState, room_taken}
use Rattle.dk_book.specs.Told.{StandsFor}

-- an open gate and this entry's record stand at the front, and this follows them
pub record IsRecord (variables responses : ℕ) (bytes : List ℕ) (e : Entry) (rest : List ℕ) : Type 0 where
  pub gate : ℕ
  pub is_open : 0 < gate
  pub stored : IsStored variables responses e
  pub split : bytes ≡ gate ∷ (payload e ++ rest)

-- a closed gate stands at the front
abbrev pub begins_closed : List ℕ → Bool
begins_closed [] = false
begins_closed (gate ∷ bytes) = gate == 0

-- no record stands at the front behind an open gate: the bytes end, the gate is closed, or something else follows it
abbrev pub HasNoRecord : (variables responses : ℕ) → (bytes : List ℕ) → Type 0
HasNoRecord variables responses bytes = (e : Entry) (rest : List ℕ) → IsRecord variables responses bytes e rest → ⊥

-- the record of an entry that comes next behind these stands at the front
pub record HasNextRecord (variables responses : ℕ) (entries : List Entry) (bytes : List ℕ) : Type 0 where
  pub e : Entry
  pub rest : List ℕ
  pub is_record : IsRecord variables responses bytes e rest
  pub next : IsNextEntry variables responses entries e

-- the entry of a record that was read and left these decimals
abbrev pub entry_by : (point values : List Decimal) → Decoded → Entry
entry_by point values decoded = record { point = point; attempt = decoded.attempt; said = said_by decoded.values values }

-- so many records stand one behind the other, up to the first place where none does, and so many of them have values
pub data AreCounted (variables responses : ℕ) : (bytes : List ℕ) → (records values : ℕ) → Type 0 where
  none : (bytes : List ℕ) → HasNoRecord variables responses bytes → AreCounted variables responses bytes 0 0
  more : (bytes : List ℕ) (e : Entry) (rest : List ℕ) (records values : ℕ) → IsRecord variables responses bytes e rest →
      AreCounted variables responses rest records values → AreCounted variables responses bytes (1 + records) (room_taken e.said + values)

-- a book has room for all records that stand at the front, and for so many cards more
pub record HasRoom (variables responses cards : ℕ) (bytes : List ℕ) (book : BookState) : Type 0 where
  pub records : ℕ
  pub values : ℕ
  pub counted : AreCounted variables responses bytes records values
  pub spare : records + cards ≤ book.spare
  pub room : values + cards ≤ book.room

-- the records of these entries stand at the front, and this follows them
pub record AreWalked (variables responses : ℕ) (bytes : List ℕ) (entries : List Entry) (rest : List ℕ) : Type 0 where
  pub run : List ℕ
  pub are_records : AreRecords entries run
  pub stored : All (IsStored variables responses) entries
  pub split : bytes ≡ run ++ rest

-- the attempt failed
abbrev pub is_failed : Option Said → Bool
is_failed None = false
is_failed (Some Failed) = true
is_failed (Some (Values values)) = false

-- the entry came behind these, or it isn't the next attempt of its point
abbrev pub PutsEntry : List Entry → Entry → (old new : BookState) → (put : Bool) → Type 0
PutsEntry entries e old new true = StandsFor new (entries ++ e ∷ []) × (old.spare ≤ new.spare + 1) × (new.room + room_taken e.said ≡ old.room)
PutsEntry entries e old new false =
    StandsFor new entries × (old.spare ≤ new.spare + 1) × (new.room ≡ old.room) × (next_attempt entries e.point ≡ Some e.attempt → ⊥)

-- no entry comes next, and the book stands for those before, with room for so many cards
pub record IsLast (variables responses cards : ℕ) (entries : List Entry) (bytes : List ℕ) (book : BookState) : Type 0 where
  pub stands : StandsFor book entries
  pub last : HasNextRecord variables responses entries bytes → ⊥
  pub spare : cards ≤ book.spare
  pub room : cards ≤ book.room

-- the entry of the record at the front came behind these, and there is room for the records that follow
pub record IsPut (variables responses cards : ℕ) (entries : List Entry) (bytes rest : List ℕ) (book : BookState) : Type 0 where
  pub e : Entry
  pub is_record : IsRecord variables responses bytes e rest
  pub stands : StandsFor book (entries ++ e ∷ [])
  pub room : HasRoom variables responses cards rest book

-- what becomes of a book that stands for the entries, by what follows the record that was put, if one was
abbrev pub PutsRecord : (variables responses cards : ℕ) → List Entry → (bytes : List ℕ) → BookState → Option (List ℕ) → Type 0
PutsRecord variables responses cards entries bytes book None = IsLast variables responses cards entries bytes book
PutsRecord variables responses cards entries bytes book (Some rest) = IsPut variables responses cards entries bytes rest book

-- the records of so many entries stand one behind the other, up to the first place where none stands that may come next
pub record PutsAll (variables responses cards : ℕ) (bytes rest : List ℕ) (count : ℕ) (book : BookState) : Type 0 where
  pub entries : List Entry
  pub walked : AreWalked variables responses bytes entries rest
  pub count_is : count ≡ length entries
  pub is_last : IsLast variables responses cards entries rest book
