-- How an unborn file gets its header.
use Rattle.std.specs.Prelude.{◌≡◌, ℕ, ◌≤◌, Bool, true, List, [], ◌∷◌, ◌++◌, length, Option, Some, None, MatchOption}
use Rattle.dk_outside.specs.declared.course.Course.{Course}
use Rattle.dk_outside.specs.Disks.{settled}
use Rattle.dk_types.specs.declared.study.Shape.{Shape}
use Rattle.dk_record.specs.Payloads.{header_payload}
use Rattle.dk_record.specs.Files.{IsUnborn, Stands}
use Rattle.dk_journal.specs.Covers.{Covers}
use Rattle.dk_journal.specs.Rests.{IsAtRest}

-- the first gate is closed, whatever follows, and all is synced
pub record IsShut (course : Course) : Type 0 where
  pub rest : List ℕ
  pub synced : course.now ≡ settled (0 ∷ rest)

-- at most one byte, all synced
pub record IsShort (course : Course) : Type 0 where
  pub bytes : List ℕ
  pub synced : course.now ≡ settled bytes
  pub short : length bytes ≤ 1

-- the file of at most one byte gets a closed gate; at each moment it stands for no entries
pub record Shuts (shape : Shape) (done : Bool) (old new : Course) : Type 0 where
  pub covers : Covers (Stands shape) old new [] []
  pub shut : done ≡ true → IsShut new

abbrev pub ShutsTold : (old new : Option Course) → (done : Bool) → Type 0
ShutsTold old new done = MatchOption old (new ≡ None) (λ course. (now : Course) × (new ≡ Some now) × (IsShort course → (shape : Shape) → Shuts shape done course now))

-- the file whose first gate is closed gets a header; at each moment it stands for no entries
pub record Bears (shape : Shape) (end : ℕ) (done : Bool) (old new : Course) : Type 0 where
  pub covers : Covers (Stands shape) old new [] []
  pub rests : done ≡ true → IsAtRest shape end [] new.now

abbrev pub BearsTold : (old new : Option Course) → (header : List ℕ) → (done : Bool) → Type 0
BearsTold old new header done = MatchOption old (new ≡ None) (λ course. (now : Course) × (new ≡ Some now)
    × (IsShut course → (shape : Shape) → header ≡ header_payload shape ++ 0 ∷ [] → Bears shape (length header) done course now))

-- a file of so many bytes in which no entry was ever kept, all of it synced
pub record IsUnbornAtRest (course : Course) (size : ℕ) : Type 0 where
  pub bytes : List ℕ
  pub synced : course.now ≡ settled bytes
  pub unborn : IsUnborn bytes
  pub long : size ≡ length bytes

-- such a file gets a header; at each moment it stands for no entries
abbrev pub BeginsTold : (old new : Option Course) → (size : ℕ) → (header : List ℕ) → (done : Bool) → Type 0
BeginsTold old new size header done = MatchOption old (new ≡ None) (λ course. (now : Course) × (new ≡ Some now)
    × (IsUnbornAtRest course size → (shape : Shape) → header ≡ header_payload shape ++ 0 ∷ [] → Bears shape (length header) done course now))
