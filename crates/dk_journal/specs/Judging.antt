-- The parts of an opening: what was read, what was found in it, and what became of the disk.
use Rattle.std.specs.Prelude.{◌≡◌, ◌⊎◌, ℕ, ◌+◌, ◌*◌, ◌≤◌, List, [], length, Option, Some, None, option_map, MatchOption, IfSome}
use Rattle.dk_outside.specs.Causes.{Rose}
use Rattle.dk_outside.specs.declared.course.Course.{Course}
use Rattle.dk_outside.specs.Disks.{all_synced}
use Rattle.dk_types.specs.declared.study.Shape.{Shape}
use Rattle.dk_types.specs.declared.entry.Entry.{Entry}
use Rattle.dk_book.specs.Books.{BookState}
use Rattle.dk_book.specs.Told.{StandsFor}
use Rattle.dk_record.specs.Payloads.{header_payload}
use Rattle.dk_record.specs.Files.{IsUnborn, Stands, used}
use Rattle.dk_outside.specs.declared.disk.Mode.{Mode}
use Rattle.dk_outside.specs.declared.disk.Mode.TheVariants.{Fresh}
use Rattle.dk_journal.specs.declared.fault.OpenFault.{OpenFault}
use Rattle.dk_journal.specs.declared.fault.OpenFault.TheVariants.{NotEmpty, NotARestart, OtherShape, Damaged, TooLarge, Disk, NoMemory}
use Rattle.dk_journal.specs.Covers.{Covers}
use Rattle.dk_journal.specs.Damages.{HasHeader, IsDamaged}
use Rattle.dk_journal.specs.Rests.{IsAtRest}

-- nothing was written, where the disk tells
abbrev pub IsUntouchedTold : (old new : Option Course) → Type 0
IsUntouchedTold old new = (new ≡ old) ⊎ (new ≡ option_map all_synced old)

-- the bytes of the file were synced, and read where there may be so many
pub record IsRead (mode : Mode) (limit : ℕ) (old new : Option Course) (bytes : List ℕ) : Type 0 where
  pub synced : new ≡ option_map all_synced old
  pub are : IfSome old (λ course. bytes ≡ course.now.bytes)
  pub fits : length bytes ≤ limit
  pub fresh : mode ≡ Fresh → bytes ≡ []

-- The file stands for the entries, and so did these bytes, which it had. The book stands for them, has the widths of the
-- labels, and room for so many cards more, each of them with values.
pub record IsFound (shape : Shape) (cards : ℕ) (bytes : List ℕ) (told : Option Course) (book : BookState) (count end : ℕ) : Type 0 where
  pub entries : List Entry
  pub stands : Stands shape bytes entries
  pub rests : IfSome told (λ course. IsAtRest shape end entries course.now)
  pub count_is : count ≡ length entries
  pub place : end + 1 ≡ used shape entries
  pub fits : (limit : ℕ) → length bytes ≤ limit → length (header_payload shape) + 2 ≤ limit → end + 1 ≤ limit
  pub few : count ≤ end
  pub stands_for : StandsFor book entries
  pub variables : book.variables ≡ length shape.variables
  pub responses : book.responses ≡ length shape.responses
  pub spare : cards ≤ book.spare
  pub room : cards ≤ book.room

-- why bytes that aren't unborn stand for no entries of this shape
abbrev pub IsBad : Shape → (bytes : List ℕ) → OpenFault → Type 0
IsBad shape bytes NotARestart = (stored : Shape) → HasHeader stored bytes → ⊥
IsBad shape bytes (OtherShape stored wanted) = (wanted ≡ shape) × HasHeader stored bytes × (stored ≡ shape → ⊥)
IsBad shape bytes (Damaged offset) = HasHeader shape bytes × IsDamaged shape bytes offset
IsBad shape bytes (NotEmpty size) = ⊥
IsBad shape bytes (TooLarge size) = ⊥
IsBad shape bytes Disk = ⊥
IsBad shape bytes NoMemory = Unit {0}

-- why no entries were found: the disk failed, or it is as it was
abbrev pub IsMissed : Shape → (bytes : List ℕ) → (old new : Option Course) → (before now : ℕ) → OpenFault → Type 0
IsMissed shape bytes old new before now Disk = Rose before now
IsMissed shape bytes old new before now NotARestart = (new ≡ old) × (IsUnborn bytes → ⊥) × IsBad shape bytes NotARestart
IsMissed shape bytes old new before now (OtherShape stored wanted) = (new ≡ old) × (IsUnborn bytes → ⊥) × IsBad shape bytes (OtherShape stored wanted)
IsMissed shape bytes old new before now (Damaged offset) = (new ≡ old) × (IsUnborn bytes → ⊥) × IsBad shape bytes (Damaged offset)
IsMissed shape bytes old new before now (NotEmpty size) = ⊥
IsMissed shape bytes old new before now (TooLarge size) = ⊥
IsMissed shape bytes old new before now NoMemory = new ≡ old

-- what became of a disk on which these bytes were at rest: where no entry was ever kept in them it stands for none at
-- each moment, and else it is as it was
pub record GoesOn (shape : Shape) (bytes : List ℕ) (old new : Course) : Type 0 where
  pub covers : IsUnborn bytes → Covers (Stands shape) old new [] []
  pub untouched : (IsUnborn bytes → ⊥) → new ≡ old

abbrev pub GoesOnTold : Shape → (bytes : List ℕ) → (old new : Option Course) → Type 0
GoesOnTold shape bytes old new = MatchOption old (new ≡ None) (λ course. (now : Course) × (new ≡ Some now) × GoesOn shape bytes course now)

-- what a journal has to be made with: a buffer for a record and an end gate, and numbers within the limit
pub record IsSound (limit : ℕ) (shape : Shape) (buffer : List ℕ) (count end : ℕ) : Type 0 where
  pub buffer_is : length buffer ≡ 18 * (length shape.variables + length shape.responses) + 6
  pub end_below : end + 1 ≤ limit
  pub few : count ≤ end
