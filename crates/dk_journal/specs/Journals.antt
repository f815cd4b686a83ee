-- A journal, and what an append makes of it.
use Rattle.std.specs.Prelude.{◌≡◌, ℕ, ◌+◌, ◌<◌, Bool, true, false, List, [], ◌∷◌, ◌++◌, length, Option, Some, None, MatchOption, IfSome, Result, Ok, Err}
use Rattle.dk_outside.specs.declared.course.Course.{Course}
use Rattle.dk_types.specs.declared.study.Shape.{Shape}
use Rattle.dk_types.specs.declared.entry.Entry.{Entry}
use Rattle.dk_types.specs.Entries.{IsNextEntry}
use Rattle.dk_record.specs.Files.{Stands, used}
use Rattle.dk_journal.specs.declared.fault.AppendFault.{AppendFault}
use Rattle.dk_journal.specs.declared.fault.AppendFault.TheVariants.{Disk, Full}
use Rattle.dk_journal.specs.Covers.{StandsWithin, Covers}
use Rattle.dk_journal.specs.Rests.{IsAtRest}

-- what its disk tells and how often that failed, the labels, where the end gate stands, how many entries there are, how
-- many bytes it may have, and whether no append failed on the disk
pub record JournalState : Type 0 where
  pub told : Option Course
  pub faults : ℕ
  pub shape : Shape
  pub end : ℕ
  pub entries : ℕ
  pub limit : ℕ
  pub whole : Bool

-- the journal is whole, and its file is at rest with these entries
pub record Holds (journal : JournalState) (entries : List Entry) : Type 0 where
  pub whole : journal.whole ≡ true
  pub rests : IfSome journal.told (λ course. IsAtRest journal.shape journal.end entries course.now)
  pub count : journal.entries ≡ length entries
  pub place : journal.end + 1 ≡ used journal.shape entries

-- the entry comes next behind these
abbrev pub ComesNext : Shape → List Entry → Entry → Type 0
ComesNext shape entries e = IsNextEntry (length shape.variables) (length shape.responses) entries e

-- entries that the journal holds, behind which this one may come
pub record IsReadyFor (journal : JournalState) (e : Entry) : Type 0 where
  pub entries : List Entry
  pub holds : Holds journal entries
  pub next : ComesNext journal.shape entries e

-- with this entry behind these the file would have this length, more than it may
abbrev pub IsTooLong : JournalState → List Entry → Entry → (size : ℕ) → Type 0
IsTooLong journal entries e size = (size ≡ used journal.shape (entries ++ e ∷ [])) × (journal.limit < size)

-- what a crash at any moment between leaves is covered, where the disk tells
abbrev pub CoversTold : Shape → (old new : Option Course) → (before added : List Entry) → Type 0
CoversTold shape old new before added = MatchOption old (new ≡ None) (λ course. (now : Course) × (new ≡ Some now) × Covers (Stands shape) course now before added)

-- what reads give stands for these entries with this one or without, where the disk tells
abbrev pub LeavesTold : Shape → Option Course → List Entry → Entry → Type 0
LeavesTold shape told entries e = IfSome told (λ course. StandsWithin (Stands shape) entries (e ∷ []) course.now.bytes)

-- An append behind these entries: at Ok the entry is last, and its number, counted from 0, is answered. Where the disk
-- failed the journal isn't whole any more, and the entry may be there or not. Where there is no room nothing changed.
abbrev pub Appends : (old new : JournalState) → List Entry → Entry → Result ℕ AppendFault → Type 0
Appends old new entries e (Ok number) = Holds new (entries ++ e ∷ []) × (number ≡ length entries) × CoversTold old.shape old.told new.told entries (e ∷ [])
Appends old new entries e (Err Disk) = (new.whole ≡ false) × LeavesTold old.shape new.told entries e × CoversTold old.shape old.told new.told entries (e ∷ [])
Appends old new entries e (Err (Full size)) = new ≡ old
