-- Why a restart file isn't opened, in the order of the tests, and what an opening leaves.
use Rattle.std.specs.Prelude.{◌≡◌, ◌⊎◌, ℕ, ◌<◌, ◌≤◌, List, [], length, Option, Some, None, option_map, MatchOption, IfSome}
use Rattle.dk_outside.specs.Causes.{Rose}
use Rattle.dk_outside.specs.declared.course.Course.{Course}
use Rattle.dk_outside.specs.Disks.{all_synced}
use Rattle.dk_types.specs.declared.study.Shape.{Shape}
use Rattle.dk_types.specs.declared.entry.Entry.{Entry}
use Rattle.dk_book.specs.Books.{BookState}
use Rattle.dk_book.specs.Told.{StandsFor}
use Rattle.dk_record.specs.Payloads.{IsShape}
use Rattle.dk_record.specs.Files.{IsUnborn, Stands}
use Rattle.dk_outside.specs.declared.disk.Mode.{Mode}
use Rattle.dk_outside.specs.declared.disk.Mode.TheVariants.{Fresh, Resume}
use Rattle.dk_journal.specs.declared.fault.OpenFault.{OpenFault}
use Rattle.dk_journal.specs.declared.fault.OpenFault.TheVariants.{NotEmpty, NotARestart, OtherShape, Damaged, TooLarge, Disk, NoMemory}
use Rattle.dk_journal.specs.Covers.{Covers}
use Rattle.dk_journal.specs.Damages.{HasHeader, IsDamaged}
use Rattle.dk_journal.specs.Journals.{JournalState, Holds}

-- the first test that fails
pub data Refuses (mode : Mode) (shape : Shape) (limit : ℕ) (bytes : List ℕ) : OpenFault → Type 0 where
  too_large : limit < length bytes → Refuses mode shape limit bytes (TooLarge (length bytes))
  not_empty : mode ≡ Fresh → length bytes ≤ limit → 0 < length bytes → Refuses mode shape limit bytes (NotEmpty (length bytes))
  not_a_restart : mode ≡ Resume → length bytes ≤ limit → (IsUnborn bytes → ⊥) → ((stored : Shape) → HasHeader stored bytes → ⊥) → Refuses mode shape limit bytes NotARestart
  other_shape : (stored : Shape) → mode ≡ Resume → length bytes ≤ limit → (IsUnborn bytes → ⊥) → HasHeader stored bytes → (stored ≡ shape → ⊥) → Refuses mode shape limit bytes (OtherShape stored shape)
  damaged : (offset : ℕ) → mode ≡ Resume → length bytes ≤ limit → (IsUnborn bytes → ⊥) → HasHeader shape bytes → IsDamaged shape bytes offset → Refuses mode shape limit bytes (Damaged offset)

-- no test fails: the bytes are as many as there may be, and stand for the entries
pub record CanOpen (mode : Mode) (shape : Shape) (limit : ℕ) (bytes : List ℕ) (entries : List Entry) : Type 0 where
  pub fits : length bytes ≤ limit
  pub fresh : mode ≡ Fresh → bytes ≡ []
  pub stands : Stands shape bytes entries

-- these are the only entries for which the bytes can stand, if they stand for any
abbrev pub IsOnly : Shape → List ℕ → List Entry → Type 0
IsOnly shape bytes entries = (others : List Entry) → Stands shape bytes others → others ≡ entries

-- nothing was written: the disk stands as it stood, or what reads give was synced
abbrev pub IsUntouched : (old new : Course) → Type 0
IsUntouched old new = (new ≡ old) ⊎ (new ≡ all_synced old)

-- Whatever an opening answers: it is covered with nothing appended, the bytes stand at the end for what they stood for,
-- and nothing was written unless no entry was ever kept in the file.
pub record OpensOver (shape : Shape) (old new : Course) : Type 0 where
  pub covers : (entries : List Entry) → IsOnly shape old.now.bytes entries → Covers (Stands shape) old new entries []
  pub same : (entries : List Entry) → Stands shape old.now.bytes entries → Stands shape new.now.bytes entries
  pub untouched : (IsUnborn old.now.bytes → ⊥) → IsUntouched old new

-- the same of a disk that may tell or not
abbrev pub OpensOverTold : Shape → (old new : Option Course) → Type 0
OpensOverTold shape old new = MatchOption old (new ≡ None) (λ course. (now : Course) × (new ≡ Some now) × OpensOver shape course now)

-- A file was opened over the entries for which it stood, which are none in a fresh one, whether its disk tells or not: the
-- journal holds them, and the book stands for them. It has the widths of the labels, and room for so many cards more, each of
-- them with values.
pub record Opens (mode : Mode) (shape : Shape) (limit cards : ℕ) (old : Option Course) (journal : JournalState) (book : BookState) : Type 0 where
  pub entries : List Entry
  pub stood : IfSome old (λ course. CanOpen mode shape limit course.now.bytes entries)
  pub fresh : mode ≡ Fresh → entries ≡ []
  pub holds : Holds journal entries
  pub stands_for : StandsFor book entries
  pub shape_is : journal.shape ≡ shape
  pub limit_is : journal.limit ≡ limit
  pub variables : book.variables ≡ length shape.variables
  pub responses : book.responses ≡ length shape.responses
  pub spare : cards ≤ book.spare
  pub room : cards ≤ book.room

-- the first test that fails of the bytes that reads give, where the disk tells them; nothing was written
pub record RefusesTold (mode : Mode) (shape : Shape) (limit : ℕ) (old new : Option Course) (fault : OpenFault) : Type 0 where
  pub refuses : IfSome old (λ course. Refuses mode shape limit course.now.bytes fault)
  pub unwritten : new ≡ option_map all_synced old

-- Why an opening was refused: the disk failed, or there was no memory, before anything was written, or a test failed.
abbrev pub IsRefused : Mode → Shape → (limit : ℕ) → (old new : Option Course) → (before now : ℕ) → OpenFault → Type 0
IsRefused mode shape limit old new before now Disk = Rose before now
IsRefused mode shape limit old new before now NoMemory = new ≡ option_map all_synced old
IsRefused mode shape limit old new before now (NotEmpty size) = RefusesTold mode shape limit old new (NotEmpty size)
IsRefused mode shape limit old new before now NotARestart = RefusesTold mode shape limit old new NotARestart
IsRefused mode shape limit old new before now (OtherShape stored wanted) = RefusesTold mode shape limit old new (OtherShape stored wanted)
IsRefused mode shape limit old new before now (Damaged offset) = RefusesTold mode shape limit old new (Damaged offset)
IsRefused mode shape limit old new before now (TooLarge size) = RefusesTold mode shape limit old new (TooLarge size)

-- this fault, unless the disk failed or there was no memory
abbrev pub IsUnlessFailed : (fault told : OpenFault) → Type 0
IsUnlessFailed fault told = (told ≡ fault) ⊎ (told ≡ Disk) ⊎ (told ≡ NoMemory)

-- at most one test fails first
abbrev pub RefusalsAreOne : Type 0
RefusalsAreOne = (mode : Mode) (shape : Shape) (limit : ℕ) (bytes : List ℕ) (fault other : OpenFault) →
    Refuses mode shape limit bytes fault → Refuses mode shape limit bytes other → fault ≡ other

-- a file of which a test fails isn't opened over any entries
abbrev pub RefusedFilesAreNotOpened : Type 0
RefusedFilesAreNotOpened = (mode : Mode) (shape : Shape) (limit : ℕ) (bytes : List ℕ) (fault : OpenFault) (entries : List Entry) → IsShape shape →
    Refuses mode shape limit bytes fault → CanOpen mode shape limit bytes entries → ⊥
