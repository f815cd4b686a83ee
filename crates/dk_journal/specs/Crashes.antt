-- What a call that is covered gives to sessions.
use Rattle.std.specs.Prelude.{◌≡◌, ℕ, ◌≤◌, List, ◌∷◌, ◌++◌, length, take}
use Rattle.dk_outside.specs.declared.course.Standing.{Standing}
use Rattle.dk_outside.specs.declared.course.Course.{Course}
use Rattle.dk_outside.specs.Disks.{IsImage, moments}
use Rattle.dk_types.specs.declared.entry.Entry.{Entry}
use Rattle.dk_types.specs.declared.study.Shape.{Shape}
use Rattle.dk_record.specs.Files.{Stands}
use Rattle.dk_journal.specs.Covers.{Covers, IsSafe}

-- a moment of the call, and the moments before it, the latest first
pub record IsMoment (old new : Course) (standing : Standing) (before : List Standing) : Type 0 where
  pub later : List Standing
  pub start : List Standing
  pub split : moments new ≡ later ++ standing ∷ before
  pub since_start : standing ∷ before ≡ start ++ moments old

-- the first of the added entries, so many, were safe at this moment
abbrev pub AreSafe : Shape → (before added : List Entry) → (safe : ℕ) → Standing → Type 0
AreSafe shape before added safe standing = (safe ≤ length added) × IsSafe (Stands shape) (before ++ take safe added) standing

-- the bytes stand for the entries of before and a front of those added, no shorter than this
pub record LeavesFront (shape : Shape) (before added : List Entry) (safe : ℕ) (bytes : List ℕ) : Type 0 where
  pub front : List Entry
  pub rest : List Entry
  pub split : added ≡ front ++ rest
  pub long : safe ≤ length front
  pub stands : Stands shape bytes (before ++ front)

-- What a crash leaves at the last moment of a covered call that began with one image has what was safe at any moment of
-- the call. (Each moment is the last of the part of the call up to it, which is covered too.)
abbrev pub CrashesLeaveFronts : Type 0
CrashesLeaveFronts = (shape : Shape) (old new : Course) (before added : List Entry) (safe : ℕ) (bytes : List ℕ) →
    Covers (Stands shape) old new before added → ((c : List ℕ) → IsImage old.now c → c ≡ old.now.bytes) → Stands shape old.now.bytes before →
    AreSafe shape before added safe new.now → IsImage new.now bytes → LeavesFront shape before added safe bytes
