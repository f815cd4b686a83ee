-- The sessions that a call over a restart file gives: for each of its moments, one for whatever a crash may leave then.
use Rattle.std.specs.Prelude.{◌≡◌, ℕ, List, ◌++◌, Option, Some, None, IfSome}
use Rattle.dk_outside.specs.declared.course.Standing.{Standing}
use Rattle.dk_outside.specs.declared.course.Course.{Course}
use Rattle.dk_outside.specs.Disks.{IsImage, moments}
use Rattle.dk_types.specs.declared.study.Study.{Study}
use Rattle.dk_types.specs.declared.entry.Entry.{Entry}
use Rattle.dk_journal.specs.Crashes.{AreSafe}
use Rattle.dk_journal.specs.Sessions.{Told, IsSession, shape_of}

-- a course up to one of its moments since the start
pub record IsUpTo (start part last : Course) : Type 0 where
  pub since : List Standing
  pub left : List Standing
  pub from : moments part ≡ since ++ moments start
  pub on : moments last ≡ left ++ moments part

-- a crash leaves what reads give, and nothing else
abbrev pub HasOneImage : Standing → Type 0
HasOneImage standing = (bytes : List ℕ) → IsImage standing bytes → bytes ≡ standing.bytes

-- whatever a crash leaves at the end of this part of a course is that of a session, with as many of the added entries as
-- were safe at some moment of the part
abbrev pub EndsInSessions : Study → (start part : Course) → (before added : List Entry) → Option Told → Type 0
EndsInSessions study start part before added told = (early : Course) (safe : ℕ) (left : List ℕ) → IsUpTo start early part → AreSafe (shape_of study) before added safe early.now → IsImage part.now left →
    IsSession (record { study = study; start = start.now.bytes; before = before; added = added; safe = safe; left = left; told = told })

-- each moment of a call ends in sessions that told nothing, where its disk tells and a crash before could leave one content
abbrev pub GivesSessions : Study → (old new : Option Course) → (before added : List Entry) → Type 0
GivesSessions study old new before added = IfSome old (λ start. IfSome new (λ last. HasOneImage start.now → (part : Course) → IsUpTo start part last → EndsInSessions study start part before added None))

-- and its return in sessions that told the rows and the ending
abbrev pub ReturnsSessions : Study → (old new : Option Course) → (before added : List Entry) → Told → Type 0
ReturnsSessions study old new before added told = IfSome old (λ start. IfSome new (λ last. HasOneImage start.now → EndsInSessions study start last before added (Some told)))
