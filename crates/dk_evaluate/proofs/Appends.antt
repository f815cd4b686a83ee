-- Appends one after another.
use Rattle.std.proofs.Common.{◌≡◌, ⊎_elim, ℕ, ◌<◌, ◌≤◌, List, [], ◌∷◌, ◌++◌, Option, Some, None, refl, sym, ap, ◌∙◌, subst, arith, append_assoc}
use Rattle.std.specs.Prelude.{IfSome, Err}
use Rattle.std.proofs.Math.Nat.{le_trans}
use Rattle.std.proofs.lemmas.List.{append-nil}
use Rattle.dk_outside.specs.Causes.{Rose}
use Rattle.dk_outside.specs.declared.course.Course.{Course}
use Rattle.dk_outside.specs.declared.course.Standing.{Standing}
use Rattle.dk_outside.specs.Disks.{IsImage}
use Rattle.dk_types.specs.declared.study.Shape.{Shape}
use Rattle.dk_types.specs.declared.entry.Entry.{Entry}
use Rattle.dk_record.specs.Files.{Stands, born, used}
use Rattle.dk_journal.specs.declared.fault.AppendFault.{AppendFault}
use Rattle.dk_journal.specs.declared.fault.AppendFault.TheVariants.{Disk, Full}
use Rattle.dk_journal.specs.Journals.{JournalState, Holds, Appends, CoversTold, IsTooLong}
use Rattle.dk_journal.specs.Covers.{StandsWithin}
use Rattle.dk_journal.specs.Rests.{IsAtRest}
use Rattle.dk_journal.proofs.Covering.{covers_start, covered_now, now_is}
use Rattle.dk_journal.proofs.Safe.{settled_image}
use Rattle.dk_journal.proofs.Appending.{covers_told_then}
use Rattle.dk_evaluate.specs.Keeping.{KeepsNext, KeepsOne}
use Rattle.dk_evaluate.specs.Evaluated.{LeavesWithin, HasAppended, HasBroken, HasFilled, HasStopped}
use Rattle.dk_book.specs.Books.{BookState}

-- nothing was called
pub covers_told_start : (shape : Shape) (told : Option Course) (before added : List Entry) → CoversTold shape told told before added
covers_told_start shape None before added = refl
covers_told_start shape (Some course) before added = (course, refl, covers_start (Stands shape) course before added)

pub rose_later : (a b c : ℕ) → a ≤ b → Rose b c → Rose a c
rose_later a b c h k = omega arith

pub none_appended : (journal : JournalState) (entries : List Entry) → Holds journal entries → HasAppended journal journal entries []
none_appended journal entries holds = record {
  holds = subst (Holds journal) (sym (append-nil entries)) holds;
  covers = covers_told_start journal.shape journal.told entries [];
  shape = refl;
  limit = refl;
  later = omega arith;
}

covers_shaped : (old mid : JournalState) (now : Option Course) (entries added : List Entry) → mid.shape ≡ old.shape → CoversTold mid.shape mid.told now entries added → CoversTold old.shape mid.told now entries added
covers_shaped old mid now entries added same h = subst (λ (s : Shape). CoversTold s mid.told now entries added) same h

pub appended_then : (old mid now : JournalState) (entries added more : List Entry) → HasAppended old mid entries added → HasAppended mid now (entries ++ added) more →
    HasAppended old now entries (added ++ more)
appended_then old mid now entries added more a b = record {
  holds = subst (Holds now) (append_assoc entries added more) b.holds;
  covers = covers_told_then old.shape old.told mid.told now.told entries added more a.covers (covers_shaped old mid now.told (entries ++ added) more a.shape b.covers);
  shape = b.shape ∙ a.shape;
  limit = b.limit ∙ a.limit;
  later = le_trans a.later b.later;
}

-- a file at rest stands for its entries, whatever a crash leaves of it
rest_stands : (shape : Shape) (end : ℕ) (entries : List Entry) (standing : Standing) → IsAtRest shape end entries standing → (bytes : List ℕ) → IsImage standing bytes → Stands shape bytes entries
rest_stands shape end entries standing rests bytes image =
    let same = settled_image standing.bytes bytes (subst (λ (s : Standing). IsImage s bytes) rests.synced image) in
    subst (λ (b : List ℕ). Stands shape b entries) (sym same) (born entries rests.born)

stands_none : (shape : Shape) (entries tried : List Entry) (bytes : List ℕ) → Stands shape bytes entries → StandsWithin (Stands shape) entries tried bytes
stands_none shape entries tried bytes stands = record { front = []; rest = tried; split = refl; stands_for = subst (Stands shape bytes) (sym (append-nil entries)) stands }

pub rest_within : (shape : Shape) (end : ℕ) (told : Option Course) (entries : List Entry) → IfSome told (λ course. IsAtRest shape end entries course.now) → LeavesWithin shape told entries []
rest_within shape end None entries rests = tt
rest_within shape end (Some course) entries rests = λ bytes image. stands_none shape entries [] bytes (rest_stands shape end entries course.now rests bytes image)

-- what an append that failed leaves of a file that was at rest
broken_within : (shape : Shape) (end : ℕ) (old new : Option Course) (entries : List Entry) (e : Entry) → IfSome old (λ course. IsAtRest shape end entries course.now) → CoversTold shape old new entries (e ∷ []) →
    LeavesWithin shape new entries (e ∷ [])
broken_within shape end None new entries e rests covers = subst (λ (t : Option Course). LeavesWithin shape t entries (e ∷ [])) (sym covers) tt
broken_within shape end (Some course) new entries e rests covers =
    let c = covers.2 in
    subst (λ (t : Option Course). LeavesWithin shape t entries (e ∷ [])) (sym covers.1) (λ bytes image.
    ⊎_elim (λ was. stands_none shape entries (e ∷ []) bytes (rest_stands shape end entries course.now rests bytes was)) (λ within. within)
    (covered_now (Stands shape) course.now entries (e ∷ []) c.since c.each bytes (subst (λ (s : Standing). IsImage s bytes) (now_is (Stands shape) course covers.0 c.since c.grown) image)))

-- one entry that both keep
pub next_appended : (book : BookState) (old now : JournalState) (entries : List Entry) (e : Entry) → KeepsNext book old now entries e → now.shape ≡ old.shape → now.limit ≡ old.limit → old.faults ≤ now.faults →
    HasAppended old now entries (e ∷ [])
next_appended book old now entries e h shape limit later = record {
  holds = h.keeps.holds;
  covers = h.covers;
  shape = shape;
  limit = limit;
  later = later;
}

pub broken_then : (old mid now : JournalState) (entries added more : List Entry) (e : Entry) → HasAppended old mid entries added → HasBroken mid now (entries ++ added) more e →
    HasBroken old now entries (added ++ more) e
broken_then old mid now entries added more e a b = record {
  broken = b.broken;
  leaves = subst (λ (s : Shape). LeavesWithin s now.told (entries ++ (added ++ more)) (e ∷ [])) a.shape (subst (λ (l : List Entry). LeavesWithin mid.shape now.told l (e ∷ [])) (append_assoc entries added more) b.leaves);
  covers = subst (CoversTold old.shape old.told now.told entries) (sym (append_assoc added more (e ∷ [])))
      (covers_told_then old.shape old.told mid.told now.told entries added (more ++ e ∷ []) a.covers (covers_shaped old mid now.told (entries ++ added) (more ++ e ∷ []) a.shape b.covers));
  shape = b.shape ∙ a.shape;
  later = le_trans a.later b.later;
  rose = rose_later old.faults mid.faults now.faults a.later b.rose;
}

pub filled_then : (old mid now : JournalState) (entries added more : List Entry) (e : Entry) (size : ℕ) → HasAppended old mid entries added → HasFilled mid now (entries ++ added) more e size →
    HasFilled old now entries (added ++ more) e size
filled_then old mid now entries added more e size a b = record {
  appended = appended_then old mid now entries added more a b.appended;
  too_long = long a.shape a.limit (subst (λ (l : List Entry). IsTooLong mid l e size) (append_assoc entries added more) b.too_long);
}
  where
    long : mid.shape ≡ old.shape → mid.limit ≡ old.limit → IsTooLong mid (entries ++ (added ++ more)) e size → IsTooLong old (entries ++ (added ++ more)) e size
    long shape limit h = (h.0 ∙ ap (λ (s : Shape). used s ((entries ++ (added ++ more)) ++ e ∷ [])) shape, subst (λ (n : ℕ). n < size) limit h.1)

pub stopped_then : (old mid now : JournalState) (entries added more : List Entry) (e : Entry) (fault : AppendFault) → HasAppended old mid entries added → HasStopped mid now (entries ++ added) more e fault →
    HasStopped old now entries (added ++ more) e fault
stopped_then old mid now entries added more e Disk a b = broken_then old mid now entries added more e a b
stopped_then old mid now entries added more e (Full size) a b = filled_then old mid now entries added more e size a b

-- an append that was refused
pub kept_not : (book after : BookState) (old now : JournalState) (entries : List Entry) (e : Entry) (fault : AppendFault) → Appends old now entries e (Err fault) →
    ((size : ℕ) → fault ≡ Full size → IsTooLong old entries e size) → KeepsOne book after old now entries e (Err fault)
kept_not book after old now entries e Disk h full = record { broken = h.0; leaves = h.1; covers = h.2 }
kept_not book after old now entries e (Full size) h full = record { same = h; too_long = full size refl }

pub not_kept : (book after : BookState) (old now : JournalState) (entries : List Entry) (e : Entry) (fault : AppendFault) → Holds old entries → KeepsOne book after old now entries e (Err fault) →
    now.shape ≡ old.shape → old.faults ≤ now.faults → (fault ≡ Disk → Rose old.faults now.faults) → HasStopped old now entries [] e fault
not_kept book after old now entries e Disk holds h shape later rose = record {
  broken = h.broken;
  leaves = subst (λ (l : List Entry). LeavesWithin old.shape now.told l (e ∷ [])) (sym (append-nil entries)) (broken_within old.shape old.end old.told now.told entries e holds.rests h.covers);
  covers = h.covers;
  shape = shape;
  later = later;
  rose = rose refl;
}
not_kept book after old now entries e (Full size) holds h shape later rose = record {
  appended = subst (λ (j : JournalState). HasAppended old j entries []) (sym h.same) (none_appended old entries holds);
  too_long = subst (λ (l : List Entry). IsTooLong old l e size) (sym (append-nil entries)) h.too_long;
}
