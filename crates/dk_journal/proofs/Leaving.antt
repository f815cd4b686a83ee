-- What a crash leaves of a covered call has what was safe in it.
use Rattle.std.proofs.Common.{◌≡◌, ⊎_elim, ℕ, List, [], ◌++◌, length, take, refl, sym, ◌∙◌, ap, subst, arith, append_assoc, length-append}
use Rattle.std.proofs.lemmas.List.{append-nil, append_cancel_left, length-take-le}
use Rattle.dk_outside.specs.declared.course.Standing.{Standing}
use Rattle.dk_outside.specs.Disks.{IsImage}
use Rattle.dk_types.specs.declared.study.Shape.{Shape}
use Rattle.dk_types.specs.declared.entry.Entry.{Entry}
use Rattle.dk_record.specs.Files.{Stands}
use Rattle.dk_record.proofs.Once.{stands_same}
use Rattle.dk_journal.specs.Covers.{StandsWithin}
use Rattle.dk_journal.specs.Crashes.{AreSafe, LeavesFront, CrashesLeaveFronts}
use Rattle.dk_journal.proofs.Covering.{covered_now, now_is}

leaves : (shape : Shape) (before added : List Entry) (safe : ℕ) (standing : Standing) (bytes : List ℕ) → AreSafe shape before added safe standing → IsImage standing bytes → StandsWithin (Stands shape) before added bytes → LeavesFront shape before added safe bytes
leaves shape before added safe standing bytes are image within =
    let from = are.1 bytes image in
    let same : (before ++ take safe added) ++ from.rest ≡ before ++ within.front = stands_same shape bytes ((before ++ take safe added) ++ from.rest) (before ++ within.front) from.stands_for within.stands_for in
    let front : take safe added ++ from.rest ≡ within.front = append_cancel_left before (take safe added ++ from.rest) within.front (sym (append_assoc before (take safe added) from.rest) ∙ same) in
    record {
      front = within.front;
      rest = within.rest;
      split = within.split;
      long = omega (arith, ap length front, length-append (take safe added) from.rest, length-take-le safe added are.0);
      stands = within.stands_for;
    }

pub crashes_leave_fronts : CrashesLeaveFronts
crashes_leave_fronts shape old new before added safe bytes covers one stood are image =
    let images = covered_now (Stands shape) old.now before added covers.since covers.each in
    let here = images bytes (subst (λ s. IsImage s bytes) (now_is (Stands shape) old new covers.since covers.grown) image) in
    leaves shape before added safe new.now bytes are image (⊎_elim
    (λ was. record { front = []; rest = added; split = refl; stands_for = subst (λ b. Stands shape b (before ++ [])) (sym (one bytes was)) (subst (λ l. Stands shape old.now.bytes l) (sym (append-nil before)) stood) })
    (λ within. within) here)
