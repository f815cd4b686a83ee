-- What an append makes of a journal.
use Rattle.std.proofs.Common.{◌≡◌, ⊎_elim, ℕ, ◌+◌, ◌*◌, ◌≤◌, Bool, true, false, List, [], ◌∷◌, ◌++◌, length, Option, Some, None, IfSome, is_some, cond, Ok, Err, refl, sym, ◌∙◌, ap, subst, arith, length-append}
use Rattle.std.proofs.lemmas.List.{append-nil}
use Rattle.std.proofs.lemmas.List.Sums.{sum_by-append, sum_by-cons}
use Rattle.dk_num.specs.Decimal.{Decimal}
use Rattle.dk_outside.specs.declared.course.Course.{Course}
use Rattle.dk_outside.specs.Disks.{IsImage}
use Rattle.dk_types.specs.declared.study.Shape.{Shape}
use Rattle.dk_types.specs.declared.entry.Entry.{Entry}
use Rattle.dk_types.specs.declared.entry.Said.{Said}
use Rattle.dk_types.specs.declared.entry.Said.TheVariants.{Values, Failed}
use Rattle.dk_types.specs.Entries.{values_of, attempts, first_values, next_attempt}
use Rattle.dk_record.specs.Payloads.{payload, payload_size, IsStored}
use Rattle.dk_record.specs.Files.{Stands, born, used}
use Rattle.dk_record.proofs.Once.{length-payload}
use Rattle.dk_journal.specs.declared.fault.AppendFault.TheVariants.{Disk}
use Rattle.dk_journal.specs.Covers.{StandsWithin, Covers}
use Rattle.dk_journal.specs.Rests.{IsAtRest, IsRecordOf, Puts}
use Rattle.dk_journal.specs.Journals.{JournalState, Holds, ComesNext, IsReadyFor, CoversTold, LeavesTold, Appends}
use Rattle.dk_journal.proofs.Covering.{covers_then, covered_now, now_is}
use Rattle.dk_journal.proofs.Safe.{settled_image}
use Rattle.dk_journal.proofs.Gates.{length-file}

pub room_now : (shape : Shape) (end : ℕ) (entries : List Entry) (told : Option Course) → IfSome told (λ course. IsAtRest shape end entries course.now) → IfSome told (λ course. end + 1 ≤ length course.now.bytes)
room_now shape end entries None rests = tt
room_now shape end entries (Some course) rests =
    omega (arith, ap length rests.born.split, length-file shape entries rests.born.front end rests.born.is_front rests.born.kept rests.ends rests.born.rest)

pub covers_told : (shape : Shape) (end : ℕ) (entries : List Entry) (e : Entry) (bytes : List ℕ) (done : Bool) (old new : Option Course) →
    IfSome old (λ course. IsAtRest shape end entries course.now) → IsRecordOf shape entries e bytes → Puts old new end bytes done → CoversTold shape old new entries (e ∷ [])
covers_told shape end entries e bytes done None new rests is_record puts = puts
covers_told shape end entries e bytes done (Some course) new rests is_record puts = (puts.0, puts.1, (puts.2 shape entries e rests is_record).covers)

pub rests_then : (shape : Shape) (end : ℕ) (entries : List Entry) (e : Entry) (bytes : List ℕ) (old new : Option Course) →
    IfSome old (λ course. IsAtRest shape end entries course.now) → IsRecordOf shape entries e bytes → Puts old new end bytes true → IfSome new (λ course. IsAtRest shape (end + length bytes) (entries ++ e ∷ []) course.now)
rests_then shape end entries e bytes None new rests is_record puts = subst (λ t. IfSome t (λ course. IsAtRest shape (end + length bytes) (entries ++ e ∷ []) course.now)) (sym puts) tt
rests_then shape end entries e bytes (Some course) new rests is_record puts =
    subst (λ t. IfSome t (λ now. IsAtRest shape (end + length bytes) (entries ++ e ∷ []) now.now)) (sym puts.1) ((puts.2 shape entries e rests is_record).rests refl)

-- attempts are counted from 1
from_one : (entries : List Entry) (p : List Decimal) (a : ℕ) → next_attempt entries p ≡ Some a → 1 ≤ a
from_one entries p a h = by (is_some (first_values (attempts entries p))) h
  where
    by : (b : Bool) → cond b None (Some (length (attempts entries p) + 1)) ≡ Some a → 1 ≤ a
    by true e = absurd (cc)
    by false e = (let q : length (attempts entries p) + 1 ≡ a = cc in omega arith)

size_at_most : (variables responses : ℕ) (said : Said) → IfSome (values_of said) (λ values. length values ≡ responses) → payload_size variables said ≤ 18 * (variables + responses) + 5
size_at_most variables responses (Values values) is = omega (arith, is)
size_at_most variables responses Failed is = omega arith

-- what is known of an entry that comes next
pub first_ready : (journal : JournalState) (e : Entry) → IsReadyFor journal e → 1 ≤ e.attempt
first_ready journal e ready = from_one ready.entries e.point e.attempt ready.next.next

pub width_ready : (journal : JournalState) (e : Entry) → IsReadyFor journal e → length e.point ≡ length journal.shape.variables
width_ready journal e ready = ready.next.point

pub values_ready : (journal : JournalState) (e : Entry) → IsReadyFor journal e → IfSome (values_of e.said) (λ values. length values ≡ length journal.shape.responses)
values_ready journal e ready = ready.next.values

pub size_ready : (journal : JournalState) (e : Entry) → IsReadyFor journal e → payload_size (length e.point) e.said ≤ 18 * (length journal.shape.variables + length journal.shape.responses) + 5
size_ready journal e ready =
    subst (λ n. payload_size n e.said ≤ 18 * (length journal.shape.variables + length journal.shape.responses) + 5) (sym ready.next.point)
    (size_at_most (length journal.shape.variables) (length journal.shape.responses) e.said ready.next.values)

-- how much of the file an entry more takes
pub used_more : (shape : Shape) (entries : List Entry) (e : Entry) → used shape (entries ++ e ∷ []) ≡ used shape entries + (1 + payload_size (length e.point) e.said)
used_more shape entries e =
    omega (arith, sum_by-append (λ (x : Entry). 1 + length (payload x)) entries (e ∷ []), sum_by-cons (λ (x : Entry). 1 + length (payload x)) e [], length-payload e)

-- what reads give stands for the entries with this one or without
within_now : (shape : Shape) (end : ℕ) (entries : List Entry) (e : Entry) (course now : Course) → IsAtRest shape end entries course.now → IsImage now.now now.now.bytes →
    Covers (Stands shape) course now entries (e ∷ []) → StandsWithin (Stands shape) entries (e ∷ []) now.now.bytes
within_now shape end entries e course now rests shown covers =
    let images = covered_now (Stands shape) course.now entries (e ∷ []) covers.since covers.each in
    ⊎_elim
    (λ was. record {
      front = [];
      rest = e ∷ [];
      split = refl;
      stands_for = subst (λ l. Stands shape now.now.bytes l) (sym (append-nil entries))
          (subst (λ b. Stands shape b entries) (sym (settled_image course.now.bytes now.now.bytes (subst (λ s. IsImage s now.now.bytes) rests.synced was))) (born entries rests.born));
    })
    (λ within. within)
    (images now.now.bytes (subst (λ s. IsImage s now.now.bytes) (now_is (Stands shape) course now covers.since covers.grown) shown))

leaves_told : (shape : Shape) (end : ℕ) (entries : List Entry) (e : Entry) (old new : Option Course) → IfSome old (λ course. IsAtRest shape end entries course.now) →
    IfSome new (λ course. IsImage course.now course.now.bytes) → CoversTold shape old new entries (e ∷ []) → LeavesTold shape new entries e
leaves_told shape end entries e None new rests shown covers = subst (λ t. LeavesTold shape t entries e) (sym covers) tt
leaves_told shape end entries e (Some course) new rests shown covers =
    subst (λ t. LeavesTold shape t entries e) (sym covers.1) (within_now shape end entries e course covers.0 rests (subst (λ t. IfSome t (λ c. IsImage c.now c.now.bytes)) covers.1 shown) covers.2)

module _ (old new : JournalState) (entries : List Entry) (e : Entry) (bytes : List ℕ) (are : bytes ≡ payload e ++ 0 ∷ []) where
  pub append_done : Puts old.told new.told old.end bytes true → new.shape ≡ old.shape → new.end ≡ old.end + length bytes → new.entries ≡ old.entries + 1 → new.whole ≡ old.whole →
      IsStored (length old.shape.variables) (length old.shape.responses) e → Holds old entries → ComesNext old.shape entries e → Appends old new entries e (Ok old.entries)
  append_done puts shape end count whole stored holds next =
      let is_record : IsRecordOf old.shape entries e bytes = record { next = next; stored = stored; are = are } in
      let rests = rests_then old.shape old.end entries e bytes old.told new.told holds.rests is_record puts in (
        record {
          whole = whole ∙ holds.whole;
          rests = subst (λ s. IfSome new.told (λ course. IsAtRest s new.end (entries ++ e ∷ []) course.now)) (sym shape) (subst (λ n. IfSome new.told (λ course. IsAtRest old.shape n (entries ++ e ∷ []) course.now)) (sym end) rests);
          count = omega (arith, count, holds.count, length-append entries (e ∷ []));
          place = subst (λ (s : Shape). new.end + 1 ≡ used s (entries ++ e ∷ [])) (sym shape)
              (let size = length-payload e in let long = length-append (payload e) (0 ∷ []) in let more = used_more old.shape entries e in let all = ap length are in omega (arith, end, holds.place, size, long, more, all));
        },
        holds.count,
        covers_told old.shape old.end entries e bytes true old.told new.told holds.rests is_record puts,
      )

  pub append_broke : Puts old.told new.told old.end bytes false → new.whole ≡ false → IfSome new.told (λ course. IsImage course.now course.now.bytes) →
      IsStored (length old.shape.variables) (length old.shape.responses) e → Holds old entries → ComesNext old.shape entries e → Appends old new entries e (Err Disk)
  append_broke puts whole shown stored holds next =
      let is_record : IsRecordOf old.shape entries e bytes = record { next = next; stored = stored; are = are } in
      let covers = covers_told old.shape old.end entries e bytes false old.told new.told holds.rests is_record puts in
      (whole, leaves_told old.shape old.end entries e old.told new.told holds.rests shown covers, covers)

-- one covered call and then another, of a disk that may tell or not
pub covers_told_then : (shape : Shape) (old mid new : Option Course) (before added more : List Entry) → CoversTold shape old mid before added → CoversTold shape mid new (before ++ added) more → CoversTold shape old new before (added ++ more)
covers_told_then shape None mid new before added more first second = subst (λ m. CoversTold shape m new (before ++ added) more) first second
covers_told_then shape (Some course) mid new before added more first second =
    let then = subst (λ m. CoversTold shape m new (before ++ added) more) first.1 second in
    (then.0, then.1, covers_then (Stands shape) course first.0 then.0 before added more first.2 then.2)

-- an opening, with nothing appended, and then what follows it
pub covers_opened_then : (shape : Shape) (old mid new : Option Course) (entries more : List Entry) → CoversTold shape old mid entries [] → CoversTold shape mid new entries more → CoversTold shape old new entries more
covers_opened_then shape old mid new entries more first second =
    covers_told_then shape old mid new entries [] more first (subst (λ l. CoversTold shape mid new l more) (sym (append-nil entries)) second)
