-- A record that is put behind the end gate.
use Rattle.std.proofs.Common.{◌≡◌, ℕ, ◌+◌, ◌≤◌, Bool, true, false, List, [], ◌∷◌, ◌++◌, length, drop, Option, Some, None, refl, sym, ◌∙◌, ap, subst, arith, append_assoc, length-append}
use Rattle.std.proofs.lemmas.List.{append-nil}
use Rattle.dk_outside.specs.declared.course.Standing.{Standing}
use Rattle.dk_outside.specs.declared.course.Course.{Course}
use Rattle.dk_outside.specs.Disks.{IsImage, settled, after_write}
use Rattle.dk_types.specs.declared.study.Shape.{Shape}
use Rattle.dk_types.specs.declared.entry.Entry.{Entry}
use Rattle.dk_record.specs.Payloads.{payload}
use Rattle.dk_record.specs.Files.{Stands, born}
use Rattle.dk_record.proofs.Once.{stands_same}
use Rattle.dk_journal.specs.Covers.{StandsWithin, Covers}
use Rattle.dk_journal.specs.Rests.{IsAtRest, IsRecordOf, Rewrites, Leads, Adds, Puts}
use Rattle.dk_journal.proofs.Covering.{covers_wider, covers_then}
use Rattle.dk_journal.proofs.Safe.{rewrites_cover, rewritten_now}
use Rattle.dk_journal.proofs.Gates.{shut, length-file, torn_behind, written_behind, opened, torn_gate, written_gate}

module _ (shape : Shape) (end : ℕ) (entries : List Entry) (e : Entry) (bytes : List ℕ) (course : Course) (at_rest : IsAtRest shape end entries course.now) (is_record : IsRecordOf shape entries e bytes) where
  abbrev front : List ℕ
  front = at_rest.born.front

  abbrev rest : List ℕ
  rest = at_rest.born.rest

  abbrev file : List ℕ
  file = front ++ 0 ∷ rest

  is_settled : course.now ≡ settled file
  is_settled = at_rest.synced ∙ ap settled at_rest.born.split

  stood : Stands shape file entries
  stood = born entries (shut shape entries front end at_rest.born.is_front at_rest.born.kept at_rest.ends rest file refl)

  room : end + 1 ≤ length file
  room = omega (arith, length-file shape entries front end at_rest.born.is_front at_rest.born.kept at_rest.ends rest)

  torn : (left c : List ℕ) → IsImage (after_write (settled file) (end + 1) (length bytes) left) c → StandsWithin (Stands shape) entries [] c
  torn left c image = record {
    front = [];
    rest = [];
    split = refl;
    stands_for = subst (λ l. Stands shape c l) (sym (append-nil entries)) (born entries (torn_behind shape entries front end at_rest.born.is_front at_rest.born.kept at_rest.ends rest left c (length bytes) image));
  }

  staged_covers : (done : Bool) (mid : Course) → Rewrites course (end + 1) bytes done mid → Covers (Stands shape) course mid entries []
  staged_covers done mid rewrites = rewrites_cover (Stands shape) (stands_same shape) course file (end + 1) bytes entries [] is_settled room stood torn done mid rewrites

  pub adds_nothing : (mid : Course) → Rewrites course (end + 1) bytes false mid → Adds shape end (length bytes) entries e false course mid
  adds_nothing mid rewrites = record {
    covers = covers_wider (Stands shape) course mid entries [] (e ∷ []) (staged_covers false mid rewrites);
    rests = λ no. absurd (let never : false ≡ true = no in cc);
  }

  -- what stands behind the new end gate
  abbrev tail : List ℕ
  tail = drop (end + 1 + length bytes) file

  abbrev staged : List ℕ
  staged = front ++ 0 ∷ (payload e ++ 0 ∷ tail)

  behind : bytes ++ tail ≡ payload e ++ 0 ∷ tail
  behind = ap (λ (l : List ℕ). l ++ tail) is_record.are ∙ append_assoc (payload e) (0 ∷ []) tail

  module _ (mid new : Course) (done : Bool) (first : Rewrites course (end + 1) bytes true mid) (second : Rewrites mid end (1 ∷ []) done new) where
    mid_now : mid.now ≡ settled staged
    mid_now =
        rewritten_now course mid file (end + 1) bytes is_settled first
        ∙ ap settled (written_behind shape entries front end at_rest.born.is_front at_rest.born.kept at_rest.ends rest bytes ∙ ap (λ (l : List ℕ). front ++ 0 ∷ l) behind)

    staged_stood : Stands shape staged entries
    staged_stood = born entries (shut shape entries front end at_rest.born.is_front at_rest.born.kept at_rest.ends (payload e ++ 0 ∷ tail) staged refl)

    gate_room : end ≤ length staged
    gate_room = omega (arith, length-file shape entries front end at_rest.born.is_front at_rest.born.kept at_rest.ends (payload e ++ 0 ∷ tail))

    gate_covers : Covers (Stands shape) mid new entries (e ∷ [])
    gate_covers = rewrites_cover (Stands shape) (stands_same shape) mid staged end (1 ∷ []) entries (e ∷ []) mid_now gate_room staged_stood
        (torn_gate shape entries front end at_rest.born.is_front at_rest.born.kept at_rest.ends e is_record.next is_record.stored tail) done new second

    all_covers : Covers (Stands shape) course new entries (e ∷ [])
    all_covers = covers_then (Stands shape) course mid new entries [] (e ∷ []) (staged_covers true mid first)
        (subst (λ l. Covers (Stands shape) mid new l (e ∷ [])) (sym (append-nil entries)) gate_covers)

    new_now : Rewrites mid end (1 ∷ []) true new → new.now ≡ settled (front ++ 1 ∷ (payload e ++ 0 ∷ tail))
    new_now whole =
        rewritten_now mid new staged end (1 ∷ []) mid_now whole
        ∙ ap settled (written_gate shape entries front end at_rest.born.is_front at_rest.born.kept at_rest.ends e is_record.next is_record.stored tail)

    rests_now : Rewrites mid end (1 ∷ []) true new → IsAtRest shape (end + length bytes) (entries ++ e ∷ []) new.now
    rests_now whole =
        let now = new_now whole in
        let same : new.now.bytes ≡ front ++ 1 ∷ (payload e ++ 0 ∷ tail) = ap (λ (s : Standing). s.bytes) now in
        record {
          born = opened shape entries front end at_rest.born.is_front at_rest.born.kept at_rest.ends e is_record.next is_record.stored tail 1 new.now.bytes (omega arith) same;
          ends = omega (arith, length-append front (1 ∷ payload e), at_rest.ends, ap length is_record.are, length-append (payload e) (0 ∷ []));
          synced = now ∙ ap settled (sym same);
        }

    pub adds_all : Adds shape end (length bytes) entries e done course new
    adds_all = record { covers = all_covers; rests = λ yes. rests_now (subst (λ b. Rewrites mid end (1 ∷ []) b new) yes second) }

pub puts_nothing : (old mid : Option Course) (end : ℕ) (bytes : List ℕ) → Leads old mid (end + 1) bytes false → Puts old mid end bytes false
puts_nothing None mid end bytes leads = leads
puts_nothing (Some course) mid end bytes leads = (leads.0, leads.1, λ shape entries e at_rest is_record. adds_nothing shape end entries e bytes course at_rest is_record leads.0 leads.2)

pub puts_all : (old mid new : Option Course) (end : ℕ) (bytes : List ℕ) (done : Bool) → Leads old mid (end + 1) bytes true → Leads mid new end (1 ∷ []) done → Puts old new end bytes done
puts_all None mid new end bytes done first second = subst (λ m. Leads m new end (1 ∷ []) done) first second
puts_all (Some course) mid new end bytes done first second =
    let then = subst (λ m. Leads m new end (1 ∷ []) done) first.1 second in
    (then.0, then.1, λ shape entries e at_rest is_record. adds_all shape end entries e bytes course at_rest is_record first.0 then.0 done first.2 then.2)
