-- How an unborn file gets its header.
use Rattle.std.proofs.Common.{◌≡◌, inl, inr, ℕ, ◌+◌, ◌<◌, ◌≤◌, Bool, true, false, List, [], ◌∷◌, ◌++◌, length, get_or, take, drop, Option, Some, None, IfSome, refl, sym, ◌∙◌, ap, subst, arith, append_assoc, length-append, take-append-drop}
use Rattle.std.proofs.Math.Nat.{eq-zero-or-pos}
use Rattle.std.proofs.lemmas.List.{append-nil, drop_more}
use Rattle.std.proofs.lemmas.List.Elements.{All-nil}
use Rattle.dk_outside.specs.declared.course.Standing.{Standing}
use Rattle.dk_outside.specs.declared.course.Course.{Course}
use Rattle.dk_outside.specs.Disks.{IsImage, settled, after_write}
use Rattle.dk_types.specs.declared.study.Shape.{Shape}
use Rattle.dk_record.specs.Payloads.{header_payload, IsStored}
use Rattle.dk_record.specs.Files.{IsUnborn, IsBorn, Stands, unborn, born, none}
use Rattle.dk_record.proofs.Once.{stands_same}
use Rattle.dk_journal.specs.Covers.{StandsWithin, Covers}
use Rattle.dk_journal.specs.Rests.{Rewrites, Leads}
use Rattle.dk_journal.specs.Births.{IsShut, IsShort, Shuts, ShutsTold, Bears, BearsTold, IsUnbornAtRest, BeginsTold}
use Rattle.dk_journal.proofs.Covering.{covers_then}
use Rattle.dk_journal.proofs.Safe.{image_front, image_back, rewrites_cover, rewritten_now}

short_unborn : (bytes : List ℕ) → length bytes ≤ 1 → IsUnborn bytes
short_unborn [] short = tt
short_unborn (b ∷ []) short = tt
short_unborn (a ∷ b ∷ bytes) short = absurd (omega arith)

shut_unborn : (rest : List ℕ) → IsUnborn (0 ∷ rest)
shut_unborn [] = tt
shut_unborn (b ∷ rest) = refl

module _ (shape : Shape) where
  within_none : (bytes : List ℕ) → Stands shape bytes [] → StandsWithin (Stands shape) [] [] bytes
  within_none bytes stands = record { front = []; rest = []; split = refl; stands_for = stands }

  pub shuts_all : (course new : Course) (done : Bool) → IsShort course → Rewrites course 0 (0 ∷ []) done new → Shuts shape done course new
  shuts_all course new done is rewrites = record {
    covers = rewrites_cover (Stands shape) (stands_same shape) course is.bytes 0 (0 ∷ []) [] [] is.synced (omega arith) (unborn (short_unborn is.bytes is.short))
        (λ left c image. within_none c (unborn (short_unborn c (omega (arith, image.no_longer, is.short))))) done new rewrites;
    shut = λ yes. record { rest = drop 1 is.bytes; synced = rewritten_now course new is.bytes 0 (0 ∷ []) is.synced (subst (λ b. Rewrites course 0 (0 ∷ []) b new) yes rewrites) };
  }

  torn_header : (rest left c : List ℕ) (count : ℕ) → IsImage (after_write (settled (0 ∷ rest)) 1 count left) c → Stands shape c []
  torn_header rest left c count image =
      let front : take 1 c ≡ 0 ∷ [] = image_front (0 ∷ rest) 1 count left c (omega arith) image in
      let split : c ≡ 0 ∷ drop 1 c = sym (take-append-drop 1 c) ∙ ap (λ (l : List ℕ). l ++ drop 1 c) front in
      unborn (subst IsUnborn (sym split) (shut_unborn (drop 1 c)))

  pub header_stands : (gate : ℕ) (rest bytes : List ℕ) → 0 < gate → bytes ≡ gate ∷ (header_payload shape ++ 0 ∷ rest) → IsBorn shape bytes []
  header_stands gate rest bytes is_open split = record {
    front = gate ∷ header_payload shape;
    rest = rest;
    is_front = record { gate = gate; is_open = is_open; records = []; are_records = none; split = ap (λ (l : List ℕ). gate ∷ l) (sym (append-nil (header_payload shape))) };
    split = split;
    kept = record { well_formed = tt; stored = All-nil (IsStored (length shape.variables) (length shape.responses)) };
  }

  any_gate : (gate : ℕ) (rest bytes : List ℕ) → bytes ≡ gate ∷ (header_payload shape ++ 0 ∷ rest) → Stands shape bytes []
  any_gate gate rest bytes split = elim (eq-zero-or-pos gate) [
    | inl closed ↦ unborn (subst IsUnborn (sym (split ∙ ap (λ (g : ℕ). g ∷ (header_payload shape ++ 0 ∷ rest)) closed)) (shut_unborn (header_payload shape ++ 0 ∷ rest)))
    | inr is_open ↦ born [] (header_stands gate rest bytes is_open split)
  ]

  torn_first : (rest left c : List ℕ) → IsImage (after_write (settled (0 ∷ (header_payload shape ++ 0 ∷ rest))) 0 1 left) c → Stands shape c []
  torn_first rest left c image =
      let file = 0 ∷ (header_payload shape ++ 0 ∷ rest) in
      let behind : drop 1 c ≡ header_payload shape ++ 0 ∷ rest = image_back file 0 1 left c (omega arith) image in
      any_gate (get_or c 0 0) rest c (drop_more c 0 0 (omega (arith, image.no_shorter)) ∙ ap (λ (l : List ℕ). get_or c 0 0 ∷ l) behind)

  module _ (course : Course) (header : List ℕ) (is_shut : IsShut course) (are : header ≡ header_payload shape ++ 0 ∷ []) where
    first_covers : (mid : Course) (done : Bool) → Rewrites course 1 header done mid → Covers (Stands shape) course mid [] []
    first_covers mid done rewrites = rewrites_cover (Stands shape) (stands_same shape) course (0 ∷ is_shut.rest) 1 header [] [] is_shut.synced (omega arith) (unborn (shut_unborn is_shut.rest))
        (λ left c image. within_none c (torn_header is_shut.rest left c (length header) image)) done mid rewrites

    pub bears_nothing : (mid : Course) → Rewrites course 1 header false mid → Bears shape (length header) false course mid
    bears_nothing mid rewrites = record { covers = first_covers mid false rewrites; rests = λ no. absurd (let never : false ≡ true = no in cc) }

    abbrev tail : List ℕ
    tail = drop (1 + length header) (0 ∷ is_shut.rest)

    mid_now : (mid : Course) → Rewrites course 1 header true mid → mid.now ≡ settled (0 ∷ (header_payload shape ++ 0 ∷ tail))
    mid_now mid rewrites =
        rewritten_now course mid (0 ∷ is_shut.rest) 1 header is_shut.synced rewrites
        ∙ ap (λ (l : List ℕ). settled (0 ∷ l)) (ap (λ (l : List ℕ). l ++ tail) are ∙ append_assoc (header_payload shape) (0 ∷ []) tail)

    pub bears_all : (mid new : Course) (done : Bool) → Rewrites course 1 header true mid → Rewrites mid 0 (1 ∷ []) done new → Bears shape (length header) done course new
    bears_all mid new done first second =
        let staged = 0 ∷ (header_payload shape ++ 0 ∷ tail) in
        let settled_mid = mid_now mid first in
        record {
          covers = covers_then (Stands shape) course mid new [] [] [] (first_covers mid true first)
              (rewrites_cover (Stands shape) (stands_same shape) mid staged 0 (1 ∷ []) [] [] settled_mid (omega arith) (unborn (shut_unborn (header_payload shape ++ 0 ∷ tail)))
              (λ left c image. within_none c (torn_first tail left c image)) done new second);
          rests = λ yes.
              let now : new.now ≡ settled (1 ∷ (header_payload shape ++ 0 ∷ tail)) = rewritten_now mid new staged 0 (1 ∷ []) settled_mid (subst (λ b. Rewrites mid 0 (1 ∷ []) b new) yes second) in
              let same : new.now.bytes ≡ 1 ∷ (header_payload shape ++ 0 ∷ tail) = ap (λ (s : Standing). s.bytes) now in
              record {
                born = record {
                  front = 1 ∷ header_payload shape;
                  rest = tail;
                  is_front = record { gate = 1; is_open = omega arith; records = []; are_records = none; split = ap (λ (l : List ℕ). 1 ∷ l) (sym (append-nil (header_payload shape))) };
                  split = same;
                  kept = record { well_formed = tt; stored = All-nil (IsStored (length shape.variables) (length shape.responses)) };
                };
                ends = omega (arith, ap length are, length-append (header_payload shape) (0 ∷ []));
                synced = now ∙ ap settled (sym same);
              };
        }

pub shuts_told : (old new : Option Course) (done : Bool) → Leads old new 0 (0 ∷ []) done → ShutsTold old new done
shuts_told None new done leads = leads
shuts_told (Some course) new done leads = (leads.0, leads.1, λ short shape. shuts_all shape course leads.0 done short leads.2)

pub bears_told_nothing : (old mid : Option Course) (header : List ℕ) → Leads old mid 1 header false → BearsTold old mid header false
bears_told_nothing None mid header leads = leads
bears_told_nothing (Some course) mid header leads = (leads.0, leads.1, λ is_shut shape are. bears_nothing shape course header is_shut are leads.0 leads.2)

pub bears_told_all : (old mid new : Option Course) (header : List ℕ) (done : Bool) → Leads old mid 1 header true → Leads mid new 0 (1 ∷ []) done → BearsTold old new header done
bears_told_all None mid new header done first second = subst (λ m. Leads m new 0 (1 ∷ []) done) first second
bears_told_all (Some course) mid new header done first second =
    let then = subst (λ m. Leads m new 0 (1 ∷ []) done) first.1 second in
    (then.0, then.1, λ is_shut shape are. bears_all shape course header is_shut are first.0 then.0 done first.2 then.2)

-- a file of at most one byte is short
pub unborn_short : (course : Course) (size : ℕ) → IsUnbornAtRest course size → size ≤ 1 → IsShort course
unborn_short course size is few = record { bytes = is.bytes; synced = is.synced; short = omega (arith, is.long, few) }

pub room_short : (told : Option Course) → IfSome told (λ course. IsShut course) → IfSome told (λ course. 1 ≤ length course.now.bytes)
room_short None is = tt
room_short (Some course) is = omega (arith, ap (λ (s : Standing). length s.bytes) is.synced)

pub shut_short : (old new : Option Course) (size : ℕ) → IfSome old (λ course. IsUnbornAtRest course size) → size ≤ 1 → ShutsTold old new true → IfSome new (λ course. IsShut course)
shut_short None new size is few shuts = subst (λ t. IfSome t (λ course. IsShut course)) (sym shuts) tt
shut_short (Some course) new size is few shuts = subst (λ t. IfSome t (λ c. IsShut c)) (sym shuts.1) ((shuts.2 (unborn_short course size is few) (record { variables = []; responses = [] })).shut refl)

-- or it was closed, and the file gets its header
pub begins_short : (old mid new : Option Course) (size : ℕ) (header : List ℕ) (done : Bool) → size ≤ 1 → ShutsTold old mid true → BearsTold mid new header done → BeginsTold old new size header done
begins_short None mid new size header done few shuts bears = subst (λ m. BearsTold m new header done) shuts bears
begins_short (Some course) mid new size header done few shuts bears =
    let then = subst (λ m. BearsTold m new header done) shuts.1 bears in (
      then.0,
      then.1,
      λ is shape are.
          let first = shuts.2 (unborn_short course size is few) shape in
          let second = then.2 (first.shut refl) shape are in
          record { covers = covers_then (Stands shape) course shuts.0 then.0 [] [] [] first.covers second.covers; rests = second.rests },
    )
