-- A file's header, its records, and what follows them.
use Rattle.std.proofs.Common.{◌≡◌, ℕ, true, false, ◌-◌, ◌<◌, List, [], ◌∷◌, ◌++◌, length, take, drop, Option, Some, refl, ap, sym, subst, ◌∙◌, arith, length-append, append_assoc, inl, inr}
use Rattle.std.proofs.Math.Nat.{eq-zero-or-pos}
use Rattle.std.proofs.lemmas.List.{take_all, drop_at}
use Rattle.std.proofs.lemmas.Bool.{eq-eqb, ne_eqb}
use Rattle.dk_types.specs.declared.study.Shape.{Shape}
use Rattle.dk_types.specs.declared.entry.Entry.{Entry}
use Rattle.dk_types.specs.Entries.{AreEntries}
use Rattle.dk_record.specs.declared.headers.StoredShape.{StoredShape}
use Rattle.dk_record.specs.Payloads.{header_payload, IsShape}
use Rattle.dk_record.specs.Files.{IsUnborn, IsFront, AreKept}
use Rattle.dk_record.specs.Readings.{Begins, NoneBegins}
use Rattle.dk_record.specs.Readings as header
use Rattle.dk_record.proofs.Again.{front_used}
use Rattle.dk_book.specs.Books.{BookState}
use Rattle.dk_journal.specs.Walks.{PutsAll, begins_closed}
use Rattle.dk_journal.specs.Damages.{HasHeader, HasNext, IsBroken, IsDamaged, HasEntries}
use Rattle.dk_journal.proofs.Walked.{at_widths}

-- what a reader told that found a header
told : (bytes : List ℕ) (answer : Option StoredShape) (stored : StoredShape) → header.ReadsHeader bytes answer → answer ≡ Some stored → header.HasHeader bytes stored.shape stored.length
told bytes answer stored reads e = subst (λ (o : Option StoredShape). header.ReadsHeader bytes o) e reads

pub header_there : (bytes : List ℕ) (gate : ℕ) (behind : List ℕ) (answer : Option StoredShape) (stored : StoredShape) → bytes ≡ gate ∷ behind → header.ReadsHeader behind answer → answer ≡ Some stored →
    HasHeader stored.shape bytes
header_there bytes gate behind answer stored e reads is =
    let h = told behind answer stored reads is in
    record { is_shape = h.begins.is_one; gate = gate; rest = h.rest; split = e ∙ ap (λ (l : List ℕ). gate ∷ l) h.begins.split }

closed : (rest : List ℕ) → IsUnborn (0 ∷ rest)
closed [] = tt
closed (byte ∷ bytes) = refl

-- a file that isn't unborn begins with an open gate
gate_open : (bytes : List ℕ) (gate : ℕ) (behind : List ℕ) → (IsUnborn bytes → ⊥) → bytes ≡ gate ∷ behind → 0 < gate
gate_open bytes gate behind born e = elim (eq-zero-or-pos gate) [
  | inl none ↦ absurd (born (subst IsUnborn (sym (e ∙ ap (λ (g : ℕ). g ∷ behind) none)) (closed behind)))
  | inr some ↦ some
]

-- behind an open gate and the header of this shape stands this
pub record Starts (shape : Shape) (bytes start : List ℕ) : Type 0 where
  pub has_header : HasHeader shape bytes
  pub is_open : 0 < has_header.gate
  pub starts : has_header.rest ≡ start

pub starts_there : (shape : Shape) (bytes : List ℕ) (gate : ℕ) (behind : List ℕ) (answer : Option StoredShape) (stored : StoredShape) → (IsUnborn bytes → ⊥) → bytes ≡ gate ∷ behind →
    header.ReadsHeader behind answer → answer ≡ Some stored → stored.shape ≡ shape → Starts shape bytes (take (length behind - stored.length) (drop stored.length behind))
starts_there shape bytes gate behind answer stored born e reads is same =
    let h = told behind answer stored reads is in
    let payload = header_payload stored.shape in
    let cut : drop stored.length behind ≡ h.rest = ap (drop stored.length) h.begins.split ∙ drop_at payload h.rest stored.length (sym h.size_is) in
    let all : take (length behind - stored.length) h.rest ≡ h.rest = take_all (length behind - stored.length) h.rest (omega (arith, ap length h.begins.split, length-append payload h.rest, h.size_is)) in
    record {
      has_header = record {
        is_shape = subst IsShape same h.begins.is_one;
        gate = gate;
        rest = h.rest;
        split = e ∙ ap (λ (l : List ℕ). gate ∷ l) (h.begins.split ∙ ap (λ (s : Shape). header_payload s ++ h.rest) same);
      };
      is_open = gate_open bytes gate behind born e;
      starts = sym (ap (take (length behind - stored.length)) cut ∙ all);
    }

closed_first : (rest : List ℕ) → begins_closed rest ≡ true → rest ≡ 0 ∷ drop 1 rest
closed_first [] e = absurd (cc)
closed_first (gate ∷ tail) e = elim (eq-zero-or-pos gate) [
  | inl none ↦ ap (λ (g : ℕ). g ∷ tail) none
  | inr some ↦ absurd (let f = ne_eqb gate 0 (λ z. omega (arith, z, some)) in let no : true ≡ false = sym e ∙ f in cc)
]

-- what stands in a file up to this place
pub record HasFront (shape : Shape) (bytes : List ℕ) (entries : List Entry) (rest : List ℕ) : Type 0 where
  pub front : List ℕ
  pub is_front : IsFront shape entries front
  pub kept : AreKept shape entries
  pub split : bytes ≡ front ++ rest

module _ (shape : Shape) (bytes start : List ℕ) (starts : Starts shape bytes start) (cards : ℕ) (rest : List ℕ) (count : ℕ) (book : BookState)
    (puts : PutsAll (length shape.variables) (length shape.responses) cards start rest count book)
    (variables : book.variables ≡ length shape.variables) (responses : book.responses ≡ length shape.responses) where
  has_front : HasFront shape bytes puts.entries rest
  has_front =
      let w = puts.walked in
      let h = starts.has_header in
      record {
        front = h.gate ∷ (header_payload shape ++ w.run);
        is_front = record { gate = h.gate; is_open = starts.is_open; records = w.run; are_records = w.are_records; split = refl };
        kept = record { well_formed = at_widths (λ n m. AreEntries n m puts.entries) book.variables book.responses (length shape.variables) (length shape.responses) variables responses puts.is_last.stands.well_formed; stored = w.stored };
        split = h.split ∙ ap (λ (l : List ℕ). h.gate ∷ (header_payload shape ++ l)) (starts.starts ∙ w.split) ∙ ap (λ (l : List ℕ). h.gate ∷ l) (sym (append_assoc (header_payload shape) w.run rest));
      }

  -- the place behind the front
  place_is : (f : HasFront shape bytes puts.entries rest) → length f.front ≡ length bytes - length rest
  place_is f = omega (arith, ap length f.split, length-append f.front rest)

  pub entries_there : begins_closed rest ≡ true → HasEntries shape bytes cards book count (length bytes - length rest)
  entries_there closed_here =
      let f = has_front in
      let tail = drop 1 rest in
      let e = closed_first rest closed_here in
      record {
        entries = puts.entries;
        is_born = record { front = f.front; rest = tail; is_front = f.is_front; split = f.split ∙ ap (λ (l : List ℕ). f.front ++ l) e; kept = f.kept };
        ends = omega (arith, place_is f, front_used shape puts.entries f.front f.is_front);
        stands = puts.is_last.stands;
        count_is = puts.count_is;
        variables = variables;
        responses = responses;
        spare = puts.is_last.spare;
        room = puts.is_last.room;
      }

  pub damage_there : begins_closed rest ≡ false → IsDamaged shape bytes (length bytes - length rest)
  damage_there no_end =
      let f = has_front in
      record {
        entries = puts.entries;
        front = f.front;
        tail = rest;
        is_front = f.is_front;
        kept = f.kept;
        split = f.split;
        place = place_is f;
        broken = broken rest no_end puts.is_last.last;
      }
    where
      broken : (rest : List ℕ) → begins_closed rest ≡ false → (HasNext shape puts.entries rest → ⊥) → IsBroken shape puts.entries rest
      broken [] no_end last = tt
      broken (g ∷ tail) no_end last = elim (eq-zero-or-pos g) [
        | inl none ↦ absurd (let t = eq-eqb g 0 none in let no : true ≡ false = sym t ∙ no_end in cc)
        | inr some ↦ (some, last)
      ]
