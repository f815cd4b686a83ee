-- Records behind a closed gate, and a gate that is opened.
use Rattle.std.proofs.Common.{◌≡◌, inl, inr, ℕ, ◌+◌, ◌<◌, List, [], ◌∷◌, ◌++◌, length, get_or, take, drop, refl, sym, ◌∙◌, ap, subst, arith, append_assoc, length-append, take-append-drop}
use Rattle.std.proofs.Math.Nat.{eq-zero-or-pos}
use Rattle.std.proofs.lemmas.List.{append-nil, take_at, drop_at, drop_more}
use Rattle.std.proofs.lemmas.List.Elements.{All-push}
use Rattle.dk_outside.specs.Disks.{IsImage, settled, after_write, written_over}
use Rattle.dk_types.specs.declared.study.Shape.{Shape}
use Rattle.dk_types.specs.declared.entry.Entry.{Entry}
use Rattle.dk_types.specs.Entries.{IsNextEntry, AreNextEntries}
use Rattle.dk_record.specs.Payloads.{payload, header_payload, IsStored}
use Rattle.dk_record.specs.Files.{AreRecords, none, more, IsFront, AreKept, IsBorn, Stands, born}
use Rattle.dk_journal.specs.Covers.{StandsWithin}
use Rattle.dk_journal.proofs.Safe.{image_front, image_back}

pub records_push : (entries : List Entry) (bytes : List ℕ) (gate : ℕ) (e : Entry) → AreRecords entries bytes → 0 < gate → AreRecords (entries ++ e ∷ []) (bytes ++ gate ∷ payload e)
records_push [] _ gate e none is_open = subst (λ (l : List ℕ). AreRecords (e ∷ []) (gate ∷ l)) (append-nil (payload e)) (more gate e [] [] is_open none)
records_push (o ∷ entries) _ gate e (more other _ _ bytes other_open records) is_open =
    subst (λ (l : List ℕ). AreRecords (o ∷ (entries ++ e ∷ [])) (other ∷ l)) (sym (append_assoc (payload o) bytes (gate ∷ payload e)))
    (more other o (entries ++ e ∷ []) (bytes ++ gate ∷ payload e) other_open (records_push entries bytes gate e records is_open))

next_push : (variables responses : ℕ) (before entries : List Entry) (e : Entry) → AreNextEntries variables responses before entries → IsNextEntry variables responses (before ++ entries) e → AreNextEntries variables responses before (entries ++ e ∷ [])
next_push variables responses before [] e are next = (subst (λ l. IsNextEntry variables responses l e) (append-nil before) next, tt)
next_push variables responses before (o ∷ entries) e are next =
    (are.0, next_push variables responses (before ++ o ∷ []) entries e are.1 (subst (λ l. IsNextEntry variables responses l e) (sym (append_assoc before (o ∷ []) entries)) next))

pub front_push : (shape : Shape) (entries : List Entry) (front : List ℕ) (gate : ℕ) (e : Entry) → IsFront shape entries front → 0 < gate → IsFront shape (entries ++ e ∷ []) (front ++ gate ∷ payload e)
front_push shape entries front gate e f is_open = record {
  gate = f.gate;
  is_open = f.is_open;
  records = f.records ++ gate ∷ payload e;
  are_records = records_push entries f.records gate e f.are_records is_open;
  split = ap (λ (l : List ℕ). l ++ gate ∷ payload e) f.split ∙ ap (λ (l : List ℕ). f.gate ∷ l) (append_assoc (header_payload shape) f.records (gate ∷ payload e));
}

pub kept_push : (shape : Shape) (entries : List Entry) (e : Entry) → AreKept shape entries → IsNextEntry (length shape.variables) (length shape.responses) entries e → IsStored (length shape.variables) (length shape.responses) e → AreKept shape (entries ++ e ∷ [])
kept_push shape entries e kept next stored = record {
  well_formed = next_push (length shape.variables) (length shape.responses) [] entries e kept.well_formed next;
  stored = All-push (IsStored (length shape.variables) (length shape.responses)) entries e kept.stored stored;
}

module _ (shape : Shape) (entries : List Entry) (front : List ℕ) (end : ℕ) (is_front : IsFront shape entries front) (kept : AreKept shape entries) (ends : length front ≡ end) where
  -- a closed gate ends the file, whatever follows
  pub shut : (rest bytes : List ℕ) → bytes ≡ front ++ 0 ∷ rest → IsBorn shape bytes entries
  shut rest bytes split = record { front = front; rest = rest; is_front = is_front; split = split; kept = kept }

  gate_front : (rest : List ℕ) → front ++ 0 ∷ rest ≡ (front ++ 0 ∷ []) ++ rest
  gate_front rest = sym (append_assoc front (0 ∷ []) rest)

  length-gate : length (front ++ 0 ∷ []) ≡ end + 1
  length-gate = omega (arith, length-append front (0 ∷ []), ends)

  pub length-file : (rest : List ℕ) → length (front ++ 0 ∷ rest) ≡ end + 1 + length rest
  length-file rest = omega (arith, length-append front (0 ∷ rest), ends)

  pub up_to_gate : (rest : List ℕ) → take (end + 1) (front ++ 0 ∷ rest) ≡ front ++ 0 ∷ []
  up_to_gate rest = ap (take (end + 1)) (gate_front rest) ∙ take_at (front ++ 0 ∷ []) rest (end + 1) length-gate

  pub behind_gate : (rest : List ℕ) → drop (end + 1) (front ++ 0 ∷ rest) ≡ rest
  behind_gate rest = ap (drop (end + 1)) (gate_front rest) ∙ drop_at (front ++ 0 ∷ []) rest (end + 1) length-gate

  -- behind the closed gate a write may leave anything
  pub torn_behind : (rest bytes c : List ℕ) (count : ℕ) → IsImage (after_write (settled (front ++ 0 ∷ rest)) (end + 1) count bytes) c → IsBorn shape c entries
  torn_behind rest bytes c count image =
      let same = image_front (front ++ 0 ∷ rest) (end + 1) count bytes c (omega (arith, length-file rest)) image ∙ up_to_gate rest in
      shut (drop (end + 1) c) c (sym (take-append-drop (end + 1) c) ∙ ap (λ (l : List ℕ). l ++ drop (end + 1) c) same ∙ append_assoc front (0 ∷ []) (drop (end + 1) c))

  pub written_behind : (rest piece : List ℕ) → written_over (front ++ 0 ∷ rest) (end + 1) piece ≡ front ++ 0 ∷ (piece ++ drop (end + 1 + length piece) (front ++ 0 ∷ rest))
  written_behind rest piece =
      ap (λ (l : List ℕ). l ++ (piece ++ drop (end + 1 + length piece) (front ++ 0 ∷ rest))) (up_to_gate rest) ∙ append_assoc front (0 ∷ []) (piece ++ drop (end + 1 + length piece) (front ++ 0 ∷ rest))

  module _ (e : Entry) (next : IsNextEntry (length shape.variables) (length shape.responses) entries e) (stored : IsStored (length shape.variables) (length shape.responses) e) (rest : List ℕ) where
    -- a record behind a gate counts where the gate is open
    abbrev pub opened : (gate : ℕ) (bytes : List ℕ) → 0 < gate → bytes ≡ front ++ gate ∷ (payload e ++ 0 ∷ rest) → IsBorn shape bytes (entries ++ e ∷ [])
    opened gate bytes is_open split = record {
      front = front ++ gate ∷ payload e;
      rest = rest;
      is_front = front_push shape entries front gate e is_front is_open;
      split = split ∙ sym (append_assoc front (gate ∷ payload e) (0 ∷ rest));
      kept = kept_push shape entries e kept next stored;
    }

    pub gated : (gate : ℕ) (bytes : List ℕ) → bytes ≡ front ++ gate ∷ (payload e ++ 0 ∷ rest) → StandsWithin (Stands shape) entries (e ∷ []) bytes
    gated gate bytes split = elim (eq-zero-or-pos gate) [
      | inl closed ↦ record {
        front = [];
        rest = e ∷ [];
        split = refl;
        stands_for = subst (λ l. Stands shape bytes l) (sym (append-nil entries)) (born entries (shut (payload e ++ 0 ∷ rest) bytes (split ∙ ap (λ (g : ℕ). front ++ g ∷ (payload e ++ 0 ∷ rest)) closed)));
      }
      | inr is_open ↦ record { front = e ∷ []; rest = []; split = refl; stands_for = born (entries ++ e ∷ []) (opened gate bytes is_open split) }
    ]

    abbrev staged : List ℕ
    staged = front ++ 0 ∷ (payload e ++ 0 ∷ rest)

    up_to_end : take end staged ≡ front
    up_to_end = take_at front (0 ∷ (payload e ++ 0 ∷ rest)) end ends

    -- the write of the gate may leave any byte there, and nothing else
    pub torn_gate : (bytes c : List ℕ) → IsImage (after_write (settled staged) end 1 bytes) c → StandsWithin (Stands shape) entries (e ∷ []) c
    torn_gate bytes c image =
        let long = length-file (payload e ++ 0 ∷ rest) in
        let before = image_front staged end 1 bytes c (omega (arith, long)) image ∙ up_to_end in
        let behind = image_back staged end 1 bytes c (omega (arith, long)) image ∙ behind_gate (payload e ++ 0 ∷ rest) in
        let gate = get_or c end 0 in
        let split : drop end c ≡ gate ∷ (payload e ++ 0 ∷ rest) = drop_more c end 0 (omega (arith, long, image.no_shorter)) ∙ ap (λ (l : List ℕ). gate ∷ l) behind in
        gated gate c (sym (take-append-drop end c) ∙ ap (λ (l : List ℕ). l ++ drop end c) before ∙ ap (λ (l : List ℕ). front ++ l) split)

    pub written_gate : written_over staged end (1 ∷ []) ≡ front ++ 1 ∷ (payload e ++ 0 ∷ rest)
    written_gate = ap (λ (l : List ℕ). l ++ (1 ∷ drop (end + 1) staged)) up_to_end ∙ ap (λ (l : List ℕ). front ++ 1 ∷ l) (behind_gate (payload e ++ 0 ∷ rest))
