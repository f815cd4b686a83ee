-- At most one test of an opening fails first, and none where the file stands for entries.
use Rattle.std.proofs.Common.{◌≡◌, ℕ, suc, List, [], ◌∷◌, ◌++◌, length, drop, refl, sym, ◌∙◌, ap, subst, arith, append_assoc, length-append}
use Rattle.std.specs.List.{All}
use Rattle.std.proofs.lemmas.List.{append-nil, append_cancel_left}
use Rattle.std.proofs.lemmas.List.Elements.{All-head, All-tail}
use Rattle.dk_types.specs.declared.study.Shape.{Shape}
use Rattle.dk_types.specs.declared.entry.Entry.{Entry}
use Rattle.dk_types.specs.Entries.{IsNextEntry, AreNextEntries}
use Rattle.dk_record.specs.Payloads.{payload, header_payload, IsShape, IsStored}
use Rattle.dk_record.specs.Files.{IsUnborn, AreRecords, none, more, IsFront, AreKept, IsBorn, Stands, unborn, born}
use Rattle.dk_record.proofs.Once.{payload_same}
use Rattle.dk_record.proofs.Shapes.{header_same}
use Rattle.dk_outside.specs.declared.disk.Mode.{Mode}
use Rattle.dk_outside.specs.declared.disk.Mode.TheVariants.{Fresh, Resume}
use Rattle.dk_journal.specs.declared.fault.OpenFault.TheVariants.{OtherShape, Damaged}
use Rattle.dk_journal.specs.Walks.{HasNextRecord}
use Rattle.dk_journal.specs.Damages.{HasHeader, IsBroken, IsDamaged}
use Rattle.dk_journal.specs.Openings.{too_large, not_empty, not_a_restart, other_shape, damaged, RefusalsAreOne, RefusedFilesAreNotOpened}

nothing_first : (gate : ℕ) (tail : List ℕ) → [] ≡ gate ∷ tail → ⊥
nothing_first gate tail e = (let no : 0 ≡ suc (length tail) = ap length e in omega arith)

module _ (variables responses : ℕ) where
  -- a file is read in one way up to a place where no record stands that may come next
  walked : (before entries others : List Entry) (run other rest tail : List ℕ) → AreRecords entries run → AreRecords others other →
      All (IsStored variables responses) entries → All (IsStored variables responses) others →
      AreNextEntries variables responses before entries → AreNextEntries variables responses before others →
      (HasNextRecord variables responses (before ++ entries) rest → ⊥) → (HasNextRecord variables responses (before ++ others) tail → ⊥) →
      run ++ rest ≡ other ++ tail → (length run ≡ length other) × (rest ≡ tail)
  walked before [] [] run other rest tail none none one two are were ends stops same = (refl, same)
  walked before [] (o ∷ others) run other rest tail none (more gate _ _ behind is_open records) one two are were ends stops same =
      absurd (ends (record {
        e = o;
        rest = behind ++ tail;
        is_record = record { gate = gate; is_open = is_open; stored = All-head (IsStored variables responses) o others two; split = same ∙ ap (λ (l : List ℕ). gate ∷ l) (append_assoc (payload o) behind tail) };
        next = subst (λ l. IsNextEntry variables responses l o) (sym (append-nil before)) were.0;
      }))
  walked before (e ∷ entries) [] run other rest tail (more gate _ _ behind is_open records) none one two are were ends stops same =
      absurd (stops (record {
        e = e;
        rest = behind ++ rest;
        is_record = record { gate = gate; is_open = is_open; stored = All-head (IsStored variables responses) e entries one; split = sym same ∙ ap (λ (l : List ℕ). gate ∷ l) (append_assoc (payload e) behind rest) };
        next = subst (λ l. IsNextEntry variables responses l e) (sym (append-nil before)) are.0;
      }))
  walked before (e ∷ entries) (o ∷ others) run other rest tail (more gate _ _ behind is_open records) (more other_gate _ _ other_behind other_open other_records) one two are were ends stops same =
      let opened : payload e ++ (behind ++ rest) ≡ payload o ++ (other_behind ++ tail) =
      sym (append_assoc (payload e) behind rest) ∙ ap (drop 1) same ∙ append_assoc (payload o) other_behind tail in
      let heads = payload_same variables responses e o (behind ++ rest) (other_behind ++ tail) (All-head (IsStored variables responses) e entries one) (All-head (IsStored variables responses) o others two) opened in
      let tails = walked (before ++ e ∷ []) entries others behind other_behind rest tail records other_records
      (All-tail (IsStored variables responses) e entries one) (All-tail (IsStored variables responses) o others two) are.1
      (subst (λ x. AreNextEntries variables responses (before ++ x ∷ []) others) (sym heads.0) were.1)
      (λ next. ends (subst (λ l. HasNextRecord variables responses l rest) (append_assoc before (e ∷ []) entries) next))
      (λ next. stops (subst (λ l. HasNextRecord variables responses l tail) (append_assoc before (o ∷ []) others) (subst (λ x. HasNextRecord variables responses ((before ++ x ∷ []) ++ others) tail) heads.0 next)))
      heads.1 in
      (omega (arith, length-append (payload e) behind, length-append (payload o) other_behind, ap (λ (x : Entry). length (payload x)) heads.0, tails.0), tails.1)

-- what stands behind the header of a front
behind_header : (shape : Shape) (bytes front tail : List ℕ) (entries : List Entry) → (f : IsFront shape entries front) → bytes ≡ front ++ tail → bytes ≡ f.gate ∷ (header_payload shape ++ (f.records ++ tail))
behind_header shape bytes front tail entries f split =
    split ∙ ap (λ (l : List ℕ). l ++ tail) f.split ∙ ap (λ (l : List ℕ). f.gate ∷ l) (append_assoc (header_payload shape) f.records tail)

module _ (shape : Shape) (bytes : List ℕ) where
  same_front : (entries others : List Entry) (front other rest tail : List ℕ) → IsFront shape entries front → IsFront shape others other → AreKept shape entries → AreKept shape others →
      bytes ≡ front ++ rest → bytes ≡ other ++ tail →
      (HasNextRecord (length shape.variables) (length shape.responses) entries rest → ⊥) → (HasNextRecord (length shape.variables) (length shape.responses) others tail → ⊥) → (length front ≡ length other) × (rest ≡ tail)
  same_front entries others front other rest tail f g kept keeps split cut ends stops =
      let whole = sym (behind_header shape bytes front rest entries f split) ∙ behind_header shape bytes other tail others g cut in
      let records = append_cancel_left (header_payload shape) (f.records ++ rest) (g.records ++ tail) (ap (drop 1) whole) in
      let same = walked (length shape.variables) (length shape.responses) [] entries others f.records g.records rest tail f.are_records g.are_records kept.stored keeps.stored kept.well_formed keeps.well_formed ends stops records in
      (omega (arith, ap length f.split, ap length g.split, length-append (header_payload shape) f.records, length-append (header_payload shape) g.records, same.0), same.1)

  broken_next : (entries : List Entry) (tail : List ℕ) → IsBroken shape entries tail → HasNextRecord (length shape.variables) (length shape.responses) entries tail → ⊥
  broken_next entries [] broken next = nothing_first next.is_record.gate (payload next.e ++ next.rest) next.is_record.split
  broken_next entries (gate ∷ tail) broken next = broken.1 next

  closed_next : (entries : List Entry) (rest : List ℕ) → HasNextRecord (length shape.variables) (length shape.responses) entries (0 ∷ rest) → ⊥
  closed_next entries rest next =
      let is = next.is_record in
      let split : 0 ∷ rest ≡ is.gate ∷ (payload next.e ++ next.rest) = is.split in
      let closed : 0 ≡ is.gate = cc in
      omega (arith, is.is_open, closed)

  damage_once : (offset other : ℕ) → IsDamaged shape bytes offset → IsDamaged shape bytes other → offset ≡ other
  damage_once offset other d o =
      sym d.place
      ∙ (same_front d.entries o.entries d.front o.front d.tail o.tail d.is_front o.is_front d.kept o.kept d.split o.split (broken_next d.entries d.tail d.broken) (broken_next o.entries o.tail o.broken)).0
      ∙ o.place

  broken_closed : (entries : List Entry) (tail rest : List ℕ) → IsBroken shape entries tail → tail ≡ 0 ∷ rest → ⊥
  broken_closed entries tail rest broken e =
      let here : IsBroken shape entries (0 ∷ rest) = subst (IsBroken shape entries) e broken in
      omega (arith, here.0)

  damage_not_born : (offset : ℕ) (entries : List Entry) → IsDamaged shape bytes offset → IsBorn shape bytes entries → ⊥
  damage_not_born offset entries d b =
      broken_closed d.entries d.tail b.rest d.broken
      (same_front d.entries entries d.front b.front d.tail (0 ∷ b.rest) d.is_front b.is_front d.kept b.kept d.split b.split (broken_next d.entries d.tail d.broken) (closed_next entries b.rest)).1

  born_header : (entries : List Entry) → IsShape shape → IsBorn shape bytes entries → HasHeader shape bytes
  born_header entries is b = record {
    is_shape = is;
    gate = b.is_front.gate;
    rest = b.is_front.records ++ 0 ∷ b.rest;
    split = behind_header shape bytes b.front (0 ∷ b.rest) entries b.is_front b.split;
  }

headers_same : (one other : Shape) (bytes : List ℕ) → HasHeader one bytes → HasHeader other bytes → one ≡ other
headers_same one other bytes h k =
    (header_same one other h.rest k.rest h.is_shape k.is_shape (ap (drop 1) (sym h.split ∙ k.split))).0

fresh_or_resume : (mode : Mode) → mode ≡ Fresh → mode ≡ Resume → ⊥
fresh_or_resume mode e f = (let no : Fresh ≡ Resume = sym e ∙ f in absurd (cc))

pub refusals_are_one : RefusalsAreOne
refusals_are_one mode shape limit bytes _ _ (too_large _) (too_large _) = refl
refusals_are_one mode shape limit bytes _ _ (too_large long) (not_empty _ fits _) = absurd (omega (arith, long, fits))
refusals_are_one mode shape limit bytes _ _ (too_large long) (not_a_restart _ fits _ _) = absurd (omega (arith, long, fits))
refusals_are_one mode shape limit bytes _ _ (too_large long) (other_shape _ _ fits _ _ _) = absurd (omega (arith, long, fits))
refusals_are_one mode shape limit bytes _ _ (too_large long) (damaged _ _ fits _ _ _) = absurd (omega (arith, long, fits))
refusals_are_one mode shape limit bytes _ _ (not_empty _ fits _) (too_large long) = absurd (omega (arith, long, fits))
refusals_are_one mode shape limit bytes _ _ (not_empty _ _ _) (not_empty _ _ _) = refl
refusals_are_one mode shape limit bytes _ _ (not_empty e _ _) (not_a_restart f _ _ _) = absurd (fresh_or_resume mode e f)
refusals_are_one mode shape limit bytes _ _ (not_empty e _ _) (other_shape _ f _ _ _ _) = absurd (fresh_or_resume mode e f)
refusals_are_one mode shape limit bytes _ _ (not_empty e _ _) (damaged _ f _ _ _ _) = absurd (fresh_or_resume mode e f)
refusals_are_one mode shape limit bytes _ _ (not_a_restart _ fits _ _) (too_large long) = absurd (omega (arith, long, fits))
refusals_are_one mode shape limit bytes _ _ (not_a_restart f _ _ _) (not_empty e _ _) = absurd (fresh_or_resume mode e f)
refusals_are_one mode shape limit bytes _ _ (not_a_restart _ _ _ _) (not_a_restart _ _ _ _) = refl
refusals_are_one mode shape limit bytes _ _ (not_a_restart _ _ _ missing) (other_shape stored _ _ _ has _) = absurd (missing stored has)
refusals_are_one mode shape limit bytes _ _ (not_a_restart _ _ _ missing) (damaged _ _ _ _ has _) = absurd (missing shape has)
refusals_are_one mode shape limit bytes _ _ (other_shape _ _ fits _ _ _) (too_large long) = absurd (omega (arith, long, fits))
refusals_are_one mode shape limit bytes _ _ (other_shape _ f _ _ _ _) (not_empty e _ _) = absurd (fresh_or_resume mode e f)
refusals_are_one mode shape limit bytes _ _ (other_shape stored _ _ _ has _) (not_a_restart _ _ _ missing) = absurd (missing stored has)
refusals_are_one mode shape limit bytes _ _ (other_shape stored _ _ _ has _) (other_shape other _ _ _ had _) = ap (λ (s : Shape). OtherShape s shape) (headers_same stored other bytes has had)
refusals_are_one mode shape limit bytes _ _ (other_shape stored _ _ _ has differs) (damaged _ _ _ _ had _) = absurd (differs (headers_same stored shape bytes has had))
refusals_are_one mode shape limit bytes _ _ (damaged _ _ fits _ _ _) (too_large long) = absurd (omega (arith, long, fits))
refusals_are_one mode shape limit bytes _ _ (damaged _ f _ _ _ _) (not_empty e _ _) = absurd (fresh_or_resume mode e f)
refusals_are_one mode shape limit bytes _ _ (damaged _ _ _ _ has _) (not_a_restart _ _ _ missing) = absurd (missing shape has)
refusals_are_one mode shape limit bytes _ _ (damaged _ _ _ _ had _) (other_shape stored _ _ _ has differs) = absurd (differs (headers_same stored shape bytes has had))
refusals_are_one mode shape limit bytes _ _ (damaged offset _ _ _ _ d) (damaged other _ _ _ _ o) = ap Damaged (damage_once shape bytes offset other d o)

stands_header : (shape : Shape) (bytes : List ℕ) (entries : List Entry) → IsShape shape → (IsUnborn bytes → ⊥) → Stands shape bytes entries → HasHeader shape bytes
stands_header shape bytes _ is lives (unborn u) = absurd (lives u)
stands_header shape bytes entries is lives (born _ b) = born_header shape bytes entries is b

damage_not_stands : (shape : Shape) (bytes : List ℕ) (entries : List Entry) (offset : ℕ) → (IsUnborn bytes → ⊥) → IsDamaged shape bytes offset → Stands shape bytes entries → ⊥
damage_not_stands shape bytes _ offset lives d (unborn u) = lives u
damage_not_stands shape bytes entries offset lives d (born _ b) = damage_not_born shape bytes offset entries d b

pub refused_files_are_not_opened : RefusedFilesAreNotOpened
refused_files_are_not_opened mode shape limit bytes _ entries is (too_large long) can = omega (arith, long, can.fits)
refused_files_are_not_opened mode shape limit bytes _ entries is (not_empty e _ some) can = omega (arith, some, ap length (can.fresh e))
refused_files_are_not_opened mode shape limit bytes _ entries is (not_a_restart _ _ lives missing) can = missing shape (stands_header shape bytes entries is lives can.stands)
refused_files_are_not_opened mode shape limit bytes _ entries is (other_shape stored _ _ lives has differs) can = differs (headers_same stored shape bytes has (stands_header shape bytes entries is lives can.stands))
refused_files_are_not_opened mode shape limit bytes _ entries is (damaged offset _ _ lives _ d) can = damage_not_stands shape bytes entries offset lives d can.stands
