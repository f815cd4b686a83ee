-- The lengths of steps of a document without faults, which are above 0.
use Rattle.std.proofs.Common.{◌≡◌, ℕ, zero, suc, ◌*◌, ◌^◌, ◌<◌, Bool, true, false, not, cond, [], length, refl, sym, ap, ◌∙◌, subst, arith, Option, Some, None, true≢false, ℤ, pos, negsuc, neg_ℤ, get_or, ◌+ℤ◌, ◌-ℤ◌, ◌*ℤ◌, unsigned_abs, unwrap_or, mul-pos}
use Rattle.std.specs.Prelude.{◌||◌, ◌==◌, ◌<ℤ◌, int_le, int_lt, is_none, IsTrue, if◌then◌else◌}
use Rattle.std.specs.List.{All}
use Rattle.std.specs.Option.{option_map_or}
use Rattle.std.specs.Ordering.{is_gt, int_cmp}
use Rattle.std.specs.declared.cmp.Ordering.TheVariants.{Less, Equal, Greater}
use Rattle.std.proofs.lemmas.Bool.{and_parts}
use Rattle.std.proofs.lemmas.Grind.{common_steps}
use Rattle.std.proofs.lemmas.Int.{ints}
use Rattle.std.proofs.lemmas.List.Elements.{All-nil, All-weaker, All-map}
use Rattle.dk_num.specs.Decimal.{Decimal, zero_decimal}
use Rattle.dk_num.specs.Arithmetic.{whole_value}
use Rattle.dk_num.specs.Units.{units_of}
use Rattle.dk_num.proofs.Endings.{ten_some}
use Rattle.dk_num.proofs.Values.{scaled_none}
use Rattle.dk_types.specs.Sound.{IsNumber, IsLength}
use Rattle.dk_reader.proofs.TableEntries.{entry_by_name}
use Rattle.dk_grammar.specs.declared.words.Block.TheVariants as block
use Rattle.dk_grammar.specs.declared.words.Name.{Name}
use Rattle.dk_grammar.specs.declared.words.Takes.TheVariants as takes
use Rattle.dk_grammar.specs.declared.words.Count.TheVariants as counts
use Rattle.dk_reader.specs.declared.fault.StudyKind.TheVariants as kind
use Rattle.dk_reader.specs.declared.value.Value.{Value}
use Rattle.dk_reader.specs.declared.document.Field.{Field}
use Rattle.dk_reader.specs.declared.document.Document.{Document}
use Rattle.dk_reader.specs.Values.{spread, number}
use Rattle.dk_reader.specs.Document.{field_of, has, values_at, is_name_in}
use Rattle.dk_reader.specs.Study.{written_values, unit_exponent, units_at, unit_at}
use Rattle.dk_reader.specs.Steps.{checked_names, delta_names, is_above, is_good_number}
use Rattle.dk_reader.proofs.SoundLists.{equal_from, some_value, first_has, first_some}
use Rattle.dk_reader.proofs.SoundSteps.{Checked}
use Rattle.dk_reader.proofs.SoundKeywords.{IsChecked, keyword, right, each_field, passes}
use Rattle.dk_reader.proofs.SoundUnits.{HasNumber, numbers_in, numbers_good}
use Rattle.dk_reader.proofs.SoundReading.{AreWritten}
use Rattle.dk_reader.proofs.SoundValues.{units_in, each_number, written_at, length_units, right_count, spread_all}

-- a product that is above zero has a mantissa above zero
positive_factor : (m : ℤ) (p : ℕ) (z : ℤ) → z ≡ pos 0 → is_gt (int_cmp (m *ℤ pos p) z) ≡ true → pos 0 <ℤ m
positive_factor m p z zero_is h = by m (above (m *ℤ pos p) z zero_is h)
  where
    above : (x z : ℤ) → z ≡ pos 0 → is_gt (int_cmp x z) ≡ true → pos 0 <ℤ x
    above x z e h = by_test (int_lt x z) refl (int_lt z x) refl h
      where
        by_test : (s : Bool) → int_lt x z ≡ s → (t : Bool) → int_lt z x ≡ t → is_gt (cond s Less (cond t Greater Equal)) ≡ true → pos 0 <ℤ x
        by_test true s t u h = absurd (true≢false (sym h))
        by_test false s false u h = absurd (true≢false (sym h))
        by_test false s true u h = let less : z <ℤ x = grind (arith, ints, common_steps) in omega (arith, ints)

    by : (m : ℤ) → pos 0 <ℤ (m *ℤ pos p) → pos 0 <ℤ m
    by (pos zero) h = absurd (let e : pos zero *ℤ pos p ≡ pos 0 = scaled_none (pos zero) p refl in omega (arith, ints))
    by (pos (suc n)) h = omega (arith, ints)
    by (negsuc n) h = absurd (none (suc n * p) h)
      where
        none : (n : ℕ) → pos 0 <ℤ neg_ℤ (pos n) → ⊥
        none n h = omega (arith, ints)

-- a decimal above zero is more than no units
positive_units : (e m x k : ℤ) → pos 0 <ℤ m → units_of e (record { mantissa = m; exponent = x }) ≡ Some k → pos 0 <ℤ k
positive_units e (pos zero) x k above h = absurd (omega (arith, ints))
positive_units e (negsuc n) x k above h = absurd (omega (arith, ints))
positive_units e (pos (suc n)) x k above h = by (suc n == 0) refl (int_le e x) h
  where
    by : (z : Bool) → (suc n == 0) ≡ z → (t : Bool) → (if z then Some (pos 0) else (if t then Some (pos (suc n) *ℤ pos (10 ^ unsigned_abs (x -ℤ e))) else None)) ≡ Some k → pos 0 <ℤ k
    by true z t h = absurd (let none : suc n ≡ 0 = equal_from (suc n) 0 z in omega arith)
    by false z true h =
        let same : pos (suc n * 10 ^ unsigned_abs (x -ℤ e)) ≡ k = cc in
        let some : 0 < suc n * 10 ^ unsigned_abs (x -ℤ e) = mul-pos (let one : 0 < suc n = omega arith in one) (ten_some (unsigned_abs (x -ℤ e))) in
        subst (λ z. pos 0 <ℤ z) same (omega (arith, ints))
    by false z false h = absurd (cc)

above_zero : (x : Decimal) → IsTrue (is_above x zero_decimal) → pos 0 <ℤ x.mantissa
above_zero x h = positive_factor x.mantissa _ (whole_value zero_decimal) (scaled_none (pos 0) (10 ^ unsigned_abs (zero_decimal.exponent +ℤ pos 10032)) refl) h

module _ (d : Document) (c : Checked d) (w : AreWritten d) where
  -- the numbers of a keyword of lengths are above 0
  above_at : (n : Name) → is_name_in delta_names n ≡ true → is_name_in checked_names n ≡ false → entry_by_name block.Method n ≡ Some (record { name = n; takes = takes.Numbers; count = counts.One }) →
      All (HasNumber (λ x. is_above x zero_decimal)) (values_at d block.Method n)
  above_at n delta other entry = by (field_of d block.Method n) refl
    where
      good : (t : Bool) (x : Decimal) → t ≡ true → (not t || is_above x zero_decimal) ≡ true → is_above x zero_decimal ≡ true
      good true x t h = h
      good false x t h = absurd (true≢false (sym t))

      by : (o : Option Field) → field_of d block.Method n ≡ o → All (HasNumber (λ x. is_above x zero_decimal)) (option_map_or (λ f. f.values) o [])
      by None e = All-nil (HasNumber (λ x. is_above x zero_decimal))
      by (Some f) e =
          let at = keyword (IsChecked d) d block.Method n f e (each_field d c) in
          let is = right d f block.Method n (record { name = n; takes = takes.Numbers; count = counts.One }) at.0 at.1 at.2 other entry in
          All-weaker (HasNumber (is_good_number f.block f.entry.name)) (HasNumber (λ x. is_above x zero_decimal))
          (λ v g. (g.0, g.1, good (is_name_in delta_names f.entry.name) g.0 (ap (is_name_in delta_names) at.2 ∙ delta) (and_parts _ _ g.2).1)) f.values (numbers_good f is.values)

  -- a length is a number of units above 0
  pub length_at : (n : Name) → has d block.Method n ≡ true → is_name_in delta_names n ≡ true → numbers_in block.Method n ≡ true → is_name_in checked_names n ≡ false →
      entry_by_name block.Method n ≡ Some (record { name = n; takes = takes.Numbers; count = counts.One }) → IsLength (unit_exponent d) (unit_at d n)
  length_at n there delta numbers other entry =
      let e = unit_exponent d in
      let each : All (λ v. IsLength e (units_in e v)) (values_at d block.Method n) = λ k v lt. one (get_or (values_at d block.Method n) k v)
      (written_at (λ v. IsNumber e (units_in e v)) d c.named block.Method n (each_number d c w) refl numbers k v lt)
      (above_at n delta other entry k v lt)
      (written_at (λ v. is_none (units_of e (number v)) ≡ false) d c.named block.Method n (passes kind.OffGrid (λ v. is_none (units_of e (number v))) (written_values d) c.units) refl numbers k v lt) in
      let all : All (IsLength e) (units_at d block.Method n) = All-map (IsLength e) (units_in e) (spread (values_at d block.Method n)) (spread_all (λ v. IsLength e (units_in e v)) (values_at d block.Method n) each) in
      let many : length (units_at d block.Method n) ≡ 1
      = length_units d block.Method n ∙ equal_from _ 1 (right_count d c block.Method n (record { name = n; takes = takes.Numbers; count = counts.One }) there other entry) in
      let k = first_some (units_at d block.Method n) (λ z. omega arith) in
      subst (IsLength e) (ap (λ o. unwrap_or o (pos 0)) (sym k.1)) (first_has (IsLength e) (units_at d block.Method n) k.0 k.1 all)
    where
      one : (v : Value) → IsNumber (unit_exponent d) (units_in (unit_exponent d) v) → HasNumber (λ x. is_above x zero_decimal) v → is_none (units_of (unit_exponent d) (number v)) ≡ false → IsLength (unit_exponent d) (units_in (unit_exponent d) v)
      one v is above some =
          let k = some_value (units_of (unit_exponent d) (number v)) some in
          let x : number v ≡ above.0 = ap (λ o. unwrap_or o zero_decimal) above.1 in
          let mantissa : pos 0 <ℤ (number v).mantissa = subst (λ y. pos 0 <ℤ y.mantissa) (sym x) (above_zero above.0 above.2) in
          record {
            number = is;
            positive = subst (λ z. pos 0 <ℤ z) (ap (λ o. unwrap_or o (pos 0)) (sym k.1)) (positive_units (unit_exponent d) (number v).mantissa (number v).exponent k.0 mantissa k.1);
          }
