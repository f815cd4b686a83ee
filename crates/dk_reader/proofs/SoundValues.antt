-- The values of one keyword of a document without faults.
use Rattle.std.proofs.Common.{◌≡◌, ◌⊎◌, inl, inr, ℕ, ◌+◌, ◌≤◌, Bool, true, false, not, List, [], ◌∷◌, ◌++◌, map, length, replicate, refl, sym, ap, ap₂, ◌∙◌, subst, arith, Option, Some, None, IfSome, true≢false, ℤ, pos, unwrap_or, length-append}
use Rattle.std.specs.Prelude.{◌&&◌, is_some, is_none, IsTrue, nat_le, option_and_then, if◌then◌else◌}
use Rattle.std.specs.List.{All}
use Rattle.std.specs.Option.{option_map_or}
use Rattle.std.proofs.lemmas.Bool.{and_parts, or_parts, and_from}
use Rattle.std.proofs.lemmas.List.{length-replicate, length-map}
use Rattle.std.proofs.lemmas.Grind.{common_steps}
use Rattle.std.proofs.lemmas.List.Elements.{All-nil, All-cons, All-head, All-tail, All-weaker, All-map, All-replicate}
use Rattle.std.proofs.lemmas.List.Sums.{sum_by-cons}
use Rattle.dk_num.specs.Decimal.{IsCanonical, zero_decimal}
use Rattle.dk_num.specs.Units.{IsUnitExponent, is_moderate, AreWithin, units_of}
use Rattle.dk_types.specs.Sound.{IsBetween, IsNumber}
use Rattle.dk_grammar.specs.Lists.{first}
use Rattle.dk_reader.proofs.TableEntries.{entry_by_name, IsNamed}
use Rattle.dk_grammar.specs.declared.words.Block.{Block}
use Rattle.dk_grammar.specs.declared.words.Name.{Name}
use Rattle.dk_grammar.specs.declared.words.Entry.{Entry}
use Rattle.dk_grammar.specs.declared.words.Takes.TheVariants as takes
use Rattle.dk_grammar.specs.declared.words.Count.{Count}
use Rattle.dk_reader.specs.declared.fault.StudyKind.TheVariants as kind
use Rattle.dk_reader.specs.declared.value.Value.{Value}
use Rattle.dk_reader.specs.declared.document.Field.{Field}
use Rattle.dk_reader.specs.declared.document.Document.{Document}
use Rattle.dk_reader.specs.Values.{count, count_of, spread, whole, number}
use Rattle.dk_reader.specs.Document.{AreNamed, field_of, has, values_at, whole_at, is_name_in, variable_count, response_count}
use Rattle.dk_reader.specs.Study.{is_measured, takes_numbers, written_values, unit_exponent, units_at}
use Rattle.dk_reader.specs.Steps.{checked_names, is_bad_whole, is_right_count}
use Rattle.dk_reader.proofs.SoundLists.{not_false, each_part, all_parts, some_value}
use Rattle.dk_reader.proofs.SoundSteps.{Checked}
use Rattle.dk_reader.proofs.SoundKeywords.{keyword, right_keyword, passes}
use Rattle.dk_reader.proofs.SoundUnits.{HasNumber, numbers_in, takes_in, each_moderate, are_within, is_unit}
use Rattle.dk_reader.proofs.SoundReading.{IsWritten, AreWritten}
use Rattle.dk_reader.proofs.SoundPoints.{number_in}

-- values with copies

pub length_spread : (vs : List Value) → length (spread vs) ≡ count_of vs
length_spread [] = refl
length_spread (v ∷ vs) =
    length-append (replicate (count v) v) (spread vs) ∙ ap₂ (λ n m. n + m) (length-replicate (count v) v) (length_spread vs) ∙ sym (sum_by-cons count v vs)

pub spread_all : (P : Value → Type 0) (vs : List Value) → All P vs → All P (spread vs)
spread_all P vs h = all_parts P (λ v. replicate (count v) v) vs (All-weaker P (λ v. All P (replicate (count v) v)) (λ v p. All-replicate P (count v) v p) vs h)

pub spread_once : (vs : List Value) → All (λ v. count v ≡ 1) vs → spread vs ≡ vs
spread_once [] h = refl
spread_once (v ∷ vs) h =
    ap (λ n. replicate n v ++ spread vs) (All-head (λ v. count v ≡ 1) v vs h) ∙ ap (λ l. v ∷ l) (spread_once vs (All-tail (λ v. count v ≡ 1) v vs h))

-- whole numbers in a range

pub between : (low high : ℕ) (v : Value) → is_bad_whole low high v ≡ false → IsBetween low high (whole v)
between low high v h = by v.whole (or_parts _ _ h).1
  where
    by : (o : Option ℕ) → not (option_map_or (λ n. nat_le low n && nat_le n high) o false) ≡ false → IsBetween low high (unwrap_or o 0)
    by None h = absurd (true≢false h)
    by (Some n) h =
        let p = and_parts (nat_le low n) (nat_le n high) (not_false _ h) in
        (at low n p.0, at n high p.1)
      where
        at : (n m : ℕ) → nat_le n m ≡ true → n ≤ m
        at n m e = grind (arith, common_steps)

-- the first of whole numbers in a range is in it, where there is one or the number in its place is in it
pub first_whole : (low high otherwise : ℕ) (vs : List Value) → All (λ v. is_bad_whole low high v ≡ false) vs → IsBetween low high otherwise ⊎ (length vs ≡ 0 → ⊥) →
    IsBetween low high (option_map_or whole (first vs) otherwise)
first_whole low high otherwise [] h (inl is) = is
first_whole low high otherwise [] h (inr some) = absurd (some refl)
first_whole low high otherwise (v ∷ vs) h is = between low high v (All-head (λ v. is_bad_whole low high v ≡ false) v vs h)

-- a list of no values counts nothing
pub some_counted : (vs : List Value) → count_of vs ≡ 1 → length vs ≡ 0 → ⊥
some_counted [] e z = omega arith
some_counted (v ∷ vs) e z = omega arith

-- numbers in units

-- how many units a value is
abbrev pub units_in : ℤ → Value → ℤ
units_in e v = unwrap_or (units_of e (number v)) (pos 0)

-- moderate numbers that are whole units, within the digits of the unit, are numbers of the unit
pub numbers_of : (e : ℤ) (vs : List Value) → IsUnitExponent e → All (HasNumber is_moderate) vs → All IsWritten vs → AreWithin e (map number vs) → All (λ v. is_none (units_of e (number v)) ≡ false) vs →
    All (λ v. IsNumber e (units_in e v)) vs
numbers_of e [] near moderate written within some = All-nil (λ v. IsNumber e (units_in e v))
numbers_of e (v ∷ vs) near moderate written within some =
    let m = All-head (HasNumber is_moderate) v vs moderate in
    let w = All-head IsWritten v vs written in
    let k = some_value (units_of e (number v)) (All-head (λ v. is_none (units_of e (number v)) ≡ false) v vs some) in
    let is : number v ≡ m.0 = ap (λ o. unwrap_or o zero_decimal) m.1 in
    let canonical : IsCanonical (number v) = subst IsCanonical (sym is) (subst (λ o. IfSome o IsCanonical) m.1 w.number) in
    let good = number_in e (number v) k.0 near canonical (subst (λ x. IsTrue (is_moderate x)) (sym is) m.2) within.0 k.1 in
    All-cons (λ v. IsNumber e (units_in e v)) v vs (subst (IsNumber e) (ap (λ o. unwrap_or o (pos 0)) (sym k.1)) good)
    (numbers_of e vs near (All-tail (HasNumber is_moderate) v vs moderate) (All-tail IsWritten v vs written) within.1 (All-tail (λ v. is_none (units_of e (number v)) ≡ false) v vs some))

-- what holds of all written numbers holds of those of each keyword
pub written_at : (P : Value → Type 0) (d : Document) → AreNamed d.fields → (b : Block) (n : Name) → All P (written_values d) → is_measured b ≡ true → numbers_in b n ≡ true → All P (values_at d b n)
written_at P d names b n h measured numbers = by (field_of d b n) refl
  where
    by : (o : Option Field) → field_of d b n ≡ o → All P (option_map_or (λ f. f.values) o [])
    by None e = All-nil P
    by (Some f) e =
        let at = keyword (λ f. All P (if is_measured f.block && takes_numbers f then f.values else [])) d b n f e (each_part P (λ f. if is_measured f.block && takes_numbers f then f.values else []) d.fields h) in
        let named = (keyword IsNamed d b n f e names).0 in
        let test : (is_measured f.block && takes_numbers f) ≡ true = and_from _ _ (ap is_measured at.1 ∙ measured) (takes_in f named ∙ ap₂ numbers_in at.1 at.2 ∙ numbers) in
        subst (λ t. All P (if t then f.values else [])) test at.0

-- all written numbers are numbers of the unit
pub each_number : (d : Document) → Checked d → AreWritten d → All (λ v. IsNumber (unit_exponent d) (units_in (unit_exponent d) v)) (written_values d)
each_number d c w =
    numbers_of (unit_exponent d) (written_values d) (is_unit d c) (each_moderate d c.named c.values)
    (all_parts IsWritten (λ f. if is_measured f.block && takes_numbers f then f.values else []) d.fields (All-weaker (λ f. All IsWritten f.values) (λ f. All IsWritten (if is_measured f.block && takes_numbers f then f.values else [])) (λ f h. kept (is_measured f.block && takes_numbers f) f.values h) d.fields w))
    (are_within d) (passes kind.OffGrid (λ v. is_none (units_of (unit_exponent d) (number v))) (written_values d) c.units)
  where
    kept : (t : Bool) (vs : List Value) → All IsWritten vs → All IsWritten (if t then vs else [])
    kept true vs h = h
    kept false vs h = All-nil IsWritten

-- so are those of a keyword of variables or method that takes numbers
pub numbers_at : (d : Document) → Checked d → AreWritten d → (b : Block) (n : Name) → is_measured b ≡ true → numbers_in b n ≡ true → All (IsNumber (unit_exponent d)) (units_at d b n)
numbers_at d c w b n measured numbers =
    All-map (IsNumber (unit_exponent d)) (units_in (unit_exponent d)) (spread (values_at d b n))
    (spread_all (λ v. IsNumber (unit_exponent d) (units_in (unit_exponent d) v)) (values_at d b n)
    (written_at (λ v. IsNumber (unit_exponent d) (units_in (unit_exponent d) v)) d c.named b n (each_number d c w) measured numbers))

pub length_units : (d : Document) (b : Block) (n : Name) → length (units_at d b n) ≡ count_of (values_at d b n)
length_units d b n = length-map (spread (values_at d b n)) (units_in (unit_exponent d)) ∙ length_spread (values_at d b n)

-- a keyword that is there has so many values as its entry says
pub right_count : (d : Document) → Checked d → (b : Block) (n : Name) (e : Entry) → has d b n ≡ true → is_name_in checked_names n ≡ false → entry_by_name b n ≡ Some e →
    is_right_count (variable_count d) (response_count d) e.count (count_of (values_at d b n)) ≡ true
right_count d c b n e there other entry = by (field_of d b n) refl there
  where
    by : (o : Option Field) → field_of d b n ≡ o → is_some o ≡ true → is_right_count (variable_count d) (response_count d) e.count (count_of (option_map_or (λ f. f.values) o [])) ≡ true
    by None f there = absurd (true≢false (sym there))
    by (Some f) at there = (right_keyword d c b n e f at other entry).count

-- whole numbers of a keyword are in its range
pub wholes_at : (d : Document) → Checked d → (b : Block) (n : Name) (low high : ℕ) (k : Count) → is_name_in checked_names n ≡ false → entry_by_name b n ≡ Some (record { name = n; takes = takes.Wholes low high; count = k }) →
    All (λ v. is_bad_whole low high v ≡ false) (values_at d b n)
wholes_at d c b n low high k other entry = by (field_of d b n) refl
  where
    by : (o : Option Field) → field_of d b n ≡ o → All (λ v. is_bad_whole low high v ≡ false) (option_map_or (λ f. f.values) o [])
    by None f = All-nil (λ v. is_bad_whole low high v ≡ false)
    by (Some f) at = passes kind.BadWhole (is_bad_whole low high) f.values (right_keyword d c b n (record { name = n; takes = takes.Wholes low high; count = k }) f at other entry).values

-- the first of them, or a number in the range
pub whole_in : (d : Document) → Checked d → (b : Block) (n : Name) (low high : ℕ) (k : Count) (otherwise : ℕ) → is_name_in checked_names n ≡ false →
    entry_by_name b n ≡ Some (record { name = n; takes = takes.Wholes low high; count = k }) → IsBetween low high otherwise ⊎ (length (values_at d b n) ≡ 0 → ⊥) → IsBetween low high (whole_at d b n otherwise)
whole_in d c b n low high k otherwise other entry is =
    subst (IsBetween low high) (by (field_of d b n)) (first_whole low high otherwise (values_at d b n) (wholes_at d c b n low high k other entry) is)
  where
    by : (o : Option Field) → option_map_or whole (first (option_map_or (λ f. f.values) o [])) otherwise ≡ option_map_or whole (option_and_then (λ f. first f.values) o) otherwise
    by None = refl
    by (Some f) = refl
