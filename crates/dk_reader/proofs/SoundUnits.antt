-- The numbers of a document without faults: each is moderate, and so many units.
use Rattle.std.proofs.Common.{◌≡◌, Bool, true, false, not, List, [], ◌∷◌, map, refl, sym, ap, ◌∙◌, subst, arith, Option, Some, None, IfSome, true≢false, ℤ, pos, ◌-ℤ◌, unwrap_or}
use Rattle.std.specs.Prelude.{◌&&◌, ◌||◌, IsTrue, if◌then◌else◌}
use Rattle.std.specs.List.{All}
use Rattle.std.specs.Option.{option_map_or}
use Rattle.std.proofs.lemmas.Bool.{and_parts}
use Rattle.std.proofs.lemmas.Int.{ints}
use Rattle.std.proofs.lemmas.List.Elements.{All-nil, All-head, All-tail, All-weaker}
use Rattle.dk_reader.proofs.TableEntries.{entry_by_name, IsNamed, computed}
use Rattle.dk_grammar.specs.declared.words.Block.{Block}
use Rattle.dk_grammar.specs.declared.words.Block.TheVariants as block
use Rattle.dk_grammar.specs.declared.words.Name.{Name}
use Rattle.dk_grammar.specs.declared.words.Name.TheVariants as name
use Rattle.dk_grammar.specs.declared.words.Takes.{Takes}
use Rattle.dk_grammar.specs.declared.words.Takes.TheVariants as takes
use Rattle.dk_num.specs.Decimal.{Decimal, zero_decimal}
use Rattle.dk_num.specs.Units.{is_moderate, AreModerate, IsModerateExponent, greatest_leading, IsUnitExponent, IsWithin, AreWithin, units_of}
use Rattle.dk_num.specs.Units as units
use Rattle.dk_num.proofs.Leading.{greatest_moderate, within_unit}
use Rattle.dk_reader.specs.declared.fault.StudyKind.TheVariants as kind
use Rattle.dk_reader.specs.declared.value.Value.{Value}
use Rattle.dk_reader.specs.declared.document.Field.{Field}
use Rattle.dk_reader.specs.declared.document.Document.{Document}
use Rattle.dk_reader.specs.Values.{number}
use Rattle.dk_reader.specs.Document.{AreNamed, is_name_in}
use Rattle.dk_reader.specs.Study.{is_measured, is_numbers, takes_numbers, written_values, unit_exponent}
use Rattle.dk_reader.specs.Steps.{step5, value_faults, copies_faults, bad_number_faults, checked_names, is_good_number, is_bad_number}
use Rattle.dk_reader.proofs.SoundLists.{empty_parts, all_parts}
use Rattle.dk_reader.proofs.SoundSteps.{Checked}
use Rattle.dk_reader.proofs.SoundKeywords.{IsChecked, each_checked, in_names, right, passes}

-- the value has a number that passes
abbrev pub HasNumber : (Decimal → Bool) → Value → Type 0
HasNumber p v = (x : Decimal) × (v.number ≡ Some x) × IsTrue (p x)

good_number : (p : Decimal → Bool) (o : Option Decimal) → not (option_map_or p o false) ≡ false → (x : Decimal) × (o ≡ Some x) × IsTrue (p x)
good_number p None e = absurd (true≢false e)
good_number p (Some x) e = by (p x) refl e
  where
    by : (b : Bool) → p x ≡ b → not b ≡ false → (y : Decimal) × (◌≡◌ {A = Option Decimal} (Some x) (Some y)) × IsTrue (p y)
    by true t e = (x, refl, t)
    by false t e = absurd (true≢false e)

-- the values of a keyword that takes numbers are good numbers
pub numbers_good : (f : Field) → value_faults takes.Numbers f ≡ [] → All (HasNumber (is_good_number f.block f.entry.name)) f.values
numbers_good f e =
    let p = empty_parts (copies_faults f) (bad_number_faults f) e in
    All-weaker (λ v. is_bad_number f.block f.entry.name v ≡ false) (HasNumber (is_good_number f.block f.entry.name)) (λ v h. good_number (is_good_number f.block f.entry.name) v.number h)
    f.values (passes kind.BadNumber (is_bad_number f.block f.entry.name) f.values p.1)

-- a keyword of this block and name takes numbers
abbrev pub numbers_in : Block → Name → Bool
numbers_in b n = option_map_or (λ e. is_numbers e.takes) (entry_by_name b n) false

each_block : (P : Block → Type 0) → P block.Environment → P block.Method → P block.Model → P block.Variables → P block.Interface → P block.Responses → (b : Block) → P b
each_block P e m o v i r block.Environment = e
each_block P e m o v i r block.Method = m
each_block P e m o v i r block.Model = o
each_block P e m o v i r block.Variables = v
each_block P e m o v i r block.Interface = i
each_block P e m o v i r block.Responses = r

-- the keywords of steps 2 to 4 take none
no_numbers : (b : Block) (n : Name) → is_name_in checked_names n ≡ true → numbers_in b n ≡ false
no_numbers b n h = in_names (λ k. numbers_in b k ≡ false) checked_names n (
  each_block (λ x. numbers_in x name.ContinuousDesign ≡ false) refl refl refl refl refl refl b,
  (
    each_block (λ x. numbers_in x name.ObjectiveFunctions ≡ false) refl refl refl refl refl refl b,
    (
      each_block (λ x. numbers_in x name.ResponseFunctions ≡ false) refl refl refl refl refl refl b,
      (each_block (λ x. numbers_in x name.AnalysisDrivers ≡ false) refl refl refl refl refl refl b, tt),
    ),
  ),
) h

takes_is : (t : Takes) → is_numbers t ≡ true → t ≡ takes.Numbers
takes_is takes.Numbers e = refl
takes_is takes.Nothing e = absurd (true≢false (sym e))
takes_is (takes.Wholes low high) e = absurd (true≢false (sym e))
takes_is takes.Strings e = absurd (true≢false (sym e))
takes_is takes.Mode e = absurd (true≢false (sym e))

-- a measured good number is moderate
moderate : (b : Block) (n : Name) (x : Decimal) → is_measured b ≡ true → IsTrue (is_good_number b n x) → IsTrue (is_moderate x)
moderate b n x m h = by (is_measured b) m (and_parts _ _ h).0
  where
    by : (t : Bool) → t ≡ true → (not t || is_moderate x) ≡ true → is_moderate x ≡ true
    by true t h = h
    by false t h = absurd (true≢false (sym t))

-- a keyword takes numbers where its block and name do
pub takes_in : (f : Field) → IsNamed f → takes_numbers f ≡ numbers_in f.block f.entry.name
takes_in f named = sym (ap (λ o. option_map_or (λ e. is_numbers e.takes) o false) (computed f named))

-- a keyword that takes numbers has right values
numbers_right : (d : Document) (f : Field) → IsChecked d f → takes_numbers f ≡ true → value_faults takes.Numbers f ≡ []
numbers_right d f h t = by (is_name_in checked_names f.entry.name) refl
  where
    by : (c : Bool) → is_name_in checked_names f.entry.name ≡ c → value_faults takes.Numbers f ≡ []
    by true c = absurd (true≢false (sym t ∙ takes_in f h.named ∙ no_numbers f.block f.entry.name c))
    by false c = subst (λ x. value_faults x f ≡ []) (takes_is f.entry.takes t) (right d f f.block f.entry.name f.entry h refl refl c (computed f h.named)).values

-- the number values of variables and method are moderate
pub each_moderate : (d : Document) → AreNamed d.fields → step5 d ≡ [] → All (HasNumber is_moderate) (written_values d)
each_moderate d named values =
    all_parts (HasNumber is_moderate) (λ f. if is_measured f.block && takes_numbers f then f.values else []) d.fields
    (All-weaker (IsChecked d) (λ f. All (HasNumber is_moderate) (if is_measured f.block && takes_numbers f then f.values else [])) one d.fields (each_checked d named values))
  where
    one : (f : Field) → IsChecked d f → All (HasNumber is_moderate) (if is_measured f.block && takes_numbers f then f.values else [])
    one f h = by (is_measured f.block) refl (takes_numbers f) refl
      where
        by : (m : Bool) → is_measured f.block ≡ m → (t : Bool) → takes_numbers f ≡ t → All (HasNumber is_moderate) (if m && t then f.values else [])
        by true m true t = All-weaker (HasNumber (is_good_number f.block f.entry.name)) (HasNumber is_moderate) (λ v g. (g.0, g.1, moderate f.block f.entry.name g.0 m g.2))
            f.values (numbers_good f (numbers_right d f h t))
        by true m false t = All-nil (HasNumber is_moderate)
        by false m t u = All-nil (HasNumber is_moderate)

numbers_moderate : (vs : List Value) → All (HasNumber is_moderate) vs → AreModerate (map number vs)
numbers_moderate [] h = tt
numbers_moderate (v ∷ vs) h =
    let at = All-head (HasNumber is_moderate) v vs h in
    let is : number v ≡ at.0 = ap (λ o. unwrap_or o zero_decimal) at.1 in
    (subst (λ x. IsTrue (is_moderate x)) (sym is) at.2, numbers_moderate vs (All-tail (HasNumber is_moderate) v vs h))

pub are_moderate : (d : Document) → AreNamed d.fields → step5 d ≡ [] → AreModerate (map number (written_values d))
are_moderate d named values = numbers_moderate (written_values d) (each_moderate d named values)

-- they are within the digits of their unit
pub are_within : (d : Document) → AreWithin (unit_exponent d) (map number (written_values d))
are_within d = within_unit (map number (written_values d)) (unit_exponent d) refl

unit_near : (ds : List Decimal) → AreModerate ds → IsUnitExponent (units.unit_exponent ds)
unit_near ds h = by (greatest_leading ds) (greatest_moderate ds h)
  where
    by : (g : Option ℤ) → IfSome g IsModerateExponent → IsUnitExponent (unwrap_or g (pos 0) -ℤ pos 28)
    by None h = (omega (arith, ints), omega (arith, ints))
    by (Some g) h = (omega (arith, ints), omega (arith, ints))

pub is_unit : (d : Document) → Checked d → IsUnitExponent (unit_exponent d)
is_unit d c = unit_near (map number (written_values d)) (are_moderate d c.named c.values)
