-- Numbers that aren't too great for a unit.
use Rattle.std.proofs.Common.{◌≡◌, ℕ, zero, suc, ◌<◌, ◌||◌, Bool, true, false, List, [], ◌∷◌, ◌++◌, length, map, filter, get_or, refl, sym, ap, ◌∙◌, arith, rules, Some, ℤ}
use Rattle.std.specs.List.{flat_map}
use Rattle.std.specs.Option.{option_map_or}
use Rattle.std.proofs.lemmas.List.Elements.{All-head, All-tail}
use denote.Enum.Bare.{same_true}
use Rattle.dk_lex.proofs.Runs.{left_of, right_of}
use Rattle.dk_num.specs.Units.{IsWithin, AreWithin}
use Rattle.dk_grammar.specs.Lists.{first}
use Rattle.dk_grammar.specs.Meanings.{same_block, same_name}
use Rattle.dk_reader.proofs.TableEntries.{entry_by_name, IsNamed, entry_is}
use Rattle.dk_grammar.specs.declared.words.Block.{Block}
use Rattle.dk_grammar.specs.declared.words.Name.{Name}
use Rattle.dk_grammar.specs.declared.words.Entry.{Entry}
use Rattle.dk_grammar.specs.contracts.words.Block as block_type
use Rattle.dk_grammar.specs.contracts.words.Name as name_type
use Rattle.dk_reader.specs.declared.value.Value.{Value}
use Rattle.dk_reader.specs.declared.document.Field.{Field}
use Rattle.dk_reader.specs.declared.document.Document.{Document}
use Rattle.dk_reader.specs.Values.{number}
use Rattle.dk_reader.specs.Document.{AreNamed, is_field, values_at}
use Rattle.dk_reader.specs.Study.{is_measured, is_numbers, takes_numbers, measured_values, written_values}

-- the numbers of these values aren't too great
abbrev pub Fit : ℤ → List Value → Type 0
Fit e vs = AreWithin e (map number vs)

-- of two lists in one
both : (e : ℤ) (vs ws : List Value) → Fit e (vs ++ ws) → Fit e vs × Fit e ws
both e [] ws h = (tt, h)
both e (v ∷ vs) ws (here, rest) = let parts = both e vs ws rest in ((here, parts.0), parts.1)

-- of one value
pub value_within : (e : ℤ) (vs : List Value) (i : ℕ) (v : Value) → i < length vs → v ≡ get_or vs i v → AreWithin e (map number vs) → IsWithin e (number v)
value_within e [] i v h is within = absurd (omega arith)
value_within e (x ∷ xs) zero v h is (here, rest) = rw is here
value_within e (x ∷ xs) (suc i) v h is (here, rest) = value_within e xs i v (omega arith) is rest

-- of one keyword
pub field_within : (e : ℤ) (fields : List Field) (i : ℕ) (f : Field) → i < length fields → f ≡ get_or fields i f → AreWithin e (map number (flat_map measured_values fields)) → AreWithin e (map number (measured_values f))
field_within e [] i f h is within = absurd (omega arith)
field_within e (x ∷ xs) zero f h is within = rw is (both e (measured_values x) (flat_map measured_values xs) within).0
field_within e (x ∷ xs) (suc i) f h is within = field_within e xs i f (omega arith) is (both e (measured_values x) (flat_map measured_values xs) within).1

one_name : (n m : Name) → (same_name m n || false) ≡ true → m ≡ n
one_name n m e = same_true name_type.the_type (search rules) m n (at (same_name m n) e)
  where
    at : (b : Bool) → (b || false) ≡ true → b ≡ true
    at true e = refl
    at false e = e

module _ (b : Block) (n : Name) (entry : Entry) (measured : is_measured b ≡ true) (is : entry_by_name b n ≡ Some entry) (numbers : is_numbers entry.takes ≡ true) where
  -- its values are told in units
  all_measured : (f : Field) → IsNamed f → is_field b (n ∷ []) f ≡ true → measured_values f ≡ f.values
  all_measured f named e =
      let at_block : b ≡ f.block = same_true block_type.the_type (search rules) b f.block (left_of (same_block b f.block) (same_name f.entry.name n || false) e) in
      let at_name : f.entry.name ≡ n = one_name n f.entry.name (right_of (same_block b f.block) (same_name f.entry.name n || false) e) in
      let some : takes_numbers f ≡ true = ap (λ x. is_numbers x.takes) (entry_is f b n entry named (sym at_block) at_name is) ∙ numbers in
      let inside : is_measured f.block ≡ true = ap is_measured (sym at_block) ∙ measured in
      rw (inside, some) refl

  among : (e : ℤ) (fields : List Field) → AreNamed fields → Fit e (flat_map measured_values fields) → Fit e (option_map_or (λ f. f.values) (first (filter (is_field b (n ∷ [])) fields)) [])
  among e [] names h = tt
  among e (f ∷ fs) names h = at (is_field b (n ∷ []) f) refl (both e (measured_values f) (flat_map measured_values fs) h) (among e fs (All-tail IsNamed f fs names))
    where
      at : (t : Bool) → is_field b (n ∷ []) f ≡ t → Fit e (measured_values f) × Fit e (flat_map measured_values fs) →
          (Fit e (flat_map measured_values fs) → Fit e (option_map_or (λ f. f.values) (first (filter (is_field b (n ∷ [])) fs)) [])) →
          Fit e (option_map_or (λ f. f.values) (first (filter (is_field b (n ∷ [])) (f ∷ fs))) [])
      at true g parts next = rw g (rw (all_measured f (All-head IsNamed f fs names) g) at parts.0)
      at false g parts next = rw g (next parts.1)

  -- the numbers of a keyword of variables or method are among those that are written
  pub values_within : (e : ℤ) (d : Document) → AreNamed d.fields → AreWithin e (map number (written_values d)) → AreWithin e (map number (values_at d b n))
  values_within e d names h = among e d.fields names h
