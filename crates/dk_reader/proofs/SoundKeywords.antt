-- The keywords of a document without faults: which they are, and that their values and the count of these are right.
use Rattle.std.proofs.Common.{◌≡◌, Bool, true, false, not, List, [], ◌∷◌, ◌++◌, refl, sym, ap, ◌∙◌, subst, Some, true≢false}
use Rattle.std.specs.Prelude.{◌||◌, if◌then◌else◌}
use Rattle.std.specs.List.{All, AllByRecursion, list_any}
use Rattle.std.proofs.lemmas.Bool.{and_parts}
use Rattle.std.proofs.lemmas.List.Elements.{All-weaker}
use denote.Enum.Bare.{same_true}
use Rattle.dk_grammar.specs.contracts.words.Block as block_type
use Rattle.dk_grammar.specs.contracts.words.Name as name_type
use Rattle.dk_grammar.specs.Lists.{first}
use Rattle.dk_grammar.specs.Meanings.{same_block, same_name}
use Rattle.dk_reader.proofs.TableEntries.{entry_by_name, IsNamed, entry_is}
use Rattle.dk_grammar.specs.declared.words.Entry.{Entry}
use Rattle.dk_grammar.specs.declared.words.Block.{Block}
use Rattle.dk_grammar.specs.declared.words.Name.{Name}
use Rattle.dk_reader.specs.declared.fault.StudyKind.{StudyKind}
use Rattle.dk_reader.specs.declared.fault.StudyKind.TheVariants as kind
use Rattle.dk_reader.specs.declared.value.Value.{Value}
use Rattle.dk_reader.specs.declared.document.Field.{Field}
use Rattle.dk_reader.specs.declared.document.Document.{Document}
use Rattle.dk_reader.specs.Values.{count_of}
use Rattle.dk_reader.specs.Document.{AreNamed, fields_of, field_of, is_field, is_name_in, variable_count, response_count}
use Rattle.dk_reader.specs.Steps.{wrong_if, at_values, step5, field_faults, entry_faults, value_faults, excess_faults, is_right_count, checked_names}
use Rattle.dk_reader.proofs.SoundLists.{empty_parts, each_empty, unless_when, not_false, found}
use Rattle.dk_reader.proofs.SoundSteps.{Checked}

-- blocks and names that pass the test are the same
pub block_is : (a b : Block) → same_block a b ≡ true → b ≡ a
block_is a b e = sym (same_true block_type.the_type tt a b e)

pub name_is : (a b : Name) → same_name a b ≡ true → b ≡ a
name_is a b e = sym (same_true name_type.the_type tt a b e)

-- what holds of each name of a list holds of a name that is in it
pub in_names : (P : Name → Type 0) (names : List Name) (n : Name) → AllByRecursion P names → is_name_in names n ≡ true → P n
in_names P [] n h e = absurd (true≢false (sym e))
in_names P (k ∷ ks) n h e = by (same_name n k) refl e (in_names P ks n h.1)
  where
    by : (t : Bool) → same_name n k ≡ t → (t || list_any (same_name n) ks) ≡ true → (is_name_in ks n ≡ true → P n) → P n
    by true t e rest = subst P (name_is n k t) h.0
    by false t e rest = rest e

-- a name that is in a list of one is that one
pub one_name : (n m : Name) → is_name_in (n ∷ []) m ≡ true → m ≡ n
one_name n m e = in_names (λ k. k ≡ n) (n ∷ []) m (refl, tt) e

-- the first keyword of a block with one of these names is of this block, has one of the names, and has what each keyword has
pub among : (P : Field → Type 0) (d : Document) (b : Block) (names : List Name) (f : Field) → first (fields_of d b names) ≡ Some f → All P d.fields →
    P f × (f.block ≡ b) × (is_name_in names f.entry.name ≡ true)
among P d b names f e h =
    let at = found P (is_field b names) d.fields f e h in
    let p = and_parts (same_block b f.block) (is_name_in names f.entry.name) at.1 in
    (at.0, block_is b f.block p.0, p.1)

-- the keyword of a block with this name
pub keyword : (P : Field → Type 0) (d : Document) (b : Block) (n : Name) (f : Field) → field_of d b n ≡ Some f → All P d.fields → P f × (f.block ≡ b) × (f.entry.name ≡ n)
keyword P d b n f e h = let at = among P d b (n ∷ []) f e h in (at.0, at.1, one_name n f.entry.name at.2)

-- the values are what the keyword takes, and so many as it takes
pub record IsRight (d : Document) (f : Field) (e : Entry) : Type 0 where
  pub values : value_faults e.takes f ≡ []
  pub count : is_right_count (variable_count d) (response_count d) e.count (count_of f.values) ≡ true

pub right_by_faults : (d : Document) (f : Field) → entry_faults d f ≡ [] → IsRight d f f.entry
right_by_faults d f h =
    let wrong = wrong_if (not (is_right_count (variable_count d) (response_count d) f.entry.count (count_of f.values))) kind.WrongCount f.keyword in
    let p = empty_parts (value_faults f.entry.takes f) (excess_faults f.values ++ wrong) h in
    let q = empty_parts (excess_faults f.values) wrong p.1 in
    record { values = p.0; count = not_false _ (unless_when _ _ q.1) }

-- a keyword without faults, whose entry is the table's
pub record IsChecked (d : Document) (f : Field) : Type 0 where
  pub faultless : field_faults d f ≡ []
  pub named : IsNamed f

-- such a keyword of this block and name takes its values as its entry in the table says
pub right : (d : Document) (f : Field) (b : Block) (n : Name) (e : Entry) → IsChecked d f → f.block ≡ b → f.entry.name ≡ n → is_name_in checked_names n ≡ false → entry_by_name b n ≡ Some e → IsRight d f e
right d f b n e h block_at name_at other entry =
    subst (IsRight d f) (entry_is f b n e h.named block_at name_at entry)
    (right_by_faults d f (by (is_name_in checked_names f.entry.name) h.faultless (ap (is_name_in checked_names) name_at ∙ other)))
  where
    by : (t : Bool) → (if t then [] else entry_faults d f) ≡ [] → t ≡ false → entry_faults d f ≡ []
    by true h t = absurd (true≢false t)
    by false h t = h

-- each keyword is such
pub each_checked : (d : Document) → AreNamed d.fields → step5 d ≡ [] → All (IsChecked d) d.fields
each_checked d named values = λ k f lt. record { faultless = each_empty (field_faults d) d.fields values k f lt; named = named k f lt }

pub each_field : (d : Document) → Checked d → All (IsChecked d) d.fields
each_field d c = each_checked d c.named c.values

-- so this holds of each keyword of the table that is there: give `refl` for the two tests
pub right_keyword : (d : Document) → Checked d → (b : Block) (n : Name) (e : Entry) (f : Field) → field_of d b n ≡ Some f → is_name_in checked_names n ≡ false → entry_by_name b n ≡ Some e → IsRight d f e
right_keyword d c b n e f is other entry =
    let at = keyword (IsChecked d) d b n f is (each_field d c) in
    right d f b n e at.0 at.1 at.2 other entry

-- no value fails the test
pub passes : (k : StudyKind) (is_bad : Value → Bool) (vs : List Value) → at_values k is_bad vs ≡ [] → All (λ v. is_bad v ≡ false) vs
passes k is_bad vs e = All-weaker (λ v. wrong_if (is_bad v) k v.span ≡ []) (λ v. is_bad v ≡ false) (λ v h. unless_when _ _ h) vs (each_empty (λ v. wrong_if (is_bad v) k v.span) vs e)
