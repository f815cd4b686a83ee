-- The keyword of the method of a document without faults, and what stands beside it.
use Rattle.std.proofs.Common.{◌≡◌, Bool, true, false, not, cond, List, [], ◌∷◌, filter, refl, sym, ap, ◌∙◌, subst, Some, true≢false}
use Rattle.std.specs.Prelude.{◌&&◌, ◌||◌, is_some, is_none, if◌then◌else◌}
use Rattle.std.specs.List.{list_any}
use Rattle.std.specs.Option.{option_map_or}
use Rattle.dk_grammar.specs.Lists.{first}
use Rattle.dk_grammar.specs.Meanings.{same_block, same_name}
use Rattle.dk_grammar.specs.declared.words.Block.{Block}
use Rattle.dk_grammar.specs.declared.words.Block.TheVariants as block
use Rattle.dk_grammar.specs.declared.words.Name.{Name}
use Rattle.dk_grammar.specs.declared.words.Name.TheVariants as name
use Rattle.dk_reader.specs.declared.fault.StudyKind.TheVariants as kind
use Rattle.dk_reader.specs.declared.document.Field.{Field}
use Rattle.dk_reader.specs.declared.document.Document.{Document}
use Rattle.dk_reader.specs.Document.{block_span, fields_of, is_field, is_name_in, method_names, method_field, method_is}
use Rattle.dk_reader.specs.Steps.{wrong_if, at_second, of_field, needs_of, foreign_faults, lacks, both_faults, has_bounds, has_objective, other_block_faults, method_faults}
use Rattle.dk_reader.proofs.SoundLists.{empty_parts, unless_when, some_value}
use Rattle.dk_reader.proofs.SoundSteps.{Checked}
use Rattle.dk_reader.proofs.SoundKeywords.{among}

-- a keyword with one of two names has the second where none has the first
pub other_one : (b : Block) (n k : Name) (fs : List Field) → is_some (first (filter (is_field b (n ∷ k ∷ [])) fs)) ≡ true → is_some (first (filter (is_field b (n ∷ [])) fs)) ≡ false →
    is_some (first (filter (is_field b (k ∷ [])) fs)) ≡ true
other_one b n k [] some none = some
other_one b n k (f ∷ fs) some none = by (same_block b f.block) (same_name f.entry.name n) (same_name f.entry.name k) some none (other_one b n k fs)
  where
    by : (s x y : Bool) → is_some (first (cond (s && (x || (y || false))) (f ∷ filter (is_field b (n ∷ k ∷ [])) fs) (filter (is_field b (n ∷ k ∷ [])) fs))) ≡ true →
        is_some (first (cond (s && (x || false)) (f ∷ filter (is_field b (n ∷ [])) fs) (filter (is_field b (n ∷ [])) fs))) ≡ false →
        (is_some (first (filter (is_field b (n ∷ k ∷ [])) fs)) ≡ true → is_some (first (filter (is_field b (n ∷ [])) fs)) ≡ false → is_some (first (filter (is_field b (k ∷ [])) fs)) ≡ true) →
        is_some (first (cond (s && (y || false)) (f ∷ filter (is_field b (k ∷ [])) fs) (filter (is_field b (k ∷ [])) fs))) ≡ true
    by false x y some none rest = rest some none
    by true true y some none rest = absurd (true≢false none)
    by true false true some none rest = refl
    by true false false some none rest = rest some none

-- what holds of the side that is taken holds
pub if_true : {A : Type 0} (P : A → Type 0) (t : Bool) (x y : A) → t ≡ true → P x → P (if t then x else y)
if_true P t x y e p = subst (λ s. P (if s then x else y)) (sym e) p

pub if_false : {A : Type 0} (P : A → Type 0) (t : Bool) (x y : A) → t ≡ false → P y → P (if t then x else y)
if_false P t x y e p = subst (λ s. P (if s then x else y)) (sym e) p

-- the method's keyword, with what its method needs
pub record HasMethod (d : Document) (m : Field) : Type 0 where
  pub is : method_field d ≡ Some m
  pub named : is_name_in method_names m.entry.name ≡ true
  pub needs : list_any (lacks d) (needs_of m.entry.name) ≡ false
  pub bounded : (same_name m.entry.name name.MultidimParameterStudy && not (has_bounds d)) ≡ false
  pub searched : (same_name m.entry.name name.CompassSearch && not (has_objective d)) ≡ false

pub has_method : (d : Document) → Checked d → (m : Field) × HasMethod d m
has_method d c =
    let p = empty_parts (wrong_if (is_none (method_field d)) kind.Missing (block_span d block.Method)) (at_second kind.Conflict (fields_of d block.Method method_names)) c.method in
    let m = some_value (method_field d) (unless_when _ _ p.0) in
    (m.0, made m.0 m.1 (empty_parts (method_faults d m.0) [] (subst (λ o. of_field (method_faults d) o ≡ []) m.1 c.keywords)).0)
  where
    made : (m : Field) → method_field d ≡ Some m → method_faults d m ≡ [] → HasMethod d m
    made m is e =
        let needs = wrong_if (list_any (lacks d) (needs_of m.entry.name)) kind.Missing m.keyword in
        let bounds = wrong_if (same_name m.entry.name name.MultidimParameterStudy && not (has_bounds d)) kind.Missing (block_span d block.Variables) in
        let search = wrong_if (same_name m.entry.name name.CompassSearch && not (has_objective d)) kind.Conflict m.keyword in
        let p = empty_parts (foreign_faults m d.fields) _ e in
        let q = empty_parts needs _ p.1 in
        let r = empty_parts (both_faults d m.entry.name) (other_block_faults d m) q.1 in
        let s = empty_parts bounds search r.1 in
        record {
          is = is;
          named = (among (λ f. Unit {0}) d block.Method method_names m is (λ k f lt. tt)).2;
          needs = unless_when _ _ q.0;
          bounded = unless_when _ _ s.0;
          searched = unless_when _ _ s.1;
        }

-- the method is told by its keyword's name
pub method_told : (d : Document) (m : Field) (n k : Name) → method_field d ≡ Some m → m.entry.name ≡ n → method_is d k ≡ same_name n k
method_told d m n k is named = ap (λ o. option_map_or (λ f. same_name f.entry.name k) o false) is ∙ ap (λ x. same_name x k) named
