-- The strings of a document without faults: labels and names of files.
use Rattle.std.proofs.Common.{◌≡◌, ℕ, ◌<◌, Bool, true, false, not, List, [], ◌∷◌, map, length, refl, sym, ap, ◌∙◌, subst, arith, lit<, Option, Some, None, true≢false, codes}
use Rattle.std.specs.Prelude.{◌==◌, option_and_then, if◌then◌else◌}
use Rattle.std.specs.List.{All, flat_map}
use Rattle.std.specs.Option.{option_map_or}
use Rattle.std.proofs.lemmas.Bool.{both_ways}
use Rattle.std.proofs.lemmas.Grind.{common_steps}
use Rattle.std.proofs.lemmas.List.{length-map}
use Rattle.std.proofs.lemmas.List.Elements.{All-weaker}
use Rattle.std.proofs.lemmas.Slice.Eq.{bytes_eq-Decides}
use Rattle.dk_types.specs.Sound.{IsBetween}
use Rattle.dk_types.specs.Labels.{AreLabels}
use Rattle.dk_grammar.specs.Lists.{first}
use Rattle.dk_grammar.specs.declared.words.Block.{Block}
use Rattle.dk_grammar.specs.declared.words.Block.TheVariants as block
use Rattle.dk_grammar.specs.declared.words.Name.{Name}
use Rattle.dk_grammar.specs.declared.words.Name.TheVariants as name
use Rattle.dk_grammar.specs.declared.words.Takes.TheVariants as takes
use Rattle.dk_grammar.specs.declared.words.Count.TheVariants as counts
use Rattle.dk_reader.specs.declared.fault.StudyKind.{StudyKind}
use Rattle.dk_reader.specs.declared.fault.StudyKind.TheVariants as kind
use Rattle.dk_reader.specs.declared.value.Value.{Value}
use Rattle.dk_reader.specs.declared.document.Field.{Field}
use Rattle.dk_reader.specs.declared.document.Document.{Document}
use Rattle.dk_reader.specs.Values.{count_of, spread, string}
use Rattle.dk_reader.specs.Document.{fields_of, field_of, string_at, is_name_in, label_names, variable_count, response_count, parameters_name, results_name}
use Rattle.dk_reader.specs.Study.{labels_at, numbered, default_responses, has_objectives}
use Rattle.dk_reader.specs.Steps.{at_values, at_values_in, at_second, is_bad_label, is_empty, label_faults, twice_faults, twice_faults_in, twice_faults_of, file_names, file_faults, rules_of, uncaptured_faults, ruleless_faults, unasked_faults, same_file_faults}
use Rattle.dk_reader.proofs.SoundLists.{empty_parts, each_empty, unless_when, equal_from, first_has}
use Rattle.dk_reader.proofs.SoundSteps.{Checked}
use Rattle.dk_reader.proofs.SoundKeywords.{IsChecked, among, keyword, one_name, in_names, right, each_field, passes}
use Rattle.dk_reader.proofs.SoundValues.{length_spread}
use Rattle.dk_reader.proofs.SoundReading.{IsWritten, AreWritten}
use Rattle.dk_reader.proofs.SoundLabels.{labels_written, length_numbered, variable_labels, function_labels, objective_labels, objective_label}
use Rattle.dk_reader.proofs.SoundInterface.{variables_few, responses_few}

-- where a test of a keyword's name has no fault
where_true : {X : Type 0} (t : Bool) (xs : List X) → (if t then xs else []) ≡ [] → t ≡ true → xs ≡ []
where_true true xs e t = e
where_true false xs e t = absurd (true≢false (sym t))

-- the strings of labels are labels, and none stands twice
abbrev HasLabels : Field → Type 0
HasLabels f = is_name_in label_names f.entry.name ≡ true → All (λ v. is_bad_label v ≡ false) f.values × (twice_faults f.values ≡ [])

-- the strings of names of files aren't empty
abbrev HasFiles : Field → Type 0
HasFiles f = is_name_in file_names f.entry.name ≡ true → All (λ v. is_empty v ≡ false) f.values

strings_of : (k : StudyKind) (is_bad : Value → Bool) (names : List Name) (fields : List Field) → flat_map (at_values_in k is_bad names) fields ≡ [] → All (λ f. is_name_in names f.entry.name ≡ true → All (λ v. is_bad v ≡ false) f.values) fields
strings_of k is_bad names fields e =
    All-weaker (λ f. at_values_in k is_bad names f ≡ []) (λ f. is_name_in names f.entry.name ≡ true → All (λ v. is_bad v ≡ false) f.values)
    (λ f h t. passes k is_bad f.values (where_true (is_name_in names f.entry.name) (at_values k is_bad f.values) h t))
    fields (each_empty (at_values_in k is_bad names) fields e)

each_labels : (d : Document) → Checked d → All HasLabels d.fields
each_labels d c =
    let p = empty_parts (label_faults d.fields) _ c.labels in
    let q = empty_parts (twice_faults_of d.fields) _ p.1 in
    let good = strings_of kind.BadLabel is_bad_label label_names d.fields p.0 in
    let once = each_empty twice_faults_in d.fields q.0 in
    λ k f lt t. (good k f lt t, where_true _ _ (once k f lt) t)

each_files : (d : Document) → Checked d → All HasFiles d.fields
each_files d c =
    let p = empty_parts (label_faults d.fields) _ c.labels in
    let q = empty_parts (twice_faults_of d.fields) _ p.1 in
    let r = empty_parts (at_second kind.Conflict (fields_of d block.Responses label_names)) (file_faults d.fields) q.1 in
    strings_of kind.BadLabel is_empty file_names d.fields r.1

-- labels

-- so many labels
abbrev pub HasCount : ℕ → List (List ℕ) → Type 0
HasCount k labels = AreLabels labels × (length labels ≡ k)

-- labels that are written, or those by default
labels_in : (d : Document) → Checked d → AreWritten d → (b : Block) (names : List Name) (k : ℕ) (otherwise : List (List ℕ)) → IsBetween 1 100 k → HasCount k otherwise →
    ((f : Field) → IsChecked d f → f.block ≡ b → is_name_in names f.entry.name ≡ true → (is_name_in label_names f.entry.name ≡ true) × (count_of f.values ≡ k)) → HasCount k (labels_at d b names otherwise)
labels_in d c w b names k otherwise size by_default one = by (first (fields_of d b names)) refl
  where
    by : (o : Option Field) → first (fields_of d b names) ≡ o → HasCount k (option_map_or (λ f. map string (spread f.values)) o otherwise)
    by None e = by_default
    by (Some f) e =
        let at = among (IsChecked d) d b names f e (each_field d c) in
        let is = one f at.0 at.1 at.2 in
        let labels = (among HasLabels d b names f e (each_labels d c)).0 is.0 in
        let written = (among (λ f. All IsWritten f.values) d b names f e w).0 in
        (labels_written f.values written labels.0 labels.1 (subst (IsBetween 1 100) (sym is.1) size), length-map (spread f.values) string ∙ length_spread f.values ∙ is.1)

-- one label for each variable
pub variables_labelled : (d : Document) → Checked d → AreWritten d → HasCount (variable_count d) (labels_at d block.Variables (name.Descriptors ∷ []) (numbered (codes "cdv_") (variable_count d)))
variables_labelled d c w =
    labels_in d c w block.Variables (name.Descriptors ∷ []) (variable_count d) (numbered (codes "cdv_") (variable_count d)) (variables_few d c)
    (variable_labels (variable_count d) (variables_few d c), length_numbered (codes "cdv_") (variable_count d))
    (λ f h b n.
    let is = one_name name.Descriptors f.entry.name n in (
      ap (is_name_in label_names) is,
      equal_from _ _ (right d f block.Variables name.Descriptors (record { name = name.Descriptors; takes = takes.Strings; count = counts.PerVariable }) h b is refl refl).count,
    ))

by_default : (n : ℕ) (objectives : Bool) → IsBetween 1 100 n →
    HasCount n (if not objectives then numbered (codes "response_fn_") n else (if n == 1 then codes "obj_fn" ∷ [] else numbered (codes "obj_fn_") n))
by_default n false size = (function_labels n size, length_numbered (codes "response_fn_") n)
by_default n true size = by (n == 1) refl
  where
    by : (t : Bool) → (n == 1) ≡ t → HasCount n (if t then codes "obj_fn" ∷ [] else numbered (codes "obj_fn_") n)
    by true t = (objective_label, sym (equal_from n 1 t))
    by false t = (objective_labels n size, length_numbered (codes "obj_fn_") n)

-- one label for each response
pub responses_labelled : (d : Document) → Checked d → AreWritten d → HasCount (response_count d) (labels_at d block.Responses label_names (default_responses d))
responses_labelled d c w =
    labels_in d c w block.Responses label_names (response_count d) (default_responses d) (responses_few d c)
    (by_default (response_count d) (has_objectives d) (responses_few d c))
    (λ f h b n. (
      n,
      in_names (λ k. f.entry.name ≡ k → count_of f.values ≡ response_count d) label_names f.entry.name (
        λ is. equal_from _ _ (right d f block.Responses name.Descriptors (record { name = name.Descriptors; takes = takes.Strings; count = counts.PerResponse }) h b is refl refl).count,
        (λ is. equal_from _ _ (right d f block.Responses name.ResponseDescriptors (record { name = name.ResponseDescriptors; takes = takes.Strings; count = counts.PerResponse }) h b is refl refl).count, tt),
      ) n refl,
    ))

-- files

some_bytes : (n : ℕ) → (n == 0) ≡ false → 0 < n
some_bytes n e = grind (arith, common_steps)

-- a name of a file, where the name by default isn't empty
file_named : (d : Document) → Checked d → (n : Name) (otherwise : List ℕ) → is_name_in file_names n ≡ true → 0 < length otherwise → 0 < length (string_at d block.Interface n otherwise)
file_named d c n otherwise is some = by (field_of d block.Interface n) refl
  where
    first_string : (vs : List Value) → All (λ v. is_empty v ≡ false) vs → 0 < length (option_map_or string (first vs) otherwise)
    first_string [] h = some
    first_string (v ∷ vs) h = some_bytes (length (string v)) (first_has (λ v. is_empty v ≡ false) (v ∷ vs) v refl h)

    by : (o : Option Field) → field_of d block.Interface n ≡ o → 0 < length (option_map_or string (option_and_then (λ f. first f.values) o) otherwise)
    by None e = some
    by (Some f) e = let at = keyword HasFiles d block.Interface n f e (each_files d c) in first_string f.values (at.0 (ap (is_name_in file_names) at.2 ∙ is))

pub parameters_named : (d : Document) → Checked d → 0 < length (parameters_name d)
parameters_named d c = file_named d c name.ParametersFile (codes "params.in") refl (lit< tt)

pub results_named : (d : Document) → Checked d → 0 < length (results_name d)
results_named d c = file_named d c name.ResultsFile (codes "results.out") refl (lit< tt)

-- the two files have different names
pub names_differ : (d : Document) → Checked d → parameters_name d ≡ results_name d → ⊥
names_differ d c e =
    let p = empty_parts (at_second kind.Conflict (rules_of d)) _ c.rules in
    let q = empty_parts (uncaptured_faults d) _ p.1 in
    let r = empty_parts (ruleless_faults d) _ q.1 in
    let s = empty_parts (unasked_faults d) (same_file_faults d) r.1 in
    both_ways _ (unless_when _ _ s.1) ((bytes_eq-Decides (parameters_name d) (results_name d)).1 e)
