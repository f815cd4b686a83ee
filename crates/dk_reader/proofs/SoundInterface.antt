-- The sizes, the driver, the files, the rule and the concurrency of a document without faults.
use Rattle.std.proofs.Common.{◌≡◌, inr, ℕ, suc, ◌<◌, Bool, true, false, not, cond, List, [], ◌∷◌, ◌++◌, filter, length, refl, sym, ap, subst, IfSome, arith, lit<, Option, Some, None, true≢false}
use Rattle.std.specs.Prelude.{◌&&◌, ◌==◌, is_some, is_none, nat_lt, option_and_then}
use Rattle.std.specs.List.{All, AllByRecursion, list_all, slice_split, onto_first}
use Rattle.std.specs.Option.{option_map_or}
use Rattle.std.proofs.lemmas.Bool.{and_parts}
use Rattle.std.proofs.lemmas.Grind.{common_steps}
use Rattle.std.proofs.lemmas.List.Elements.{All-head}
use Rattle.dk_types.specs.Sound.{IsBetween}
use Rattle.dk_grammar.specs.Lists.{first}
use Rattle.dk_grammar.specs.declared.words.Block.{Block}
use Rattle.dk_grammar.specs.declared.words.Block.TheVariants as block
use Rattle.dk_grammar.specs.declared.words.Name.{Name}
use Rattle.dk_grammar.specs.declared.words.Takes.TheVariants as takes
use Rattle.dk_grammar.specs.declared.words.Count.TheVariants as counts
use Rattle.dk_grammar.specs.declared.words.Name.TheVariants as name
use Rattle.dk_reader.specs.declared.fault.StudyKind.TheVariants as kind
use Rattle.dk_reader.specs.declared.value.Value.{Value}
use Rattle.dk_reader.specs.declared.document.Field.{Field}
use Rattle.dk_reader.specs.declared.document.Document.{Document}
use Rattle.dk_reader.specs.Values.{count_of, whole, string}
use Rattle.dk_reader.specs.Document.{AreNamed, block_span, fields_of, field_of, has, string_at, function_names, variable_count, response_count}
use Rattle.dk_reader.specs.Study.{words_of}
use Rattle.dk_reader.specs.Steps.{wrong_if, at_values, of_field, at_second, needed, size_faults, value_faults, driver_faults, direct_faults, is_bad_whole}
use Rattle.dk_reader.proofs.SoundLists.{empty_parts, unless_when, not_false, equal_from}
use Rattle.dk_reader.proofs.SoundSteps.{Checked}
use Rattle.dk_reader.proofs.SoundKeywords.{among, in_names, passes}
use Rattle.dk_reader.proofs.TableEntries.{entry_by_name, IsNamed, entry_is}
use Rattle.dk_reader.proofs.SoundValues.{first_whole, some_counted}

-- sizes

-- the number that a keyword of sizes says
size_in : (o : Option Field) → is_none o ≡ false → IfSome o (λ f. f.entry.takes ≡ takes.Wholes 1 100) → of_field size_faults o ≡ [] →
    IsBetween 1 100 (option_map_or whole (option_and_then (λ f. first f.values) o) 0)
size_in None there taken e = absurd (true≢false there)
size_in (Some f) there taken e =
    let p = empty_parts (wrong_if (not (count_of f.values == 1)) kind.WrongCount f.keyword) (value_faults f.entry.takes f) (empty_parts (size_faults f) [] e).0 in
    let one : count_of f.values ≡ 1 = equal_from (count_of f.values) 1 (not_false _ (unless_when _ _ p.0)) in
    let right : at_values kind.BadWhole (is_bad_whole 1 100) f.values ≡ [] = subst (λ t. value_faults t f ≡ []) taken p.1 in
    first_whole 1 100 0 f.values (passes kind.BadWhole (is_bad_whole 1 100) f.values right) (inr (some_counted f.values one))

-- the first keyword of a block with one of these names takes whole numbers from 1 to 100, where each of the names does
sized : (d : Document) → AreNamed d.fields → (b : Block) (names : List Name) → AllByRecursion (λ n. entry_by_name b n ≡ Some (record { name = n; takes = takes.Wholes 1 100; count = counts.One })) names →
    IfSome (first (fields_of d b names)) (λ f. f.entry.takes ≡ takes.Wholes 1 100)
sized d named b names entries = by (first (fields_of d b names)) refl
  where
    by : (o : Option Field) → first (fields_of d b names) ≡ o → IfSome o (λ f. f.entry.takes ≡ takes.Wholes 1 100)
    by None e = tt
    by (Some f) e =
        let at = among IsNamed d b names f e named in
        let entry = in_names (λ n. entry_by_name b n ≡ Some (record { name = n; takes = takes.Wholes 1 100; count = counts.One })) names f.entry.name entries at.2 in
        ap (λ x. x.takes) (entry_is f b f.entry.name (record { name = f.entry.name; takes = takes.Wholes 1 100; count = counts.One }) at.0 at.1 refl entry)

-- there are 1 to 100 variables
pub variables_few : (d : Document) → Checked d → IsBetween 1 100 (variable_count d)
variables_few d c =
    let p = empty_parts (needed d block.Variables name.ContinuousDesign) (of_field size_faults (field_of d block.Variables name.ContinuousDesign)) c.variables in
    size_in (field_of d block.Variables name.ContinuousDesign) (unless_when _ _ p.0) (sized d c.named block.Variables (name.ContinuousDesign ∷ []) (refl, tt)) p.1

-- and 1 to 100 responses
pub responses_few : (d : Document) → Checked d → IsBetween 1 100 (response_count d)
responses_few d c =
    let fields = fields_of d block.Responses function_names in
    let p = empty_parts (wrong_if (is_none (first fields)) kind.Missing (block_span d block.Responses) ++ at_second kind.Conflict fields) (of_field size_faults (first fields)) c.responses in
    let q = empty_parts (wrong_if (is_none (first fields)) kind.Missing (block_span d block.Responses)) (at_second kind.Conflict fields) p.0 in
    size_in (first fields) (unless_when _ _ q.0) (sized d c.named block.Responses function_names (refl, (refl, tt))) p.1

-- words

words_step : (text : List ℕ) → list_all (λ b. b == 32) text ≡ false → 0 < length (words_of text)
words_step [] e = absurd (true≢false e)
words_step (b ∷ bs) e = by (b == 32) refl e (words_step bs)
  where
    some : (parts : List (List ℕ)) → 0 < length (filter (λ w. nat_lt 0 (length w)) (onto_first b parts))
    some [] = lit< tt
    some (part ∷ parts) = let t : nat_lt 0 (suc (length part)) ≡ true = grind (arith, common_steps) in rw t (omega arith)

    by : (t : Bool) → (b == 32) ≡ t → (t && list_all (λ b. b == 32) bs) ≡ false → (list_all (λ b. b == 32) bs ≡ false → 0 < length (words_of bs)) →
        0 < length (filter (λ w. nat_lt 0 (length w)) (cond t ([] ∷ slice_split (λ b. b == 32) bs) (onto_first b (slice_split (λ b. b == 32) bs))))
    by true t e rest = rest e
    by false t e rest = some (slice_split (λ b. b == 32) bs)

-- the driver's string has a word
driver_words : (o : Option Field) → is_some o ≡ true → of_field driver_faults o ≡ [] → 0 < length (words_of (option_map_or string (option_and_then (λ f. first f.values) o) []))
driver_words None there e = absurd (true≢false (sym there))
driver_words (Some f) there e = by f.values (unless_when _ _ p.0) (passes kind.WrongCount (λ v. list_all (λ b. b == 32) (string v)) f.values q.1)
  where
    p : (wrong_if (length f.values == 0) kind.WrongCount f.keyword ≡ []) × (wrong_if (nat_lt 1 (length f.values)) kind.Unsupported f.keyword ++ at_values kind.WrongCount (λ v. list_all (λ b. b == 32) (string v)) f.values ≡ [])
    p = empty_parts (wrong_if (length f.values == 0) kind.WrongCount f.keyword) (wrong_if (nat_lt 1 (length f.values)) kind.Unsupported f.keyword ++ at_values kind.WrongCount (λ v. list_all (λ b. b == 32) (string v)) f.values) (empty_parts (driver_faults f) [] e).0

    q : (wrong_if (nat_lt 1 (length f.values)) kind.Unsupported f.keyword ≡ []) × (at_values kind.WrongCount (λ v. list_all (λ b. b == 32) (string v)) f.values ≡ [])
    q = empty_parts (wrong_if (nat_lt 1 (length f.values)) kind.Unsupported f.keyword) (at_values kind.WrongCount (λ v. list_all (λ b. b == 32) (string v)) f.values) p.1

    by : (vs : List Value) → (length vs == 0) ≡ false → All (λ v. list_all (λ b. b == 32) (string v) ≡ false) vs → 0 < length (words_of (option_map_or string (first vs) []))
    by [] e h = absurd (true≢false e)
    by (v ∷ vs) e h = words_step (string v) (All-head (λ v. list_all (λ b. b == 32) (string v) ≡ false) v vs h)

-- the faults of the driver, of the ways to call it, and of the direct one
driver_parts : (d : Document) → Checked d → (has d block.Interface name.AnalysisDrivers ≡ true) × (of_field driver_faults (field_of d block.Interface name.AnalysisDrivers) ≡ []) × (of_field (direct_faults d) (field_of d block.Interface name.Direct) ≡ [])
driver_parts d c =
    let p = empty_parts (needed d block.Interface name.AnalysisDrivers) _ c.driver in
    let q = empty_parts (of_field driver_faults (field_of d block.Interface name.AnalysisDrivers)) _ p.1 in
    let r = empty_parts _ (of_field (direct_faults d) (field_of d block.Interface name.Direct)) q.1 in
    (not_false _ (unless_when _ _ p.0), q.0, r.1)

-- the driver has a word
pub driver_named : (d : Document) → Checked d → 0 < length (words_of (string_at d block.Interface name.AnalysisDrivers []))
driver_named d c = let p = driver_parts d c in driver_words (field_of d block.Interface name.AnalysisDrivers) p.0 p.1

-- rosenbrock has two variables and one response
pub direct_sizes : (d : Document) → Checked d → has d block.Interface name.Direct ≡ true → (variable_count d ≡ 2) × (response_count d ≡ 1)
direct_sizes d c = by (field_of d block.Interface name.Direct) (driver_parts d c).2
  where
    by : (o : Option Field) → of_field (direct_faults d) o ≡ [] → is_some o ≡ true → (variable_count d ≡ 2) × (response_count d ≡ 1)
    by None e there = absurd (true≢false (sym there))
    by (Some f) e there =
        let p = empty_parts _ (wrong_if (not (variable_count d == 2 && response_count d == 1)) kind.Conflict f.keyword) (empty_parts (direct_faults d f) [] e).0 in
        let q = and_parts (variable_count d == 2) (response_count d == 1) (not_false _ (unless_when _ _ p.1)) in
        (equal_from (variable_count d) 2 q.0, equal_from (response_count d) 1 q.1)
