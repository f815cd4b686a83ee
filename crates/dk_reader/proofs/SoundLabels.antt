-- The labels of a document without faults.
use Rattle.std.proofs.Common.{◌≡◌, ℕ, zero, suc, ◌+◌, ◌^◌, ◌<◌, ◌≤◌, Bool, true, false, not, List, [], ◌∷◌, ◌++◌, map, length, refl, sym, ap, ◌∙◌, subst, arith, lit≤, get_or, Option, Some, None, IfSome, true≢false, unwrap_or, codes, decimal}
use Rattle.std.specs.Prelude.{IsTrue, Contains}
use Rattle.std.specs.List.{All, flat_map, list_any, range_with_len}
use Rattle.std.specs.Fmt.{digits}
use Rattle.std.specs.Str.{bytes_eq}
use Rattle.std.proofs.lemmas.Bool.{or_parts, and_from, or_from, agree_below, agree_below_at, false_from_ne_true}
use Rattle.std.proofs.lemmas.Fmt.{decimal_injective}
use Rattle.std.proofs.lemmas.List.{length-map, append_cancel_left}
use Rattle.std.proofs.lemmas.List.Elements.{All-nil, All-cons, All-weaker, All-map, All-contains, Contains-append_left, Contains-append_right}
use Rattle.std.proofs.lemmas.List.FromFn.{length-map-range_with_len}
use Rattle.std.proofs.lemmas.Slice.Eq.{bytes_eq-Decides}
use Rattle.dk_types.specs.Sound.{IsBetween}
use Rattle.dk_types.specs.Labels.{is_label, are_distinct, AreLabels}
use Rattle.dk_grammar.specs.Lists.{places_after}
use Rattle.dk_reader.specs.declared.fault.StudyKind.TheVariants as kind
use Rattle.dk_reader.specs.declared.value.Value.{Value}
use Rattle.dk_reader.specs.Values.{count, count_of, spread, string}
use Rattle.dk_reader.specs.Study.{numbered}
use Rattle.dk_reader.specs.Steps.{wrong_if, twice_faults}
use Rattle.dk_reader.proofs.SoundLists.{empty_parts, unless_when, not_false}
use Rattle.dk_reader.proofs.SoundValues.{spread_once, length_spread}
use Rattle.dk_reader.proofs.SoundReading.{IsWritten}

-- an element of a list passes no test that none passes
pub none_passes : {X : Type 0} (p : X → Bool) (xs : List X) → list_any p xs ≡ false → All (λ x. p x ≡ false) xs
none_passes p [] e = All-nil (λ x. p x ≡ false)
none_passes p (x ∷ xs) e = let h = or_parts (p x) (list_any p xs) e in All-cons (λ x. p x ≡ false) x xs h.0 (none_passes p xs h.1)

-- labels that are written

-- no value of the end of a list has the string of one before it
unlike : (u : Value) (before vs : List Value) → Contains before u → flat_map (λ p. wrong_if (list_any (λ v. bytes_eq (string v) (string p.here)) p.before) kind.Conflict p.here.span) (places_after before vs) ≡ [] →
    list_any (bytes_eq (string u)) (map string vs) ≡ false
unlike u before [] in_it e = refl
unlike u before (v ∷ vs) in_it e =
    let p = empty_parts (wrong_if (list_any (λ x. bytes_eq (string x) (string v)) before) kind.Conflict v.span) _ e in
    let here : bytes_eq (string u) (string v) ≡ false
    = All-contains (λ x. bytes_eq (string x) (string v) ≡ false) before u (none_passes (λ x. bytes_eq (string x) (string v)) before (unless_when _ _ p.0)) in_it in
    or_from _ _ here (unlike u (before ++ v ∷ []) vs (Contains-append_left before (v ∷ []) u in_it) p.1)

distinct_after : (before vs : List Value) → flat_map (λ p. wrong_if (list_any (λ v. bytes_eq (string v) (string p.here)) p.before) kind.Conflict p.here.span) (places_after before vs) ≡ [] → IsTrue (are_distinct (map string vs))
distinct_after before [] e = refl
distinct_after before (v ∷ vs) e =
    let p = empty_parts (wrong_if (list_any (λ x. bytes_eq (string x) (string v)) before) kind.Conflict v.span) _ e in
    and_from _ _ (ap not (unlike v (before ++ v ∷ []) vs (Contains-append_right before (v ∷ []) v (0, omega arith, refl)) p.1))
    (distinct_after (before ++ v ∷ []) vs p.1)

-- strings of which none stands twice are distinct
distinct : (vs : List Value) → twice_faults vs ≡ [] → IsTrue (are_distinct (map string vs))
distinct vs e = distinct_after [] vs e

-- a label stands for itself once
label_once : (v : Value) → IsWritten v → IsTrue (is_label (string v)) → count v ≡ 1
label_once v w h = by v.string h w.once
  where
    by : (o : Option (List ℕ)) → IsTrue (is_label (unwrap_or o [])) → IfSome o (λ bytes. v.copies ≡ Some 1) → count v ≡ 1
    by None h once = absurd (true≢false (sym h))
    by (Some bytes) h once = ap (λ c. unwrap_or c 1) once

-- strings that are labels and of which none stands twice
pub labels_written : (vs : List Value) → All IsWritten vs → All (λ v. not (is_label (string v)) ≡ false) vs → twice_faults vs ≡ [] → IsBetween 1 100 (count_of vs) → AreLabels (map string (spread vs))
labels_written vs written good once size =
    let labels : All (λ v. IsTrue (is_label (string v))) vs = All-weaker (λ v. not (is_label (string v)) ≡ false) (λ v. IsTrue (is_label (string v))) (λ v h. not_false (is_label (string v)) h) vs good in
    let same : spread vs ≡ vs = spread_once vs (λ k d lt. label_once (get_or vs k d) (written k d lt) (labels k d lt)) in
    let many : length (map string (spread vs)) ≡ count_of vs = length-map (spread vs) string ∙ length_spread vs in
    let low = size.0 in
    let high = size.1 in
    record {
      some = omega arith;
      few = omega arith;
      each = subst (λ l. All (λ label. IsTrue (is_label label)) (map string l)) (sym same) (All-map (λ label. IsTrue (is_label label)) string vs labels);
      distinct = subst (λ l. IsTrue (are_distinct (map string l))) (sym same) (distinct vs once);
    }

-- labels by default

-- this text with numbers behind it
abbrev label_at : List ℕ → ℕ → List ℕ
label_at prefix i = prefix ++ decimal i

other_label : (prefix : List ℕ) (i j : ℕ) → i < j → j < 2 ^ 64 → bytes_eq (label_at prefix i) (label_at prefix j) ≡ false
other_label prefix i j less low =
    false_from_ne_true _ (λ e.
    let same : decimal i ≡ decimal j = append_cancel_left prefix (decimal i) (decimal j) ((bytes_eq-Decides (label_at prefix i) (label_at prefix j)).0 e) in
    let equal : i ≡ j = decimal_injective i j (omega arith) low same in
    omega arith)

no_later : (prefix : List ℕ) (i a k : ℕ) → i < a → a + k < 2 ^ 64 → list_any (bytes_eq (label_at prefix i)) (map (label_at prefix) (range_with_len a k)) ≡ false
no_later prefix i a zero less low = refl
no_later prefix i a (suc k) less low =
    or_from _ _ (other_label prefix i a less (omega arith)) (no_later prefix i (a + 1) k (omega arith) (omega arith))

numbered_distinct : (prefix : List ℕ) (a k : ℕ) → a + k < 2 ^ 64 → IsTrue (are_distinct (map (label_at prefix) (range_with_len a k)))
numbered_distinct prefix a zero low = refl
numbered_distinct prefix a (suc k) low =
    and_from _ _ (ap not (no_later prefix a (a + 1) k (omega arith) (omega arith))) (numbered_distinct prefix (a + 1) k (omega arith))

range_below : (P : ℕ → Type 0) (high : ℕ) → ((i : ℕ) → i < high → P i) → (a k : ℕ) → a + k ≤ high → All P (range_with_len a k)
range_below P high h a zero low = All-nil P
range_below P high h a (suc k) low = All-cons P a (range_with_len (a + 1) k) (h a (omega arith)) (range_below P high h (a + 1) k (omega arith))

-- this text with the numbers from 1 on, where it makes labels of those up to 100
pub labels_numbered : (prefix : List ℕ) → agree_below (λ i. is_label (label_at prefix i)) (λ i. true) 101 ≡ true → (k : ℕ) → IsBetween 1 100 k → AreLabels (numbered prefix k)
labels_numbered prefix good k size =
    let low = size.0 in
    let high = size.1 in
    let many : length (numbered prefix k) ≡ k = length-map-range_with_len (label_at prefix) 1 k in
    record {
      some = omega arith;
      few = omega arith;
      each = All-map (λ label. IsTrue (is_label label)) (label_at prefix) (range_with_len 1 k)
          (range_below (λ i. IsTrue (is_label (label_at prefix i))) 101 (λ i lt. agree_below_at (λ i. is_label (label_at prefix i)) (λ i. true) 101 i good lt) 1 k (omega arith));
      distinct = numbered_distinct prefix 1 k (below k high);
    }
  where
    below : (k : ℕ) → k ≤ 100 → 1 + k < 2 ^ 64
    below k h = omega arith

pub length_numbered : (prefix : List ℕ) (k : ℕ) → length (numbered prefix k) ≡ k
length_numbered prefix k = length-map-range_with_len (label_at prefix) 1 k

pub variable_labels : (k : ℕ) → IsBetween 1 100 k → AreLabels (numbered (codes "cdv_") k)
unfolding digits
variable_labels = labels_numbered (codes "cdv_") refl

pub function_labels : (k : ℕ) → IsBetween 1 100 k → AreLabels (numbered (codes "response_fn_") k)
unfolding digits
function_labels = labels_numbered (codes "response_fn_") refl

pub objective_labels : (k : ℕ) → IsBetween 1 100 k → AreLabels (numbered (codes "obj_fn_") k)
unfolding digits
objective_labels = labels_numbered (codes "obj_fn_") refl

pub objective_label : AreLabels (codes "obj_fn" ∷ [])
objective_label = record {
  some = lit≤ tt;
  few = lit≤ tt;
  each = All-cons (λ label. IsTrue (is_label label)) (codes "obj_fn") [] refl (All-nil (λ label. IsTrue (is_label label)));
  distinct = refl;
}
