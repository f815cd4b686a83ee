-- The values of rows, each of which has one.
use Rattle.std.proofs.Common.{◌≡◌, ℕ, zero, suc, ◌+◌, ◌<◌, List, [], ◌∷◌, ◌++◌, length, map, take, drop, set, get_or, Some, refl, sym, ap, ◌∙◌, arith, length-append}
use Rattle.std.specs.Prelude.{slice_get, option_map}
use Rattle.std.specs.List.{All}
use Rattle.std.proofs.lemmas.List.Elements.{All-head, All-tail}
use Rattle.std.proofs.lemmas.List.{take_more, take_more_set, get_or-drop, length-drop, length-map, map-append}
use Rattle.std.proofs.Math.Seq.{drop-append_seam, take-length}
use Rattle.std.proofs.lemmas.Option.{get_or_from_slice_get, slice_get_within}
use Rattle.dk_num.specs.Decimal.{Decimal}
use Rattle.dk_types.specs.declared.rows.Row.{Row}
use Rattle.dk_types.specs.declared.study.Study.{Study}
use Rattle.dk_types.specs.Widths.{HaveWidths}
use Rattle.dk_types.specs.Planned.{values_in, AnswersBatch}
use Rattle.dk_compass.specs.States.{single}

slice_of_map : {A B : Type 0} (f : A → B) (xs : List A) (i : ℕ) → slice_get (map f xs) i ≡ option_map f (slice_get xs i)
slice_of_map f [] i = refl
slice_of_map f (x ∷ xs) zero = refl
slice_of_map f (x ∷ xs) (suc i) = slice_of_map f xs i

-- one value read more
pub read_more : (rows : List Row) (before place at : ℕ) (out w : List Decimal) (v : Decimal) → at ≡ before + place → option_map (λ (r : Row). r.values) (slice_get rows at) ≡ Some w → w ≡ v ∷ [] → place < length out →
    single (take place out) ≡ take place (drop before (values_in rows)) → single (take (place + 1) (set out place v)) ≡ take (place + 1) (drop before (values_in rows))
read_more rows before place at out w v is lends one inside read =
    let there : slice_get (values_in rows) (before + place) ≡ Some w = ap (slice_get (values_in rows)) (sym is) ∙ slice_of_map (λ (r : Row). r.values) rows at ∙ lends in
    let long : before + place < length (values_in rows) = slice_get_within (values_in rows) (before + place) w there in
    let cut = length-drop before (values_in rows) in
    let item : get_or (drop before (values_in rows)) place [] ≡ v ∷ [] = get_or-drop before (values_in rows) place [] ∙ get_or_from_slice_get (values_in rows) (before + place) w [] there ∙ one in
    ap single (take_more_set out place v inside)
    ∙ map-append (λ (d : Decimal). d ∷ []) (take place out) (v ∷ [])
    ∙ ap (λ (l : List (List Decimal)). l ++ (v ∷ []) ∷ []) read
    ∙ ap (λ (x : List Decimal). take place (drop before (values_in rows)) ++ x ∷ []) (sym item)
    ∙ sym (take_more (drop before (values_in rows)) place [] (omega arith))

-- a row's values are one
pub has_one : (rows : List Row) (at : ℕ) (w : List Decimal) → All (λ row. length row.values ≡ 1) rows → option_map (λ (r : Row). r.values) (slice_get rows at) ≡ Some w → length w ≡ 1
has_one [] at w are h = absurd (cc)
has_one (row ∷ rows) zero w are h = ap length (let same : row.values ≡ w = cc in sym same) ∙ All-head (λ (r : Row). length r.values ≡ 1) row rows are
has_one (row ∷ rows) (suc at) w are h = has_one rows at w (All-tail (λ (r : Row). length r.values ≡ 1) row rows are) h

pub one_value : (w : List Decimal) (v : Decimal) → length w ≡ 1 → v ≡ get_or w 0 v → w ≡ v ∷ []
one_value [] v long h = absurd (cc)
one_value (x ∷ []) v long h = ap (λ (d : Decimal). d ∷ []) (sym h)
one_value (x ∷ (y ∷ w)) v long h = absurd (let n : suc (suc (length w)) ≡ 1 = long in omega arith)

-- each row of a search has one value
pub one_each : (study : Study) (rows : List Row) → length study.responses.labels ≡ 1 → HaveWidths study rows → All (λ row. length row.values ≡ 1) rows
one_each study rows one widths = λ k d inside. (widths k d inside).values ∙ one

-- the values of the one row that there is
pub one_row : (rows : List Row) (w : List Decimal) → length rows ≡ 1 → option_map (λ (r : Row). r.values) (slice_get rows 0) ≡ Some w → values_in rows ≡ w ∷ []
one_row [] w long h = absurd (cc)
one_row (row ∷ []) w long h = ap (λ (x : List Decimal). x ∷ []) (let same : row.values ≡ w = cc in same)
one_row (row ∷ (other ∷ rows)) w long h = absurd (let n : suc (suc (length rows)) ≡ 1 = long in omega arith)

-- the values of the rows behind others
pub values_behind : (rows given behind : List Row) (before count : ℕ) → rows ≡ given ++ behind → length given ≡ before → count ≡ length behind → take count (drop before (values_in rows)) ≡ values_in behind
values_behind rows given behind before count split is all =
    let a : length (values_in given) ≡ before = length-map given (λ (r : Row). r.values) ∙ is in
    let b : count ≡ length (values_in behind) = all ∙ sym (length-map behind (λ (r : Row). r.values)) in
    ap (λ (l : List Row). take count (drop before (values_in l))) split
    ∙ ap (λ (l : List (List Decimal)). take count (drop before l)) (map-append (λ (r : Row). r.values) given behind)
    ∙ ap (λ (n : ℕ). take count (drop n (values_in given ++ values_in behind))) (sym a)
    ∙ ap (take count) (drop-append_seam (values_in given) (values_in behind))
    ∙ ap (λ (n : ℕ). take n (values_in behind)) b
    ∙ take-length (values_in behind)

-- how many rows there are behind a batch
pub rows_long : (rows given : List Row) (batch : List (List Decimal)) → (a : AnswersBatch given batch rows) → (length rows ≡ length given + length batch) × (length a.behind ≡ length batch)
rows_long rows given batch a =
    let b : length a.behind ≡ length batch = sym (length-map a.behind (λ (r : Row). r.point)) ∙ ap length a.points in
    let c = ap length a.split ∙ length-append given a.behind in
    ((omega arith), b)
