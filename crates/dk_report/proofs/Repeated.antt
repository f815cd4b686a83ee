-- Rows that have the point of an earlier one.
use Rattle.std.proofs.Common.{◌≡◌, inl, inr, ℕ, ◌+◌, ◌-◌, ◌<◌, ◌≤◌, Bool, true, false, List, [], length, take, drop, get_or, Some, ap, sym, ◌∙◌, arith, if◌then◌else◌}
use Rattle.std.specs.Prelude.{position, slice_get, option_and_then}
use Rattle.std.specs.List.{list_any}
use Rattle.std.proofs.lemmas.Bool.{cases_lt}
use Rattle.std.proofs.lemmas.List.{drop_all, drop_more, take_more, get_or-take, length-take}
use Rattle.std.proofs.lemmas.List.Folds.{list_any_at, list_any_none}
use Rattle.std.proofs.lemmas.List.Quantifiers.{position-Some}
use Rattle.std.proofs.lemmas.Option.{slice_get-get_or}
use Rattle.dk_types.specs.declared.rows.Row.{Row}
use Rattle.dk_types.proofs.SamePoints.{same_itself}
use Rattle.dk_types.specs.Best.{same_point, duplicates_behind, duplicates, first_with_point}

none : Row
none = record { point = []; values = [] }

-- whether a row has the point of the row at this place
abbrev has_point_at : List Row → ℕ → Row → Bool
has_point_at rows place other = same_point other.point (get_or rows place none).point

-- whether a row before this place has the point of the row there
abbrev is_repeated : List Row → ℕ → Bool
is_repeated rows place = list_any (has_point_at rows place) (take place rows)

-- the first row with the point of the row at this place
first_at : (rows : List Row) (place number : ℕ) → place < length rows → first_with_point rows (place + 1) ≡ Some (number - 1) →
    position (has_point_at rows place) rows ≡ Some (number - 1)
first_at rows place number inside h =
    let back : place + 1 - 1 ≡ place = omega arith in
    let at : slice_get rows (place + 1 - 1) ≡ Some (get_or rows place none) = ap (slice_get rows) back ∙ slice_get-get_or rows place none inside in
    sym (ap (option_and_then (λ (row : Row). position (λ (other : Row). same_point other.point row.point) rows)) at) ∙ h

-- an earlier row with the same point makes the row a repeated one
again : (rows : List Row) (place first : ℕ) → place < length rows → position (has_point_at rows place) rows ≡ Some first → first < place → is_repeated rows place ≡ true
again rows place first inside h before =
    list_any_at (has_point_at rows place) (take place rows) first none (omega (arith, length-take place rows))
    (ap (has_point_at rows place) (get_or-take place rows first none before) ∙ (position-Some (has_point_at rows place) rows first none h).1)

-- no earlier row has the point of a row that is the first with it
is_new : (rows : List Row) (place first : ℕ) → place < length rows → position (has_point_at rows place) rows ≡ Some first → place ≤ first → is_repeated rows place ≡ false
is_new rows place first inside h behind = list_any_none (has_point_at rows place) (take place rows) (λ k d l. other k d l)
  where
    other : (k : ℕ) (d : Row) → k < length (take place rows) → has_point_at rows place (get_or (take place rows) k d) ≡ false
    other k d l =
        let below : k < place = omega (arith, length-take place rows) in
        ap (has_point_at rows place) (get_or-take place rows k d below) ∙ (position-Some (has_point_at rows place) rows first d h).2 k (let m : k < first = omega arith in m)

-- the row at a place is the first with its point, or stands behind that
no_later : (rows : List Row) (place first : ℕ) → place < length rows → position (has_point_at rows place) rows ≡ Some first → first ≤ place
no_later rows place first inside h = elim (cases_lt place first) [
  | inl l ↦ absurd (let e : has_point_at rows place (get_or rows place none) ≡ false = (position-Some (has_point_at rows place) rows first none h).2 place l in
      let f : has_point_at rows place (get_or rows place none) ≡ true = same_itself (get_or rows place none).point in cc)
  | inr l ↦ l
]

-- so many of the rows before this place are duplicates
pub record HasCounted (rows : List Row) (place count : ℕ) : Type 0 where
  pub counted : count + duplicates_behind (take place rows) (drop place rows) ≡ duplicates rows
  pub few : count ≤ place

pub counted_none : (rows : List Row) → HasCounted rows 0 0
counted_none rows = record { counted = (let n : 0 + duplicates_behind [] rows ≡ duplicates_behind [] rows = omega arith in n); few = omega arith }

-- a row further
step : (rows : List Row) (place : ℕ) → place < length rows →
    duplicates_behind (take place rows) (drop place rows) ≡ (if is_repeated rows place then 1 else 0) + duplicates_behind (take (place + 1) rows) (drop (place + 1) rows)
step rows place inside =
    ap (duplicates_behind (take place rows)) (drop_more rows place none inside)
    ∙ ap (λ l. (if is_repeated rows place then 1 else 0) + duplicates_behind l (drop (place + 1) rows)) (sym (take_more rows place none inside))

-- the row at this place isn't the first one with its point
pub counted_again : (rows : List Row) (place number count : ℕ) → place < length rows → 1 ≤ number → first_with_point rows (place + 1) ≡ Some (number - 1) →
    (number ≡ place + 1 → ⊥) → HasCounted rows place count → HasCounted rows (place + 1) (count + 1)
counted_again rows place number count inside from h other was =
    let at = first_at rows place number inside h in
    let le : number - 1 ≤ place = no_later rows place (number - 1) inside at in
    let before : number - 1 < place = omega arith in
    let one : duplicates_behind (take place rows) (drop place rows) ≡ 1 + duplicates_behind (take (place + 1) rows) (drop (place + 1) rows)
    = step rows place inside ∙ ap (λ (b : Bool). (if b then 1 else 0) + duplicates_behind (take (place + 1) rows) (drop (place + 1) rows)) (again rows place (number - 1) inside at before) in
    record { counted = (let c = was.counted in omega arith); few = (let f = was.few in omega arith) }

-- it is the first one
pub counted_new : (rows : List Row) (place number count : ℕ) → place < length rows → 1 ≤ number → first_with_point rows (place + 1) ≡ Some (number - 1) →
    number ≡ place + 1 → HasCounted rows place count → HasCounted rows (place + 1) count
counted_new rows place number count inside from h same was =
    let at = first_at rows place number inside h in
    let behind : place ≤ number - 1 = omega arith in
    let zero : duplicates_behind (take place rows) (drop place rows) ≡ 0 + duplicates_behind (take (place + 1) rows) (drop (place + 1) rows)
    = step rows place inside ∙ ap (λ (b : Bool). (if b then 1 else 0) + duplicates_behind (take (place + 1) rows) (drop (place + 1) rows)) (is_new rows place (number - 1) inside at behind) in
    record { counted = (let c = was.counted in omega arith); few = (let f = was.few in omega arith) }

pub counted_all : (rows : List Row) (place count : ℕ) → length rows ≤ place → HasCounted rows place count → count ≡ duplicates rows
counted_all rows place count all was =
    let end : drop place rows ≡ [] = drop_all place rows all in
    let c : count + duplicates_behind (take place rows) [] ≡ duplicates rows = ap (λ l. count + duplicates_behind (take place rows) l) (sym end) ∙ was.counted in
    omega arith
