-- The best row, and rows whose point stands in an earlier one.
use Rattle.std.specs.Prelude.{ℕ, ◌+◌, ◌-◌, Bool, true, false, not, ◌&&◌, List, [], ◌∷◌, ◌++◌, length, position, slice_get, Option, None, option_and_then, ◌==◌, if◌then◌else◌}
use Rattle.std.specs.List.{list_any, list_all}
use Rattle.std.specs.Ordering.{is_lt, is_eq}
use Rattle.dk_num.specs.Decimal.{Decimal}
use Rattle.dk_num.specs.Arithmetic.{decimal_cmp}
use Rattle.dk_types.specs.declared.study.Study.{Study}
use Rattle.dk_types.specs.declared.rows.Row.{Row}

-- the value of the one response is below that of the other row
abbrev pub is_below : List Decimal → List Decimal → Bool
is_below (x ∷ xs) (y ∷ ys) = is_lt (decimal_cmp x y)
is_below _ _ = false

-- no row's value is below that of this one
abbrev pub is_least : List Row → Row → Bool
is_least rows row = list_all (λ other. not (is_below other.values row.values)) rows

-- where the first row with the least value stands, counted from 0; none where there isn't one objective function
abbrev pub best : Study → List Row → Option ℕ
best study rows =
    if study.responses.objectives && (length study.responses.labels == 1) then position (is_least rows) rows else None

-- points are one where all their decimals are
abbrev pub same_point : List Decimal → List Decimal → Bool
same_point [] [] = true
same_point (x ∷ xs) (y ∷ ys) = is_eq (decimal_cmp x y) && same_point xs ys
same_point _ _ = false

-- how many of the rows have a point that stands in a row before them
abbrev pub duplicates_behind : List Row → List Row → ℕ
duplicates_behind before [] = 0
duplicates_behind before (row ∷ rows) =
    (if list_any (λ other. same_point other.point row.point) before then 1 else 0) + duplicates_behind (before ++ row ∷ []) rows

abbrev pub duplicates : List Row → ℕ
duplicates rows = duplicates_behind [] rows

-- where the first row with the same point as the row of this number stands, counted from 0; numbers count from 1
abbrev pub first_with_point : List Row → (number : ℕ) → Option ℕ
first_with_point rows number = option_and_then (λ row. position (λ other. same_point other.point row.point) rows) (slice_get rows (number - 1))
