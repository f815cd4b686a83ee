-- What is true of the rows of a compass search, in the subject's words (Kolda, Lewis and Torczon, "Optimization by Direct
-- Search", SIAM Review 45, 2003, section 3): each point but the first is one step away from an earlier one, steps never grow,
-- and where a search ends its best point is one around which, one step away, none is better.
use Rattle.std.specs.Prelude.{◌≡◌, ◌⊎◌, ℕ, zero, suc, ◌*◌, ◌<◌, ◌≤◌, false, List, [], length, map, slice_get, Some, IsTrue, ℤ, pos, ◌<ℤ◌, ◌≤ℤ◌, int_div}
use Rattle.dk_num.specs.Decimal.{Decimal}
use Rattle.dk_num.specs.Units.{in_units}
use Rattle.dk_types.specs.declared.study.Study.{Study}
use Rattle.dk_types.specs.declared.study.Why.{Why}
use Rattle.dk_types.specs.declared.study.Why.TheVariants.{Threshold}
use Rattle.dk_types.specs.declared.study.Method.TheVariants.{Compass}
use Rattle.dk_types.specs.declared.study.Ending.TheVariants.{Finished}
use Rattle.dk_types.specs.declared.rows.Row.{Row}
use Rattle.dk_types.specs.Best.{is_below, best}
use Rattle.dk_types.specs.Search.{poll_at, keeps_bounds}
use Rattle.dk_types.specs.Solo.{Alone, Outcomes, Verdict, Ended}
use Rattle.dk_types.specs.Sound.{IsSound}
use Rattle.dk_types.specs.Widths.{HaveWidths}

-- a point of a study, as decimals
abbrev pub decimals : Study → List ℤ → List Decimal
decimals study x = map (in_units study.unit.exponent) x

-- a length that was halved so often, each time rounded down
abbrev pub halved : (times : ℕ) → ℤ → ℤ
halved zero delta = delta
halved (suc times) delta = int_div (halved times delta) (pos 2)

-- the directions of a study: two for each variable
abbrev pub IsDirection : Study → (direction : ℕ) → Type 0
IsDirection study direction = direction < 2 * length study.variables.labels

-- the point of this row lies such a step away from that of an earlier one, in one direction, and keeps the bounds
pub record IsPoll (study : Study) (rows : List Row) (step : ℤ) (i : ℕ) (row : Row) : Type 0 where
  pub earlier : ℕ
  pub before : earlier < i
  pub from : Row
  pub stands : slice_get rows earlier ≡ Some from
  pub x : List ℤ
  pub from_is : from.point ≡ decimals study x
  pub direction : ℕ
  pub among : IsDirection study direction
  pub is : row.point ≡ decimals study (poll_at x step direction)
  pub keeps : IsTrue (keeps_bounds study.variables (poll_at x step direction))

-- the first row's point is the initial one, and each other row's is a poll; steps are halved now and then and never grow
pub record StepsOn (study : Study) (delta : ℤ) (rows : List Row) : Type 0 where
  pub halvings : (i : ℕ) → ℕ
  pub never_less : (i j : ℕ) → i ≤ j → halvings i ≤ halvings j
  pub first : (row : Row) → slice_get rows 0 ≡ Some row → row.point ≡ decimals study study.variables.initial
  pub polls : (i : ℕ) (row : Row) → 1 ≤ i → slice_get rows i ≡ Some row → IsPoll study rows (halved (halvings i) delta) i row

abbrev pub EachSearchStepsOn : Type 0
EachSearchStepsOn = (study : Study) (delta threshold : ℤ) (iterations evaluations : ℕ) (outcomes : Outcomes) (rows : List Row) (verdict : Verdict) → IsSound study →
    study.method ≡ Compass delta threshold iterations evaluations → Alone study outcomes [] rows verdict → StepsOn study delta rows

-- this point has a row, whose value isn't below that of the other row
pub record WasNotBelow (study : Study) (rows : List Row) (other : Row) (q : List ℤ) : Type 0 where
  pub place : ℕ
  pub row : Row
  pub stands : slice_get rows place ≡ Some row
  pub is : row.point ≡ decimals study q
  pub not_below : is_below row.values other.values ≡ false

-- no point such a step away, in whatever direction keeps the bounds, is below this row
abbrev pub IsLeastAround : Study → List Row → Row → (x : List ℤ) → (step : ℤ) → Type 0
IsLeastAround study rows row x step = (direction : ℕ) → IsDirection study direction → IsTrue (keeps_bounds study.variables (poll_at x step direction)) →
    WasNotBelow study rows row (poll_at x step direction)

-- a step that is at least the threshold, and whose half is below it
pub record IsLastStep (threshold step : ℤ) : Type 0 where
  pub long : threshold ≤ℤ step
  pub half : int_div step (pos 2) <ℤ threshold

-- the row is least one last step around; or no step was made, since even the first was too short
abbrev pub IsStationary : Study → (delta threshold : ℤ) → List Row → Row → Type 0
IsStationary study delta threshold rows row =
    ((delta <ℤ threshold) × (length rows ≡ 1))
    ⊎ ((x : List ℤ) × (row.point ≡ decimals study x) × ((step : ℤ) × IsLastStep threshold step × IsLeastAround study rows row x step))

-- the search ends at its best row
pub record EndsAtItsBest (study : Study) (delta threshold : ℤ) (rows : List Row) (why : Why) : Type 0 where
  pub place : ℕ
  pub row : Row
  pub stands : slice_get rows place ≡ Some row
  pub is_best : best study rows ≡ Some place
  pub stationary : why ≡ Threshold → IsStationary study delta threshold rows row

abbrev pub EachSearchEndsAtItsBest : Type 0
EachSearchEndsAtItsBest = (study : Study) (delta threshold : ℤ) (iterations evaluations : ℕ) (outcomes : Outcomes) (rows : List Row) (why : Why) → IsSound study →
    study.method ≡ Compass delta threshold iterations evaluations → HaveWidths study rows → Alone study outcomes [] rows (Ended (Finished why)) → EndsAtItsBest study delta threshold rows why
