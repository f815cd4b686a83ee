-- Rows of which parts were looked up, by a number that counts from 1.
use Rattle.std.proofs.Common.{◌≡◌, ℕ, ◌+◌, ◌-◌, ◌<◌, ◌≤◌, List, ◌++◌, length, drop, get_or, Option, Some, None, refl, ap, sym, ◌∙◌, arith}
use Rattle.std.specs.Prelude.{slice_get, option_map}
use Rattle.std.proofs.lemmas.Option.{slice_get_within, get_or_from_slice_get}
use Rattle.dk_num.specs.Decimal.{Decimal}
use Rattle.dk_types.specs.declared.rows.Row.{Row}
use Rattle.dk_types.specs.declared.study.Study.{Study}
use Rattle.dk_types.specs.Texts.{row_line, row_lines, best_lines, best_lines_if, best_text}
use Rattle.dk_report.proofs.Parts.{items_step}

number_at : (place : ℕ) → place + 1 - 1 ≡ place
number_at place = omega arith

-- a row is its point and its values
whole_row : (found : Option Row) (p v : List Decimal) → option_map (λ (r : Row). r.point) found ≡ Some p → option_map (λ (r : Row). r.values) found ≡ Some v →
    found ≡ Some (record { point = p; values = v })
whole_row None p v e f = absurd (cc)
whole_row (Some row) p v e f = let a : row.point ≡ p = cc in let b : row.values ≡ v = cc in rw (← a, ← b) refl

-- the line of a row is the first of those from it on
pub lines_step : (rows : List Row) (place : ℕ) (p v : List Decimal) → option_map (λ (r : Row). r.point) (slice_get rows (place + 1 - 1)) ≡ Some p →
    option_map (λ (r : Row). r.values) (slice_get rows (place + 1 - 1)) ≡ Some v →
    row_lines (place + 1) (drop place rows) ≡ row_line (place + 1) (record { point = p; values = v }) ++ row_lines (place + 1 + 1) (drop (place + 1) rows)
lines_step rows place p v e f =
    items_step (row_lines (place + 1)) (row_line (place + 1)) (row_lines (place + 1 + 1) (drop (place + 1) rows)) rows place row
    (slice_get_within rows place row at) (sym (get_or_from_slice_get rows place row row at)) (λ y. refl)
  where
    row : Row
    row = record { point = p; values = v }

    at : slice_get rows place ≡ Some row
    at = ap (slice_get rows) (sym (number_at place)) ∙ whole_row (slice_get rows (place + 1 - 1)) p v e f

-- the lines of the row of this number are those of the best row, where it is the best
pub best_is : (study : Study) (rows : List Row) (found : Option ℕ) (number : ℕ) (p v : List Decimal) → Some (number - 1) ≡ found → 1 ≤ number →
    option_map (λ (r : Row). r.point) (slice_get rows (number - 1)) ≡ Some p → option_map (λ (r : Row). r.values) (slice_get rows (number - 1)) ≡ Some v →
    best_lines study number (record { point = p; values = v }) ≡ best_text study rows found
best_is study rows found number p v is from e f =
    let again : number ≡ number - 1 + 1 = omega arith in
    let at : slice_get rows (number - 1) ≡ Some (record { point = p; values = v }) = whole_row (slice_get rows (number - 1)) p v e f in
    ap (λ n. best_lines study n (record { point = p; values = v })) again ∙ ap (best_lines_if study (number - 1 + 1)) (sym at) ∙ ap (best_text study rows) is

-- the values of the row at this place
pub record HasValues (rows : List Row) (place : ℕ) (v : List Decimal) : Type 0 where
  pub within : place < length rows
  pub is : (d : Row) → (get_or rows place d).values ≡ v

pub values_at : (rows : List Row) (place : ℕ) (v : List Decimal) → option_map (λ (r : Row). r.values) (slice_get rows (place + 1 - 1)) ≡ Some v → HasValues rows place v
values_at rows place v h = at (slice_get rows place) refl (ap (λ i. option_map (λ (r : Row). r.values) (slice_get rows i)) (sym (number_at place)) ∙ h)
  where
    at : (found : Option Row) → slice_get rows place ≡ found → option_map (λ (r : Row). r.values) found ≡ Some v → HasValues rows place v
    at None e k = absurd (cc)
    at (Some r) e k = record {
      within = slice_get_within rows place r e;
      is = λ d. ap (λ (x : Row). x.values) (get_or_from_slice_get rows place r d e) ∙ (let s : r.values ≡ v = cc in s);
    }
