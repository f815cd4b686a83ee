-- The first row with the least value, as far as a pass over the rows has come.
use Rattle.std.proofs.Common.{◌≡◌, ℕ, ◌+◌, ◌-◌, ◌<◌, ◌≤◌, Bool, true, false, not, List, [], ◌∷◌, length, get_or, Some, None, refl, ap, sym, ◌∙◌, arith, ℤ, cond, below_more}
use Rattle.std.specs.Prelude.{position, ◌<ℤ◌, nat_lt}
use Rattle.std.specs.List.{All, position_or_len}
use Rattle.std.proofs.lemmas.Bool.{lt-ltb}
use Rattle.std.proofs.lemmas.List.{get_or_default}
use Rattle.std.proofs.lemmas.List.Folds.{list_all_at}
use Rattle.std.proofs.lemmas.List.Sums.{position_or_len_is, list_all-from_AllPass}
use Rattle.dk_num.specs.Decimal.{Decimal}
use Rattle.dk_types.specs.declared.rows.Row.{Row}
use Rattle.dk_types.specs.Best.{is_below, is_least}
use Rattle.dk_types.proofs.Below.{not_below_itself, below_along, not_both_below}
use Rattle.dk_report.proofs.LookedUp.{HasValues}

-- each row has a value
abbrev pub HaveValues : List Row → Type 0
HaveValues rows = All (λ row. 0 < length row.values) rows

-- of the first rows, this is the first one with the least value
pub record IsFirstLeast (rows : List Row) (count place : ℕ) : Type 0 where
  pub within : place < length rows
  pub least : (d : Row) (k : ℕ) → k < count → is_below (get_or rows k d).values (get_or rows place d).values ≡ false
  pub first : (d : Row) (k : ℕ) → k < place → is_below (get_or rows place d).values (get_or rows k d).values ≡ true

-- before any row the first one will do
pub least_none : (rows : List Row) → 0 < length rows → IsFirstLeast rows 0 0
least_none rows some = record { within = some; least = λ d k h. absurd (omega arith); first = λ d k h. absurd (omega arith) }

-- the values of the rows at two places, compared
same_below : (rows : List Row) (count place : ℕ) (x y : List Decimal) → HasValues rows count x → HasValues rows place y → (d : Row) →
    is_below (get_or rows count d).values (get_or rows place d).values ≡ is_below x y
same_below rows count place x y x_is y_is d = ap (λ v. is_below v (get_or rows place d).values) (x_is.is d) ∙ ap (is_below x) (y_is.is d)

-- the next row isn't below the least one
pub least_keeps : (rows : List Row) (count place : ℕ) (x y : List Decimal) → HasValues rows count x → HasValues rows place y →
    is_below x y ≡ false → IsFirstLeast rows count place → IsFirstLeast rows (count + 1) place
least_keeps rows count place x y x_is y_is e was = record {
  within = was.within;
  least = λ d. below_more _ _ (was.least d) (same_below rows count place x y x_is y_is d ∙ e);
  first = was.first;
}

-- the next row is below the least one
pub least_takes : (rows : List Row) (count place : ℕ) (x y : List Decimal) → HasValues rows count x → HasValues rows place y → HaveValues rows →
    is_below x y ≡ true → IsFirstLeast rows count place → IsFirstLeast rows (count + 1) count
least_takes rows count place x y x_is y_is values e was = record {
  within = x_is.within;
  least = λ d. below_more _ _ (λ k h. not_both_below (get_or rows count d).values (get_or rows k d).values (below d k h)) (not_below_itself (get_or rows count d).values);
  first = below;
}
  where
    below : (d : Row) (k : ℕ) → k < count → is_below (get_or rows count d).values (get_or rows k d).values ≡ true
    below d k h =
        below_along (get_or rows count d).values (get_or rows place d).values (get_or rows k d).values
        (values k d (let w : count < length rows = x_is.within in let l : k < length rows = omega arith in l))
        (same_below rows count place x y x_is y_is d ∙ e) (was.least d k h)

-- the first row with the least value of all is the best one
pub best_from_least : (rows : List Row) (count place : ℕ) → length rows ≤ count → IsFirstLeast rows count place → position (is_least rows) rows ≡ Some (place + 1 - 1)
best_from_least rows count place all is =
    let at : position_or_len (is_least rows) rows ≡ place
    = position_or_len_is (is_least rows) rows place none (let le : place ≤ length rows = (let w = is.within in omega arith) in le) above (λ w. here) in
    let back : place ≡ place + 1 - 1 = omega arith in
    ap (λ q. cond (nat_lt q (length rows)) (Some q) None) at ∙ ap (λ t. cond t (Some place) None) (lt-ltb place (length rows) is.within) ∙ ap Some back
  where
    none : Row
    none = record { point = []; values = [] }

    above : (k : ℕ) → k < place → is_least rows (get_or rows k none) ≡ false
    above k h = list_all_at (λ (other : Row). not (is_below other.values (get_or rows k none).values)) rows place none is.within (ap not (is.first none k h))

    here : is_least rows (get_or rows place none) ≡ true
    here = list_all-from_AllPass (λ (other : Row). not (is_below other.values (get_or rows place none).values)) rows
        (λ k d h. ap not (ap (λ (row : Row). is_below (get_or rows k d).values row.values) (get_or_default rows place none d is.within) ∙ is.least d k (let l : k < count = omega arith in l)))
