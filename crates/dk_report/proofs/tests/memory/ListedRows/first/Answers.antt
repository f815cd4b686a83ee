use Rattle.std.proofs.Common.{◌≡◌, ℕ, ◌-◌, ◌<◌, ◌≤◌, Bool, true, false, List, length, get_or, Option, Some, None, refl, ap, sym, ◌∙◌, arith, cond}
use Rattle.std.specs.Prelude.{position, slice_get, option_map, nat_lt}
use Rattle.std.specs.List.{position_or_len}
use Rattle.std.proofs.lemmas.Bool.{ltb-false}
use Rattle.std.proofs.lemmas.List.Sums.{fails_before_first}
use Rattle.std.proofs.lemmas.Option.{slice_get_within, get_or_from_slice_get}
use Rattle.dk_num.specs.Decimal.{Decimal}
use Rattle.dk_types.specs.declared.rows.Row.{Row}
use Rattle.dk_types.specs.Best.{same_point}
use Rattle.dk_types.proofs.SamePoints.{same_itself}
use Rattle.dk_report.proofs.tests.memory.ListedRows.first.Goals as goal

-- a row's own point stands somewhere
own_point : (rows : List Row) (i : ℕ) (p : List Decimal) → option_map (λ (r : Row). r.point) (slice_get rows i) ≡ Some p →
    position (λ (row : Row). same_point row.point p) rows ≡ None → ⊥
own_point rows i p h none = at (slice_get rows i) refl h
  where
    late : (b : Bool) → nat_lt (position_or_len (λ (row : Row). same_point row.point p) rows) (length rows) ≡ b →
        cond b (Some (position_or_len (λ (row : Row). same_point row.point p) rows)) None ≡ None → length rows ≤ position_or_len (λ (row : Row). same_point row.point p) rows
    late true e n = absurd (cc)
    late false e n = ltb-false _ _ e

    at : (found : Option Row) → slice_get rows i ≡ found → option_map (λ (r : Row). r.point) found ≡ Some p → ⊥
    at None e k = cc
    at (Some r) e k =
        let all = late (nat_lt (position_or_len (λ (row : Row). same_point row.point p) rows) (length rows)) refl none in
        let inside : i < length rows = slice_get_within rows i r e in
        let is : r.point ≡ p = cc in
        let not : same_point (get_or rows i r).point p ≡ false = fails_before_first (λ (row : Row). same_point row.point p) rows i r (omega arith) in
        let same : same_point (get_or rows i r).point p ≡ true
        = ap (λ (row : Row). same_point row.point p) (get_or_from_slice_get rows i r r e) ∙ ap (λ x. same_point x p) is ∙ same_itself p in
        let both : true ≡ false = sym same ∙ not in
        cc

pub returns-in-None-clause-first : goal.returns-in-None-clause-first
returns-in-None-clause-first c =
    let rows : c.args.self.now ≡ c.deref.result.now = sym (c.deref.ensures.value ∙ c.self.view_is) in
    absurd (own_point c.args.self.now (c.args.row - 1) c.point.result.now c.point.ensures
    (ap (position (λ (row : Row). same_point row.point c.point.result.now)) rows ∙ sym c.place_of.ensures ∙ c.in-None.is))
