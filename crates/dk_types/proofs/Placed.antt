-- Places in the sheet.
use Rattle.std.proofs.Common.{◌≡◌, ℕ, suc, ◌+◌, Bool, true, false, cond, List, [], ◌∷◌, ◌++◌, length, map, ◌==◌, ◌&&◌, Option, Some, None, option_map, refl, sym, ap, ◌∙◌, arith, append_assoc, append-nil}
use Rattle.std.specs.Prelude.{slice_get}
use Rattle.std.specs.List.{find}
use Rattle.std.proofs.lemmas.List.{map-append}
use Rattle.dk_num.specs.Decimal.{Decimal}
use Rattle.dk_types.specs.declared.study.Study.{Study}
use Rattle.dk_types.specs.declared.entry.Entry.{Entry}
use Rattle.dk_types.specs.declared.rows.Row.{Row}
use Rattle.dk_types.specs.Best.{same_point}
use Rattle.dk_types.specs.Planned.{next, At, rest}
use Rattle.dk_types.specs.Entries.{said}
use Rattle.dk_types.specs.Answers.{Value, Next}
use Rattle.dk_types.specs.Laws.{ComesOnce, AnswersInOrder, answer_in}
use Rattle.dk_types.specs.Solo.{Alone, finished, aborted, waits, goes_on, Outcomes, Verdict, Open, with_row}
use Rattle.dk_types.proofs.SamePoints.{same_alike, same_itself}
use Rattle.dk_types.proofs.Following.{IsAhead, is_ahead}
use Rattle.dk_types.proofs.Alone.{rows_in_order}
use Rattle.dk_types.proofs.Once.{each_comes_once}
use Rattle.dk_types.proofs.Growth.{said_more, alone_leads, answer_same}
use Rattle.dk_types.specs.Sheets.{sheet, place_among, PlacesStay, SamePointSamePlace, NextHasPlace}

-- Lists of points

-- a list begins with another
pub record Begins (whole front : List (List Decimal)) : Type 0 where
  pub more : List (List Decimal)
  pub is : whole ≡ front ++ more

among_more : (points more : List (List Decimal)) (p : List Decimal) (row : ℕ) → place_among points p ≡ Some row → place_among (points ++ more) p ≡ Some row
among_more [] more p row h = absurd (cc)
among_more (q ∷ points) more p row h = at (same_point q p) h (λ r k. among_more points more p r k)
  where
    deeper : (o : Option ℕ) → option_map suc o ≡ Some row → ((r : ℕ) → o ≡ Some r → place_among (points ++ more) p ≡ Some r) → option_map suc (place_among (points ++ more) p) ≡ Some row
    deeper None h k = absurd (cc)
    deeper (Some r) h k = ap (λ (o : Option ℕ). option_map suc o) (k r refl) ∙ h

    at : (b : Bool) → cond b (Some 1) (option_map suc (place_among points p)) ≡ Some row → ((r : ℕ) → place_among points p ≡ Some r → place_among (points ++ more) p ≡ Some r) →
        cond b (Some 1) (option_map suc (place_among (points ++ more) p)) ≡ Some row
    at true h k = h
    at false h k = deeper (place_among points p) h k

among_same : (points : List (List Decimal)) (p q : List Decimal) → same_point p q ≡ true → place_among points p ≡ place_among points q
among_same [] p q e = refl
among_same (x ∷ points) p q e =
    ap (λ (b : Bool). cond b (Some 1) (option_map suc (place_among points p))) (same_alike x p q e)
    ∙ ap (λ (o : Option ℕ). cond (same_point x q) (Some 1) (option_map suc o)) (among_same points p q e)

-- behind rows of other points
among_last : (rows : List Row) (p : List Decimal) (more : List (List Decimal)) → ((i : ℕ) (row : Row) → slice_get rows i ≡ Some row → same_point row.point p ≡ false) → same_point p p ≡ true →
    place_among (map (λ (r : Row). r.point) rows ++ p ∷ more) p ≡ Some (length rows + 1)
among_last [] p more apart itself = ap (λ (b : Bool). cond b (Some 1) (option_map suc (place_among more p))) itself
among_last (row ∷ rows) p more apart itself =
    ap (λ (b : Bool). cond b (Some 1) (option_map suc (place_among (map (λ (r : Row). r.point) rows ++ p ∷ more) p))) (apart 0 row refl)
    ∙ ap (λ (o : Option ℕ). option_map suc o) (among_last rows p more (λ i r h. apart (suc i) r h) itself)
    ∙ ap Some (let e : suc (length rows + 1) ≡ suc (length rows) + 1 = omega arith in e)

-- A row more

begins_itself : (l : List (List Decimal)) → Begins l l
begins_itself l = record { more = []; is = sym (append-nil l) }

begins_both : (whole middle front : List (List Decimal)) → Begins whole middle → Begins middle front → Begins whole front
begins_both whole middle front a b = record { more = b.more ++ a.more; is = a.is ∙ ap (λ (l : List (List Decimal)). l ++ a.more) b.is ∙ append_assoc front b.more a.more }

-- the point that comes next stands first in the batch; behind its row those behind it are still asked for, and once there
-- is none, those of the next batch
pub sheet_step : (study : Study) (rows : List Row) (p v : List Decimal) → next study rows ≡ At p → Begins (sheet study (with_row rows p v)) (sheet study rows)
sheet_step study rows p v e = at k.behind refl
  where
    k : IsAhead study rows p
    k = is_ahead study rows p e

    added : Row
    added = record { point = p; values = v }

    points : List (List Decimal)
    points = map (λ (r : Row). r.point) rows

    here : (behind : List (List Decimal)) → k.behind ≡ behind → sheet study rows ≡ points ++ p ∷ behind
    here behind h = ap (λ (l : List (List Decimal)). points ++ l) k.batch ∙ ap (λ (l : List (List Decimal)). points ++ p ∷ l) h

    then : sheet study (with_row rows p v) ≡ points ++ p ∷ rest study (with_row rows p v)
    then = ap (λ (l : List (List Decimal)). l ++ rest study (with_row rows p v)) (map-append (λ (r : Row). r.point) rows (added ∷ [])) ∙ append_assoc points (p ∷ []) (rest study (with_row rows p v))

    at : (behind : List (List Decimal)) → k.behind ≡ behind → Begins (sheet study (with_row rows p v)) (sheet study rows)
    at [] h = record {
      more = rest study (with_row rows p v);
      is = then ∙ sym (append_assoc points (p ∷ []) (rest study (with_row rows p v))) ∙ ap (λ (l : List (List Decimal)). l ++ rest study (with_row rows p v)) (sym (here [] h));
    }
    at (q ∷ more) h = record {
      more = [];
      is = then ∙ ap (λ (l : List (List Decimal)). points ++ p ∷ l) (k.goes_on added q more h).1 ∙ sym (here (q ∷ more) h) ∙ sym (append-nil (sheet study rows));
    }

-- a study's sheet grows from the rows that it begins with
pub sheet_grows : (study : Study) (f : Outcomes) (rows last : List Row) (verdict : Verdict) → Alone study f rows last verdict → Begins (sheet study last) (sheet study rows)
sheet_grows study f _ _ _ (finished rows why e) = begins_itself (sheet study rows)
sheet_grows study f _ _ _ (aborted rows p attempts e a) = begins_itself (sheet study rows)
sheet_grows study f _ _ _ (waits rows p attempt e a) = begins_itself (sheet study rows)
sheet_grows study f _ _ _ (goes_on rows p v last verdict e a s) =
    begins_both (sheet study last) (sheet study (with_row rows p v)) (sheet study rows) (sheet_grows study f (with_row rows p v) last verdict s) (sheet_step study rows p v e)

pub same_point_same_place : SamePointSamePlace
same_point_same_place study entries p q row e is = record { rows = is.rows; verdict = is.verdict; comes = is.comes; at = sym (among_same (sheet study is.rows) p q e) ∙ is.at }

pub places_stay : PlacesStay
places_stay study entries more p row is =
    let c : ComesOnce study (said (entries ++ more)) = each_comes_once study (said (entries ++ more)) in
    let onward = alone_leads study (said entries) (said (entries ++ more)) (said_more entries more) [] is.rows c.rows is.verdict c.verdict is.comes c.comes in
    let k = sheet_grows study (said (entries ++ more)) is.rows c.rows c.verdict onward in
    record { rows = c.rows; verdict = c.verdict; comes = c.comes; at = ap (λ (l : List (List Decimal)). place_among l p) k.is ∙ among_more (sheet study is.rows) k.more p row is.at }

-- Points that are one

said_alike : (entries : List Entry) (p q : List Decimal) → same_point p q ≡ true → (attempt : ℕ) → said entries p attempt ≡ said entries q attempt
said_alike [] p q e attempt = refl
said_alike (x ∷ entries) p q e attempt =
    ap (λ (b : Bool). option_map (λ (y : Entry). y.said) (cond (b && (x.attempt == attempt)) (Some x) (find (λ (y : Entry). same_point y.point p && (y.attempt == attempt)) entries))) (same_alike x.point p q e)
    ∙ behind (same_point x.point q && (x.attempt == attempt)) (said_alike entries p q e attempt)
  where
    behind : (b : Bool) → said entries p attempt ≡ said entries q attempt →
        option_map (λ (y : Entry). y.said) (cond b (Some x) (find (λ (y : Entry). same_point y.point p && (y.attempt == attempt)) entries))
        ≡ option_map (λ (y : Entry). y.said) (cond b (Some x) (find (λ (y : Entry). same_point y.point q && (y.attempt == attempt)) entries))
    behind true h = refl
    behind false h = h

-- a point that has its values isn't one that waits for an attempt
apart : (study : Study) (entries : List Entry) (q p v : List Decimal) (attempt : ℕ) → answer_in study (said entries) q ≡ Value v → answer_in study (said entries) p ≡ Next attempt → same_point q p ≡ false
apart study entries q p v attempt one other = at (same_point q p) refl
  where
    at : (b : Bool) → same_point q p ≡ b → same_point q p ≡ false
    at true e = absurd (let k : Value v ≡ Next attempt = sym one ∙ answer_same study.interface.rule (said entries q) (said entries p) (said_alike entries q p e) ∙ other in cc)
    at false e = e

pub next_has_place : NextHasPlace
next_has_place study entries rows p attempt comes =
    let o : AnswersInOrder study (said entries) rows (Open p attempt) = rows_in_order study (said entries) rows (Open p attempt) comes in
    let k : IsAhead study rows p = is_ahead study rows p o.stands.0 in
    record {
      rows = rows;
      verdict = Open p attempt;
      comes = comes;
      at = ap (λ (l : List (List Decimal)). place_among (map (λ (r : Row). r.point) rows ++ l) p) k.batch
          ∙ among_last rows p k.behind (λ i row h. apart study entries row.point p row.values attempt (o.values i row h) o.stands.1) (same_itself p);
    }
