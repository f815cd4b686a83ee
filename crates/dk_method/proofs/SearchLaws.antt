-- The laws of compass searches.
use Rattle.std.proofs.Common.{◌≡◌, ℕ, ◌<◌, Bool, true, false, not, List, [], ◌∷◌, length, take, get_or, Some, None, refl, sym, ap, subst, ◌∙◌, arith, ℤ, nat_lt, cond, ◌&&◌, ◌==◌, if◌then◌else◌}
use Rattle.std.specs.Prelude.{position}
use Rattle.std.specs.List.{position_or_len}
use Rattle.std.proofs.lemmas.Bool.{lt-ltb}
use Rattle.std.proofs.lemmas.List.{length-map, take-map, take_all}
use Rattle.std.proofs.lemmas.List.Folds.{list_all_at}
use Rattle.std.proofs.lemmas.List.Sums.{position_or_len_is, list_all-from_AllPass}
use Rattle.std.proofs.lemmas.Option.{slice_get_within, slice_get-get_or, get_or_from_slice_get}
use Rattle.dk_num.specs.Decimal.{Decimal}
use Rattle.dk_types.specs.declared.study.Study.{Study}
use Rattle.dk_types.specs.declared.study.Why.{Why}
use Rattle.dk_types.specs.declared.study.Method.TheVariants.{Compass}
use Rattle.dk_types.specs.declared.study.Ending.TheVariants.{Finished}
use Rattle.dk_types.specs.declared.rows.Row.{Row}
use Rattle.dk_types.specs.Best.{is_below, is_least, best}
use Rattle.dk_types.specs.Search.{search}
use Rattle.dk_types.specs.Planned.{next_by, next_found, values_in, At, Over}
use Rattle.dk_types.specs.Solo.{Outcomes, Verdict, Ended}
use Rattle.dk_types.specs.Sound.{IsSound, IsSoundMethod}
use Rattle.dk_types.specs.Widths.{HasWidths, HaveWidths}
use Rattle.dk_types.specs.Laws.{AnswersInOrder}
use Rattle.dk_types.proofs.Alone.{rows_in_order}
use Rattle.dk_method.specs.Searches.{decimals, StepsOn, EndsAtItsBest, EachSearchStepsOn, EachSearchEndsAtItsBest}
use Rattle.dk_method.proofs.Turning.{leads_first}
use Rattle.dk_method.proofs.Trail.{HaveSome, trail_first}
use Rattle.dk_method.proofs.Trodden.{IsTrodden, EndsAtLeast, AreFound, IsOver, tread}

-- Rows that came one after another

are_found : (study : Study) (delta threshold : ℤ) (iterations evaluations : ℕ) (outcomes : Outcomes) (rows : List Row) (verdict : Verdict) →
    study.method ≡ Compass delta threshold iterations evaluations → AnswersInOrder study outcomes rows verdict → AreFound study delta threshold iterations evaluations rows
are_found study delta threshold iterations evaluations outcomes rows verdict is o = λ i row h.
    ap (λ (l : List (List Decimal)). next_found study.unit.exponent (search study.variables delta threshold iterations evaluations l)) (take-map (λ (r : Row). r.values) i rows)
    ∙ sym (ap (next_by study (take i rows)) is)
    ∙ o.points i row h

is_over : (study : Study) (delta threshold : ℤ) (iterations evaluations : ℕ) (outcomes : Outcomes) (rows : List Row) (why : Why) →
    study.method ≡ Compass delta threshold iterations evaluations → AnswersInOrder study outcomes rows (Ended (Finished why)) → IsOver study delta threshold iterations evaluations rows why
is_over study delta threshold iterations evaluations outcomes rows why is o =
    let long = length-map rows (λ (r : Row). r.values) in
    ap (λ (l : List (List Decimal)). next_found study.unit.exponent (search study.variables delta threshold iterations evaluations l)) (take_all (length rows) (values_in rows) (omega arith))
    ∙ sym (ap (next_by study rows) is)
    ∙ o.stands

-- the first row has the initial point
first_point : (study : Study) (delta threshold : ℤ) (iterations evaluations : ℕ) (row : Row) (others : List Row) → AreFound study delta threshold iterations evaluations (row ∷ others) →
    row.point ≡ decimals study study.variables.initial
first_point study delta threshold iterations evaluations row others are =
    let e : At (decimals study study.variables.initial) ≡ At row.point = are 0 row refl in
    let same : decimals study study.variables.initial ≡ row.point = cc in
    sym same

walked : (study : Study) (delta threshold : ℤ) (iterations evaluations : ℕ) (row : Row) (others : List Row) → IsSound study → AreFound study delta threshold iterations evaluations (row ∷ others) →
    IsTrodden study delta threshold (row ∷ others) (IsOver study delta threshold iterations evaluations (row ∷ others))
walked study delta threshold iterations evaluations row others sound are =
    tread study delta threshold iterations evaluations (row ∷ others) are iterations 1 (record { x = study.variables.initial; values = row.values; delta = delta })
    (leads_first study.variables delta threshold iterations evaluations (values_in (row ∷ others)) row.values (values_in others) refl)
    (trail_first study delta threshold row others (first_point study delta threshold iterations evaluations row others are) sound.initial.one_each)

-- Steps

steps_on : (study : Study) (delta threshold : ℤ) (iterations evaluations : ℕ) (rows : List Row) → IsSound study → AreFound study delta threshold iterations evaluations rows → StepsOn study delta rows
steps_on study delta threshold iterations evaluations [] sound are = record {
  halvings = λ i. 0;
  never_less = λ i j l. omega arith;
  first = λ row h. absurd (cc);
  polls = λ i row some h. absurd (cc);
}
steps_on study delta threshold iterations evaluations (first ∷ others) sound are =
    let t = walked study delta threshold iterations evaluations first others sound are in
    record {
      halvings = t.steps.halvings;
      never_less = t.steps.never_less;
      first = λ row h. (let same : first ≡ row = cc in sym (ap (λ (r : Row). r.point) same) ∙ first_point study delta threshold iterations evaluations first others are);
      polls = t.steps.each;
    }

pub each_steps_on : EachSearchStepsOn
each_steps_on study delta threshold iterations evaluations outcomes rows verdict sound is alone =
    steps_on study delta threshold iterations evaluations rows sound
    (are_found study delta threshold iterations evaluations outcomes rows verdict is (rows_in_order study outcomes rows verdict alone))

-- Ends

-- the first least row is the best one
least_found : (study : Study) (delta threshold : ℤ) (rows : List Row) (why : Why) (e : EndsAtLeast study delta threshold rows why) → position (is_least rows) rows ≡ Some e.place
least_found study delta threshold rows why e =
    let at : position_or_len (is_least rows) rows ≡ e.place
    = position_or_len_is (is_least rows) rows e.place none (let w = within in omega arith) above (λ w. here) in
    ap (λ (q : ℕ). cond (nat_lt q (length rows)) (Some q) None) at ∙ ap (λ (t : Bool). cond t (Some e.place) None) (lt-ltb e.place (length rows) within)
  where
    none : Row
    none = record { point = []; values = [] }

    within : e.place < length rows
    within = slice_get_within rows e.place e.row e.stands

    same : get_or rows e.place none ≡ e.row
    same = get_or_from_slice_get rows e.place e.row none e.stands

    above : (k : ℕ) → k < e.place → is_least rows (get_or rows k none) ≡ false
    above k h =
        let w = within in
        list_all_at (λ (other : Row). not (is_below other.values (get_or rows k none).values)) rows e.place none within
        (ap not (ap (λ (r : Row). is_below r.values (get_or rows k none).values) same ∙ e.first k (get_or rows k none) h (slice_get-get_or rows k none (omega arith))))

    here : is_least rows (get_or rows e.place none) ≡ true
    here = list_all-from_AllPass (λ (other : Row). not (is_below other.values (get_or rows e.place none).values)) rows
        (λ k d h. ap not (ap (λ (r : Row). is_below (get_or rows k d).values r.values) same ∙ e.least k (get_or rows k d) (slice_get-get_or rows k d h)))

have_some : (study : Study) (rows : List Row) → length study.responses.labels ≡ 1 → HaveWidths study rows → HaveSome rows
have_some study rows one widths = λ i row h.
    let w : HasWidths study row = subst (HasWidths study) (get_or_from_slice_get rows i row row h) (widths i row (slice_get_within rows i row h)) in
    let n = w.values in
    omega arith

best_is : (study : Study) (rows : List Row) (place : ℕ) → study.responses.objectives ≡ true → length study.responses.labels ≡ 1 → position (is_least rows) rows ≡ Some place → best study rows ≡ Some place
best_is study rows place objectives one found =
    ap (λ (b : Bool). if b && (length study.responses.labels == 1) then position (is_least rows) rows else None) objectives
    ∙ ap (λ (n : ℕ). if true && (n == 1) then position (is_least rows) rows else None) one
    ∙ found

ends_at_best : (study : Study) (delta threshold : ℤ) (iterations evaluations : ℕ) (rows : List Row) (why : Why) → IsSound study → IsSoundMethod study.unit.exponent study.variables study.responses (Compass delta threshold iterations evaluations) →
    HaveWidths study rows → AreFound study delta threshold iterations evaluations rows → IsOver study delta threshold iterations evaluations rows why → EndsAtItsBest study delta threshold rows why
ends_at_best study delta threshold iterations evaluations [] why sound m widths are over = absurd (let e : At (decimals study study.variables.initial) ≡ Over why = over in cc)
ends_at_best study delta threshold iterations evaluations (first ∷ others) why sound m widths are over =
    let t = walked study delta threshold iterations evaluations first others sound are in
    let e : EndsAtLeast study delta threshold (first ∷ others) why = t.ends why over (have_some study (first ∷ others) m.5 widths) in
    record {
      place = e.place;
      row = e.row;
      stands = e.stands;
      is_best = best_is study (first ∷ others) e.place m.4 m.5 (least_found study delta threshold (first ∷ others) why e);
      stationary = e.stationary;
    }

pub each_ends_at_best : EachSearchEndsAtItsBest
each_ends_at_best study delta threshold iterations evaluations outcomes rows why sound is widths alone =
    let o = rows_in_order study outcomes rows (Ended (Finished why)) alone in
    ends_at_best study delta threshold iterations evaluations rows why sound (subst (IsSoundMethod study.unit.exponent study.variables study.responses) is sound.method) widths
    (are_found study delta threshold iterations evaluations outcomes rows (Ended (Finished why)) is o)
    (is_over study delta threshold iterations evaluations outcomes rows why is o)
