-- A compass search, followed from its first row to its last.
use Rattle.std.proofs.Common.{◌≡◌, inl, inr, ℕ, zero, suc, ◌+◌, ◌-◌, ◌<◌, ◌≤◌, Bool, true, false, Some, List, [], length, take, get_or, refl, sym, ap, ◌∙◌, arith, ℤ, pos, nat_lt, true≢false}
use Rattle.std.specs.Prelude.{int_lt, int_div, slice_get}
use Rattle.std.proofs.lemmas.Bool.{cases_lt}
use Rattle.std.proofs.lemmas.Grind.{common_steps}
use Rattle.std.proofs.lemmas.Int.{ints}
use Rattle.std.proofs.lemmas.List.{length-map}
use Rattle.std.proofs.lemmas.Option.{slice_get_within}
use Rattle.dk_num.specs.Decimal.{Decimal}
use Rattle.dk_types.specs.declared.study.Study.{Study}
use Rattle.dk_types.specs.declared.study.Why.{Why}
use Rattle.dk_types.specs.declared.study.Why.TheVariants.{Threshold, Iterations, Evaluations}
use Rattle.dk_types.specs.declared.rows.Row.{Row}
use Rattle.dk_types.specs.Best.{is_below}
use Rattle.dk_types.specs.Search.{poll_at, polls, Iterate, iterated, Found, Ends, search}
use Rattle.dk_types.specs.Planned.{At, Over, next_found, values_in}
use Rattle.dk_method.specs.Searches.{decimals, halved, IsPoll, IsLeastAround, IsLastStep, IsStationary}
use Rattle.dk_method.proofs.Turning.{Leads, batch, found_last, found_short, found_full, found_poll, leads_on}
use Rattle.dk_method.proofs.Trail.{HaveSome, IsAround, Last, IsBestSoFar, Trail, HasRow, has_row, ArePolled, steps_more, trail_more}

-- each row but the first is a poll, and steps never grow
pub record AllSteps (study : Study) (delta : ℤ) (rows : List Row) : Type 0 where
  pub halvings : ℕ → ℕ
  pub never_less : (i j : ℕ) → i ≤ j → halvings i ≤ halvings j
  pub each : (i : ℕ) (row : Row) → 1 ≤ i → slice_get rows i ≡ Some row → IsPoll study rows (halved (halvings i) delta) i row

-- the search ends at the first least row, which is stationary where the step got too short
pub record EndsAtLeast (study : Study) (delta threshold : ℤ) (rows : List Row) (why : Why) : Type 0 where
  pub place : ℕ
  pub row : Row
  pub stands : slice_get rows place ≡ Some row
  pub least : (k : ℕ) (other : Row) → slice_get rows k ≡ Some other → is_below other.values row.values ≡ false
  pub first : (k : ℕ) (other : Row) → k < place → slice_get rows k ≡ Some other → is_below row.values other.values ≡ true
  pub stationary : why ≡ Threshold → IsStationary study delta threshold rows row

pub record IsTrodden (study : Study) (delta threshold : ℤ) (rows : List Row) (is_over : Why → Type 0) : Type 0 where
  pub steps : AllSteps study delta rows
  pub ends : (why : Why) → is_over why → HaveSome rows → EndsAtLeast study delta threshold rows why

-- where the step is too short at the end
stationary_from : (study : Study) (delta threshold : ℤ) (rows : List Row) (count : ℕ) (at : Iterate) (from : Row) → from.point ≡ decimals study at.x → from.values ≡ at.values → count ≡ length rows →
    int_lt at.delta threshold ≡ true → Last study delta threshold rows count at → IsStationary study delta threshold rows from
stationary_from study delta threshold rows count at from point_is values_are all low (inl fresh) =
    let step = fresh.0 in
    let test : int_lt delta threshold ≡ true = ap (λ (d : ℤ). int_lt d threshold) (sym step) ∙ low in
    inl ((omega (arith, ints)), sym all ∙ fresh.1)
stationary_from study delta threshold rows count at from point_is values_are all low (inr (inl long)) = absurd (true≢false (sym low ∙ long))
stationary_from study delta threshold rows count at from point_is values_are all low (inr (inr k)) = inr (at.x, point_is, (k.step, last, around))
  where
    last : IsLastStep threshold k.step
    last =
        let long = k.long in
        let test : int_lt (int_div k.step (pos 2)) threshold ≡ true = ap (λ (d : ℤ). int_lt d threshold) (sym k.half) ∙ low in
        record { long = omega (arith, ints); half = omega (arith, ints) }

    around : IsLeastAround study rows from at.x k.step
    around direction among keeps =
        let r : IsAround study rows at.values (poll_at at.x k.step direction) = k.around direction among keeps in
        record { place = r.place; row = r.row; stands = r.stands; is = r.is; not_below = ap (is_below r.row.values) values_are ∙ r.not_below }

module _ (study : Study) (delta threshold : ℤ) (iterations evaluations : ℕ) (rows : List Row) where
  -- what is found behind so many rows
  abbrev pub found_behind : ℕ → Found
  found_behind i = search study.variables delta threshold iterations evaluations (take i (values_in rows))

  -- each row has the point that is found behind those before it
  abbrev pub AreFound : Type 0
  AreFound = (i : ℕ) (row : Row) → slice_get rows i ≡ Some row → next_found study.unit.exponent (found_behind i) ≡ At row.point

  -- nothing more is found behind all rows
  abbrev pub IsOver : Why → Type 0
  IsOver why = next_found study.unit.exponent (found_behind (length rows)) ≡ Over why

  module _ (are : AreFound) where
    -- behind the last iteration
    ended : (count : ℕ) (at : Iterate) (w : Why) → Trail study delta threshold rows count at → ((j : ℕ) → found_behind (count + j) ≡ Ends w) → (w ≡ Threshold → int_lt at.delta threshold ≡ true) →
        IsTrodden study delta threshold rows IsOver
    ended count at w was over short = record {
      steps = record {
        halvings = was.steps.halvings;
        never_less = was.steps.never_less;
        each = λ i row some h. was.steps.each i row some (let n = slice_get_within rows i row h in let m = all in omega arith) h;
      };
      ends = λ why h have.
          let best : IsBestSoFar study delta threshold rows count at was.here.place = was.best have in
          let same = was.here.values_are in
          record {
            place = was.here.place;
            row = was.here.from;
            stands = was.here.stands;
            least = λ k other e. ap (is_below other.values) same ∙ best.least k other (let n = slice_get_within rows k other e in let m = all in omega arith) e;
            first = λ k other l e. ap (λ (v : List Decimal). is_below v other.values) same ∙ best.first k other l e;
            stationary = λ is. stationary_from study delta threshold rows count at was.here.from was.here.point_is same all (short (reason why h ∙ is)) best.last;
          };
    }
      where
        here : found_behind count ≡ Ends w
        here = ap found_behind (let n : count ≡ count + 0 = omega arith in n) ∙ over 0

        none : count < length rows → ⊥
        none l =
            let r : HasRow rows count = has_row rows count l in
            let found = sym (ap (next_found study.unit.exponent) here) ∙ are count r.row r.stands in
            absurd (cc)

        all : count ≡ length rows
        all = let most = was.within in elim (cases_lt count (length rows)) [ inl l ↦ absurd (none l) | inr l ↦ (let e : count ≡ length rows = omega arith in e) ]

        reason : (why : Why) → IsOver why → w ≡ why
        reason why h = let found = sym (ap (next_found study.unit.exponent) here) ∙ ap (λ n. next_found study.unit.exponent (found_behind n)) all ∙ h in cc

    -- an iteration whose polls haven't all rows
    cut : (count : ℕ) (at : Iterate) (was : Trail study delta threshold rows count at) → ArePolled study delta threshold rows count at was → length rows < count + length (polls study.variables at.x at.delta) →
        ((j : ℕ) → j < length (polls study.variables at.x at.delta) → count + j ≤ length rows → (why : Why) → next_found study.unit.exponent (found_behind (count + j)) ≡ Over why → ⊥) →
        IsTrodden study delta threshold rows IsOver
    cut count at was polled few never = record {
      steps = record {
        halvings = was.steps.halvings;
        never_less = was.steps.never_less;
        each = λ i row some h. steps_more study delta threshold rows count at was polled i row some (let n = slice_get_within rows i row h in omega arith) h;
      };
      ends = λ why h have. absurd (
          let most = was.within in
          let e : count + (length rows - count) ≡ length rows = omega arith in
          never (length rows - count) (omega arith) (omega arith) why (ap (λ n. next_found study.unit.exponent (found_behind n)) e ∙ h));
    }

    pub tread : (left count : ℕ) (at : Iterate) → Leads study.variables delta threshold iterations evaluations (values_in rows) left count at → Trail study delta threshold rows count at →
        IsTrodden study delta threshold rows IsOver
    tread zero count at leads was = by (int_lt at.delta threshold) refl
      where
        by : (b : Bool) → int_lt at.delta threshold ≡ b → IsTrodden study delta threshold rows IsOver
        by true e = ended count at Threshold was (found_last study.variables delta threshold iterations evaluations (values_in rows) count at leads true e) (λ h. e)
        by false e = ended count at Iterations was (found_last study.variables delta threshold iterations evaluations (values_in rows) count at leads false e) (λ h. absurd (cc))
    tread (suc left) count at leads was =
        by (int_lt at.delta threshold) refl (nat_lt evaluations (count + length (polls study.variables at.x at.delta))) refl
        (tread left (count + length (polls study.variables at.x at.delta)) (iterated at (polls study.variables at.x at.delta) (batch (values_in rows) count (length (polls study.variables at.x at.delta)))))
      where
        long : length (values_in rows) ≡ length rows
        long = length-map rows (λ (r : Row). r.values)

        found : int_lt at.delta threshold ≡ false → nat_lt evaluations (count + length (polls study.variables at.x at.delta)) ≡ false → (j : ℕ) → j < length (polls study.variables at.x at.delta) →
            count + j ≤ length rows → next_found study.unit.exponent (found_behind (count + j)) ≡ At (decimals study (get_or (polls study.variables at.x at.delta) j []))
        found high room j inside within =
            let l = long in
            ap (next_found study.unit.exponent) (found_poll study.variables delta threshold iterations evaluations (values_in rows) count at left leads high room j inside (omega arith))

        polled : int_lt at.delta threshold ≡ false → nat_lt evaluations (count + length (polls study.variables at.x at.delta)) ≡ false → ArePolled study delta threshold rows count at was
        polled high room j row inside h =
            let n = slice_get_within rows (count + j) row h in
            let e = sym (found high room j inside (omega arith)) ∙ are (count + j) row h in
            let same : decimals study (get_or (polls study.variables at.x at.delta) j []) ≡ row.point = cc in
            sym same

        by : (low : Bool) → int_lt at.delta threshold ≡ low → (full : Bool) → nat_lt evaluations (count + length (polls study.variables at.x at.delta)) ≡ full →
            (Leads study.variables delta threshold iterations evaluations (values_in rows) left (count + length (polls study.variables at.x at.delta))
            (iterated at (polls study.variables at.x at.delta) (batch (values_in rows) count (length (polls study.variables at.x at.delta)))) →
            Trail study delta threshold rows (count + length (polls study.variables at.x at.delta))
            (iterated at (polls study.variables at.x at.delta) (batch (values_in rows) count (length (polls study.variables at.x at.delta)))) → IsTrodden study delta threshold rows IsOver) →
            IsTrodden study delta threshold rows IsOver
        by true e full f onward = ended count at Threshold was (found_short study.variables delta threshold iterations evaluations (values_in rows) count at left leads e) (λ h. e)
        by false e true f onward = ended count at Evaluations was (found_full study.variables delta threshold iterations evaluations (values_in rows) count at left leads e f) (λ h. absurd (cc))
        by false e false f onward = elim (cases_lt (length rows) (count + length (polls study.variables at.x at.delta))) [
          | inl l ↦ cut count at was (polled e f) l (λ j inside within why h. let k = sym (found e f j inside within) ∙ h in absurd (cc))
          | inr l ↦ onward
              (leads_on study.variables delta threshold iterations evaluations (values_in rows) count at left leads e (grind (arith, common_steps)) (let n = long in omega arith))
              (trail_more study delta threshold rows count at was (polled e f) l e)
        ]
