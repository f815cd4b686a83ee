-- Batches of points, evaluated one after another.
use Rattle.std.proofs.Common.{◌≡◌, ℕ, zero, suc, ◌+◌, ◌-◌, ◌<◌, ◌≤◌, min, List, [], ◌∷◌, ◌++◌, length, take, drop, Some, refl, subst, sym, ap, ◌∙◌, arith, append_assoc, length-append}
use Rattle.std.specs.Prelude.{slice_get}
use Rattle.std.proofs.lemmas.List.{append-nil, length-map, map-append, take_more, take_all, length-take}
use Rattle.std.proofs.lemmas.Option.{get_or_from_slice_get, slice_get_within}
use Rattle.dk_num.specs.Decimal.{Decimal}
use Rattle.dk_types.specs.declared.study.Study.{Study}
use Rattle.dk_types.specs.declared.study.Why.{Why}
use Rattle.dk_types.specs.declared.rows.Row.{Row}
use Rattle.dk_types.specs.declared.planner.Plan.TheVariants.{Batch, Finished as Planned_Finished}
use Rattle.dk_types.specs.Limits.{limit}
use Rattle.dk_types.specs.Planned.{At, Over, Next, next, rest, plan, plan_by, AnswersBatch, AnswersLast}
use Rattle.dk_types.specs.Sound.{IsSound}
use Rattle.dk_types.proofs.Following.{IsAhead, is_ahead, batch_next, over_none}
use Rattle.dk_types.proofs.Alone.{next_within}
use Rattle.dk_evaluate.specs.Turns.{GetsRow}

-- behind the rows of a batch's first points those of its points are left that have none
rest_behind : (study : Study) (old behind : List Row) (batch : List (List Decimal)) → rest study old ≡ batch → length behind < length batch → rest study (old ++ behind) ≡ drop (length behind) batch
rest_behind study old [] batch is inside = ap (rest study) (append-nil old) ∙ is
rest_behind study old (row ∷ behind) [] is inside = absurd (omega arith)
rest_behind study old (row ∷ behind) (p ∷ []) is inside = absurd (omega arith)
rest_behind study old (row ∷ behind) (p ∷ (q ∷ more)) is inside =
    let k : IsAhead study old p = is_ahead study old p (batch_next study old p (q ∷ more) is) in
    let others : k.behind ≡ q ∷ more = (let e : p ∷ k.behind ≡ p ∷ (q ∷ more) = sym k.batch ∙ is in cc) in
    ap (rest study) (sym (append_assoc old (row ∷ []) behind)) ∙ rest_behind study (old ++ row ∷ []) behind (q ∷ more) (k.goes_on row q more others).1 (omega arith)

-- a point of a list stands first in what is left from its place on
first_left : (points : List (List Decimal)) (k : ℕ) (p : List Decimal) → slice_get points k ≡ Some p → drop k points ≡ p ∷ drop (suc k) points
first_left [] k p h = absurd (cc)
first_left (q ∷ points) zero p h = ap (λ (x : List Decimal). x ∷ points) (let e : q ≡ p = cc in e)
first_left (q ∷ points) (suc k) p h = first_left points k p h

-- rows and a batch behind them are together at most one more than the study may have
pub batch_room : (study : Study) (old : List Row) → length old ≤ limit study → length old + length (rest study old) ≤ limit study + 1
batch_room study old few = at (next study old) refl
  where
    at : (n : Next) → next study old ≡ n → length old + length (rest study old) ≤ limit study + 1
    at (At p) e =
        let k : IsAhead study old p = is_ahead study old p e in
        let all = k.room.all in
        let long = ap length k.batch in
        omega arith
    at (Over why) e = let none = ap length (over_none study old why e) in omega arith

-- a point of a planner's batch, which is what is left
pub batch_point : (study : Study) (old : List Row) (batch : List (List Decimal)) (before first row : ℕ) (p : List Decimal) →
    batch ≡ rest study old → before ≡ length old → first ≡ length old + 1 → slice_get batch (row - (before + 1)) ≡ Some p → slice_get (rest study old) (row - first) ≡ Some p
batch_point study old batch before first row p is count from h =
    let place : row - first ≡ row - (before + 1) = omega arith in
    ap (slice_get (rest study old)) place ∙ ap (λ l. slice_get l (row - (before + 1))) (sym is) ∙ h

-- the rows of the first points of a batch, behind those of before
pub record IsAlong (study : Study) (old : List Row) (k : ℕ) (rows : List Row) : Type 0 where
  pub answers : AnswersBatch old (take k (rest study old)) rows

pub along_none : (study : Study) (old : List Row) → IsAlong study old 0 old
along_none study old = record { answers = record { behind = []; split = sym (append-nil old); points = refl } }

-- those behind them are left
pub along_rest : (study : Study) (old rows : List Row) (k : ℕ) → k < length (rest study old) → IsAlong study old k rows → rest study rows ≡ drop k (rest study old)
along_rest study old rows k inside was =
    let long : length was.answers.behind ≡ k = sym (length-map was.answers.behind (λ (r : Row). r.point)) ∙ ap length was.answers.points ∙ length-take k (rest study old) ∙ (let m : min k (length (rest study old)) ≡ k = omega arith in m) in
    ap (rest study) was.answers.split ∙ rest_behind study old was.answers.behind (rest study old) refl (omega arith) ∙ ap (λ (n : ℕ). drop n (rest study old)) long

-- the point at this place of the batch comes next
pub along_next : (study : Study) (old rows : List Row) (k : ℕ) (p q : List Decimal) → p ≡ q → slice_get (rest study old) k ≡ Some q → IsAlong study old k rows → next study rows ≡ At p
along_next study old rows k p q same h was =
    let at : slice_get (rest study old) k ≡ Some p = h ∙ ap Some (sym same) in
    batch_next study rows p (drop (suc k) (rest study old)) (along_rest study old rows k (slice_get_within (rest study old) k p at) was ∙ first_left (rest study old) k p at)

-- a point of the batch got its row
pub along_more : (study : Study) (old rows more : List Row) (k : ℕ) (p q : List Decimal) → p ≡ q → slice_get (rest study old) k ≡ Some q →
    GetsRow p rows more → IsAlong study old k rows → IsAlong study old (k + 1) more
along_more study old rows more k p q same h gets was =
    let at : slice_get (rest study old) k ≡ Some p = h ∙ ap Some (sym same) in
    let inside : k < length (rest study old) = slice_get_within (rest study old) k p at in
    let row : Row = record { point = p; values = gets.values } in
    record {
      answers = record {
        behind = was.answers.behind ++ row ∷ [];
        split = gets.rows ∙ ap (λ l. l ++ row ∷ []) was.answers.split ∙ append_assoc old was.answers.behind (row ∷ []);
        points = map-append (λ (r : Row). r.point) was.answers.behind (row ∷ []) ∙ ap (λ l. l ++ p ∷ []) was.answers.points
            ∙ sym (take_more (rest study old) k p inside ∙ ap (λ x. take k (rest study old) ++ x ∷ []) (get_or_from_slice_get (rest study old) k p p at));
      };
    }

-- behind its last point a batch has all its rows
pub along_all : (study : Study) (old rows : List Row) (k : ℕ) → length (rest study old) ≤ k → IsAlong study old k rows → AnswersBatch old (rest study old) rows
along_all study old rows k all was = record {
  behind = was.answers.behind;
  split = was.answers.split;
  points = was.answers.points ∙ take_all k (rest study old) all;
}

-- the rows that a planner asked for: none before its first batch
pub answered_first : (was_given : List Row → Type 0) (batch : List (List Decimal)) (rows : List Row) → AnswersLast was_given batch [] → rows ≡ [] → AnswersLast was_given batch rows
answered_first was_given batch rows none first = subst (AnswersLast was_given batch) (sym first) none

-- and behind a batch with all its rows
pub answered_more : (was_given : List Row → Type 0) (batch : List (List Decimal)) (study mine : Study) (old rows : List Row) → was_given old → batch ≡ rest mine old → mine ≡ study → AnswersBatch old (rest study old) rows →
    AnswersLast was_given batch rows
answered_more was_given batch study mine old rows given is same answers = record {
  before = old;
  given = given;
  answers = subst (λ (l : List (List Decimal)). AnswersBatch old l rows) (sym (is ∙ ap (λ (s : Study). rest s old) same)) answers;
}

-- a batch is planned where a point comes next, and all of it
pub record IsPlannedBatch (study : Study) (rows : List Row) (first count : ℕ) : Type 0 where
  pub first_is : first ≡ length rows + 1
  pub count_is : count ≡ length (rest study rows)
  pub point : List Decimal
  pub next_is : next study rows ≡ At point

pub batch_is : (study : Study) (rows : List Row) (first count : ℕ) → plan study rows ≡ Batch first count → IsPlannedBatch study rows first count
batch_is study rows first count h = at (next study rows) refl h
  where
    at : (n : Next) → next study rows ≡ n → plan_by (length rows) (rest study rows) n ≡ Batch first count → IsPlannedBatch study rows first count
    at (At p) e k = record { first_is = cc; count_is = cc; point = p; next_is = e }
    at (Over why) e k = absurd (cc)

pub end_is : (study : Study) (rows : List Row) (why : Why) → plan study rows ≡ Planned_Finished why → next study rows ≡ Over why
end_is study rows why h = at (next study rows) refl h
  where
    at : (n : Next) → next study rows ≡ n → plan_by (length rows) (rest study rows) n ≡ Planned_Finished why → next study rows ≡ Over why
    at (At p) e k = absurd (cc)
    at (Over other) e k = e ∙ ap Over (let s : other ≡ why = cc in s)

-- behind a batch with all its rows the study may have fewer
pub fewer_left : (study : Study) (old rows : List Row) (p : List Decimal) → IsSound study → next study old ≡ At p → AnswersBatch old (rest study old) rows → limit study - length rows < limit study - length old
fewer_left study old rows p sound next_is answers =
    let k : IsAhead study old p = is_ahead study old p next_is in
    let left : length old < limit study = next_within study sound old p next_is in
    let some = ap length k.batch in
    let a = ap length answers.split ∙ length-append old answers.behind in
    let b = sym (length-map answers.behind (λ (r : Row). r.point)) ∙ ap length answers.points in
    omega arith
