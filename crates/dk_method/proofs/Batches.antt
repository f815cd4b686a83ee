-- The points of a batch.
use Rattle.std.proofs.Common.{◌≡◌, ℕ, ◌+◌, ◌-◌, ◌<◌, ◌≤◌, true, false, List, length, Some, None, refl, sym, ap, subst, ◌∙◌, arith, nat_lt}
use Rattle.std.specs.Prelude.{slice_get, IsTrue}
use Rattle.dk_num.specs.Decimal.{Decimal}
use Rattle.std.proofs.lemmas.Grind.{common_steps}
use Rattle.std.proofs.lemmas.List.FromFn.{length-map-range_with_len, get_or-map-range_with_len}
use Rattle.std.proofs.lemmas.Option.{slice_get-get_or}
use Rattle.dk_types.specs.declared.study.Study.{Study}
use Rattle.dk_types.specs.declared.rows.Row.{Row}
use Rattle.dk_types.specs.declared.planner.Plan.TheVariants.{Batch, Finished}
use Rattle.dk_types.specs.declared.study.Method.{Method}
use Rattle.dk_types.specs.declared.study.Method.TheVariants as method
use Rattle.dk_types.specs.declared.study.Why.TheVariants.{Complete}
use Rattle.dk_types.specs.Points.{has_points, point, size}
use Rattle.dk_types.specs.Planned.{points_from, plan, plan_by, rest, At, IsInBatch}
use Rattle.dk_types.proofs.Following.{next_at, next_over, rest_known}
use Rattle.dk_method.specs.declared.search.Search.{Search}
use Rattle.dk_method.specs.Searching.{IsSearching}
use Rattle.dk_method.specs.Plans.{PlanningState, PlansBy, batch_by, batch_of, handed_out}

-- where rows are left, the plan is a batch of them
pub batch_planned : (study : Study) (rows : List Row) (before limit : ℕ) → IsTrue (has_points study.method) → before ≡ length rows → limit ≡ size study → before < limit → Batch (before + 1) (limit - before) ≡ plan study rows
batch_planned study rows before limit known count most left =
    let t : nat_lt (length rows) (size study) ≡ true = grind (arith, common_steps) in
    let l : length (points_from study (length rows) (size study - length rows)) ≡ size study - length rows = length-map-range_with_len (point study) (length rows) (size study - length rows) in
    ap (λ (n : ℕ). Batch (n + 1) (limit - n)) count
    ∙ ap (λ (n : ℕ). Batch (length rows + 1) (n - length rows)) most
    ∙ ap (λ (n : ℕ). Batch (length rows + 1) n) (sym l)
    ∙ ap (λ (b : List (List Decimal)). plan_by (length rows) b (At (point study (length rows)))) (sym (rest_known study rows study.method known))
    ∙ ap (plan_by (length rows) (rest study rows)) (sym (next_at study rows known t))

pub over_planned : (study : Study) (rows : List Row) (before limit : ℕ) → IsTrue (has_points study.method) → before ≡ length rows → limit ≡ size study → limit ≤ before → Finished Complete ≡ plan study rows
over_planned study rows before limit known count most none =
    let t : nat_lt (length rows) (size study) ≡ false = grind (arith, common_steps) in
    ap (plan_by (length rows) (rest study rows)) (sym (next_over study rows known t))

-- the batch of such a study
pub batch_known : (planned : PlanningState) (m : Method) → IsTrue (has_points m) → batch_by planned m ≡ points_from planned.study planned.before planned.count
batch_known planned (method.Vector steps way) h = refl
batch_known planned (method.List numbers) h = refl
batch_known planned (method.Centered step counts) h = refl
batch_known planned (method.Multidim partitions) h = refl
batch_known planned (method.Compass delta threshold iterations evaluations) h = absurd (cc)

pub batch_within : (planned : PlanningState) (row : ℕ) → IsTrue (has_points planned.study.method) → planned.count ≤ size planned.study - planned.before → IsInBatch planned.before (batch_of planned) row → row - 1 < size planned.study
batch_within planned row known w within =
    let l : length (points_from planned.study planned.before planned.count) ≡ planned.count = length-map-range_with_len (point planned.study) planned.before planned.count in
    let m = ap length (batch_known planned planned.study.method known) in
    let a = within.0 in
    let b = within.1 in
    omega arith

pub batch_point : (planned : PlanningState) (row : ℕ) → IsTrue (has_points planned.study.method) → IsInBatch planned.before (batch_of planned) row →
    slice_get (batch_of planned) (row - (planned.before + 1)) ≡ Some (point planned.study (row - 1))
batch_point planned row known within =
    let l : length (points_from planned.study planned.before planned.count) ≡ planned.count = length-map-range_with_len (point planned.study) planned.before planned.count in
    let k = batch_known planned planned.study.method known in
    let m = ap length k in
    let a = within.0 in
    let b = within.1 in
    ap (λ (l : List (List Decimal)). slice_get l (row - (planned.before + 1))) k
    ∙ slice_get-get_or (points_from planned.study planned.before planned.count) (row - (planned.before + 1)) (point planned.study 0) (omega arith)
    ∙ ap Some (get_or-map-range_with_len (point planned.study) planned.before planned.count (row - (planned.before + 1)) (row - 1) (point planned.study 0) (omega arith) (omega arith))

-- A plan with a search, and one without

-- what a plan without a search has
pub record IsKnown (planned : PlanningState) : Type 0 where
  pub known : IsTrue (has_points planned.study.method)
  pub within : planned.count ≤ size planned.study - planned.before

pub without_search : (planned : PlanningState) → planned.search ≡ None → PlansBy planned planned.study.method → IsKnown planned
without_search planned none plans = at planned.study.method refl plans
  where
    at : (m : Method) → planned.study.method ≡ m → PlansBy planned m → IsKnown planned
    at (method.Vector steps way) is h = record { known = ap has_points is; within = h.1 }
    at (method.List numbers) is h = record { known = ap has_points is; within = h.1 }
    at (method.Centered step counts) is h = record { known = ap has_points is; within = h.1 }
    at (method.Multidim partitions) is h = record { known = ap has_points is; within = h.1 }
    at (method.Compass delta threshold iterations evaluations) is h = absurd (let k : None ≡ Some h.0 = sym none ∙ h.1 in cc)

-- what a plan with one has
pub record HasSearch (planned : PlanningState) (s : Search) : Type 0 where
  pub searching : IsSearching planned.study planned.before s
  pub batch : batch_of planned ≡ s.polls.rows

pub with_search : (planned : PlanningState) (s : Search) → planned.search ≡ Some s → PlansBy planned planned.study.method → HasSearch planned s
with_search planned s some plans = at planned.study.method refl plans
  where
    at : (m : Method) → planned.study.method ≡ m → PlansBy planned m → HasSearch planned s
    at (method.Vector steps way) is h = absurd (let k : None ≡ Some s = sym h.0 ∙ some in cc)
    at (method.List numbers) is h = absurd (let k : None ≡ Some s = sym h.0 ∙ some in cc)
    at (method.Centered step counts) is h = absurd (let k : None ≡ Some s = sym h.0 ∙ some in cc)
    at (method.Multidim partitions) is h = absurd (let k : None ≡ Some s = sym h.0 ∙ some in cc)
    at (method.Compass delta threshold iterations evaluations) is h =
        let k : Some h.0 ≡ Some s = sym h.1 ∙ some in
        let same : h.0 ≡ s = cc in
        record {
          searching = subst (IsSearching planned.study planned.before) same h.2;
          batch = ap (batch_by planned) is ∙ ap handed_out some;
        }

-- and which plans have which
pub plans_known : (planned : PlanningState) → planned.search ≡ None → IsTrue (has_points planned.study.method) → planned.count ≤ size planned.study - planned.before → PlansBy planned planned.study.method
plans_known planned none known within = at planned.study.method refl
  where
    at : (m : Method) → planned.study.method ≡ m → PlansBy planned m
    at (method.Vector steps way) is = (none, within)
    at (method.List numbers) is = (none, within)
    at (method.Centered step counts) is = (none, within)
    at (method.Multidim partitions) is = (none, within)
    at (method.Compass delta threshold iterations evaluations) is = absurd (let k : false ≡ true = ap has_points (sym is) ∙ known in cc)

pub plans_search : (planned : PlanningState) (s : Search) → planned.search ≡ Some s → IsSearching planned.study planned.before s → PlansBy planned planned.study.method
plans_search planned s some searching = subst (PlansBy planned) (sym searching.terms) (s, some, searching)

pub batch_search : (planned : PlanningState) (s : Search) → planned.search ≡ Some s → IsSearching planned.study planned.before s → batch_of planned ≡ s.polls.rows
batch_search planned s some searching = ap (batch_by planned) searching.terms ∙ ap handed_out some
