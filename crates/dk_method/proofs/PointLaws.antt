-- Each move of a centered study is made once, and each number of a point is small.
use Rattle.std.proofs.Common.{◌≡◌, ◌≢◌, inl, inr, ℕ, zero, suc, ◌+◌, ◌-◌, ◌*◌, ◌/◌, ◌==◌, ◌<◌, ◌≤◌, Bool, true, false, List, [], ◌∷◌, length, take, drop, replicate, get_or, set, Option, Some, None, ap, sym, ◌∙◌, refl, arith, nat_lt, int_lt, if◌then◌else◌, ℤ, pos, neg_ℤ, unsigned_abs}
use Rattle.std.specs.Prelude.{sum, unwrap_or}
use Rattle.std.specs.List.{All}
use Rattle.std.proofs.lemmas.Nat.{mod_below}
use Rattle.std.proofs.lemmas.Bool.{cases_lt}
use Rattle.std.proofs.lemmas.Grind.{common_steps, get_or-set_at}
use Rattle.std.proofs.lemmas.Int.{ints}
use Rattle.std.proofs.lemmas.List.{get_or-set_other}
use Rattle.std.proofs.lemmas.List.Elements.{All-get_or, All-from_get_or, All-set, All-take, All-drop}
use Rattle.dk_num.proofs.Canonical.{abs_neg}
use Rattle.dk_types.specs.declared.study.Study.{Study}
use Rattle.dk_types.specs.declared.study.Variables.{Variables}
use Rattle.dk_types.specs.declared.study.Responses.{Responses}
use Rattle.dk_types.specs.declared.study.Method.{Method}
use Rattle.dk_types.specs.declared.study.Method.TheVariants as method
use Rattle.dk_types.specs.declared.study.Way.TheVariants.{Step, Final}
use Rattle.dk_types.specs.Limits.{limit_by}
use Rattle.dk_types.specs.Points.{after_steps, towards, choices, in_grid, around, offset, offsets, units_by, units_at, size}
use Rattle.dk_types.specs.Sound.{IsSound, IsNumber, IsBetween, IsBound, IsPoint, IsSoundMethod}
use Rattle.dk_method.specs.declared.centered.Move.{Move}
use Rattle.dk_method.specs.Moves.{IsMove}
use Rattle.dk_method.specs.Laws.{IsSmall, IsMovedAlone, MovesOne, HasEachMove, moves_before, place_of_move}
use Rattle.dk_method.proofs.Quantities.{number_small, moved_small, way_small}
use Rattle.dk_method.proofs.Formulas.{steps_long, steps_at, way, way_long, way_at, towards_none, towards_some, grid_long, grid_at}
use Rattle.dk_method.proofs.Moved.{found, skipped, sum_first, no_move, zeros_long, around_centre, around_moved}

-- the moves of the first variable, and those of the others
back : (count k : ℕ) → k < count → offset count k ≡ neg_ℤ (pos (count - k))
back count k h = let t : nat_lt k count ≡ true = grind (arith, common_steps) in rw t refl

on : (count k : ℕ) → count ≤ k → offset count k ≡ pos (k - count + 1)
on count k h = let t : nat_lt k count ≡ false = grind (arith, common_steps) in rw t refl

-- a variable goes at least one step, and at most as many as its count
offset_reach : (count k : ℕ) → k < 2 * count → (1 ≤ unsigned_abs (offset count k)) × (unsigned_abs (offset count k) ≤ count)
offset_reach count k h = elim (cases_lt k count) [
  | inl l ↦ (let e : unsigned_abs (offset count k) ≡ count - k = ap unsigned_abs (back count k l) ∙ abs_neg (count - k) in (omega arith, omega arith))
  | inr l ↦ (let e : unsigned_abs (offset count k) ≡ k - count + 1 = ap unsigned_abs (on count k l) in (omega arith, omega arith))
]

offset_once : (count k l : ℕ) → k < 2 * count → l < 2 * count → offset count k ≡ offset count l → k ≡ l
offset_once count k l h i e = elim (cases_lt k count) [
  | inl a ↦ (let x = back count k a in elim (cases_lt l count) [ inl b ↦ (let y = back count l b in omega (arith, ints)) | inr b ↦ (let y = on count l b in omega (arith, ints)) ])
  | inr a ↦ (let x = on count k a in elim (cases_lt l count) [ inl b ↦ (let y = back count l b in omega (arith, ints)) | inr b ↦ (let y = on count l b in omega (arith, ints)) ])
]

-- the move in which the first variable goes so many steps
record FirstMoved (count : ℕ) (steps : ℤ) : Type 0 where
  number : ℕ
  at : number ≡ moves_before count steps
  within : number < 2 * count
  is : offset count number ≡ steps

first_once : (count : ℕ) (steps : ℤ) → 1 ≤ unsigned_abs steps → unsigned_abs steps ≤ count → FirstMoved count steps
first_once count steps some few = at (int_lt steps (pos 0)) refl
  where
    at : (b : Bool) → int_lt steps (pos 0) ≡ b → FirstMoved count steps
    at true e =
        let size : ℕ = unsigned_abs steps in
        let n : count - (count - size) ≡ size = omega arith in
        let s : neg_ℤ (pos size) ≡ steps = omega (arith, ints) in
        record { number = count - size; at = rw e refl; within = omega arith; is = back count (count - size) (omega arith) ∙ ap (λ m. neg_ℤ (pos m)) n ∙ s }
    at false e =
        let size : ℕ = unsigned_abs steps in
        let n : count + size - 1 - count + 1 ≡ size = omega arith in
        let s : pos size ≡ steps = omega (arith, ints) in
        record { number = count + size - 1; at = rw e refl; within = omega arith; is = on count (count + size - 1) (omega arith) ∙ ap pos n ∙ s }

pub one_moved : (counts : List ℕ) (k : ℕ) → k < 2 * sum counts → MovesOne counts k
one_moved [] k h = absurd (omega arith)
one_moved (count ∷ counts) k h = elim (cases_lt k (2 * count)) [
  | inl l ↦ (let r = offset_reach count k l in record {
    variable = 0;
    steps = offset count k;
    reach = record { inside = omega arith; some = r.0; few = r.1 };
    alone = found count k counts l;
  })
  | inr l ↦ (let s = sum_first count counts in let m = one_moved counts (k - 2 * count) (omega arith) in record {
    variable = suc m.variable;
    steps = m.steps;
    reach = record { inside = (let v = m.reach.inside in omega arith); some = m.reach.some; few = m.reach.few };
    alone = skipped count k counts l ∙ ap (λ os. pos 0 ∷ os) m.alone;
  })
]

-- some move with this variable alone moved by so many steps
record Made (counts : List ℕ) (variable : ℕ) (steps : ℤ) : Type 0 where
  number : ℕ
  at : number ≡ place_of_move counts variable steps
  within : number < 2 * sum counts
  alone : IsMovedAlone counts number variable steps

made : (counts : List ℕ) (variable : ℕ) (steps : ℤ) → variable < length counts → 1 ≤ unsigned_abs steps → unsigned_abs steps ≤ get_or counts variable 0 → Made counts variable steps
made [] variable steps inside some few = absurd (omega arith)
made (count ∷ counts) zero steps inside some few =
    let s = sum_first count counts in
    let f = first_once count steps some few in
    let w = f.within in
    record {
      number = f.number;
      at = (let a = f.at in omega arith);
      within = omega arith;
      alone = found count f.number counts w ∙ ap (λ o. o ∷ replicate (length counts) (pos 0)) f.is;
    }
made (count ∷ counts) (suc variable) steps inside some few =
    let s = sum_first count counts in
    let m = made counts variable steps (omega arith) some few in
    let w = m.within in
    let n : m.number + 2 * count - 2 * count ≡ m.number = omega arith in
    record {
      number = m.number + 2 * count;
      at = (let a = m.at in let t = sum_first count (take variable counts) in omega arith);
      within = omega arith;
      alone = skipped count (m.number + 2 * count) counts (omega arith) ∙ ap (λ k. pos 0 ∷ offsets counts k) n ∙ ap (λ os. pos 0 ∷ os) m.alone;
    }

first_of : (x y : ℤ) (xs ys : List ℤ) → x ∷ xs ≡ y ∷ ys → x ≡ y
first_of x y xs ys e = ap (λ l. get_or l 0 (pos 0)) e

others_of : (x y : ℤ) (xs ys : List ℤ) → x ∷ xs ≡ y ∷ ys → xs ≡ ys
others_of x y xs ys e = ap (drop 1) e

offsets_once : (counts : List ℕ) (k l : ℕ) → k < 2 * sum counts → l < 2 * sum counts → offsets counts k ≡ offsets counts l → k ≡ l
offsets_once [] k l h i e = absurd (omega arith)
offsets_once (count ∷ counts) k l h i e =
    let s = sum_first count counts in
    elim (cases_lt k (2 * count)) [
      | inl a ↦ elim (cases_lt l (2 * count)) [
        | inl b ↦ offset_once count k l a b (first_of _ _ _ _ (sym (found count k counts a) ∙ e ∙ found count l counts b))
        | inr b ↦ (let r = offset_reach count k a in let z = ap unsigned_abs (first_of _ _ _ _ (sym (found count k counts a) ∙ e ∙ skipped count l counts b)) in absurd (omega (arith, r.0, z)))
      ]
      | inr a ↦ elim (cases_lt l (2 * count)) [
        | inl b ↦ (let r = offset_reach count l b in let z = ap unsigned_abs (first_of _ _ _ _ (sym (skipped count k counts a) ∙ e ∙ found count l counts b)) in absurd (omega (arith, r.0, z)))
        | inr b ↦ (let same = offsets_once counts (k - 2 * count) (l - 2 * count) (omega arith) (omega arith)
            (others_of _ _ _ _ (sym (skipped count k counts a) ∙ e ∙ skipped count l counts b)) in omega arith)
      ]
    ]

pub each_move_is_made_once : (counts : List ℕ) → HasEachMove counts
each_move_is_made_once counts = record {
  once = λ variable steps r.
      let m = made counts variable steps r.inside r.some r.few in
      record {
        number = m.number;
        at = m.at;
        within = m.within;
        alone = m.alone;
        only = λ k h e. offsets_once counts k m.number h m.within (e ∙ sym m.alone);
      };
  no_other = one_moved counts;
}

all_as : (xs ys : List ℤ) → xs ≡ ys → All IsSmall xs → All IsSmall ys
all_as xs ys e are = rw (sym e) are

small_as : (x y : ℤ) → x ≡ y → IsSmall x → IsSmall y
small_as x y e is = rw (sym e) is

numbers_small : (e : ℤ) (ks : List ℤ) → All (IsNumber e) ks → All IsSmall ks
numbers_small e ks are = All-from_get_or IsSmall ks (pos 0) (λ j h. let s = number_small e ks j are h in omega arith)

steps_are_small : (e : ℤ) (n i : ℕ) (from step : List ℤ) → IsPoint e n from → IsPoint e n step → i ≤ 10000 → All IsSmall (after_steps i from step)
steps_are_small e n i from step start steps few =
    let along : length step ≡ length from = steps.one_each ∙ sym start.one_each in
    let long = steps_long i from step along in
    All-from_get_or IsSmall (after_steps i from step) (pos 0) (λ j h.
    let inside : j < length from = omega arith in
    small_as _ _ (steps_at i from step j inside along)
    (moved_small (get_or from j (pos 0)) (pos i) (get_or step j (pos 0)) (number_small e from j start.each inside) (number_small e step j steps.each (omega arith)) (omega (arith, ints))))

way_is_small : (e : ℤ) (n i parts : ℕ) (from to : List ℤ) → IsPoint e n from → IsPoint e n to → i ≤ parts → parts ≤ 10000 → All IsSmall (way i parts from to)
way_is_small e n i parts from to start end part few =
    let along : length to ≡ length from = end.one_each ∙ sym start.one_each in
    let long = way_long i parts from to along in
    All-from_get_or IsSmall (way i parts from to) (pos 0) (λ j h.
    let inside : j < length from = omega arith in
    small_as _ _ (way_at i parts from to j inside along)
    (way_small i parts (get_or from j (pos 0)) (get_or to j (pos 0)) part few (number_small e from j start.each inside) (number_small e to j end.each (omega arith))))

towards_is_small : (e : ℤ) (n i parts : ℕ) (from to : List ℤ) → IsPoint e n from → IsPoint e n to → i ≤ parts → parts ≤ 10000 → All IsSmall (towards i parts from to)
towards_is_small e n i zero from to start end part few = all_as _ _ (sym (towards_none i from to 0 refl)) (numbers_small e from start.each)
towards_is_small e n i (suc m) from to start end part few = all_as _ _ (sym (towards_some i (suc m) from to (λ h. omega arith))) (way_is_small e n i (suc m) from to start end part few)

pub choice_few : (partitions : List ℕ) (i place : ℕ) → get_or (choices partitions i) place 0 ≤ get_or partitions place 0
choice_few [] i place = omega arith
choice_few (p ∷ partitions) i zero = let l = mod_below i (p + 1) (omega arith) in omega arith
choice_few (p ∷ partitions) i (suc place) = choice_few partitions (i / (p + 1)) place

grid_is_small : (e : ℤ) (n i : ℕ) (partitions : List ℕ) (lower upper : List ℤ) → IsPoint e n lower → IsPoint e n upper → length partitions ≡ n → All (IsBetween 1 10000) partitions → All IsSmall (in_grid i partitions lower upper)
grid_is_small e n i partitions lower upper low high counted are =
    let l : length lower ≡ length partitions = low.one_each ∙ sym counted in
    let u : length upper ≡ length partitions = high.one_each ∙ sym counted in
    let long = grid_long i partitions lower upper l u in
    All-from_get_or IsSmall (in_grid i partitions lower upper) (pos 0) (λ j h.
    let inside : j < length partitions = omega arith in
    let most = All-get_or (IsBetween 1 10000) partitions j 0 inside are in
    small_as _ _ (grid_at i partitions lower upper j inside l u)
    (way_small (get_or (choices partitions i) j 0) (get_or partitions j 0) (get_or lower j (pos 0)) (get_or upper j (pos 0)) (choice_few partitions i j) most.1
    (number_small e lower j low.each (omega arith)) (number_small e upper j high.each (omega arith))))

bound_is : (e : ℤ) (n : ℕ) (bound : Option (List ℤ)) (ks : List ℤ) → bound ≡ Some ks → IsBound e n bound → IsPoint e n (unwrap_or bound [])
bound_is e n None ks there is = absurd (cc)
bound_is e n (Some xs) ks there is = is

-- a move of one variable, as the point's writer has it
pub move_is : (counts : List ℕ) (k : ℕ) (move : Move) → move.variable < length counts → unsigned_abs move.offset ≤ 10000 → IsMovedAlone counts k move.variable move.offset → IsMove counts k move
move_is counts k move inside few alone = record {
  variable = inside;
  few = few;
  alone = λ j h. ap (λ l. get_or l j (pos 0)) alone ∙ at j (j == move.variable) refl (let z = zeros_long (length counts) in omega arith);
}
  where
    at : (j : ℕ) (b : Bool) → (j == move.variable) ≡ b → move.variable < length (replicate (length counts) (pos 0)) →
        get_or (set (replicate (length counts) (pos 0)) move.variable move.offset) j (pos 0) ≡ (if b then move.offset else pos 0)
    at j true e within = let same : j ≡ move.variable = grind (arith, common_steps) in get_or-set_at (replicate (length counts) (pos 0)) move.variable j move.offset (pos 0) same within
    at j false e within =
        let other : j ≢ move.variable = (λ h. let t : (j == move.variable) ≡ true = grind (arith, common_steps) in cc) in
        get_or-set_other (replicate (length counts) (pos 0)) move.variable j move.offset (pos 0) other ∙ no_move (length counts) j

around_is_small : (e : ℤ) (n i : ℕ) (centre step : List ℤ) (counts : List ℕ) → IsPoint e n centre → IsPoint e n step → length counts ≡ n → All (IsBetween 0 10000) counts → i < 1 + 2 * sum counts →
    All IsSmall (around i centre step counts)
around_is_small e n i centre step counts middle steps many are within = elim (cases_lt 0 i) [
  | inl some ↦ moved some (one_moved counts (i - 1) (omega arith))
  | inr none ↦ all_as _ _ (around_centre i centre step counts (omega arith) (steps.one_each ∙ sym middle.one_each) (many ∙ sym middle.one_each)) (numbers_small e centre middle.each)
]
  where
    moved : 0 < i → MovesOne counts (i - 1) → All IsSmall (around i centre step counts)
    moved some m =
        let move : Move = record { variable = m.variable; offset = m.steps } in
        let most = All-get_or (IsBetween 0 10000) counts m.variable 0 m.reach.inside are in
        let f = m.reach.few in
        let few : unsigned_abs m.steps ≤ 10000 = (let a = most.1 in omega arith) in
        let along : length step ≡ length centre = steps.one_each ∙ sym middle.one_each in
        let counted : length counts ≡ length centre = many ∙ sym middle.one_each in
        let v = m.reach.inside in
        all_as _ _ (around_moved i centre step counts move some (move_is counts (i - 1) move m.reach.inside few m.alone) along counted)
        (All-set IsSmall centre m.variable _
        (moved_small (get_or centre m.variable (pos 0)) m.steps (get_or step m.variable (pos 0)) (number_small e centre m.variable middle.each (omega arith)) (number_small e step m.variable steps.each (omega arith)) few)
        (numbers_small e centre middle.each))

by_method : (e : ℤ) (variables : Variables) (responses : Responses) (m : Method) (i : ℕ) → IsPoint e (length variables.labels) variables.initial →
    IsBound e (length variables.labels) variables.lower → IsBound e (length variables.labels) variables.upper →
    IsSoundMethod e variables responses m → i < limit_by (length variables.labels) m → All IsSmall (units_by variables m i)
by_method e variables responses (method.Vector steps (Step step)) i initial lower upper is within = let few = is.0 in steps_are_small e _ i variables.initial step initial is.1 (omega arith)
by_method e variables responses (method.Vector steps (Final final)) i initial lower upper is within = let few = is.0 in towards_is_small e _ i steps variables.initial final initial is.1 (omega arith) is.0
by_method e variables responses (method.List points) i initial lower upper is within =
    All-take IsSmall (length variables.labels) (drop (i * length variables.labels) points) (All-drop IsSmall (i * length variables.labels) points (numbers_small e points is.each))
by_method e variables responses (method.Centered step counts) i initial lower upper is within = around_is_small e _ i variables.initial step counts initial is.0 is.1.one_each is.1.each within
by_method e variables responses (method.Multidim partitions) i initial lower upper is within =
    grid_is_small e _ i partitions (unwrap_or variables.lower []) (unwrap_or variables.upper []) (bound_is e _ variables.lower is.1.0 is.1.1 lower) (bound_is e _ variables.upper is.2.0 is.2.1 upper) is.0.one_each is.0.each
by_method e variables responses (method.Compass delta threshold iterations evaluations) i initial lower upper is within = λ j d h. absurd (omega arith)

pub quantities_are_small : (study : Study) (i : ℕ) → IsSound study → i < size study → All IsSmall (units_at study i)
quantities_are_small study i is within = by_method study.unit.exponent study.variables study.responses study.method i is.initial is.lower is.upper is.method within
