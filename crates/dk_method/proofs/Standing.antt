-- Where a compass search stands, behind a step and with the polls of an iteration.
use Rattle.std.proofs.Common.{◌≡◌, inl, inr, ℕ, ◌+◌, ◌*◌, ◌^◌, ◌<◌, ◌≤◌, Bool, true, false, List, [], ◌∷◌, ◌++◌, length, map, Option, Some, None, option_map, refl, sym, ap, subst, ◌∙◌, arith, ℤ, pos, ◌≤ℤ◌, if◌then◌else◌, length-append, to_z, of_z}
use Rattle.std.specs.Prelude.{int_lt, int_div, get_or, is_some, IsSome, unsigned_abs}
use Rattle.std.specs.List.{All}
use Rattle.std.proofs.lemmas.Int.{ints, to_z-of_z, fits_signed_from_abs}
use mir.Syntax.{w128}
use Rattle.std.proofs.lemmas.List.{length-map}
use Rattle.dk_num.specs.Decimal.{Decimal}
use Rattle.dk_num.specs.Units.{in_units}
use Rattle.dk_types.specs.declared.study.Study.{Study}
use Rattle.dk_types.specs.declared.study.Method.TheVariants as method
use Rattle.dk_types.specs.declared.rows.Row.{Row}
use Rattle.dk_types.specs.Best.{is_below}
use Rattle.dk_types.specs.Search.{polls, Iterate, contracted, first_least, moved_or_contracted, iterated}
use Rattle.dk_types.specs.Planned.{values_in}
use Rattle.dk_types.specs.Sound.{IsSound, IsSoundMethod, IsBound}
use Rattle.dk_compass.specs.States.{IsSearchState, HasOneEach, iterate_of, single}
use Rattle.dk_compass.specs.declared.iterate.State.{State}
use Rattle.dk_method.specs.declared.search.Search.{Search}
use Rattle.dk_method.specs.declared.search.Terms.{Terms}
use Rattle.dk_method.specs.Searching.{GoesOnFrom, IsAtStart, IsUnderWay, HandedOut, IsStanding, as_decimals}
use Rattle.dk_method.proofs.NextSmall.{AreWithin, poll_within, polls_within, IsWithin, iterated_within}
use Rattle.dk_method.proofs.Onward.{end_of, led_on}

-- The condition of an iteration

abbrev IsOfTerms : Study → Terms → Type 0
IsOfTerms study terms = study.method ≡ method.Compass terms.delta terms.threshold terms.iterations terms.evaluations

few_iterations : (study : Study) (terms : Terms) → IsSound study → IsOfTerms study terms → terms.iterations ≤ 10000
few_iterations study terms sound is =
    let m : IsSoundMethod study.unit.exponent study.variables study.responses (method.Compass terms.delta terms.threshold terms.iterations terms.evaluations)
    = subst (IsSoundMethod study.unit.exponent study.variables study.responses) is sound.method in
    m.2

-- the least length of a step, as it is read
pub threshold_read : (study : Study) (terms : Terms) → IsSound study → IsOfTerms study terms → to_z w128 (of_z w128 terms.threshold) ≡ terms.threshold
threshold_read study terms sound is =
    let m : IsSoundMethod study.unit.exponent study.variables study.responses (method.Compass terms.delta terms.threshold terms.iterations terms.evaluations)
    = subst (IsSoundMethod study.unit.exponent study.variables study.responses) is sound.method in
    let few = m.1.number.few in
    let small : unsigned_abs terms.threshold < 2 ^ 127 = omega arith in
    to_z-of_z w128 terms.threshold (fits_signed_from_abs w128 terms.threshold small)

-- and the first
pub delta_read : (study : Study) (terms : Terms) → IsSound study → IsOfTerms study terms → to_z w128 (of_z w128 terms.delta) ≡ terms.delta
delta_read study terms sound is =
    let m : IsSoundMethod study.unit.exponent study.variables study.responses (method.Compass terms.delta terms.threshold terms.iterations terms.evaluations)
    = subst (IsSoundMethod study.unit.exponent study.variables study.responses) is sound.method in
    let few = m.0.number.few in
    let small : unsigned_abs terms.delta < 2 ^ 127 = omega arith in
    to_z-of_z w128 terms.delta (fits_signed_from_abs w128 terms.delta small)

-- where a search begins
pub begins_standing : (study : Study) (terms : Terms) (state : State) → IsSound study → IsOfTerms study terms → state.x ≡ study.variables.initial → state.delta ≡ terms.delta → state.iteration ≡ 0 → IsStanding study terms state
begins_standing study terms state sound is at step none =
    let m : IsSoundMethod study.unit.exponent study.variables study.responses (method.Compass terms.delta terms.threshold terms.iterations terms.evaluations)
    = subst (IsSoundMethod study.unit.exponent study.variables study.responses) is sound.method in
    let few = m.0.number.few in
    let positive = m.0.positive in
    let forward : pos 0 ≤ℤ terms.delta = omega (arith, ints) in
    let small : unsigned_abs terms.delta ≤ 10 ^ 29 = omega arith in
    record {
      one_each = ap length at ∙ sound.initial.one_each;
      forward = subst (λ (d : ℤ). pos 0 ≤ℤ d) (sym step) forward;
      step = subst (λ (d : ℤ). unsigned_abs d ≤ 10 ^ 29) (sym step) small;
      numbers = subst (λ (x : List ℤ). All (λ k. unsigned_abs k ≤ 10 ^ 29 + state.iteration * 10 ^ 29) x) (sym at) (λ i d inside. (let k = (sound.initial.each i d inside).few in omega arith));
      few = omega arith;
    }

bound_one : (e : ℤ) (n : ℕ) (bound : Option (List ℤ)) → IsBound e n bound → HasOneEach n bound
bound_one e n None is = tt
bound_one e n (Some ks) is = is.one_each

numbers_of : (study : Study) (terms : Terms) (state : State) → IsStanding study terms state → AreWithin (10 ^ 29 + state.iteration * 10 ^ 29) (length study.variables.labels) state.x
numbers_of study terms state is = record { each = is.numbers; long = is.one_each }

pub search_state : (study : Study) (terms : Terms) (state : State) → IsSound study → IsOfTerms study terms → IsStanding study terms state → IsSearchState study.variables state
search_state study terms state sound of is = record {
  one_each = is.one_each;
  lower = bound_one study.unit.exponent (length study.variables.labels) study.variables.lower sound.lower;
  upper = bound_one study.unit.exponent (length study.variables.labels) study.variables.upper sound.upper;
  forward = is.forward;
  small = λ direction inside.
      let polled = poll_within (10 ^ 29 + state.iteration * 10 ^ 29) (10 ^ 29) (length study.variables.labels) state.x state.delta direction (numbers_of study terms state is) is.step in
      let few = is.few in
      let most = few_iterations study terms sound of in
      λ i d within. (let k = polled.each i d within in omega arith);
}

-- A step

half_forward : (d : ℤ) → pos 0 ≤ℤ d → pos 0 ≤ℤ int_div d (pos 2)
half_forward d h = omega (arith, ints)

iterated_forward : (at : Iterate) (points : List (List ℤ)) (values : List (List Decimal)) → pos 0 ≤ℤ at.delta → pos 0 ≤ℤ (iterated at points values).delta
iterated_forward at points values h = by (first_least values)
  where
    chosen : (i : ℕ) (b : Bool) → pos 0 ≤ℤ (if b then record { x = get_or points i []; values = get_or values i []; delta = at.delta } else contracted at).delta
    chosen i true = h
    chosen i false = half_forward at.delta h

    by : (o : Option ℕ) → pos 0 ≤ℤ (moved_or_contracted at points values o).delta
    by None = half_forward at.delta h
    by (Some i) = chosen i (is_below (get_or values i []) at.values)

-- a state whose iterate is this one
pub record StandsAt (state : State) (at : Iterate) : Type 0 where
  pub has_value : IsSome state.value
  pub x : state.x ≡ at.x
  pub delta : state.delta ≡ at.delta

stands_at : (state : State) (at : Iterate) → iterate_of state ≡ Some at → StandsAt state at
stands_at state at h = by state.value refl h
  where
    by : (o : Option Decimal) → state.value ≡ o → option_map (λ v. record { x = state.x; values = v ∷ []; delta = state.delta }) o ≡ Some at → StandsAt state at
    by None e k = absurd (cc)
    by (Some v) e k =
        let same : record { x = state.x; values = v ∷ []; delta = state.delta } ≡ at = cc in
        record { has_value = ap is_some e; x = ap (λ (i : Iterate). i.x) same; delta = ap (λ (i : Iterate). i.delta) same }

-- the iterate of a state with a value
pub record HasIterate (state : State) : Type 0 where
  pub value : Decimal
  pub is : state.value ≡ Some value

pub has_iterate : (state : State) → IsSome state.value → HasIterate state
has_iterate state some = by state.value refl some
  where
    by : (o : Option Decimal) → state.value ≡ o → IsSome o → HasIterate state
    by None e k = absurd (cc)
    by (Some v) e k = record { value = v; is = e }

abbrev pub iterate_with : State → Decimal → Iterate
iterate_with state v = record { x = state.x; values = v ∷ []; delta = state.delta }

abbrev as_iterate : State → Option Decimal → Option Iterate
as_iterate state o = option_map (λ v. iterate_with state v) o

-- what a step leaves
pub record HasStepped (study : Study) (terms : Terms) (old new : State) (v : Decimal) (values : List Decimal) : Type 0 where
  pub standing : IsStanding study terms new
  pub has_value : IsSome new.value
  pub iterate : iterate_of new ≡ Some (iterated (iterate_with old v) (polls study.variables old.x old.delta) (single values))

pub has_stepped : (study : Study) (terms : Terms) (old new : State) (values : List Decimal) (has : HasIterate old) → IsStanding study terms old → old.iteration < terms.iterations → length values ≡ length (polls study.variables old.x old.delta) →
    new.iteration ≡ old.iteration + 1 → length new.x ≡ length study.variables.labels →
    iterate_of new ≡ option_map (λ at. iterated at (polls study.variables old.x old.delta) (single values)) (iterate_of old) → HasStepped study terms old new has.value values
has_stepped study terms old new values has was left all counts long gives =
    let points : List (List ℤ) = polls study.variables old.x old.delta in
    let at : Iterate = iterate_with old has.value in
    let is : iterate_of new ≡ Some (iterated at points (single values)) = gives ∙ ap (λ (o : Option Decimal). option_map (λ (i : Iterate). iterated i points (single values)) (as_iterate old o)) has.is in
    let stands = stands_at new (iterated at points (single values)) is in
    let most : ℕ = 10 ^ 29 + old.iteration * 10 ^ 29 in
    let within : IsWithin (most + 10 ^ 29) (10 ^ 29) (length study.variables.labels) (iterated at points (single values))
    = iterated_within most (10 ^ 29) (length study.variables.labels) at points (single values) (record { x = numbers_of study terms old was; delta = was.step })
    (polls_within most (10 ^ 29) (length study.variables.labels) study.variables old.x old.delta (numbers_of study terms old was) was.step)
    (let l : length (single values) ≡ length values = length-map values _ in omega arith) in
    record {
      standing = record {
        one_each = long;
        forward = subst (λ (d : ℤ). pos 0 ≤ℤ d) (sym stands.delta) (iterated_forward at points (single values) was.forward);
        step = subst (λ (d : ℤ). unsigned_abs d ≤ 10 ^ 29) (sym stands.delta) within.delta;
        numbers = subst (λ (x : List ℤ). All (λ k. unsigned_abs k ≤ 10 ^ 29 + new.iteration * 10 ^ 29) x) (sym stands.x) (λ i d inside. (let k = within.x.each i d inside in omega arith));
        few = omega arith;
      };
      has_value = stands.has_value;
      iterate = is;
    }

-- Where the values of rows lead

-- the same, of the iterate that stands there
pub led_at : (study : Study) (terms : Terms) (state : State) (has : HasIterate state) (rows : List Row) → GoesOnFrom study terms state.iteration (iterate_of state) rows → GoesOnFrom study terms state.iteration (Some (iterate_with state has.value)) rows
led_at study terms state has rows led = subst (λ (o : Option Decimal). GoesOnFrom study terms state.iteration (as_iterate state o) rows) has.is led

pub led_stepped : (study : Study) (terms : Terms) (old new : State) (has : HasIterate old) (given behind : List Row) (values : List Decimal) → HasStepped study terms old new has.value values → new.iteration ≡ old.iteration + 1 →
    values_in behind ≡ single values → GoesOnFrom study terms old.iteration (iterate_of old) given → int_lt old.delta terms.threshold ≡ false → old.iteration < terms.iterations →
    length given + length (polls study.variables old.x old.delta) ≤ terms.evaluations → length behind ≡ length (polls study.variables old.x old.delta) →
    GoesOnFrom study terms new.iteration (iterate_of new) (given ++ behind)
led_stepped study terms old new has given behind values stepped counts same led high left room all =
    let on = led_on study terms given behind old.iteration (iterate_with old has.value) (led_at study terms old has given led) high left room all in
    let by_values = subst (λ (l : List (List Decimal)). GoesOnFrom study terms (old.iteration + 1) (Some (iterated (iterate_with old has.value) (polls study.variables old.x old.delta) l)) (given ++ behind)) same on in
    subst (λ (o : Option Iterate). GoesOnFrom study terms new.iteration o (given ++ behind)) (sym stepped.iterate)
    (subst (λ (n : ℕ). GoesOnFrom study terms n (Some (iterated (iterate_with old has.value) (polls study.variables old.x old.delta) (single values))) (given ++ behind)) (sym counts) by_values)

-- The tests

pub record NoneEnds (low done full : Bool) : Type 0 where
  pub high : low ≡ false
  pub left : done ≡ false
  pub room : full ≡ false

pub none_ends : (low done full : Bool) → end_of low done full ≡ None → NoneEnds low done full
none_ends true done full h = absurd (cc)
none_ends false true full h = absurd (cc)
none_ends false false true h = absurd (cc)
none_ends false false false h = record { high = refl; left = refl; room = refl }

-- What is handed out

pub no_points : (points : List (List ℤ)) → length points ≡ 0 → points ≡ []
no_points [] h = refl
no_points (p ∷ points) h = absurd (omega arith)

pub handed_none : (study : Study) (before : ℕ) (s : Search) → s.polls.rows ≡ [] → IsSome s.state.value → HandedOut study before s s.state.value
handed_none study before s none some = by s.state.value some
  where
    by : (o : Option Decimal) → IsSome o → HandedOut study before s o
    by None k = absurd (cc)
    by (Some v) k = inl none

pub handed_polls : (study : Study) (before : ℕ) (s : Search) → IsUnderWay study before s → IsSome s.state.value → HandedOut study before s s.state.value
handed_polls study before s way some = by s.state.value some
  where
    by : (o : Option Decimal) → IsSome o → HandedOut study before s o
    by None k = absurd (cc)
    by (Some v) k = inr way

-- before the first value
pub at_start : (study : Study) (before : ℕ) (s : Search) (o : Option Decimal) → is_some o ≡ false → HandedOut study before s o → IsAtStart study before s
at_start study before s None none h = h
at_start study before s (Some v) none h = absurd (cc)

pub led_none : (study : Study) (terms : Terms) (state : State) (rows : List Row) → is_some state.value ≡ false → GoesOnFrom study terms state.iteration (iterate_of state) rows → rows ≡ []
led_none study terms state rows none led = by state.value none led
  where
    by : (o : Option Decimal) → is_some o ≡ false → GoesOnFrom study terms state.iteration (as_iterate state o) rows → rows ≡ []
    by None k h = h
    by (Some v) k h = absurd (cc)

-- the initial point is handed out
pub first_handed : (study : Study) (before : ℕ) (s : Search) → IsAtStart study before s → (length s.polls.rows ≡ 0 → ⊥) → length s.polls.rows ≡ 1
first_handed study before s start some = elim start.handed [
  | inl e ↦ absurd (some (ap length e))
  | inr e ↦ ap length e
]

-- behind it, where polls are handed out
pub under_way : (study : Study) (before : ℕ) (s : Search) (o : Option Decimal) → is_some o ≡ true → (length s.polls.rows ≡ 0 → ⊥) → HandedOut study before s o → IsUnderWay study before s
under_way study before s None has some h = absurd (cc)
under_way study before s (Some v) has some (inl e) = absurd (some (ap length e))
under_way study before s (Some v) has some (inr way) = way

pub one_response : (study : Study) (terms : Terms) → IsSound study → IsOfTerms study terms → length study.responses.labels ≡ 1
one_response study terms sound is =
    let m : IsSoundMethod study.unit.exponent study.variables study.responses (method.Compass terms.delta terms.threshold terms.iterations terms.evaluations)
    = subst (IsSoundMethod study.unit.exponent study.variables study.responses) is sound.method in
    m.5

-- as many polls as points
pub polls_count : (study : Study) (before : ℕ) (s : Search) → IsUnderWay study before s → length s.polls.rows ≡ length (polls study.variables s.state.x s.state.delta)
polls_count study before s way = ap length way.handed ∙ length-map (polls study.variables s.state.x s.state.delta) (map (in_units study.unit.exponent))

-- a pool behind polls that were put into it
pub polls_long : (study : Study) (rows old : List (List Decimal)) (points : List (List ℤ)) (made spare before : ℕ) → rows ≡ old ++ as_decimals study points → made ≡ length points → spare + made ≡ before → old ≡ [] → length rows + spare ≡ length old + before
polls_long study rows old points made spare before is count takes none =
    let a = ap length is ∙ length-append old (as_decimals study points) in
    let b : length (as_decimals study points) ≡ length points = length-map points (map (in_units study.unit.exponent)) in
    let c = ap length none in
    omega arith
