-- Each number of the point that comes next is small, in a study of any method.
use Rattle.std.proofs.Common.{◌≡◌, ◌⊎◌, inl, inr, ℕ, zero, suc, ◌+◌, ◌*◌, ◌/◌, ◌%◌, ◌==◌, ◌^◌, ◌<◌, ◌≤◌, Bool, true, false, List, [], ◌∷◌, length, map, take, drop, get_or, Option, Some, None, refl, sym, ap, subst, ◌∙◌, arith, ℤ, pos, neg_ℤ, ◌+ℤ◌, unsigned_abs, nat_lt, if◌then◌else◌}
use Rattle.std.specs.Prelude.{IsTrue, int_lt, int_div}
use Rattle.std.specs.List.{All}
use Rattle.std.proofs.lemmas.Bool.{cases_lt}
use Rattle.std.proofs.lemmas.Grind.{common_steps}
use Rattle.std.proofs.lemmas.Int.{ints}
use Rattle.std.proofs.lemmas.List.{length-set, length-take, get_or_past}
use Rattle.std.proofs.lemmas.List.Elements.{All-get_or, All-set, All-map, All-drop, All-head}
use Rattle.std.proofs.lemmas.List.Quantifiers.{position-Some}
use Rattle.dk_num.specs.Decimal.{Decimal}
use Rattle.dk_num.specs.Units.{in_units}
use Rattle.dk_num.proofs.Canonical.{abs_div}
use Rattle.dk_types.specs.declared.study.Study.{Study}
use Rattle.dk_types.specs.declared.study.Variables.{Variables}
use Rattle.dk_types.specs.declared.study.Method.{Method}
use Rattle.dk_types.specs.declared.study.Method.TheVariants as method
use Rattle.dk_types.specs.declared.study.Why.TheVariants.{Threshold, Iterations, Evaluations}
use Rattle.dk_types.specs.declared.rows.Row.{Row}
use Rattle.dk_types.specs.Best.{is_below}
use Rattle.dk_types.specs.Points.{has_points, point, size, units_at}
use Rattle.dk_types.specs.Search.{poll_at, directions, polls, Iterate, contracted, first_least, moved_or_contracted, iterated, Found, Poll, Ends, unless_polls_wait, search_from, search}
use Rattle.dk_types.specs.Planned.{At, next, next_by, next_found, values_in}
use Rattle.dk_types.specs.Sound.{IsSound, IsPoint, IsSoundMethod}
use Rattle.dk_types.proofs.Following.{next_at, next_over}
use Rattle.dk_method.specs.Laws.{IsSmall}
use Rattle.dk_method.proofs.Quantities.{abs_sum_le}
use Rattle.dk_method.proofs.PointLaws.{quantities_are_small}
use Rattle.dk_method.proofs.Spanned.{each_point_is_whole}

-- How far a search gets

-- so many numbers, none of them larger than this
pub record AreWithin (most variables : ℕ) (ks : List ℤ) : Type 0 where
  pub each : All (λ k. unsigned_abs k ≤ most) ks
  pub long : length ks ≡ variables

number_within : (most : ℕ) (ks : List ℤ) (place : ℕ) → All (λ k. unsigned_abs k ≤ most) ks → unsigned_abs (get_or ks place (pos 0)) ≤ most
number_within most ks place are = elim (cases_lt place (length ks)) [
  | inl l ↦ All-get_or (λ k. unsigned_abs k ≤ most) ks place (pos 0) l are
  | inr l ↦ (let e : get_or ks place (pos 0) ≡ pos 0 = get_or_past ks place (pos 0) l in let s = ap unsigned_abs e in omega arith)
]

turned_size : (b : Bool) (delta : ℤ) → unsigned_abs (if b then delta else neg_ℤ delta) ≡ unsigned_abs delta
turned_size true delta = refl
turned_size false delta = omega (arith, ints)

-- a poll is one step away
pub poll_within : (most step variables : ℕ) (x : List ℤ) (delta : ℤ) (direction : ℕ) → AreWithin most variables x → unsigned_abs delta ≤ step → AreWithin (most + step) variables (poll_at x delta direction)
poll_within most step variables x delta direction are few =
    let way : ℤ = if direction % 2 == 0 then delta else neg_ℤ delta in
    let size : unsigned_abs way ≡ unsigned_abs delta = turned_size (direction % 2 == 0) delta in
    let from = number_within most x (direction / 2) are.each in
    let sum = abs_sum_le (get_or x (direction / 2) (pos 0)) way in
    record {
      each = All-set (λ k. unsigned_abs k ≤ most + step) x (direction / 2) (get_or x (direction / 2) (pos 0) +ℤ way) (omega arith) (λ i d inside. let k = are.each i d inside in omega arith);
      long = length-set x (direction / 2) (get_or x (direction / 2) (pos 0) +ℤ way) ∙ are.long;
    }

pub polls_within : (most step count : ℕ) (variables : Variables) (x : List ℤ) (delta : ℤ) → AreWithin most count x → unsigned_abs delta ≤ step → All (AreWithin (most + step) count) (polls variables x delta)
polls_within most step count variables x delta are few =
    All-map (AreWithin (most + step) count) (poll_at x delta) (directions variables x delta) (λ i d inside. poll_within most step count x delta (get_or (directions variables x delta) i d) are few)

-- an iterate from which no number is further, with its step
pub record IsWithin (most step variables : ℕ) (at : Iterate) : Type 0 where
  pub x : AreWithin most variables at.x
  pub delta : unsigned_abs at.delta ≤ step

contracted_within : (most step count : ℕ) (at : Iterate) → IsWithin most step count at → IsWithin (most + step) step count (contracted at)
contracted_within most step count at is = record {
  x = record { each = λ i d inside. (let k = is.x.each i d inside in omega arith); long = is.x.long };
  delta = (let half : unsigned_abs (int_div at.delta (pos 2)) ≡ unsigned_abs at.delta / 2 = abs_div at.delta 2 in let d = is.delta in omega arith);
}

-- an iteration leads to one of its polls, or stays and contracts
moved_within : (most step count : ℕ) (at : Iterate) (points : List (List ℤ)) (values : List (List Decimal)) (place : Option ℕ) → IsWithin most step count at → All (AreWithin (most + step) count) points →
    ((i : ℕ) → place ≡ Some i → i < length points) → IsWithin (most + step) step count (moved_or_contracted at points values place)
moved_within most step count at points values None is are inside = contracted_within most step count at is
moved_within most step count at points values (Some i) is are inside = by (is_below (get_or values i []) at.values)
  where
    by : (b : Bool) → IsWithin (most + step) step count (if b then record { x = get_or points i []; values = get_or values i []; delta = at.delta } else contracted at)
    by true = record { x = All-get_or (AreWithin (most + step) count) points i [] (inside i refl) are; delta = is.delta }
    by false = contracted_within most step count at is

pub iterated_within : (most step count : ℕ) (at : Iterate) (points : List (List ℤ)) (values : List (List Decimal)) → IsWithin most step count at → All (AreWithin (most + step) count) points →
    length values ≤ length points → IsWithin (most + step) step count (iterated at points values)
iterated_within most step count at points values is are few =
    moved_within most step count at points values (first_least values) is are (λ i e. let l = (position-Some _ values i [] e).0 in omega arith)

-- a turn of a search, by its tests, the polls that have no values, and what comes behind the iteration
abbrev turn : (low full : Bool) → (waiting : List (List ℤ)) → (next : Found) → Found
turn low full waiting next = if low then Ends Threshold else if full then Ends Evaluations else unless_polls_wait waiting next

-- one that finds a poll
poll_turn : (low full : Bool) (waiting : List (List ℤ)) (next : Found) (p : List ℤ) (behind : List (List ℤ)) → turn low full waiting next ≡ Poll p behind → (waiting ≡ p ∷ behind) ⊎ (next ≡ Poll p behind)
poll_turn true full waiting next p behind h = absurd (cc)
poll_turn false true waiting next p behind h = absurd (cc)
poll_turn false false [] next p behind h = inr h
poll_turn false false (q ∷ waiting) next p behind h = inl (let a : q ≡ p = cc in let b : waiting ≡ behind = cc in ap (λ (x : List ℤ). x ∷ waiting) a ∙ ap (λ l. p ∷ l) b)

-- with so many iterations left a search gets so many steps further
found_within : (variables : Variables) (threshold : ℤ) (evaluations left rows : ℕ) (at : Iterate) (values : List (List Decimal)) (p : List ℤ) (behind : List (List ℤ)) (most count : ℕ) →
    IsWithin most (10 ^ 29) count at → search_from variables threshold evaluations left rows at values ≡ Poll p behind → AreWithin (most + left * 10 ^ 29) count p
found_within variables threshold evaluations zero rows at values p behind most count is h = never (int_lt at.delta threshold) h
  where
    never : (low : Bool) → (if low then Ends Threshold else Ends Iterations) ≡ Poll p behind → AreWithin (most + zero * 10 ^ 29) count p
    never true e = absurd (cc)
    never false e = absurd (cc)
found_within variables threshold evaluations (suc left) rows at values p behind most count is h =
    elim t [
      | inl e ↦ waits e
      | inr e ↦ further (found_within variables threshold evaluations left (rows + length points) (iterated at points (take (length points) values)) (drop (length points) values) p behind (most + 10 ^ 29) count onward e)
    ]
  where
    points : List (List ℤ)
    points = polls variables at.x at.delta

    t : (drop (length values) points ≡ p ∷ behind) ⊎ (search_from variables threshold evaluations left (rows + length points) (iterated at points (take (length points) values)) (drop (length points) values) ≡ Poll p behind)
    t = poll_turn (int_lt at.delta threshold) (nat_lt evaluations (rows + length points)) (drop (length values) points)
        (search_from variables threshold evaluations left (rows + length points) (iterated at points (take (length points) values)) (drop (length points) values)) p behind h

    are : All (AreWithin (most + 10 ^ 29) count) points
    are = polls_within most (10 ^ 29) count variables at.x at.delta is.x is.delta

    onward : IsWithin (most + 10 ^ 29) (10 ^ 29) count (iterated at points (take (length points) values))
    onward = iterated_within most (10 ^ 29) count at points (take (length points) values) is are (let l = length-take (length points) values in omega arith)

    waits : drop (length values) points ≡ p ∷ behind → AreWithin (most + suc left * 10 ^ 29) count p
    waits e =
        let one : AreWithin (most + 10 ^ 29) count p
        = All-head (AreWithin (most + 10 ^ 29) count) p behind (subst (All (AreWithin (most + 10 ^ 29) count)) e (All-drop (AreWithin (most + 10 ^ 29) count) (length values) points are)) in
        record { each = λ i d inside. (let k = one.each i d inside in omega arith); long = one.long }

    further : AreWithin (most + 10 ^ 29 + left * 10 ^ 29) count p → AreWithin (most + suc left * 10 ^ 29) count p
    further one = record { each = λ i d inside. (let k = one.each i d inside in omega arith); long = one.long }

pub numbers_within : (e : ℤ) (n : ℕ) (ks : List ℤ) → IsPoint e n ks → AreWithin (10 ^ 29) n ks
numbers_within e n ks are = record { each = λ i d inside. (let k = (are.each i d inside).few in omega arith); long = are.one_each }

search_small : (e : ℤ) (n : ℕ) (variables : Variables) (delta threshold : ℤ) (iterations evaluations : ℕ) (values : List (List Decimal)) (p : List ℤ) (behind : List (List ℤ)) →
    IsPoint e n variables.initial → unsigned_abs delta < 10 ^ 29 → iterations ≤ 10000 → search variables delta threshold iterations evaluations values ≡ Poll p behind → AreWithin (10001 * 10 ^ 29) n p
search_small e n variables delta threshold iterations evaluations [] p behind initial step few h =
    let same : variables.initial ≡ p = cc in
    let is = subst (AreWithin (10 ^ 29) n) same (numbers_within e n variables.initial initial) in
    record { each = λ i d inside. (let k = is.each i d inside in omega arith); long = is.long }
search_small e n variables delta threshold iterations evaluations (v ∷ values) p behind initial step few h =
    let is : AreWithin (10 ^ 29 + iterations * 10 ^ 29) n p
    = found_within variables threshold evaluations iterations 1 (record { x = variables.initial; values = v; delta = delta }) values p behind (10 ^ 29) n
    (record { x = numbers_within e n variables.initial initial; delta = omega arith }) h in
    record { each = λ i d inside. (let k = is.each i d inside in omega arith); long = is.long }

-- What comes next

-- a point's decimals are small numbers of the unit, one for each variable
pub record IsOfUnits (study : Study) (p : List Decimal) : Type 0 where
  pub units : List ℤ
  pub is : p ≡ map (in_units study.unit.exponent) units
  pub long : length units ≡ length study.variables.labels
  pub small : All IsSmall units

small_known : (study : Study) (rows : List Row) (p : List Decimal) → IsSound study → IsTrue (has_points study.method) → next study rows ≡ At p → IsOfUnits study p
small_known study rows p sound known h = at (nat_lt (length rows) (size study)) refl
  where
    at : (b : Bool) → nat_lt (length rows) (size study) ≡ b → IsOfUnits study p
    at true e =
        let k = next_at study rows known e in
        let left : length rows < size study = grind (arith, common_steps) in
        record {
          units = units_at study (length rows);
          is = (let same : p ≡ point study (length rows) = cc in same);
          long = each_point_is_whole study (length rows) sound known left;
          small = quantities_are_small study (length rows) sound left;
        }
    at false e = absurd (let k = next_over study rows known e in cc)

small_search : (study : Study) (rows : List Row) (p : List Decimal) (delta threshold : ℤ) (iterations evaluations : ℕ) → IsSound study → study.method ≡ method.Compass delta threshold iterations evaluations →
    next study rows ≡ At p → IsOfUnits study p
small_search study rows p delta threshold iterations evaluations sound is h =
    at (search study.variables delta threshold iterations evaluations (values_in rows)) refl (sym (ap (next_by study rows) is) ∙ h)
  where
    of_method : IsSoundMethod study.unit.exponent study.variables study.responses (method.Compass delta threshold iterations evaluations)
    of_method = subst (IsSoundMethod study.unit.exponent study.variables study.responses) is sound.method

    at : (found : Found) → search study.variables delta threshold iterations evaluations (values_in rows) ≡ found → next_found study.unit.exponent found ≡ At p → IsOfUnits study p
    at (Poll q behind) e k =
        let are = search_small study.unit.exponent (length study.variables.labels) study.variables delta threshold iterations evaluations (values_in rows) q behind sound.initial of_method.0.number.few of_method.2 e in
        record {
          units = q;
          is = (let same : p ≡ map (in_units study.unit.exponent) q = cc in same);
          long = are.long;
          small = λ i d inside. (let w = are.each i d inside in omega arith);
        }
    at (Ends why) e k = absurd (cc)

pub each_next_is_small : (study : Study) (rows : List Row) (p : List Decimal) → IsSound study → next study rows ≡ At p → IsOfUnits study p
each_next_is_small study rows p sound h = at study.method refl
  where
    at : (m : Method) → study.method ≡ m → IsOfUnits study p
    at (method.Vector steps way) is = small_known study rows p sound (ap has_points is) h
    at (method.List numbers) is = small_known study rows p sound (ap has_points is) h
    at (method.Centered step counts) is = small_known study rows p sound (ap has_points is) h
    at (method.Multidim partitions) is = small_known study rows p sound (ap has_points is) h
    at (method.Compass delta threshold iterations evaluations) is = small_search study rows p delta threshold iterations evaluations sound is h
