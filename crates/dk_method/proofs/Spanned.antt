-- Where the points of a study begin and end, and what lies between.
use Rattle.std.proofs.Common.{◌≡◌, ◌≢◌, inl, inr, ℕ, zero, suc, ◌+◌, ◌-◌, ◌*◌, ◌/◌, ◌%◌, ◌==◌, ◌<◌, ◌≤◌, Bool, true, false, List, [], ◌∷◌, ◌++◌, length, map, take, drop, replicate, get_or, set, Option, Some, None, ap, sym, subst, ◌∙◌, refl, arith, int_lt, ℤ, pos, negsuc, neg_ℤ, ◌+ℤ◌, ◌-ℤ◌, ◌*ℤ◌, unsigned_abs, IsTrue}
use Rattle.std.specs.Prelude.{sum, unwrap_or, flat_map}
use Rattle.std.specs.List.{All, range_with_len}
use Rattle.std.proofs.Math.Nat.{mul-le-mul_right}
use Rattle.std.proofs.Math.Seq.{take-add}
use Rattle.std.proofs.lemmas.Nat.{div-mul-add}
use Rattle.std.proofs.lemmas.Bool.{cases_lt}
use Rattle.std.proofs.lemmas.Grind.{common_steps, get_or-set_at}
use Rattle.std.proofs.lemmas.Int.{ints}
use Rattle.std.proofs.lemmas.List.{ext_get_or, drop-drop, take_all, length-take-le, length-drop, length-set, get_or-set_other}
use Rattle.std.proofs.lemmas.List.Elements.{All-get_or}
use Rattle.dk_num.specs.Arithmetic.{whole_value}
use Rattle.dk_num.specs.Rounding.{rounded_quotient}
use Rattle.dk_num.specs.Units.{IsUnitExponent, in_units}
use Rattle.dk_num.proofs.Canonical.{abs_neg}
use Rattle.dk_num.proofs.Quotients.{rounded_is_nearest}
use Rattle.dk_num.proofs.UnitLaws.{units_value}
use Rattle.dk_types.specs.declared.study.Study.{Study}
use Rattle.dk_types.specs.declared.study.Variables.{Variables}
use Rattle.dk_types.specs.declared.study.Responses.{Responses}
use Rattle.dk_types.specs.declared.study.Method.{Method}
use Rattle.dk_types.specs.declared.study.Method.TheVariants as method
use Rattle.dk_types.specs.declared.study.Way.{Way}
use Rattle.dk_types.specs.declared.study.Way.TheVariants.{Step, Final}
use Rattle.dk_types.specs.Limits.{grid_size, limit_by}
use Rattle.dk_types.specs.Points.{has_points, size, point, after_steps, towards, on_the_way, around, choices, in_grid, units_by, units_at}
use Rattle.dk_types.specs.Sound.{IsSound, IsPoint, IsBound, IsBetween, IsSoundMethod}
use Rattle.dk_method.specs.declared.centered.Move.{Move}
use Rattle.dk_method.specs.Moves.{IsMove}
use Rattle.dk_method.specs.Laws.{AreChoices, place, IsMovedAlone, IsSmall, MovesOne}
use Rattle.dk_method.specs.Extents.{width, IsPartWay, IsVector, IsOneOfParts, IsGrid, IsCentered}
use Rattle.dk_method.proofs.Formulas.{steps_long, steps_at, way, way_long, way_at, towards_none, towards_some, grid_long, grid_at}
use Rattle.dk_method.proofs.Moved.{zeros_long, no_move, around_centre, around_moved}
use Rattle.dk_method.proofs.GridLaws.{grid_more, choices_there}
use Rattle.dk_method.proofs.PointLaws.{choice_few, one_moved, move_is, quantities_are_small}

-- Numbers

none_of : (z : ℤ) → pos 0 *ℤ z ≡ pos 0
none_of (pos a) = omega (arith, ints)
none_of (negsuc a) = omega (arith, ints)

one_more : (i : ℕ) (s : ℤ) → pos (i + 1) *ℤ s ≡ (pos i *ℤ s) +ℤ s
one_more i (pos a) = omega (arith, ints)
one_more i (negsuc a) = omega (arith, ints)

-- a quotient without a remainder
whole_quotient : (a d : ℕ) → 0 < d → (2 * (d * a) + d) / (2 * d) ≡ a
whole_quotient a d some = ap (λ n. n / (2 * d)) (let e : 2 * (d * a) + d ≡ a * (2 * d) + d = omega arith in e) ∙ div-mul-add a (2 * d) d (omega arith)

quotient_whole : (z : ℤ) (d : ℕ) → 0 < d → rounded_quotient (pos d *ℤ z) d ≡ z
quotient_whole (pos a) d some =
    let t : int_lt (pos (d * a)) (pos 0) ≡ false = grind (arith, common_steps) in
    rw t (ap pos (whole_quotient a d some))
quotient_whole (negsuc a) zero some = absurd (omega arith)
quotient_whole (negsuc a) (suc d) some =
    let size : unsigned_abs (pos (suc d) *ℤ negsuc a) ≡ suc d * suc a = abs_neg (suc d * suc a) in
    let t : int_lt (pos (suc d) *ℤ negsuc a) (pos 0) ≡ true = grind (arith, common_steps, ints) in
    rw (t, size) (ap (λ n. neg_ℤ (pos n)) (whole_quotient (suc a) (suc d) some))

way_first : (parts : ℕ) (from to : ℤ) → 0 < parts → on_the_way 0 parts from to ≡ from
way_first parts from to some =
    let z : rounded_quotient (pos 0 *ℤ (to -ℤ from)) parts ≡ pos 0
    = ap (λ n. rounded_quotient n parts) (none_of (to -ℤ from) ∙ (let e : pos 0 ≡ pos parts *ℤ pos 0 = omega (arith, ints) in e)) ∙ quotient_whole (pos 0) parts some in
    ap (λ q. from +ℤ q) z ∙ (let e : from +ℤ pos 0 ≡ from = omega (arith, ints) in e)

way_last : (parts : ℕ) (from to : ℤ) → 0 < parts → on_the_way parts parts from to ≡ to
way_last parts from to some = ap (λ q. from +ℤ q) (quotient_whole (to -ℤ from) parts some) ∙ (let e : from +ℤ (to -ℤ from) ≡ to = omega (arith, ints) in e)

part_way : (i parts : ℕ) (from to : ℤ) → 0 < parts → IsPartWay i parts from to (on_the_way i parts from to)
part_way i parts from to some =
    let q : ℤ = rounded_quotient (pos i *ℤ (to -ℤ from)) parts in
    rounded_is_nearest (pos i *ℤ (to -ℤ from)) parts ((from +ℤ q) -ℤ from) some (let e : (from +ℤ q) -ℤ from ≡ q = omega (arith, ints) in e)

-- Vector studies

steps_none : (from step : List ℤ) → length step ≡ length from → after_steps 0 from step ≡ from
steps_none from step along = ext_get_or (pos 0) (after_steps 0 from step) from (steps_long 0 from step along) (λ j h.
    let l = steps_long 0 from step along in
    let inside : j < length from = omega arith in
    let x : ℤ = get_or from j (pos 0) in
    let n = none_of (get_or step j (pos 0)) in
    sym (steps_at 0 from step j inside along) ∙ ap (λ z. x +ℤ z) n ∙ (let e : x +ℤ pos 0 ≡ x = omega (arith, ints) in e))

steps_next : (i : ℕ) (from step : List ℤ) (j : ℕ) → j < length from → length step ≡ length from →
    get_or (after_steps (i + 1) from step) j (pos 0) ≡ get_or (after_steps i from step) j (pos 0) +ℤ get_or step j (pos 0)
steps_next i from step j inside along =
    let x : ℤ = get_or from j (pos 0) in
    let s : ℤ = get_or step j (pos 0) in
    let p : ℤ = pos i *ℤ s in
    sym (steps_at (i + 1) from step j inside along)
    ∙ ap (λ z. x +ℤ z) (one_more i s)
    ∙ (let e : x +ℤ (p +ℤ s) ≡ (x +ℤ p) +ℤ s = omega (arith, ints) in e)
    ∙ ap (λ z. z +ℤ s) (steps_at i from step j inside along)

towards_first : (steps : ℕ) (from to : List ℤ) → length to ≡ length from → towards 0 steps from to ≡ from
towards_first zero from to along = towards_none 0 from to 0 refl
towards_first (suc steps) from to along =
    towards_some 0 (suc steps) from to (λ h. omega arith)
    ∙ ext_get_or (pos 0) (way 0 (suc steps) from to) from (way_long 0 (suc steps) from to along) (λ j h.
    let l = way_long 0 (suc steps) from to along in
    let inside : j < length from = omega arith in
    sym (way_at 0 (suc steps) from to j inside along) ∙ way_first (suc steps) (get_or from j (pos 0)) (get_or to j (pos 0)) (omega arith))

towards_last : (steps : ℕ) (from to : List ℤ) → 1 ≤ steps → length to ≡ length from → towards steps steps from to ≡ to
towards_last steps from to some along =
    towards_some steps steps from to (λ h. omega arith)
    ∙ ext_get_or (pos 0) (way steps steps from to) to (way_long steps steps from to along ∙ sym along) (λ j h.
    let l = way_long steps steps from to along in
    let inside : j < length from = omega arith in
    sym (way_at steps steps from to j inside along) ∙ way_last steps (get_or from j (pos 0)) (get_or to j (pos 0)) (omega arith))

towards_part : (i steps : ℕ) (from to : List ℤ) (j : ℕ) → 1 ≤ steps → j < length from → length to ≡ length from →
    IsPartWay i steps (get_or from j (pos 0)) (get_or to j (pos 0)) (get_or (towards i steps from to) j (pos 0))
towards_part i steps from to j some inside along =
    let same = way_at i steps from to j inside along ∙ ap (λ l. get_or l j (pos 0)) (sym (towards_some i steps from to (λ h. omega arith))) in
    subst (IsPartWay i steps (get_or from j (pos 0)) (get_or to j (pos 0))) same (part_way i steps (get_or from j (pos 0)) (get_or to j (pos 0)) (omega arith))

vector_goes_on : (study : Study) (steps : ℕ) (w : Way) → IsSound study → study.method ≡ method.Vector steps w → IsVector study steps w
vector_goes_on study steps (Step step) is e =
    let sound : IsSoundMethod study.unit.exponent study.variables study.responses (method.Vector steps (Step step))
    = subst (IsSoundMethod study.unit.exponent study.variables study.responses) e is.method in
    let along : length step ≡ length study.variables.initial = sound.1.one_each ∙ sym is.initial.one_each in
    let long = is.initial.one_each in
    let units : (i : ℕ) → units_at study i ≡ after_steps i study.variables.initial step = (λ i. ap (λ m. units_by study.variables m i) e) in
    record {
      count = ap (limit_by (width study)) e;
      begins = units 0 ∙ steps_none study.variables.initial step along;
      goes_on = λ i variable below inside.
          ap (λ l. get_or l variable (pos 0)) (units (i + 1))
          ∙ steps_next i study.variables.initial step variable (omega arith) along
          ∙ ap (λ l. get_or l variable (pos 0) +ℤ get_or step variable (pos 0)) (sym (units i));
    }
vector_goes_on study steps (Final last) is e =
    let sound : IsSoundMethod study.unit.exponent study.variables study.responses (method.Vector steps (Final last))
    = subst (IsSoundMethod study.unit.exponent study.variables study.responses) e is.method in
    let along : length last ≡ length study.variables.initial = sound.1.one_each ∙ sym is.initial.one_each in
    let long = is.initial.one_each in
    let units : (i : ℕ) → units_at study i ≡ towards i steps study.variables.initial last = (λ i. ap (λ m. units_by study.variables m i) e) in
    record {
      count = ap (limit_by (width study)) e;
      begins = units 0 ∙ towards_first steps study.variables.initial last along;
      goes_on = (
        λ some. units steps ∙ towards_last steps study.variables.initial last some along,
        λ i variable some below inside.
            subst (IsPartWay i steps (get_or study.variables.initial variable (pos 0)) (get_or last variable (pos 0))) (ap (λ l. get_or l variable (pos 0)) (sym (units i)))
            (towards_part i steps study.variables.initial last variable some (omega arith) along),
      );
    }

pub each_vector_goes_on : (study : Study) (steps : ℕ) (w : Way) → IsSound study → study.method ≡ method.Vector steps w → IsVector study steps w
each_vector_goes_on = vector_goes_on

-- List studies

-- so many rows of a list, one behind the other
rows_joined : (n : ℕ) (xs : List ℤ) (f : ℕ → List ℤ) → ((i : ℕ) → f i ≡ take n (drop (i * n) xs)) → (count i : ℕ) → flat_map f (range_with_len i count) ≡ take (count * n) (drop (i * n) xs)
rows_joined n xs f is zero i = (let e : 0 * n ≡ 0 = omega arith in ap (λ k. take k (drop (i * n) xs)) (sym e))
rows_joined n xs f is (suc count) i =
    let rest = rows_joined n xs f is count (i + 1) in
    let next : drop ((i + 1) * n) xs ≡ drop n (drop (i * n) xs) = ap (λ k. drop k xs) (let e : (i + 1) * n ≡ i * n + n = omega arith in e) ∙ sym (drop-drop n (i * n) xs) in
    ap (λ l. l ++ flat_map f (range_with_len (i + 1) count)) (is i)
    ∙ ap (λ l. take n (drop (i * n) xs) ++ l) (rest ∙ ap (take (count * n)) next)
    ∙ sym (take-add n (count * n) (drop (i * n) xs))
    ∙ ap (λ k. take k (drop (i * n) xs)) (let e : n + count * n ≡ suc count * n = omega arith in e)

pub list_is_its_numbers : (study : Study) (numbers : List ℤ) → IsSound study → study.method ≡ method.List numbers → flat_map (units_at study) (range_with_len 0 (size study)) ≡ numbers
list_is_its_numbers study numbers is e =
    let n : ℕ = width study in
    let sound : IsSoundMethod study.unit.exponent study.variables study.responses (method.List numbers)
    = subst (IsSoundMethod study.unit.exponent study.variables study.responses) e is.method in
    let count : size study ≡ length numbers / n = ap (limit_by n) e in
    let some : 1 ≤ n = is.variables.some in
    let whole : length numbers % n ≡ 0 = sound.whole in
    let all : length numbers / n * n ≡ length numbers = omega arith in
    ap (λ k. flat_map (units_at study) (range_with_len 0 k)) count
    ∙ rows_joined n numbers (units_at study) (λ i. ap (λ m. units_by study.variables m i) e) (length numbers / n) 0
    ∙ ap (λ k. take (length numbers / n * n) (drop k numbers)) (let z : 0 * n ≡ 0 = omega arith in z)
    ∙ take_all (length numbers / n * n) numbers (omega arith)

-- Grids

choice_none : (partitions : List ℕ) (j : ℕ) → get_or (choices partitions 0) j 0 ≡ 0
choice_none [] j = refl
choice_none (p ∷ partitions) zero = (let e : 0 % (p + 1) ≡ 0 = omega arith in e)
choice_none (p ∷ partitions) (suc j) = ap (λ n. get_or (choices partitions n) j 0) (let e : 0 / (p + 1) ≡ 0 = omega arith in e) ∙ choice_none partitions j

all_choices : (partitions : List ℕ) → AreChoices partitions partitions
all_choices [] = tt
all_choices (p ∷ partitions) = (omega arith, all_choices partitions)

place_last : (partitions : List ℕ) → place partitions partitions + 1 ≡ grid_size partitions
place_last [] = refl
place_last (p ∷ partitions) =
    let rest = place_last partitions in
    let more = grid_more p partitions in
    let e : p + (p + 1) * place partitions partitions + 1 ≡ (p + 1) * (place partitions partitions + 1) = omega arith in
    e ∙ ap (λ n. (p + 1) * n) rest ∙ sym more

choice_last : (partitions : List ℕ) → choices partitions (grid_size partitions - 1) ≡ partitions
choice_last partitions =
    let l = place_last partitions in
    ap (choices partitions) (let e : grid_size partitions - 1 ≡ place partitions partitions = omega arith in e) ∙ choices_there partitions partitions (all_choices partitions)

some_parts : (partitions : List ℕ) (j : ℕ) → All (IsBetween 1 10000) partitions → j < length partitions → 0 < get_or partitions j 0
some_parts partitions j are inside = let b = (All-get_or (IsBetween 1 10000) partitions j 0 inside are).0 in omega arith

grid_first : (partitions : List ℕ) (lower upper : List ℤ) → All (IsBetween 1 10000) partitions → length lower ≡ length partitions → length upper ≡ length partitions → in_grid 0 partitions lower upper ≡ lower
grid_first partitions lower upper are low high =
    let long = grid_long 0 partitions lower upper low high in
    ext_get_or (pos 0) (in_grid 0 partitions lower upper) lower (long ∙ sym low) (λ j h.
    let inside : j < length partitions = omega arith in
    sym (grid_at 0 partitions lower upper j inside low high)
    ∙ ap (λ k. on_the_way k (get_or partitions j 0) (get_or lower j (pos 0)) (get_or upper j (pos 0))) (choice_none partitions j)
    ∙ way_first (get_or partitions j 0) (get_or lower j (pos 0)) (get_or upper j (pos 0)) (some_parts partitions j are inside))

grid_last : (partitions : List ℕ) (lower upper : List ℤ) → All (IsBetween 1 10000) partitions → length lower ≡ length partitions → length upper ≡ length partitions →
    in_grid (grid_size partitions - 1) partitions lower upper ≡ upper
grid_last partitions lower upper are low high =
    let i : ℕ = grid_size partitions - 1 in
    let long = grid_long i partitions lower upper low high in
    ext_get_or (pos 0) (in_grid i partitions lower upper) upper (long ∙ sym high) (λ j h.
    let inside : j < length partitions = omega arith in
    sym (grid_at i partitions lower upper j inside low high)
    ∙ ap (λ ks. on_the_way (get_or ks j 0) (get_or partitions j 0) (get_or lower j (pos 0)) (get_or upper j (pos 0))) (choice_last partitions)
    ∙ way_last (get_or partitions j 0) (get_or lower j (pos 0)) (get_or upper j (pos 0)) (some_parts partitions j are inside))

grid_part : (i : ℕ) (partitions : List ℕ) (lower upper : List ℤ) (j : ℕ) → All (IsBetween 1 10000) partitions → j < length partitions → length lower ≡ length partitions → length upper ≡ length partitions →
    IsOneOfParts (get_or partitions j 0) (get_or lower j (pos 0)) (get_or upper j (pos 0)) (get_or (in_grid i partitions lower upper) j (pos 0))
grid_part i partitions lower upper j are inside low high = record {
  part = get_or (choices partitions i) j 0;
  within = choice_few partitions i j;
  nearest = subst (IsPartWay (get_or (choices partitions i) j 0) (get_or partitions j 0) (get_or lower j (pos 0)) (get_or upper j (pos 0))) (grid_at i partitions lower upper j inside low high)
      (part_way (get_or (choices partitions i) j 0) (get_or partitions j 0) (get_or lower j (pos 0)) (get_or upper j (pos 0)) (some_parts partitions j are inside));
}

bound_point : (e : ℤ) (n : ℕ) (bound : Option (List ℤ)) (ks : List ℤ) → bound ≡ Some ks → IsBound e n bound → IsPoint e n ks
bound_point e n None ks there is = absurd (cc)
bound_point e n (Some xs) ks there is = subst (IsPoint e n) (let same : xs ≡ ks = cc in same) is

pub grid_spans_its_bounds : (study : Study) (partitions : List ℕ) (lower upper : List ℤ) → IsSound study → study.method ≡ method.Multidim partitions →
    study.variables.lower ≡ Some lower → study.variables.upper ≡ Some upper → IsGrid study partitions lower upper
grid_spans_its_bounds study partitions lower upper is e l u =
    let n : ℕ = width study in
    let sound : IsSoundMethod study.unit.exponent study.variables study.responses (method.Multidim partitions)
    = subst (IsSoundMethod study.unit.exponent study.variables study.responses) e is.method in
    let counted : length partitions ≡ n = sound.0.one_each in
    let are = sound.0.each in
    let low : length lower ≡ length partitions = (bound_point study.unit.exponent n study.variables.lower lower l is.lower).one_each ∙ sym counted in
    let high : length upper ≡ length partitions = (bound_point study.unit.exponent n study.variables.upper upper u is.upper).one_each ∙ sym counted in
    let count : size study ≡ grid_size partitions = ap (limit_by n) e in
    let units : (i : ℕ) → units_at study i ≡ in_grid i partitions lower upper
    = (λ i. ap (λ m. units_by study.variables m i) e ∙ ap (λ b. in_grid i partitions (unwrap_or b []) (unwrap_or study.variables.upper [])) l ∙ ap (λ b. in_grid i partitions lower (unwrap_or b [])) u) in
    record {
      begins = units 0 ∙ grid_first partitions lower upper are low high;
      ends = ap (λ k. units_at study (k - 1)) count ∙ units (grid_size partitions - 1) ∙ grid_last partitions lower upper are low high;
      between = λ i variable within inside.
          subst (IsOneOfParts (get_or partitions variable 0) (get_or lower variable (pos 0)) (get_or upper variable (pos 0))) (ap (λ ks. get_or ks variable (pos 0)) (sym (units i)))
          (grid_part i partitions lower upper variable are (omega arith) low high);
    }

-- Centered studies

-- a variable that is moved alone goes no further than its count
moved_few : (counts : List ℕ) (k variable : ℕ) (steps : ℤ) → All (IsBetween 0 10000) counts → k < 2 * sum counts → variable < length counts → IsMovedAlone counts k variable steps →
    unsigned_abs steps ≤ 10000
moved_few counts k variable steps are within inside alone =
    let m = one_moved counts k within in
    let zeros : List ℤ = replicate (length counts) (pos 0) in
    let z = zeros_long (length counts) in
    let there : m.variable < length zeros = (let i = m.reach.inside in omega arith) in
    let same : set zeros variable steps ≡ set zeros m.variable m.steps = sym alone ∙ m.alone in
    let moved : get_or (set zeros variable steps) m.variable (pos 0) ≡ m.steps
    = ap (λ l. get_or l m.variable (pos 0)) same ∙ get_or-set_at zeros m.variable m.variable m.steps (pos 0) refl there in
    let most = (All-get_or (IsBetween 0 10000) counts m.variable 0 m.reach.inside are).1 in
    at (m.variable == variable) m.variable m.steps refl m.reach.few m.reach.some most moved (omega arith)
  where
    at : (b : Bool) (v : ℕ) (s : ℤ) → (v == variable) ≡ b → unsigned_abs s ≤ get_or counts v 0 → 1 ≤ unsigned_abs s → get_or counts v 0 ≤ 10000 →
        get_or (set (replicate (length counts) (pos 0)) variable steps) v (pos 0) ≡ s → variable < length (replicate (length counts) (pos 0)) → unsigned_abs steps ≤ 10000
    at true v s e few some most moved there =
        let same : v ≡ variable = grind (arith, common_steps) in
        let is : steps ≡ s = sym (get_or-set_at (replicate (length counts) (pos 0)) variable v steps (pos 0) same there) ∙ moved in
        let size : unsigned_abs steps ≡ unsigned_abs s = ap unsigned_abs is in
        omega arith
    at false v s e few some most moved there =
        let other : v ≢ variable = (λ h. let t : (v == variable) ≡ true = grind (arith, common_steps) in cc) in
        let none : pos 0 ≡ s = sym (get_or-set_other (replicate (length counts) (pos 0)) variable v steps (pos 0) other ∙ no_move (length counts) v) ∙ moved in
        let size : 0 ≡ unsigned_abs s = ap unsigned_abs none in
        absurd (omega arith)

pub centered_begins_at_its_centre : (study : Study) (step : List ℤ) (counts : List ℕ) → IsSound study → study.method ≡ method.Centered step counts → IsCentered study step counts
centered_begins_at_its_centre study step counts is e =
    let n : ℕ = width study in
    let centre : List ℤ = study.variables.initial in
    let sound : IsSoundMethod study.unit.exponent study.variables study.responses (method.Centered step counts)
    = subst (IsSoundMethod study.unit.exponent study.variables study.responses) e is.method in
    let along : length step ≡ length centre = sound.0.one_each ∙ sym is.initial.one_each in
    let counted : length counts ≡ length centre = sound.1.one_each ∙ sym is.initial.one_each in
    let units : (i : ℕ) → units_at study i ≡ around i centre step counts = (λ i. ap (λ m. units_by study.variables m i) e) in
    record {
      count = ap (limit_by n) e;
      begins = units 0 ∙ sym (around_centre 0 centre step counts refl along counted);
      moves = λ k variable steps within inside alone.
          let long = is.initial.one_each in
          let back : k + 1 - 1 ≡ k = omega arith in
          let move : Move = record { variable = variable; offset = steps } in
          units (k + 1)
          ∙ sym (around_moved (k + 1) centre step counts move (omega arith) (subst (λ i. IsMove counts i move) (sym back)
          (move_is counts k move (omega arith) (moved_few counts k variable steps sound.1.each within (omega arith) alone) alone)) along counted);
    }

-- Widths

bound_long : (e : ℤ) (n : ℕ) (bound : Option (List ℤ)) (ks : List ℤ) → bound ≡ Some ks → IsBound e n bound → length (unwrap_or bound []) ≡ n
bound_long e n None ks there is = absurd (cc)
bound_long e n (Some xs) ks there is = is.one_each

towards_long : (i steps : ℕ) (from to : List ℤ) → length to ≡ length from → length (towards i steps from to) ≡ length from
towards_long i zero from to along = ap length (towards_none i from to 0 refl)
towards_long i (suc steps) from to along = ap length (towards_some i (suc steps) from to (λ h. omega arith)) ∙ way_long i (suc steps) from to along

around_long : (i : ℕ) (centre step : List ℤ) (counts : List ℕ) → length step ≡ length centre → length counts ≡ length centre → All (IsBetween 0 10000) counts → i < 1 + 2 * sum counts →
    length (around i centre step counts) ≡ length centre
around_long i centre step counts along counted are within = elim (cases_lt 0 i) [
  | inl some ↦ moved some (one_moved counts (i - 1) (omega arith))
  | inr none ↦ sym (ap length (around_centre i centre step counts (omega arith) along counted))
]
  where
    moved : 0 < i → MovesOne counts (i - 1) → length (around i centre step counts) ≡ length centre
    moved some m =
        let move : Move = record { variable = m.variable; offset = m.steps } in
        let most = (All-get_or (IsBetween 0 10000) counts m.variable 0 m.reach.inside are).1 in
        let few = m.reach.few in
        sym (ap length (around_moved i centre step counts move some (move_is counts (i - 1) move m.reach.inside (omega arith) m.alone) along counted)) ∙ length-set _ _ _

list_long : (n i : ℕ) (points : List ℤ) → 1 ≤ n → length points % n ≡ 0 → i < length points / n → length (take n (drop (i * n) points)) ≡ n
list_long n i points some whole within =
    let d = length-drop (i * n) points in
    let all : length points / n * n ≡ length points = omega arith in
    let more : suc i * n ≤ length points / n * n = mul-le-mul_right n (let l : suc i ≤ length points / n = omega arith in l) in
    let e : suc i * n ≡ i * n + n = omega arith in
    length-take-le n (drop (i * n) points) (omega arith)

point_long : (e : ℤ) (variables : Variables) (responses : Responses) (m : Method) (i : ℕ) → 1 ≤ length variables.labels → IsPoint e (length variables.labels) variables.initial →
    IsBound e (length variables.labels) variables.lower → IsBound e (length variables.labels) variables.upper → IsSoundMethod e variables responses m → IsTrue (has_points m) →
    i < limit_by (length variables.labels) m → length (units_by variables m i) ≡ length variables.labels
point_long e variables responses (method.Vector steps (Step step)) i some initial lower upper is points within =
    steps_long i variables.initial step (is.1.one_each ∙ sym initial.one_each) ∙ initial.one_each
point_long e variables responses (method.Vector steps (Final last)) i some initial lower upper is points within =
    towards_long i steps variables.initial last (is.1.one_each ∙ sym initial.one_each) ∙ initial.one_each
point_long e variables responses (method.List numbers) i some initial lower upper is points within = list_long (length variables.labels) i numbers some is.whole within
point_long e variables responses (method.Centered step counts) i some initial lower upper is points within =
    around_long i variables.initial step counts (is.0.one_each ∙ sym initial.one_each) (is.1.one_each ∙ sym initial.one_each) is.1.each within ∙ initial.one_each
point_long e variables responses (method.Multidim partitions) i some initial lower upper is points within =
    grid_long i partitions (unwrap_or variables.lower []) (unwrap_or variables.upper [])
    (bound_long e _ variables.lower is.1.0 is.1.1 lower ∙ sym is.0.one_each) (bound_long e _ variables.upper is.2.0 is.2.1 upper ∙ sym is.0.one_each) ∙ is.0.one_each
point_long e variables responses (method.Compass delta threshold iterations evaluations) i some initial lower upper is points within = absurd (let f : false ≡ true = points in cc)

pub each_point_is_whole : (study : Study) (i : ℕ) → IsSound study → IsTrue (has_points study.method) → i < size study → length (units_at study i) ≡ width study
each_point_is_whole study i is points within =
    point_long study.unit.exponent study.variables study.responses study.method i is.variables.some is.initial is.lower is.upper is.method points within

-- Values

values_kept : (e : ℤ) (ks : List ℤ) → IsUnitExponent e → All IsSmall ks → map whole_value (map (in_units e) ks) ≡ map (λ k. whole_value (record { mantissa = k; exponent = e })) ks
values_kept e [] unit are = refl
values_kept e (k ∷ ks) unit are =
    ap (λ v. v ∷ map whole_value (map (in_units e) ks)) (units_value e k unit (are 0 (pos 0) (omega arith)))
    ∙ ap (λ vs. whole_value (record { mantissa = k; exponent = e }) ∷ vs) (values_kept e ks unit (λ j d h. are (suc j) d (omega arith)))

pub each_point_has_its_values : (study : Study) (i : ℕ) → IsSound study → IsTrue (has_points study.method) → i < size study →
    map whole_value (point study i) ≡ map (λ k. whole_value (record { mantissa = k; exponent = study.unit.exponent })) (units_at study i)
each_point_has_its_values study i is points within = values_kept study.unit.exponent (units_at study i) is.unit (quantities_are_small study i is within)
