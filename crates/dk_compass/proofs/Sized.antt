-- How large the numbers of a search are.
use Rattle.std.proofs.Common.{◌≡◌, ℕ, ◌+◌, ◌*◌, ◌/◌, ◌%◌, ◌^◌, ◌<◌, ◌==◌, true, false, ap, sym, subst, arith, ℤ, pos, neg_ℤ, ◌+ℤ◌, ◌-ℤ◌, unsigned_abs, to_z, of_z, FitsSigned, List, length, get_or, refl, ◌∙◌, if◌then◌else◌}
use Rattle.std.specs.List.{All}
use Rattle.std.proofs.lemmas.Grind.{get_or-set_at}
use Rattle.std.proofs.lemmas.Int.{ints, to_z-of_z, fits_signed_from_abs}
use Rattle.std.proofs.lemmas.List.{length-set}
use Rattle.std.proofs.lemmas.List.Elements.{All-get_or, All-from_get_or}
use Rattle.dk_types.specs.declared.study.Variables.{Variables}
use Rattle.dk_types.specs.Search.{poll_at}
use Rattle.dk_compass.specs.declared.iterate.State.{State}
use Rattle.dk_compass.specs.States.{IsSearchState, IsSmall}
use mir.Syntax.{w128}

-- a number of less than 127 bits is read as it is
pub small_read : (n : ℤ) → unsigned_abs n < 2 ^ 127 → to_z w128 (of_z w128 n) ≡ n
small_read n small = to_z-of_z w128 n (fits_signed_from_abs w128 n small)

-- how far a variable moves in this direction
abbrev pub way : (delta : ℤ) → (direction : ℕ) → ℤ
way delta direction = if direction % 2 == 0 then delta else neg_ℤ delta

-- the number that moves is small
pub moved_small : (variables : Variables) (state : State) (direction : ℕ) → IsSearchState variables state → direction < 2 * length state.x →
    IsSmall (get_or state.x (direction / 2) (pos 0) +ℤ way state.delta direction)
moved_small variables state direction is within =
    let inside : direction / 2 < length state.x = omega arith in
    let long = length-set state.x (direction / 2) (get_or state.x (direction / 2) (pos 0) +ℤ way state.delta direction) in
    let small = All-get_or IsSmall (poll_at state.x state.delta direction) (direction / 2) (pos 0) (omega arith) (is.small direction within) in
    subst IsSmall (get_or-set_at state.x (direction / 2) (direction / 2) (get_or state.x (direction / 2) (pos 0) +ℤ way state.delta direction) (pos 0) refl inside) small

-- on and back along one variable
pub on_small : (variables : Variables) (state : State) (place : ℕ) → IsSearchState variables state → place < length state.x → IsSmall (get_or state.x place (pos 0) +ℤ state.delta)
on_small variables state place is within =
    let half : 2 * place / 2 ≡ place = omega arith in
    let even : (2 * place % 2 == 0) ≡ true = grind arith in
    let small : IsSmall (get_or state.x (2 * place / 2) (pos 0) +ℤ way state.delta (2 * place)) = moved_small variables state (2 * place) is (omega arith) in
    subst IsSmall (ap (λ p. get_or state.x p (pos 0) +ℤ way state.delta (2 * place)) half ∙ ap (λ b. get_or state.x place (pos 0) +ℤ (if b then state.delta else neg_ℤ state.delta)) even) small

pub back_small : (variables : Variables) (state : State) (place : ℕ) → IsSearchState variables state → place < length state.x → IsSmall (get_or state.x place (pos 0) +ℤ neg_ℤ state.delta)
back_small variables state place is within =
    let half : (2 * place + 1) / 2 ≡ place = omega arith in
    let odd : ((2 * place + 1) % 2 == 0) ≡ false = grind arith in
    let small : IsSmall (get_or state.x ((2 * place + 1) / 2) (pos 0) +ℤ way state.delta (2 * place + 1)) = moved_small variables state (2 * place + 1) is (omega arith) in
    subst IsSmall (ap (λ p. get_or state.x p (pos 0) +ℤ way state.delta (2 * place + 1)) half ∙ ap (λ b. get_or state.x place (pos 0) +ℤ (if b then state.delta else neg_ℤ state.delta)) odd) small

-- the iterate lies between two polls
pub iterate_small : (variables : Variables) (state : State) → IsSearchState variables state → All IsSmall state.x
iterate_small variables state is = All-from_get_or IsSmall state.x (pos 0) (λ k h. let on = on_small variables state k is h in let back = back_small variables state k is h in omega (arith, ints))

-- and so the step is small, where there is a variable
pub step_small : (variables : Variables) (state : State) (place : ℕ) → IsSearchState variables state → place < length state.x → IsSmall state.delta
step_small variables state place is within = let on = on_small variables state place is within in let back = back_small variables state place is within in omega (arith, ints)

-- what is read of the iterate and of the step
record IsRead (state : State) (direction : ℕ) (x : List ℤ) : Type 0 where
  number : to_z w128 (of_z w128 (get_or x (direction / 2) (pos 0))) ≡ get_or state.x (direction / 2) (pos 0)
  delta : to_z w128 (of_z w128 state.delta) ≡ state.delta
  on : IsSmall (get_or state.x (direction / 2) (pos 0) +ℤ state.delta)
  back : IsSmall (get_or state.x (direction / 2) (pos 0) -ℤ state.delta)

read : (variables : Variables) (state : State) (direction : ℕ) (x : List ℤ) → x ≡ state.x → IsSearchState variables state → direction < 2 * length state.x → IsRead state direction x
read variables state direction x same is within =
    let inside : direction / 2 < length state.x = omega arith in
    let on = on_small variables state (direction / 2) is inside in
    let back = back_small variables state (direction / 2) is inside in
    let number : IsSmall (get_or state.x (direction / 2) (pos 0)) = omega (arith, ints) in
    let step : IsSmall state.delta = step_small variables state (direction / 2) is inside in
    record {
      number = ap (λ l. to_z w128 (of_z w128 (get_or l (direction / 2) (pos 0)))) same ∙ small_read (get_or state.x (direction / 2) (pos 0)) (omega arith);
      delta = small_read state.delta (omega arith);
      on = on;
      back = omega (arith, ints);
    }

pub on_fits : (variables : Variables) (state : State) (direction : ℕ) (x : List ℤ) → x ≡ state.x → IsSearchState variables state → direction < 2 * length state.x →
    FitsSigned w128 (to_z w128 (of_z w128 (get_or x (direction / 2) (pos 0))) +ℤ to_z w128 (of_z w128 state.delta))
on_fits variables state direction x same is within =
    let r = read variables state direction x same is within in
    let small = r.on in
    rw (r.number, r.delta) (fits_signed_from_abs w128 _ (omega arith))

pub back_fits : (variables : Variables) (state : State) (direction : ℕ) (x : List ℤ) → x ≡ state.x → IsSearchState variables state → direction < 2 * length state.x →
    FitsSigned w128 (to_z w128 (of_z w128 (get_or x (direction / 2) (pos 0))) -ℤ to_z w128 (of_z w128 state.delta))
back_fits variables state direction x same is within =
    let r = read variables state direction x same is within in
    let small = r.back in
    rw (r.number, r.delta) (fits_signed_from_abs w128 _ (omega arith))

-- the number that is made of them
pub on_made : (variables : Variables) (state : State) (direction : ℕ) (x : List ℤ) → x ≡ state.x → IsSearchState variables state → direction < 2 * length state.x → direction % 2 ≡ 0 →
    to_z w128 (of_z w128 (to_z w128 (of_z w128 (get_or x (direction / 2) (pos 0))) +ℤ to_z w128 (of_z w128 state.delta))) ≡ get_or state.x (direction / 2) (pos 0) +ℤ way state.delta direction
on_made variables state direction x same is within even =
    let r = read variables state direction x same is within in
    let small = r.on in
    let turn : (direction % 2 == 0) ≡ true = grind arith in
    rw (r.number, r.delta, small_read (get_or state.x (direction / 2) (pos 0) +ℤ state.delta) (omega arith)) (ap (λ b. get_or state.x (direction / 2) (pos 0) +ℤ (if b then state.delta else neg_ℤ state.delta)) (sym turn))

pub back_made : (variables : Variables) (state : State) (direction : ℕ) (x : List ℤ) → x ≡ state.x → IsSearchState variables state → direction < 2 * length state.x → (direction % 2 ≡ 0 → ⊥) →
    to_z w128 (of_z w128 (to_z w128 (of_z w128 (get_or x (direction / 2) (pos 0))) -ℤ to_z w128 (of_z w128 state.delta))) ≡ get_or state.x (direction / 2) (pos 0) +ℤ way state.delta direction
back_made variables state direction x same is within odd =
    let r = read variables state direction x same is within in
    let small = r.back in
    let turn : (direction % 2 == 0) ≡ false = grind arith in
    let sum : get_or state.x (direction / 2) (pos 0) -ℤ state.delta ≡ get_or state.x (direction / 2) (pos 0) +ℤ neg_ℤ state.delta = omega (arith, ints) in
    rw (r.number, r.delta, small_read (get_or state.x (direction / 2) (pos 0) -ℤ state.delta) (omega arith)) (sum ∙ ap (λ b. get_or state.x (direction / 2) (pos 0) +ℤ (if b then state.delta else neg_ℤ state.delta)) (sym turn))
