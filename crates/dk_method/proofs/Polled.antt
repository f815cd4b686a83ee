-- The polls of an iteration, each in its direction and at its place.
use Rattle.std.proofs.Common.{◌≡◌, ℕ, zero, suc, ◌*◌, ◌<◌, Bool, true, false, List, [], ◌∷◌, length, get_or, refl, sym, ap, subst, ◌∙◌, arith, cond, ℤ}
use Rattle.std.specs.Prelude.{IsTrue}
use Rattle.std.specs.List.{filter, range_with_len}
use Rattle.std.proofs.lemmas.List.{length-map, get_or-map}
use Rattle.std.proofs.lemmas.List.Elements.{All-get_or, All-filter, filter_passes}
use Rattle.std.proofs.lemmas.List.FromFn.{length-range_with_len, get_or-range_with_len}
use Rattle.dk_types.specs.declared.study.Variables.{Variables}
use Rattle.dk_types.specs.Search.{poll_at, keeps_bounds, directions, polls}

-- an element that stands in a list
pub record IsIn {X : Type 0} (xs : List X) (d x : X) : Type 0 where
  pub place : ℕ
  pub within : place < length xs
  pub is : get_or xs place d ≡ x

-- an element that passes is kept
kept_at : {X : Type 0} (test : X → Bool) (xs : List X) (i : ℕ) (d : X) → i < length xs → test (get_or xs i d) ≡ true → IsIn (filter test xs) d (get_or xs i d)
kept_at test [] i d within passes = absurd (omega arith)
kept_at {X} test (x ∷ xs) zero d within passes =
    subst (λ (b : Bool). IsIn (cond b (x ∷ filter test xs) (filter test xs)) d x) (sym passes) (record { place = 0; within = omega arith; is = refl })
kept_at {X} test (x ∷ xs) (suc i) d within passes = at (test x) (kept_at test xs i d (omega arith) passes)
  where
    at : (b : Bool) → IsIn (filter test xs) d (get_or xs i d) → IsIn (cond b (x ∷ filter test xs) (filter test xs)) d (get_or xs i d)
    at true k = record { place = suc k.place; within = (let w = k.within in omega arith); is = k.is }
    at false k = k

-- a step away in one direction, within the bounds
pub record IsPollOf (variables : Variables) (x : List ℤ) (delta : ℤ) (p : List ℤ) : Type 0 where
  pub direction : ℕ
  pub among : direction < 2 * length x
  pub is : p ≡ poll_at x delta direction
  pub keeps : IsTrue (keeps_bounds variables (poll_at x delta direction))

-- each poll is
pub poll_of : (variables : Variables) (x : List ℤ) (delta : ℤ) (j : ℕ) → j < length (polls variables x delta) → IsPollOf variables x delta (get_or (polls variables x delta) j [])
poll_of variables x delta j within =
    let long = length-map (directions variables x delta) (poll_at x delta) in
    let inside : j < length (directions variables x delta) = omega arith in
    record {
      direction = get_or (directions variables x delta) j 0;
      among = All-get_or (λ d. d < 2 * length x) (directions variables x delta) j 0 inside (All-filter keeps (λ d. d < 2 * length x) all below);
      is = get_or-map (poll_at x delta) (directions variables x delta) j 0 [] inside;
      keeps = All-get_or (λ d. keeps d ≡ true) (directions variables x delta) j 0 inside (filter_passes keeps all);
    }
  where
    keeps : ℕ → Bool
    keeps d = keeps_bounds variables (poll_at x delta d)

    all : List ℕ
    all = range_with_len 0 (2 * length x)

    below : (k d : ℕ) → k < length all → get_or all k d < 2 * length x
    below k d l = let n = length-range_with_len 0 (2 * length x) in let e = get_or-range_with_len 0 (2 * length x) k d (omega arith) in omega arith

-- and what is so is a poll
pub poll_in : (variables : Variables) (x : List ℤ) (delta : ℤ) (direction : ℕ) → direction < 2 * length x → IsTrue (keeps_bounds variables (poll_at x delta direction)) →
    IsIn (polls variables x delta) [] (poll_at x delta direction)
poll_in variables x delta direction among keeps =
    let n = length-range_with_len 0 (2 * length x) in
    let at : get_or (range_with_len 0 (2 * length x)) direction 0 ≡ direction = (let e = get_or-range_with_len 0 (2 * length x) direction 0 among in omega arith) in
    let k : IsIn (directions variables x delta) 0 (get_or (range_with_len 0 (2 * length x)) direction 0)
    = kept_at (λ d. keeps_bounds variables (poll_at x delta d)) (range_with_len 0 (2 * length x)) direction 0 (omega arith) (ap (λ d. keeps_bounds variables (poll_at x delta d)) at ∙ keeps) in
    let long = length-map (directions variables x delta) (poll_at x delta) in
    let w = k.within in
    record {
      place = k.place;
      within = omega arith;
      is = get_or-map (poll_at x delta) (directions variables x delta) k.place 0 [] k.within ∙ ap (poll_at x delta) (k.is ∙ at);
    }
