-- Look-ups in the code's rows are look-ups in the table of words.
use Rattle.std.proofs.Common.{◌≡◌, Bool, true, false, cond, List, [], ◌∷◌, map, refl, ap}
use Rattle.std.specs.Prelude.{Some, ◌||◌, find}
use Rattle.std.specs.List.{list_any}
use Rattle.std.specs.Option.{option_map}

module _ {X Y : Type 0} (h : X → Y) (p : Y → Bool) where
  -- a test of rows is a test of what they stand for
  pub list_any-map : (xs : List X) → list_any p (map h xs) ≡ list_any (λ x. p (h x)) xs
  list_any-map [] = refl
  list_any-map (x ∷ xs) = ap (λ b. p (h x) || b) (list_any-map xs)

  -- the first row that passes stands for the first that does
  pub find-map : {Z : Type 0} (f : Y → Z) (xs : List X) → option_map f (find p (map h xs)) ≡ option_map (λ x. f (h x)) (find (λ x. p (h x)) xs)
  find-map f [] = refl
  find-map f (x ∷ xs) = by (p (h x)) (find-map f xs)
    where
      by : (b : Bool) → option_map f (find p (map h xs)) ≡ option_map (λ x. f (h x)) (find (λ x. p (h x)) xs) →
          option_map f (cond b (Some (h x)) (find p (map h xs))) ≡ option_map (λ x. f (h x)) (cond b (Some x) (find (λ x. p (h x)) xs))
      by true e = refl
      by false e = e
