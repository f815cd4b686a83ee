-- Decimals that are written one place after another.
use Rattle.std.proofs.Common.{◌≡◌, ℕ, ◌+◌, ◌<◌, ◌≤◌, List, [], ◌∷◌, ◌++◌, length, map, take, get_or, set, ap, sym, ◌∙◌, refl, arith, ℤ, pos}
use Rattle.std.proofs.lemmas.List.{take_more, take_more_set, take_all, map-append, length-set}
use Rattle.dk_num.specs.Decimal.{Decimal}
use Rattle.dk_num.specs.Units.{in_units}

-- the first places have the decimals of these numbers of units
pub record Filled (e : ℤ) (numbers : List ℤ) (out : List Decimal) (place : ℕ) : Type 0 where
  pub long : length out ≡ length numbers
  pub front : take place out ≡ map (in_units e) (take place numbers)

pub filled_none : (e : ℤ) (numbers : List ℤ) (out : List Decimal) → length out ≡ length numbers → Filled e numbers out 0
filled_none e numbers out long = record { long = long; front = refl }

pub filled_more : (e k : ℤ) (numbers : List ℤ) (out : List Decimal) (place : ℕ) (d : Decimal) → place < length numbers → d ≡ in_units e k → k ≡ get_or numbers place (pos 0) →
    Filled e numbers out place → Filled e numbers (set out place d) (place + 1)
filled_more e k numbers out place d within is at was =
    let long = was.long in
    record {
      long = length-set out place d ∙ long;
      front = take_more_set out place d (omega arith)
          ∙ ap (λ l. l ++ d ∷ []) was.front
          ∙ ap (λ x. map (in_units e) (take place numbers) ++ x ∷ []) (is ∙ ap (in_units e) at)
          ∙ sym (map-append (in_units e) (take place numbers) (get_or numbers place (pos 0) ∷ []))
          ∙ sym (ap (map (in_units e)) (take_more numbers place (pos 0) within));
    }

pub filled_all : (e : ℤ) (numbers : List ℤ) (out : List Decimal) (place : ℕ) → length numbers ≤ place → Filled e numbers out place → out ≡ map (in_units e) numbers
filled_all e numbers out place all was =
    let long = was.long in
    sym (take_all place out (omega arith)) ∙ was.front ∙ ap (map (in_units e)) (take_all place numbers all)
