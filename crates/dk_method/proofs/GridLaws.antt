-- Each tuple of choices has just one place in a grid.
use Rattle.std.proofs.Common.{◌≡◌, ℕ, ◌+◌, ◌*◌, ◌/◌, ◌%◌, ◌<◌, List, [], ◌∷◌, ap, sym, ◌∙◌, refl, arith}
use Rattle.std.specs.List.{fold}
use Rattle.std.proofs.Math.Nat.{mul_assoc, mul_comm, mod-add-div}
use Rattle.std.proofs.lemmas.Nat.{mul-add-lt, mod-mul-add, div-mul-add, mod_below, div_below}
use Rattle.dk_types.specs.Limits.{grid_size}
use Rattle.dk_types.specs.Points.{choices}
use Rattle.dk_method.specs.Laws.{AreChoices, place, HasEachChoice}

-- a product from some number on is that number times the product from 1 on
product_from : (start : ℕ) (partitions : List ℕ) → fold (λ product p. product * (p + 1)) start partitions ≡ start * grid_size partitions
product_from start [] = omega arith
product_from start (p ∷ partitions) =
    let one : 1 * (p + 1) ≡ p + 1 = omega arith in
    let first : grid_size (p ∷ partitions) ≡ (p + 1) * grid_size partitions = product_from (1 * (p + 1)) partitions ∙ ap (λ n. n * grid_size partitions) one in
    product_from (start * (p + 1)) partitions ∙ mul_assoc start (p + 1) (grid_size partitions) ∙ ap (λ n. start * n) (sym first)

pub grid_more : (p : ℕ) (partitions : List ℕ) → grid_size (p ∷ partitions) ≡ (p + 1) * grid_size partitions
grid_more p partitions = let one : 1 * (p + 1) ≡ p + 1 = omega arith in product_from (1 * (p + 1)) partitions ∙ ap (λ n. n * grid_size partitions) one

pub place_within : (partitions ks : List ℕ) → AreChoices partitions ks → place partitions ks < grid_size partitions
place_within [] [] are = omega arith
place_within [] (k ∷ ks) are = absurd are
place_within (p ∷ partitions) [] are = absurd are
place_within (p ∷ partitions) (k ∷ ks) are =
    let few = are.0 in
    let size = grid_more p partitions in
    let below = mul-add-lt (place partitions ks) (p + 1) k (grid_size partitions) (place_within partitions ks are.1) (omega arith) in
    let turned : (p + 1) * place partitions ks ≡ place partitions ks * (p + 1) = mul_comm (p + 1) (place partitions ks) in
    omega arith

pub choices_there : (partitions ks : List ℕ) → AreChoices partitions ks → choices partitions (place partitions ks) ≡ ks
choices_there [] [] are = refl
choices_there [] (k ∷ ks) are = absurd are
choices_there (p ∷ partitions) [] are = absurd are
choices_there (p ∷ partitions) (k ∷ ks) are =
    let few = are.0 in
    let rest : ℕ = place partitions ks in
    let turned : (p + 1) * rest ≡ rest * (p + 1) = mul_comm (p + 1) rest in
    let whole : k + (p + 1) * rest ≡ rest * (p + 1) + k = omega arith in
    let first : (k + (p + 1) * rest) % (p + 1) ≡ k = ap (λ n. n % (p + 1)) whole ∙ mod-mul-add rest (p + 1) k (omega arith) in
    let others : (k + (p + 1) * rest) / (p + 1) ≡ rest = ap (λ n. n / (p + 1)) whole ∙ div-mul-add rest (p + 1) k (omega arith) in
    ap (λ n. n ∷ choices partitions ((k + (p + 1) * rest) / (p + 1))) first
    ∙ ap (λ n. k ∷ choices partitions n) others
    ∙ ap (λ l. k ∷ l) (choices_there partitions ks are.1)

are_choices : (partitions : List ℕ) (i : ℕ) → AreChoices partitions (choices partitions i)
are_choices [] i = tt
are_choices (p ∷ partitions) i = ((let l = mod_below i (p + 1) (omega arith) in omega arith), are_choices partitions (i / (p + 1)))

place_of_choices : (partitions : List ℕ) (i : ℕ) → i < grid_size partitions → place partitions (choices partitions i) ≡ i
place_of_choices [] i within = omega arith
place_of_choices (p ∷ partitions) i within =
    let size = grid_more p partitions in
    let turned : (p + 1) * grid_size partitions ≡ grid_size partitions * (p + 1) = mul_comm (p + 1) (grid_size partitions) in
    let rest = div_below i (p + 1) (grid_size partitions) (omega arith) (omega arith) in
    ap (λ n. i % (p + 1) + (p + 1) * n) (place_of_choices partitions (i / (p + 1)) rest) ∙ mod-add-div i (p + 1)

pub each_choice_is_made_once : (partitions : List ℕ) → HasEachChoice partitions
each_choice_is_made_once partitions = record {
  once = λ ks are. record {
    within = place_within partitions ks are;
    made = choices_there partitions ks are;
    only = λ i h e. sym (place_of_choices partitions i h) ∙ ap (place partitions) e;
  };
  no_other = λ i h. record { are = are_choices partitions i; at = place_of_choices partitions i h };
}
