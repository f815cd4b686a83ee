-- The first fault of a list of checks.
use Rattle.std.proofs.Common.{◌≡◌, ℕ, suc, ◌+◌, ◌-◌, ◌<◌, List, [], ◌∷◌, ◌++◌, length, drop, get_or, refl, sym, ap, ◌∙◌, arith}
use Rattle.std.specs.Prelude.{Bool, true, false, Option, Some, None, find}
use Rattle.std.specs.List.{flat_map, range_with_len}
use Rattle.std.specs.Option.{option_or, option_map}
use Rattle.std.proofs.Math.Seq.{drop-cons}
use Rattle.dk_grammar.specs.Lists.{first, when}
use Rattle.dk_reader.specs.declared.fault.StudyFault.{StudyFault}
use Rattle.dk_reader.specs.Steps.{Faults}

-- what comes behind faults that there aren't
pub first_behind : (a b : Faults) → None ≡ first a → first (a ++ b) ≡ first b
first_behind [] b e = refl
first_behind (x ∷ xs) b e = absurd (cc)

-- the first of several lists is that of the first which has one
pub first_front : (a b : Faults) (f : StudyFault) → Some f ≡ first a → Some f ≡ first (a ++ b)
first_front [] b f e = absurd (cc)
first_front (x ∷ xs) b f e = e

-- of two lists
pub first_or : (a b : Faults) → option_or (first a) (first b) ≡ first (a ++ b)
first_or [] b = refl
first_or (x ∷ xs) b = refl

pub joined : (a b : Faults) (x y z : Option StudyFault) → x ≡ first a → y ≡ first b → z ≡ option_or x y → z ≡ first (a ++ b)
joined a b x y z front behind e = e ∙ ap (λ o. option_or o y) front ∙ ap (option_or (first a)) behind ∙ first_or a b

-- the fault at the first element that passes a test is the first of those at each
pub found_first : {X : Type 0} (p : X → Bool) (f : X → StudyFault) (xs : List X) → option_map f (find p xs) ≡ first (flat_map (λ x. when (p x) (f x)) xs)
found_first p f [] = refl
found_first p f (x ∷ xs) = by (p x) refl (found_first p f xs)
  where
    by : (t : Bool) → p x ≡ t → option_map f (find p xs) ≡ first (flat_map (λ x. when (p x) (f x)) xs) → option_map f (find p (x ∷ xs)) ≡ first (flat_map (λ x. when (p x) (f x)) (x ∷ xs))
    by true t rest = rw t refl
    by false t rest = rw t rest

module _ {X : Type 0} (check : X → Faults) (xs : List X) (i : ℕ) (x : X) (within : i < length xs) (is : x ≡ get_or xs i x) where
  left : flat_map check (drop i xs) ≡ check x ++ flat_map check (drop (i + 1) xs)
  left =
      let next : suc i ≡ i + 1 = omega arith in
      ap (flat_map check) (drop-cons xs i x within)
      ∙ ap (λ y. check y ++ flat_map check (drop (suc i) xs)) (sym is)
      ∙ ap (λ n. check x ++ flat_map check (drop n xs)) next

  -- the element has the first fault of all
  pub found_here : (f : StudyFault) (whole : Option StudyFault) → Some f ≡ first (check x) → first (flat_map check (drop i xs)) ≡ whole → Some f ≡ whole
  found_here f whole e was = first_front (check x) (flat_map check (drop (i + 1) xs)) f e ∙ ap first (sym left) ∙ was

  -- it has none
  pub none_here : (whole : Option StudyFault) → None ≡ first (check x) → first (flat_map check (drop i xs)) ≡ whole → first (flat_map check (drop (i + 1) xs)) ≡ whole
  none_here whole e was = sym (first_behind (check x) (flat_map check (drop (i + 1) xs)) e) ∙ ap first (sym left) ∙ was

module _ (check : ℕ → Faults) (j end : ℕ) (within : j < end) where
  more : flat_map check (range_with_len j (end - j)) ≡ check j ++ flat_map check (range_with_len (j + 1) (end - (j + 1)))
  more =
      let length : end - j ≡ suc (end - (j + 1)) = omega (arith, within) in
      ap (λ n. flat_map check (range_with_len j n)) length

  -- this number has the first fault of all
  pub found_at : (f : StudyFault) (whole : Option StudyFault) → Some f ≡ first (check j) → first (flat_map check (range_with_len j (end - j))) ≡ whole → Some f ≡ whole
  found_at f whole e was = first_front (check j) (flat_map check (range_with_len (j + 1) (end - (j + 1)))) f e ∙ ap first (sym more) ∙ was

  -- it has none
  pub none_at : (whole : Option StudyFault) → None ≡ first (check j) → first (flat_map check (range_with_len j (end - j))) ≡ whole → first (flat_map check (range_with_len (j + 1) (end - (j + 1)))) ≡ whole
  none_at whole e was = sym (first_behind (check j) (flat_map check (range_with_len (j + 1) (end - (j + 1)))) e) ∙ ap first (sym more) ∙ was
