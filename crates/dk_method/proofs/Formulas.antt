-- The numbers of a point, one by one.
use Rattle.std.proofs.Common.{◌≡◌, ℕ, suc, ◌+◌, ◌/◌, ◌%◌, ◌==◌, ◌<◌, ◌≤◌, false, List, [], ◌∷◌, length, map, zip, drop, get_or, ap, sym, ◌∙◌, refl, arith, ℤ, pos, ◌+ℤ◌, ◌*ℤ◌, ◌^◌, unsigned_abs, to_z, of_z}
use Rattle.std.proofs.lemmas.List.{get_or-map, length-map, drop_more, get_or-drop}
use Rattle.std.proofs.lemmas.Slice.Zip.{get_or-zip, length-zip}
use Rattle.std.proofs.lemmas.Grind.{common_steps}
use mir.Syntax.{w128}
use Rattle.std.specs.List.{All}
use Rattle.dk_types.specs.Sound.{IsNumber}
use Rattle.dk_method.proofs.Quantities.{small_read, number_read}
use Rattle.std.proofs.lemmas.Int.{ints}
use Rattle.dk_types.specs.Points.{after_steps, towards, on_the_way, choices, in_grid}

pub zip_long : {A B : Type 0} (xs : List A) (ys : List B) → length ys ≡ length xs → length (zip xs ys) ≡ length xs
zip_long xs ys along = let l = length-zip xs ys in omega arith

pub zip_within : {A B : Type 0} (xs : List A) (ys : List B) (place : ℕ) → length ys ≡ length xs → place < length xs → place < length (zip xs ys)
zip_within xs ys place along within = let l = zip_long xs ys along in omega arith

pub steps_long : (i : ℕ) (from step : List ℤ) → length step ≡ length from → length (after_steps i from step) ≡ length from
steps_long i from step along = length-map (zip from step) (λ c. c.0 +ℤ (pos i *ℤ c.1)) ∙ zip_long from step along

pub steps_at : (i : ℕ) (from step : List ℤ) (place : ℕ) → place < length from → length step ≡ length from →
    get_or from place (pos 0) +ℤ (pos i *ℤ get_or step place (pos 0)) ≡ get_or (after_steps i from step) place (pos 0)
steps_at i from step place within along =
    sym (get_or-map (λ c. c.0 +ℤ (pos i *ℤ c.1)) (zip from step) place (pos 0, pos 0) (pos 0) (zip_within from step place along within)
    ∙ ap (λ c. c.0 +ℤ (pos i *ℤ c.1)) (get_or-zip from step place (pos 0, pos 0) within (omega arith)))

-- a number that was computed of two others at a place is the point's there
pub steps_made : (e : ℤ) (i : ℕ) (from step : List ℤ) (place : ℕ) (n r : ℤ) → All (IsNumber e) from → All (IsNumber e) step → place < length from → length step ≡ length from →
    i ≤ 10000 → n ≡ pos i → unsigned_abs r < 10 ^ 34 →
    r ≡ to_z w128 (of_z w128 (get_or from place (pos 0))) +ℤ (to_z w128 (of_z w128 n) *ℤ to_z w128 (of_z w128 (get_or step place (pos 0)))) →
    to_z w128 (of_z w128 r) ≡ get_or (after_steps i from step) place (pos 0)
steps_made e i from step place n r are_from are_step within along few n_is small is =
    small_read r (omega arith) ∙ is
    ∙ rw (number_read e from place are_from within, number_read e step place are_step (omega arith), n_is, small_read (pos i) (omega (arith, ints))) refl
    ∙ steps_at i from step place within along

-- the points of a way that has steps
abbrev pub way : (i steps : ℕ) (from to : List ℤ) → List ℤ
way i steps from to = map (λ c. on_the_way i steps c.0 c.1) (zip from to)

pub towards_none : (i : ℕ) (from to : List ℤ) (steps : ℕ) → steps ≡ 0 → towards i steps from to ≡ from
towards_none i from to steps none = rw none refl

pub towards_some : (i steps : ℕ) (from to : List ℤ) → (steps ≡ 0 → ⊥) → towards i steps from to ≡ way i steps from to
towards_some i steps from to some = let t : (steps == 0) ≡ false = grind (arith, common_steps) in rw t refl

pub way_long : (i steps : ℕ) (from to : List ℤ) → length to ≡ length from → length (way i steps from to) ≡ length from
way_long i steps from to along = length-map (zip from to) (λ c. on_the_way i steps c.0 c.1) ∙ zip_long from to along

pub way_at : (i steps : ℕ) (from to : List ℤ) (place : ℕ) → place < length from → length to ≡ length from →
    on_the_way i steps (get_or from place (pos 0)) (get_or to place (pos 0)) ≡ get_or (way i steps from to) place (pos 0)
way_at i steps from to place within along =
    sym (get_or-map (λ c. on_the_way i steps c.0 c.1) (zip from to) place (pos 0, pos 0) (pos 0) (zip_within from to place along within)
    ∙ ap (λ c. on_the_way i steps c.0 c.1) (get_or-zip from to place (pos 0, pos 0) within (omega arith)))

pub choices_long : (partitions : List ℕ) (i : ℕ) → length (choices partitions i) ≡ length partitions
choices_long [] i = refl
choices_long (p ∷ partitions) i = ap suc (choices_long partitions (i / (p + 1)))

-- behind some places stand the choices of what is left of the number
pub record IsLeftOver (partitions : List ℕ) (i place left : ℕ) : Type 0 where
  pub rest : drop place (choices partitions i) ≡ choices (drop place partitions) left

pub left_at_first : (partitions : List ℕ) (i : ℕ) → IsLeftOver partitions i 0 i
left_at_first partitions i = record { rest = refl }

left_split : (partitions : List ℕ) (i place left : ℕ) → place < length partitions → IsLeftOver partitions i place left →
    drop place (choices partitions i) ≡ left % (get_or partitions place 0 + 1) ∷ choices (drop (place + 1) partitions) (left / (get_or partitions place 0 + 1))
left_split partitions i place left within is = is.rest ∙ ap (λ l. choices l left) (drop_more partitions place 0 within)

pub choice_at : (partitions : List ℕ) (i place left : ℕ) → place < length partitions → IsLeftOver partitions i place left →
    left % (get_or partitions place 0 + 1) ≡ get_or (choices partitions i) place 0
choice_at partitions i place left within is =
    sym (ap (λ n. get_or (choices partitions i) n 0) (omega arith) ∙ sym (get_or-drop place (choices partitions i) 0 0)
    ∙ ap (λ l. get_or l 0 0) (left_split partitions i place left within is))

pub left_next : (partitions : List ℕ) (i place left : ℕ) → place < length partitions → IsLeftOver partitions i place left →
    IsLeftOver partitions i (place + 1) (left / (get_or partitions place 0 + 1))
left_next partitions i place left within is =
    let long = choices_long partitions i in
    let head = left_split partitions i place left within is in
    let more : drop place (choices partitions i) ≡ get_or (choices partitions i) place 0 ∷ drop (place + 1) (choices partitions i) = drop_more (choices partitions i) place 0 (omega arith) in
    record { rest = ap (drop 1) (sym more ∙ head) }

pub grid_long : (i : ℕ) (partitions : List ℕ) (lower upper : List ℤ) → length lower ≡ length partitions → length upper ≡ length partitions → length (in_grid i partitions lower upper) ≡ length partitions
grid_long i partitions lower upper low high =
    let c = choices_long partitions i in
    let a = zip_long (choices partitions i) partitions (sym c) in
    let b = zip_long lower upper (high ∙ sym low) in
    length-map (zip (zip (choices partitions i) partitions) (zip lower upper)) (λ c. on_the_way c.0.0 c.0.1 c.1.0 c.1.1)
    ∙ zip_long (zip (choices partitions i) partitions) (zip lower upper) (b ∙ low ∙ sym c ∙ sym a) ∙ a ∙ c

pub grid_at : (i : ℕ) (partitions : List ℕ) (lower upper : List ℤ) (place : ℕ) → place < length partitions → length lower ≡ length partitions → length upper ≡ length partitions →
    on_the_way (get_or (choices partitions i) place 0) (get_or partitions place 0) (get_or lower place (pos 0)) (get_or upper place (pos 0)) ≡ get_or (in_grid i partitions lower upper) place (pos 0)
grid_at i partitions lower upper place within low high =
    let c = choices_long partitions i in
    let a = zip_long (choices partitions i) partitions (sym c) in
    let b = zip_long lower upper (high ∙ sym low) in
    let w : place < length (zip (zip (choices partitions i) partitions) (zip lower upper))
    = zip_within (zip (choices partitions i) partitions) (zip lower upper) place (b ∙ low ∙ sym c ∙ sym a) (omega arith) in
    sym (get_or-map (λ c. on_the_way c.0.0 c.0.1 c.1.0 c.1.1) (zip (zip (choices partitions i) partitions) (zip lower upper)) place ((0, 0), (pos 0, pos 0)) (pos 0) w
    ∙ ap (λ c. on_the_way c.0.0 c.0.1 c.1.0 c.1.1)
    (get_or-zip (zip (choices partitions i) partitions) (zip lower upper) place ((0, 0), (pos 0, pos 0)) (omega arith) (omega arith)
    ∙ ap (λ p. (p, get_or (zip lower upper) place (pos 0, pos 0))) (get_or-zip (choices partitions i) partitions place (0, 0) (omega arith) within)
    ∙ ap (λ p. ((get_or (choices partitions i) place 0, get_or partitions place 0), p)) (get_or-zip lower upper place (pos 0, pos 0) (omega arith) (omega arith))))

-- a number on the way between two others at a place
pub way_made : (e : ℤ) (i parts : ℕ) (from to : List ℤ) (place : ℕ) (r : ℤ) → All (IsNumber e) from → All (IsNumber e) to → place < length from → place < length to →
    unsigned_abs r < 10 ^ 34 → r ≡ on_the_way i parts (to_z w128 (of_z w128 (get_or from place (pos 0)))) (to_z w128 (of_z w128 (get_or to place (pos 0)))) →
    to_z w128 (of_z w128 r) ≡ on_the_way i parts (get_or from place (pos 0)) (get_or to place (pos 0))
way_made e i parts from to place r are_from are_to within along small is =
    small_read r (omega arith) ∙ is ∙ rw (number_read e from place are_from within, number_read e to place are_to along) refl
