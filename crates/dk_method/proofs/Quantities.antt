-- How large the numbers of units are.
use Rattle.std.proofs.Common.{◌≡◌, ℕ, ◌+◌, ◌*◌, ◌/◌, ◌^◌, ◌<◌, ◌≤◌, ◌∙◌, true, false, ap, sym, subst, arith, ℤ, pos, neg_ℤ, ◌+ℤ◌, ◌-ℤ◌, ◌*ℤ◌, unsigned_abs, to_z, of_z, Bool, List, [], ◌∷◌, length, get_or, refl, int_lt, if◌then◌else◌}
use Rattle.std.proofs.lemmas.Int.{ints, unsigned_abs-mul, to_z-of_z, fits_signed_from_abs}
use Rattle.std.proofs.lemmas.List.Elements.{All-get_or, All-cons, All-nil}
use Rattle.std.specs.List.{All}
use Rattle.std.proofs.Math.Nat.{mul-le-mul_right, div-le_self}
use Rattle.dk_num.specs.Rounding.{rounded_quotient, signed_as}
use Rattle.dk_num.proofs.Canonical.{abs_neg}
use Rattle.dk_types.specs.Points.{on_the_way}
use Rattle.dk_types.specs.Sound.{IsNumber}
use mir.Syntax.{w128}

-- a sum isn't larger than its parts together
pub abs_sum_le : (a b : ℤ) → unsigned_abs (a +ℤ b) ≤ unsigned_abs a + unsigned_abs b
abs_sum_le a b = omega (arith, ints)

-- a number of less than 127 bits is read as it is
pub small_read : (n : ℤ) → unsigned_abs n < 2 ^ 127 → to_z w128 (of_z w128 n) ≡ n
small_read n small = to_z-of_z w128 n (fits_signed_from_abs w128 n small)

-- at most 10,000 steps
pub steps_small : (count s : ℤ) → unsigned_abs s < 10 ^ 29 → unsigned_abs count ≤ 10000 → unsigned_abs (count *ℤ s) < 10 ^ 33
steps_small count s few_s few =
    let product : unsigned_abs (count *ℤ s) ≡ unsigned_abs count * unsigned_abs s = unsigned_abs-mul count s in
    let most : unsigned_abs count * unsigned_abs s ≤ 10000 * unsigned_abs s = mul-le-mul_right (unsigned_abs s) few in
    omega arith

-- a number of units, moved by at most 10,000 steps
pub moved_small : (a count s : ℤ) → unsigned_abs a < 10 ^ 29 → unsigned_abs s < 10 ^ 29 → unsigned_abs count ≤ 10000 → unsigned_abs (a +ℤ (count *ℤ s)) < 10 ^ 34
moved_small a count s few_a few_s few =
    let sum = abs_sum_le a (count *ℤ s) in
    let steps = steps_small count s few_s few in
    omega arith

-- it is what the parts are read as, together
pub moved_read : (a count s : ℤ) → unsigned_abs a < 10 ^ 29 → unsigned_abs s < 10 ^ 29 → unsigned_abs count ≤ 10000 →
    to_z w128 (of_z w128 (to_z w128 (of_z w128 a) +ℤ to_z w128 (of_z w128 (to_z w128 (of_z w128 count) *ℤ to_z w128 (of_z w128 s))))) ≡ a +ℤ (count *ℤ s)
moved_read a count s few_a few_s few =
    let product = steps_small count s few_s few in
    let sum = moved_small a count s few_a few_s few in
    rw (small_read a (omega arith), small_read s (omega arith), small_read count (omega arith), small_read (count *ℤ s) (omega arith)) (small_read _ (omega arith))

-- each of some numbers has at most 29 digits
pub number_small : (e : ℤ) (numbers : List ℤ) (place : ℕ) → All (IsNumber e) numbers → place < length numbers → unsigned_abs (get_or numbers place (pos 0)) < 10 ^ 29
number_small e numbers place are within = (All-get_or (IsNumber e) numbers place (pos 0) within are).few

-- and is read as it is
pub number_read : (e : ℤ) (numbers : List ℤ) (place : ℕ) → All (IsNumber e) numbers → place < length numbers → to_z w128 (of_z w128 (get_or numbers place (pos 0))) ≡ get_or numbers place (pos 0)
number_read e numbers place are within = let small = number_small e numbers place are within in small_read _ (omega arith)

signed_size : (z : ℤ) (n : ℕ) → unsigned_abs (signed_as z n) ≡ n
signed_size z n = at (int_lt z (pos 0))
  where
    at : (b : Bool) → unsigned_abs (if b then neg_ℤ (pos n) else pos n) ≡ n
    at true = abs_neg n
    at false = refl

-- a rounded quotient isn't larger than twice its dividend and its divisor together
quotient_small : (n : ℤ) (d : ℕ) → unsigned_abs (rounded_quotient n d) ≤ 2 * unsigned_abs n + d
quotient_small n d =
    let size : unsigned_abs (rounded_quotient n d) ≡ (2 * unsigned_abs n + d) / (2 * d) = signed_size n ((2 * unsigned_abs n + d) / (2 * d)) in
    let less : (2 * unsigned_abs n + d) / (2 * d) ≤ 2 * unsigned_abs n + d = div-le_self (2 * unsigned_abs n + d) (2 * d) in
    omega arith

pub part_small : (i parts : ℕ) (a b : ℤ) → i ≤ parts → parts ≤ 10000 → unsigned_abs a < 10 ^ 29 → unsigned_abs b < 10 ^ 29 → unsigned_abs (pos i *ℤ (b -ℤ a)) < 2 * 10 ^ 33
part_small i parts a b part few few_a few_b =
    let product : unsigned_abs (pos i *ℤ (b -ℤ a)) ≡ i * unsigned_abs (b -ℤ a) = unsigned_abs-mul (pos i) (b -ℤ a) in
    let most : i * unsigned_abs (b -ℤ a) ≤ 10000 * unsigned_abs (b -ℤ a) = mul-le-mul_right (unsigned_abs (b -ℤ a)) (omega arith) in
    let way : unsigned_abs (b -ℤ a) < 2 * 10 ^ 29 = omega (arith, ints) in
    omega arith

pub way_small : (i parts : ℕ) (a b : ℤ) → i ≤ parts → parts ≤ 10000 → unsigned_abs a < 10 ^ 29 → unsigned_abs b < 10 ^ 29 → unsigned_abs (on_the_way i parts a b) < 10 ^ 34
way_small i parts a b part few few_a few_b =
    let sum = abs_sum_le a (rounded_quotient (pos i *ℤ (b -ℤ a)) parts) in
    let quotient = quotient_small (pos i *ℤ (b -ℤ a)) parts in
    let dividend = part_small i parts a b part few few_a few_b in
    omega arith

-- the number on a way from a on, which is r away, as it is read
pub record IsPartWay (i parts : ℕ) (a b r : ℤ) : Type 0 where
  pub from : to_z w128 (of_z w128 a) ≡ a
  pub along : to_z w128 (of_z w128 r) ≡ r
  pub sum : a +ℤ r ≡ on_the_way i parts a b
  pub small : unsigned_abs (on_the_way i parts a b) < 10 ^ 34

pub part_way_is : (i parts : ℕ) (a b p q r : ℤ) → i ≤ parts → parts ≤ 10000 → unsigned_abs a < 10 ^ 29 → unsigned_abs b < 10 ^ 29 → p ≡ pos i → q ≡ pos parts →
    r ≡ rounded_quotient (to_z w128 (of_z w128 (to_z w128 (of_z w128 p) *ℤ to_z w128 (of_z w128 (to_z w128 (of_z w128 b) -ℤ to_z w128 (of_z w128 a)))))) (unsigned_abs (to_z w128 (of_z w128 q))) →
    IsPartWay i parts a b r
part_way_is i parts a b p q r part few few_a few_b p_is q_is is =
    let way : unsigned_abs (b -ℤ a) < 2 * 10 ^ 29 = omega (arith, ints) in
    let dividend = part_small i parts a b part few few_a few_b in
    let sum : a +ℤ r ≡ on_the_way i parts a b
    = ap (λ x. a +ℤ x) (is ∙ rw (p_is, q_is, small_read a (omega arith), small_read b (omega arith), small_read (pos i) (omega (arith, ints)), small_read (pos parts) (omega (arith, ints)), small_read (b -ℤ a) (omega arith), small_read (pos i *ℤ (b -ℤ a)) (omega arith)) refl) in
    let small = way_small i parts a b part few few_a few_b in
    record {
      from = small_read a (omega arith);
      along = small_read r (omega (arith, ints));
      sum = sum;
      small = small;
    }

-- a number that was made of another one and is read
pub number_made : (e n r : ℤ) → r ≡ n → IsNumber e n → IsNumber e (to_z w128 (of_z w128 r))
number_made e n r is number =
    let few = number.few in
    let size = ap unsigned_abs is in
    subst (IsNumber e) (sym (small_read r (omega arith) ∙ is)) number

pub two_numbers : (e x y : ℤ) → IsNumber e x → IsNumber e y → All (IsNumber e) (x ∷ (y ∷ []))
two_numbers e x y first second = All-cons (IsNumber e) x (y ∷ []) first (All-cons (IsNumber e) y [] second (All-nil (IsNumber e)))

pub four_numbers : (e x y z w : ℤ) → IsNumber e x → IsNumber e y → All (IsNumber e) (z ∷ (w ∷ [])) → All (IsNumber e) (x ∷ (y ∷ (z ∷ (w ∷ []))))
four_numbers e x y z w first second others = All-cons (IsNumber e) x (y ∷ (z ∷ (w ∷ []))) first (All-cons (IsNumber e) y (z ∷ (w ∷ [])) second others)
