-- Mantissas at a common exponent.
use Rattle.std.proofs.Common.{◌≡◌, ℕ, ◌-◌, ◌*◌, ◌^◌, ◌<◌, ◌≤◌, refl, arith, false, true, ℤ, pos, negsuc, ◌==◌, of_z, ◌*ℤ◌, ◌+ℤ◌, ◌-ℤ◌, unsigned_abs, Some, None, nat_lt}
use Rattle.std.proofs.lemmas.Grind.{common_steps}
use Rattle.std.proofs.lemmas.Int.{unsigned_abs-mul}
use Rattle.std.specs.Int.{int_min}
use Rattle.dk_num.specs.Decimal.{Decimal, decimal_of}
use Rattle.dk_num.specs.Arithmetic.{small_product, sum_at, sum_of}
use mir.Syntax.{w128}
use Rattle.dk_num.proofs.Powers.{far_is_large, shifted_small, shifted_large}

pub far_product : (m : ℤ) (k : ℕ) → 0 < unsigned_abs m → 34 < k → small_product m k ≡ None
far_product m k some far =
    let e : unsigned_abs (m *ℤ pos (10 ^ k)) ≡ unsigned_abs m * 10 ^ k = unsigned_abs-mul m (pos (10 ^ k)) in
    let large : 10 ^ 34 ≤ unsigned_abs m * 10 ^ k = far_is_large _ k some far in
    let t : nat_lt (unsigned_abs (m *ℤ pos (10 ^ k))) (10 ^ 34) ≡ false = grind (arith, common_steps) in
    rw t refl

pub sum_from : (a p b q e : ℤ) (i j : ℕ) (first second : ℤ) →
    e ≡ int_min p q → i ≡ unsigned_abs (p -ℤ e) → j ≡ unsigned_abs (q -ℤ e) → small_product a i ≡ Some first → small_product b j ≡ Some second →
    sum_at (int_min p q) (record { mantissa = a; exponent = p }) (record { mantissa = b; exponent = q }) ≡ decimal_of (record { mantissa = first +ℤ second; exponent = e })
sum_from a p b q e i j first second e_is i_is j_is f s =
    rw (← e_is, ← i_is, ← j_is, f, s) refl

positive : (n : ℕ) → (n ≡ 0 → ⊥) → 0 < n
positive n h = grind arith

pub nonzero : (m : ℤ) → (of_z w128 m ≡ 0 → ⊥) → 0 < unsigned_abs m
nonzero (pos n) h = positive n h
nonzero (negsuc n) h = omega arith

pub sum_of_some : (x y : Decimal) → 0 < unsigned_abs x.mantissa → 0 < unsigned_abs y.mantissa → sum_of x y ≡ sum_at (int_min x.exponent y.exponent) x y
sum_of_some x y h k =
    let a : (unsigned_abs x.mantissa == 0) ≡ false = grind (arith, common_steps) in
    let b : (unsigned_abs y.mantissa == 0) ≡ false = grind (arith, common_steps) in
    rw (a, b) refl

abs_shifted : (m : ℤ) (k : ℕ) → unsigned_abs (m *ℤ pos (10 ^ k)) ≡ unsigned_abs m * 10 ^ k
abs_shifted m k = unsigned_abs-mul m (pos (10 ^ k))

pub near_abs : (m : ℤ) (k : ℕ) → k ≤ 34 → unsigned_abs m < 10 ^ (34 - k) → unsigned_abs (m *ℤ pos (10 ^ k)) < 10 ^ 34
near_abs m k few h = let e = abs_shifted m k in let s = shifted_small (unsigned_abs m) k few h in omega arith

pub near_product : (m : ℤ) (k : ℕ) → k ≤ 34 → unsigned_abs m < 10 ^ (34 - k) → Some (m *ℤ pos (10 ^ k)) ≡ small_product m k
near_product m k few h =
    let s : unsigned_abs (m *ℤ pos (10 ^ k)) < 10 ^ 34 = near_abs m k few h in
    let t : nat_lt (unsigned_abs (m *ℤ pos (10 ^ k))) (10 ^ 34) ≡ true = grind (arith, common_steps) in
    rw t refl

pub large_product : (m : ℤ) (k : ℕ) → k ≤ 34 → 10 ^ (34 - k) ≤ unsigned_abs m → None ≡ small_product m k
large_product m k few h =
    let e = abs_shifted m k in
    let l = shifted_large (unsigned_abs m) k few h in
    let t : nat_lt (unsigned_abs (m *ℤ pos (10 ^ k))) (10 ^ 34) ≡ false = grind (arith, common_steps) in
    rw t refl
