-- Whole numbers times natural ones.
use Rattle.std.proofs.Common.{◌≡◌, ℕ, zero, suc, ◌*◌, ◌/◌, ◌<◌, refl, ap, sym, ◌∙◌, arith, ℤ, pos, negsuc, neg_ℤ, ◌+ℤ◌, ◌*ℤ◌, unsigned_abs, int_div}
use Rattle.std.proofs.lemmas.Int.{ints}
use Rattle.std.proofs.Math.IntN.{*ℤ_comm, suc_ℤ-*ℤ, zero-*ℤ}
use Rattle.std.proofs.Math.Nat.{mul-div_cancel, mul-lt-mul_of_pos_right}

neg_times : (n p : ℕ) → neg_ℤ (pos n) *ℤ pos p ≡ neg_ℤ (pos (n * p))
neg_times zero p = let z : 0 * p ≡ 0 = omega arith in rw z refl
neg_times (suc n) p = refl

times_neg : (n p : ℕ) → pos n *ℤ neg_ℤ (pos p) ≡ neg_ℤ (pos (n * p))
times_neg n zero = let z : n * 0 ≡ 0 = omega arith in rw z refl
times_neg n (suc p) = refl

neg_times_neg : (n p : ℕ) → neg_ℤ (pos n) *ℤ neg_ℤ (pos p) ≡ pos (n * p)
neg_times_neg zero p = let z : 0 * p ≡ 0 = omega arith in times_neg 0 p ∙ rw z refl
neg_times_neg (suc n) zero = let z : suc n * 0 ≡ 0 = omega arith in rw z refl
neg_times_neg (suc n) (suc p) = refl

twice_negated : (n : ℕ) → neg_ℤ (neg_ℤ (pos n)) ≡ pos n
twice_negated zero = refl
twice_negated (suc n) = refl

-- with the other sign before or after
pub negated_times : (z : ℤ) (p : ℕ) → neg_ℤ z *ℤ pos p ≡ neg_ℤ (z *ℤ pos p)
negated_times (pos n) p = neg_times n p
negated_times (negsuc n) p = sym (twice_negated (suc n * p))

pub scaled_twice : (z : ℤ) (p q : ℕ) → (z *ℤ pos p) *ℤ pos q ≡ z *ℤ pos (p * q)
scaled_twice (pos a) p q = ap pos (let e : a * p * q ≡ a * (p * q) = omega arith in e)
scaled_twice (negsuc a) p q = neg_times (suc a * p) q ∙ ap (λ n. neg_ℤ (pos n)) (let e : suc a * p * q ≡ suc a * (p * q) = omega arith in e)

one_more : (p : ℕ) (z : ℤ) → z *ℤ pos (suc p) ≡ z *ℤ pos p +ℤ z
one_more p z = *ℤ_comm z (pos (suc p)) ∙ suc_ℤ-*ℤ (pos p) z ∙ ap (λ w. w +ℤ z) (*ℤ_comm (pos p) z)

none : (z : ℤ) → z *ℤ pos 0 ≡ pos 0
none z = *ℤ_comm z (pos 0) ∙ zero-*ℤ z

pub scaled_sum : (a b : ℤ) (p : ℕ) → (a +ℤ b) *ℤ pos p ≡ a *ℤ pos p +ℤ b *ℤ pos p
scaled_sum a b zero = none (a +ℤ b) ∙ (let x = none a in let y = none b in omega (arith, ints))
scaled_sum a b (suc p) =
    let s = scaled_sum a b p in
    let x = one_more p a in
    let y = one_more p b in
    let z = one_more p (a +ℤ b) in
    omega (arith, ints)

pub scaled_product : (a b : ℤ) (p q : ℕ) → (a *ℤ b) *ℤ pos (p * q) ≡ (a *ℤ pos p) *ℤ (b *ℤ pos q)
scaled_product (pos a) (pos b) p q = ap pos (let e : a * b * (p * q) ≡ a * p * (b * q) = omega arith in e)
scaled_product (pos a) (negsuc b) p q =
    neg_times (a * suc b) (p * q) ∙ ap (λ n. neg_ℤ (pos n)) (let e : a * suc b * (p * q) ≡ a * p * (suc b * q) = omega arith in e) ∙ sym (times_neg (a * p) (suc b * q))
scaled_product (negsuc a) (pos b) p q =
    neg_times (suc a * b) (p * q) ∙ ap (λ n. neg_ℤ (pos n)) (let e : suc a * b * (p * q) ≡ suc a * p * (b * q) = omega arith in e) ∙ sym (neg_times (suc a * p) (b * q))
scaled_product (negsuc a) (negsuc b) p q =
    ap pos (let e : suc a * suc b * (p * q) ≡ suc a * p * (suc b * q) = omega arith in e) ∙ sym (neg_times_neg (suc a * p) (suc b * q))

not_negative : (k n : ℕ) → 0 < n → pos k ≡ neg_ℤ (pos n) → ⊥
not_negative k zero h e = omega arith
not_negative k (suc n) h e = cc

some_product : (a p : ℕ) → 0 < p → 0 < suc a * p
some_product a p h = let t : 0 * p < suc a * p = mul-lt-mul_of_pos_right (let l : 0 < suc a = omega arith in l) h in omega arith

-- numbers of one magnitude are one where they are so times natural numbers
pub same_scaled : (m n : ℤ) (p q : ℕ) → 0 < p → 0 < q → m *ℤ pos p ≡ n *ℤ pos q → unsigned_abs m ≡ unsigned_abs n → m ≡ n
same_scaled (pos a) (pos b) p q hp hq h e = ap pos e
same_scaled (pos a) (negsuc b) p q hp hq h e = absurd (not_negative (a * p) (suc b * q) (some_product b q hq) h)
same_scaled (negsuc a) (pos b) p q hp hq h e = absurd (not_negative (b * q) (suc a * p) (some_product a p hp) (sym h))
same_scaled (negsuc a) (negsuc b) p q hp hq h e = cc

-- a quotient without a remainder, times its divisor
pub divided_back : (m : ℤ) (r p : ℕ) → unsigned_abs m ≡ r * p → 0 < p → int_div m (pos p) *ℤ pos p ≡ m
divided_back (pos a) r p whole some =
    let q : a / p ≡ r = ap (λ n. n / p) whole ∙ mul-div_cancel r some in
    ap pos (ap (λ n. n * p) q ∙ sym whole)
divided_back (negsuc a) r p whole some =
    let q : suc a / p ≡ r = ap (λ n. n / p) whole ∙ mul-div_cancel r some in
    neg_times (suc a / p) p ∙ ap (λ n. neg_ℤ (pos n)) (ap (λ n. n * p) q ∙ sym whole)
