-- Orders of numbers times powers of ten.
use Rattle.std.proofs.Common.{◌≡◌, ℕ, ◌+◌, ◌-◌, ◌*◌, ◌^◌, ◌<◌, ◌≤◌, refl, ap, sym, ◌∙◌, arith, lit<, true, false, ℤ, pos, negsuc, neg_ℤ, ◌*ℤ◌, int_lt, zero, suc}
use Rattle.std.specs.Ordering.{nat_cmp, int_cmp, ordering_reverse, MatchOrdering}
use Rattle.std.specs.Cmp.{nat_cmp_is, ranks, nat_cmp_total}
use Rattle.std.specs.declared.cmp.Ordering.{Ordering}
use Rattle.std.specs.declared.cmp.Ordering.TheVariants.{Less, Equal, Greater}
use Rattle.std.proofs.lemmas.Nat.{pow-add}
use Rattle.std.proofs.Math.Nat.{one-le-pow, mul-lt-mul_of_pos_right}
use Rattle.dk_num.proofs.Powers.{far_is_large, shifted_large}

pub far_greater : (m d n : ℕ) → 0 < m → 34 < d → n < 10 ^ 34 → Greater ≡ nat_cmp (m * 10 ^ d) n
far_greater m d n some far small =
    let large : 10 ^ 34 ≤ m * 10 ^ d = far_is_large m d some far in
    let less : n < m * 10 ^ d = omega arith in
    nat_cmp_is (m * 10 ^ d) n Greater less

pub large_greater : (m d n : ℕ) → d ≤ 34 → 10 ^ (34 - d) ≤ m → n < 10 ^ 34 → Greater ≡ nat_cmp (m * 10 ^ d) n
large_greater m d n few large small =
    let l : 10 ^ 34 ≤ m * 10 ^ d = shifted_large m d few large in
    let less : n < m * 10 ^ d = omega arith in
    nat_cmp_is (m * 10 ^ d) n Greater less

times_below : (a b k : ℕ) → 0 < k → a < b → a * k < b * k
times_below a b k some h = mul-lt-mul_of_pos_right h some

scaled : (a b k : ℕ) → 0 < k → (r : Ordering) → MatchOrdering r (a < b) (a ≡ b) (b < a) → MatchOrdering r (a * k < b * k) (a * k ≡ b * k) (b * k < a * k)
scaled a b k some Less h = times_below a b k some h
scaled a b k some Equal h = ap (λ n. n * k) h
scaled a b k some Greater h = times_below b a k some h

pub nat_cmp_scaled : (a b k : ℕ) → 0 < k → nat_cmp a b ≡ nat_cmp (a * k) (b * k)
nat_cmp_scaled a b k some = nat_cmp_is (a * k) (b * k) (nat_cmp a b) (scaled a b k some (nat_cmp a b) (ranks a b))

pub aligned : (m n s t : ℕ) → t ≤ s → nat_cmp (m * 10 ^ (s - t)) n ≡ nat_cmp (m * 10 ^ s) (n * 10 ^ t)
aligned m n s t h =
    let whole : s ≡ (s - t) + t = omega arith in
    let power : 10 ^ s ≡ 10 ^ (s - t) * 10 ^ t = ap (λ k. 10 ^ k) whole ∙ pow-add 10 (s - t) t in
    let product : m * 10 ^ (s - t) * 10 ^ t ≡ m * 10 ^ s = (let q : m * 10 ^ (s - t) * 10 ^ t ≡ m * (10 ^ (s - t) * 10 ^ t) = omega arith in q ∙ ap (λ p. m * p) (sym power)) in
    nat_cmp_scaled (m * 10 ^ (s - t)) n (10 ^ t) (one-le-pow t 10 (lit< tt)) ∙ ap (λ x. nat_cmp x (n * 10 ^ t)) product

pub aligned_turned : (m n s t : ℕ) → s ≤ t → ordering_reverse (nat_cmp (n * 10 ^ (t - s)) m) ≡ nat_cmp (m * 10 ^ s) (n * 10 ^ t)
aligned_turned m n s t h =
    ap ordering_reverse (aligned n m t s h) ∙ sym (nat_cmp_total.antisymm (m * 10 ^ s) (n * 10 ^ t))

negative_less : (n : ℕ) (k : ℕ) → 0 < n → Less ≡ int_cmp (neg_ℤ (pos n)) (pos k)
negative_less zero k h = absurd (omega arith)
negative_less (suc n) k h = refl

negative_greater : (n : ℕ) (k : ℕ) → 0 < n → Greater ≡ int_cmp (pos k) (neg_ℤ (pos n))
negative_greater zero k h = absurd (omega arith)
negative_greater (suc n) k h = refl

product_some : (x p : ℕ) → 0 < p → 0 < suc x * p
product_some x p h = let t : 0 * p < suc x * p = times_below 0 (suc x) p h (omega arith) in omega arith

pub less_by_sign : (a b : ℤ) (p q : ℕ) → 0 < p → int_lt a (pos 0) ≡ true → int_lt b (pos 0) ≡ false → Less ≡ int_cmp (a *ℤ pos p) (b *ℤ pos q)
less_by_sign (pos m) b p q some low high = absurd (grind arith)
less_by_sign (negsuc m) (pos n) p q some low high = negative_less (suc m * p) (n * q) (product_some m p some)
less_by_sign (negsuc m) (negsuc n) p q some low high = absurd (cc)

pub greater_by_sign : (a b : ℤ) (p q : ℕ) → 0 < q → int_lt a (pos 0) ≡ false → int_lt b (pos 0) ≡ true → Greater ≡ int_cmp (a *ℤ pos p) (b *ℤ pos q)
greater_by_sign a (pos n) p q some high low = absurd (grind arith)
greater_by_sign (pos m) (negsuc n) p q some high low = negative_greater (suc n * q) (m * p) (product_some n q some)
greater_by_sign (negsuc m) (negsuc n) p q some high low = absurd (cc)
