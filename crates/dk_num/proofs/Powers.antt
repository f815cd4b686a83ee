-- Powers of ten, and of two.
use Rattle.std.proofs.Common.{List, [], ◌∷◌, length, get_or, zero, suc, Bool, true, ◌==◌, ◌&&◌, ◌-◌, ◌≡◌, ℕ, ◌+◌, ◌*◌, ◌^◌, ◌<◌, ◌≤◌, add-one, ap, sym, ◌∙◌, arith, lit<}
use Rattle.std.proofs.Math.Nat.{pow-suc, pow-le-pow_right, one-le-pow, mul-le-mul_right, mul-le-mul, mul-lt-mul_of_pos_right}
use Rattle.std.proofs.lemmas.Bool.{eqb-true, and_parts}
use Rattle.std.proofs.lemmas.Nat.{pow-add, leading_length, mul-lt}
use Rattle.std.specs.Int.Count.{count_leading_zeros}

pub ten_more : (i : ℕ) → 10 ^ (i + 1) ≡ 10 ^ i * 10
ten_more i = rw add-one (pow-suc 10 i)

pub ten_pow_le : (i j : ℕ) → i ≤ j → 10 ^ i ≤ 10 ^ j
ten_pow_le i j h = pow-le-pow_right (lit< tt) h

pub far_is_large : (n k : ℕ) → 0 < n → 34 < k → 10 ^ 34 ≤ n * 10 ^ k
far_is_large n k some far =
    let le : 10 ^ 34 ≤ 10 ^ k = ten_pow_le 34 k (omega arith) in
    let m : 1 * 10 ^ k ≤ n * 10 ^ k = mul-le-mul_right (10 ^ k) some in
    omega arith

-- the entries are the powers of ten, from the i-th on
abbrev pub tens_from : ℕ → List ℕ → Bool
tens_from i [] = true
tens_from i (x ∷ xs) = (x == 10 ^ i) && tens_from (suc i) xs

pub tens_at : (i : ℕ) (xs : List ℕ) (k j : ℕ) → tens_from i xs ≡ true → k < length xs → j ≡ i + k → get_or xs k 0 ≡ 10 ^ j
tens_at i [] k j t h e = absurd (omega arith)
tens_at i (x ∷ xs) zero j t h e = eqb-true x (10 ^ i) (and_parts (x == 10 ^ i) (tens_from (suc i) xs) t).0 ∙ ap (λ n. 10 ^ n) (omega arith)
tens_at i (x ∷ xs) (suc k) j t h e = tens_at (suc i) xs k j (and_parts (x == 10 ^ i) (tens_from (suc i) xs) t).1 (omega arith) (omega arith)

ten_parts : (k : ℕ) → k ≤ 34 → 10 ^ (34 - k) * 10 ^ k ≡ 10 ^ 34
ten_parts k h = let e : (34 - k) + k ≡ 34 = omega arith in sym (pow-add 10 (34 - k) k) ∙ ap (λ n. 10 ^ n) e

-- a number with k zeros more is small where it is below 10^(34 - k)
pub shifted_small : (n k : ℕ) → k ≤ 34 → n < 10 ^ (34 - k) → n * 10 ^ k < 10 ^ 34
shifted_small n k few h =
    let m : n * 10 ^ k < 10 ^ (34 - k) * 10 ^ k = mul-lt-mul_of_pos_right h (one-le-pow k 10 (lit< tt)) in
    let e = ten_parts k few in omega arith

pub shifted_large : (n k : ℕ) → k ≤ 34 → 10 ^ (34 - k) ≤ n → 10 ^ 34 ≤ n * 10 ^ k
shifted_large n k few h =
    let m : 10 ^ (34 - k) * 10 ^ k ≤ n * 10 ^ k = mul-le-mul_right (10 ^ k) h in
    let e = ten_parts k few in omega arith

two_le : (i j : ℕ) → i ≤ j → 2 ^ i ≤ 2 ^ j
two_le i j h = pow-le-pow_right (lit< tt) h

-- numbers of so many bits have a product that is too wide for a mantissa
wide_bits : (m n i j : ℕ) → m < 10 ^ 34 → n < 10 ^ 34 → 2 ^ i ≤ 2 * m + 1 → 2 ^ j ≤ 2 * n + 1 → 128 ≤ i + j → 10 ^ 34 ≤ m * n
wide_bits m n zero j hm hn bm bn h = absurd (let t : 2 ^ 128 ≤ 2 ^ j = two_le 128 j (omega arith) in omega arith)
wide_bits m n (suc i) zero hm hn bm bn h = absurd (let t : 2 ^ 128 ≤ 2 ^ suc i = two_le 128 (suc i) (omega arith) in omega arith)
wide_bits m n (suc i) (suc j) hm hn bm bn h =
    let ei : 2 ^ suc i ≡ 2 ^ i * 2 = pow-suc 2 i in
    let ej : 2 ^ suc j ≡ 2 ^ j * 2 = pow-suc 2 j in
    let mi : 2 ^ i ≤ m = omega arith in
    let nj : 2 ^ j ≤ n = omega arith in
    let p : 2 ^ i * 2 ^ j ≤ m * n = mul-le-mul mi nj in
    let q : 2 ^ (i + j) ≡ 2 ^ i * 2 ^ j = pow-add 2 i j in
    let t : 2 ^ 126 ≤ 2 ^ (i + j) = two_le 126 (i + j) (omega arith) in
    omega arith

pub wide_product : (m n : ℕ) → m < 10 ^ 34 → n < 10 ^ 34 → count_leading_zeros 128 m + count_leading_zeros 128 n < 129 → 10 ^ 34 ≤ m * n
wide_product m n hm hn h =
    let a = leading_length 128 m (omega arith) in
    let b = leading_length 128 n (omega arith) in
    let ea = a.1 in let eb = b.1 in
    wide_bits m n a.0 b.0 hm hn a.3 b.3 (omega arith)

narrow_bits : (m n i j : ℕ) → m < 2 ^ i → n < 2 ^ j → i + j ≤ 127 → m * n < 2 ^ 127
narrow_bits m n i j hm hn h =
    let p : m * n < 2 ^ i * 2 ^ j = mul-lt m n (2 ^ i) (2 ^ j) hm hn in
    let q : 2 ^ (i + j) ≡ 2 ^ i * 2 ^ j = pow-add 2 i j in
    let t : 2 ^ (i + j) ≤ 2 ^ 127 = two_le (i + j) 127 h in
    omega arith

pub narrow_product : (m n : ℕ) → m < 10 ^ 34 → n < 10 ^ 34 → 129 ≤ count_leading_zeros 128 m + count_leading_zeros 128 n → m * n < 2 ^ 127
narrow_product m n hm hn h =
    let a = leading_length 128 m (omega arith) in
    let b = leading_length 128 n (omega arith) in
    let ea = a.1 in let eb = b.1 in
    narrow_bits m n a.0 b.0 a.2 b.2 (omega arith)
