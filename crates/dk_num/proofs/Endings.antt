-- How long a number is, and with how many zeros it ends.
use Rattle.std.proofs.Common.{◌≡◌, ◌≢◌, ◌↔◌, ℕ, zero, suc, ◌+◌, ◌-◌, ◌*◌, ◌/◌, ◌%◌, ◌^◌, ◌<◌, ◌≤◌, ap, sym, ◌∙◌, subst, arith, lit<, lit≤, ⊎_elim}
use Rattle.std.proofs.lemmas.Bool.{cases_lt, cases_eq}
use Rattle.std.proofs.lemmas.Int.Digits.{number_lt, number_digits_of, all_below_base_digits_of}
use Rattle.std.proofs.lemmas.Nat.{pow-add}
use Rattle.std.proofs.Math.Nat.{mul-div_cancel, one-le-pow, pow-suc, mul-mod_left}
use Rattle.std.specs.Int.Digits.{digits_of}
use Rattle.dk_num.specs.Decimal.{digit_count, zero_count}
use Rattle.dk_num.proofs.Digits.{digit_count_step, digit_count_below, digit_count_some, zero_count_more, zero_count_none, tenth_smaller, tenth_whole}
use Rattle.dk_num.proofs.Powers.{ten_more, ten_pow_le}

pub ten_some : (k : ℕ) → 0 < 10 ^ k
ten_some k = one-le-pow k 10 (lit< tt)

-- a number is below the power of ten of its length
pub below_its_power : (n : ℕ) → n < 10 ^ digit_count n
below_its_power n =
    let l = number_lt 10 (digits_of 10 n) (all_below_base_digits_of 10 n (lit≤ tt)) in
    let e = number_digits_of 10 n (lit≤ tt) in
    omega arith

-- the length of a number between two powers of ten
pub count_between : (n k : ℕ) → 0 < n → 10 ^ (k - 1) ≤ n → n < 10 ^ k → digit_count n ≡ k
count_between n k some low high =
    let most = digit_count_below k n high in
    let one = digit_count_some n some in
    ⊎_elim (λ less.
    let below = below_its_power n in
    let le : 10 ^ digit_count n ≤ 10 ^ (k - 1) = ten_pow_le (digit_count n) (k - 1) (omega arith) in
    omega arith)
    (λ least. omega arith)
    (cases_lt (digit_count n) k)

-- a number isn't below the power of ten of its length less one
pub above_its_power : (n : ℕ) → 0 < n → 10 ^ (digit_count n - 1) ≤ n
above_its_power n some =
    let one = digit_count_some n some in
    ⊎_elim (λ less. let few = digit_count_below (digit_count n - 1) n less in omega arith) (λ least. least)
    (cases_lt n (10 ^ (digit_count n - 1)))

pub count_is : (n k : ℕ) → 0 < n → digit_count n ≡ k ↔ ((10 ^ (k - 1) ≤ n) × (n < 10 ^ k))
count_is n k some = (
  λ e. (subst (λ j. 10 ^ (j - 1) ≤ n) e (above_its_power n some), subst (λ j. n < 10 ^ j) e (below_its_power n)),
  λ b. count_between n k some b.0 b.1,
)

pub count_from : (n k : ℕ) → 10 ^ k ≤ n → n < 10 * 10 ^ k → digit_count n ≡ k + 1
count_from n k low high =
    let e : (k + 1) - 1 ≡ k = omega arith in
    let t = ten_some k in
    let m = ten_more k in
    count_between n (k + 1) (omega arith) (subst (λ j. 10 ^ j ≤ n) (sym e) low) (omega arith)

-- a number that 10 doesn't divide, and a power of ten
pub record Split (n zeros : ℕ) : Type 0 where
  pub rest : ℕ
  pub whole : n ≡ rest * 10 ^ zeros
  pub ends : rest % 10 ≢ 0
  pub left : 0 < rest
  pub digits : digit_count n ≡ zeros + digit_count rest

split_more : (n zeros : ℕ) → 0 < n → n % 10 ≡ 0 → Split (n / 10) zeros → Split n (zeros + 1)
split_more n zeros some e s =
    let w : n ≡ n / 10 * 10 = tenth_whole n e in
    let p = ten_more zeros in
    let d = digit_count_step n some in
    let f = s.digits in
    let q : s.rest * 10 ^ zeros * 10 ≡ s.rest * (10 ^ zeros * 10) = omega arith in
    record {
      rest = s.rest;
      whole = w ∙ ap (λ x. x * 10) s.whole ∙ q ∙ ap (λ x. s.rest * x) (sym p);
      ends = s.ends;
      left = s.left;
      digits = omega arith;
    }

split_none : (n : ℕ) → 0 < n → n % 10 ≢ 0 → Split n 0
split_none n some ne = record { rest = n; whole = omega arith; ends = ne; left = some; digits = omega arith }

split_below : (k n : ℕ) → n ≤ k → 0 < n → Split n (zero_count n)
split_below zero n h some = absurd (omega arith)
split_below (suc k) n h some =
    ⊎_elim (λ e.
    let w : n ≡ n / 10 * 10 = tenth_whole n e in
    let t : n / 10 < n = tenth_smaller n some in
    subst (λ z. Split n z) (sym (zero_count_more n some e)) (split_more n (zero_count (n / 10)) some e (split_below k (n / 10) (omega arith) (omega arith))))
    (λ ne. subst (λ z. Split n z) (sym (zero_count_none n some ne)) (split_none n some ne))
    (cases_eq (n % 10) 0)

pub split : (n : ℕ) → 0 < n → Split n (zero_count n)
split n some = split_below n n (omega arith) some

pub rest_is : (n zeros : ℕ) (s : Split n zeros) → n / 10 ^ zeros ≡ s.rest
rest_is n zeros s = ap (λ x. x / 10 ^ zeros) s.whole ∙ mul-div_cancel s.rest (ten_some zeros)

pub no_zeros_ends : (n : ℕ) → 0 < n → zero_count n ≡ 0 → n % 10 ≢ 0
no_zeros_ends n some z e = let m = zero_count_more n some e in omega arith

pub split_whole : (n : ℕ) → 0 < n → n ≡ n / 10 ^ zero_count n * 10 ^ zero_count n
split_whole n some = let s = split n some in s.whole ∙ ap (λ r. r * 10 ^ zero_count n) (sym (rest_is n (zero_count n) s))

pub split_left : (n : ℕ) → 0 < n → n / 10 ^ zero_count n % 10 ≢ 0
split_left n some e = let s = split n some in s.ends (ap (λ r. r % 10) (sym (rest_is n (zero_count n) s)) ∙ e)

pub zero_count_few : (n : ℕ) → 0 < n → zero_count n < digit_count n
zero_count_few n some = let s = split n some in let d = s.digits in let t = digit_count_some s.rest s.left in omega arith

cancel : (a b p : ℕ) → 0 < p → a * p ≡ b * p → a ≡ b
cancel a b p some e = sym (mul-div_cancel a some) ∙ ap (λ x. x / p) e ∙ mul-div_cancel b some

more_zeros : (m n s d : ℕ) → m % 10 ≢ 0 → m * 10 ^ s ≡ n * 10 ^ (s + suc d) → ⊥
more_zeros m n s d ends e =
    let power : 10 ^ (s + suc d) ≡ 10 ^ s * 10 ^ suc d = pow-add 10 s (suc d) in
    let step : 10 ^ suc d ≡ 10 ^ d * 10 = pow-suc 10 d in
    let right : n * 10 ^ (s + suc d) ≡ n * 10 ^ d * 10 * 10 ^ s = ap (λ x. n * x) (power ∙ ap (λ x. 10 ^ s * x) step) ∙ omega arith in
    let is : m ≡ n * 10 ^ d * 10 = cancel m (n * 10 ^ d * 10) (10 ^ s) (ten_some s) (e ∙ right) in
    ends (ap (λ x. x % 10) is ∙ mul-mod_left (n * 10 ^ d) 10)

apart : (m n s t : ℕ) → s < t → m % 10 ≢ 0 → m * 10 ^ s ≡ n * 10 ^ t → ⊥
apart m n s t h ends e =
    let f : t ≡ s + suc (t - s - 1) = omega arith in
    more_zeros m n s (t - s - 1) ends (e ∙ ap (λ k. n * 10 ^ k) f)

-- a number is one product of a power of ten and a number that 10 doesn't divide
pub one_power : (m n s t : ℕ) → m % 10 ≢ 0 → n % 10 ≢ 0 → m * 10 ^ s ≡ n * 10 ^ t → s ≡ t
one_power m n s t me ne e =
    ⊎_elim (λ h. absurd (apart m n s t h me e)) (λ h.
    ⊎_elim (λ g. absurd (apart n m t s g ne (sym e))) (λ g. omega arith) (cases_lt t s))
    (cases_lt s t)

pub one_rest : (m n s t : ℕ) → s ≡ t → m * 10 ^ s ≡ n * 10 ^ t → m ≡ n
one_rest m n s t h e = cancel m n (10 ^ t) (ten_some t) (ap (λ k. m * 10 ^ k) (sym h) ∙ e)
