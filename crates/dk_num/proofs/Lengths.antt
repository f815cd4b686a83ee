-- How long numbers are.
use Rattle.std.proofs.Common.{◌≡◌, ℕ, ◌+◌, ◌/◌, ◌%◌, ◌^◌, ◌<◌, ◌≤◌, List, [], ◌∷◌, ◌++◌, length, ap, sym, ◌∙◌, arith, lit<, length-append, zero, suc, ◌*◌, drop, append_assoc}
use Rattle.std.specs.Prelude.{decimal}
use Rattle.std.proofs.lemmas.Fmt.{length-decimal-le_wide, decimal_by_steps_wide, decimal_digit, decimal_step_wide}
use Rattle.std.proofs.lemmas.List.{drop-append-le, append-nil, drop_all, drop-drop}
use Rattle.std.proofs.lemmas.Nat.{div-add-mod'}
use Rattle.dk_num.proofs.Endings.{count_between}
use Rattle.std.proofs.Math.Nat.{pow-suc, one-le-pow, mul-le-mul_right}
use Rattle.dk_num.specs.Decimal.{digit_count}
use Rattle.dk_num.proofs.Digits.{digit_count_step, digit_count_some}

pub one_digit : (n : ℕ) → n < 10 → length (decimal n) ≤ 1
one_digit n h = length-decimal-le_wide 1 n (lit< tt) h (omega arith)

pub four_digits : (n : ℕ) → n ≤ 9999 → length (decimal n) ≤ 4
four_digits n h = length-decimal-le_wide 4 n (lit< tt) (omega arith) (omega arith)

one : (n : ℕ) → n < 10 → 0 < n → length ((48 + n) ∷ []) ≡ digit_count n
one n small some =
    let step : digit_count n ≡ digit_count (n / 10) + 1 = digit_count_step n some in
    let z : n / 10 ≡ 0 = omega arith in
    let e : digit_count (n / 10) ≡ 0 = ap digit_count z in
    omega arith

more : (n : ℕ) (ds : List ℕ) → 10 ≤ n → (0 < n / 10 → length ds ≡ digit_count (n / 10)) → 0 < n → length (ds ++ ((48 + n % 10) ∷ [])) ≡ digit_count n
more n ds large before some =
    let step : digit_count n ≡ digit_count (n / 10) + 1 = digit_count_step n some in
    let t : 0 < n / 10 = omega arith in
    let b : length ds ≡ digit_count (n / 10) = before t in
    omega (arith, length-append ds ((48 + n % 10) ∷ []))

pub decimal_length : (n : ℕ) → 0 < n → n < 10 ^ 34 → length (decimal n) ≡ digit_count n
decimal_length n some small = decimal_by_steps_wide (λ k ds. 0 < k → length ds ≡ digit_count k) one more n (omega arith) some

-- the digits of the two parts of a number, where a 1 before the low part keeps its zeros
pub decimal_parts : (k h l : ℕ) → 0 < h → l < 10 ^ k → h * 10 ^ k + l < 10 ^ 64 → 10 ^ k + l < 10 ^ 34 → decimal (h * 10 ^ k + l) ≡ decimal h ++ drop 1 (decimal (10 ^ k + l))
decimal_parts zero h l some small wide narrow =
    let e : h * 10 ^ 0 + l ≡ h = omega arith in
    let f : 10 ^ 0 + l ≡ 1 = omega arith in
    ap decimal e ∙ sym (ap (λ ds. decimal h ++ drop 1 ds) (ap decimal f ∙ decimal_digit 1 (lit< tt)) ∙ append-nil (decimal h))
decimal_parts (suc k) h l some small wide narrow =
    let p : 10 ^ suc k ≡ 10 ^ k * 10 = pow-suc 10 k in
    let q : h * 10 ^ suc k ≡ h * 10 ^ k * 10 = ap (λ x. h * x) p ∙ (let a : h * (10 ^ k * 10) ≡ h * 10 ^ k * 10 = omega arith in a) in
    let one : 0 < 10 ^ k = one-le-pow k 10 (lit< tt) in
    let some_h : 1 * 10 ^ k ≤ h * 10 ^ k = mul-le-mul_right (10 ^ k) some in
    let front : (h * 10 ^ suc k + l) / 10 ≡ h * 10 ^ k + l / 10 = omega arith in
    let last : (h * 10 ^ suc k + l) % 10 ≡ l % 10 = omega arith in
    let front_low : (10 ^ suc k + l) / 10 ≡ 10 ^ k + l / 10 = omega arith in
    let last_low : (10 ^ suc k + l) % 10 ≡ l % 10 = omega arith in
    let before : decimal (h * 10 ^ k + l / 10) ≡ decimal h ++ drop 1 (decimal (10 ^ k + l / 10)) = decimal_parts k h (l / 10) some (omega arith) (omega arith) (omega arith) in
    let count : 1 ≤ length (decimal (10 ^ k + l / 10))
    = (let c = decimal_length (10 ^ k + l / 10) (omega arith) (omega arith) in let d = digit_count_some (10 ^ k + l / 10) (omega arith) in omega arith) in
    let low : decimal (10 ^ suc k + l) ≡ decimal (10 ^ k + l / 10) ++ ((48 + l % 10) ∷ [])
    = decimal_step_wide (10 ^ suc k + l) (omega arith) (omega arith) ∙ ap (λ n. decimal n ++ ((48 + (10 ^ suc k + l) % 10) ∷ [])) front_low ∙ ap (λ d. decimal (10 ^ k + l / 10) ++ ((48 + d) ∷ [])) last_low in
    decimal_step_wide (h * 10 ^ suc k + l) (omega arith) wide
    ∙ ap (λ n. decimal n ++ ((48 + (h * 10 ^ suc k + l) % 10) ∷ [])) front
    ∙ ap (λ d. decimal (h * 10 ^ k + l / 10) ++ ((48 + d) ∷ [])) last
    ∙ ap (λ ds. ds ++ ((48 + l % 10) ∷ [])) before
    ∙ append_assoc (decimal h) (drop 1 (decimal (10 ^ k + l / 10))) ((48 + l % 10) ∷ [])
    ∙ ap (λ ds. decimal h ++ ds) (sym (drop-append-le 1 (decimal (10 ^ k + l / 10)) ((48 + l % 10) ∷ []) count))
    ∙ ap (λ ds. decimal h ++ drop 1 ds) (sym low)

pub mantissa_length : (n : ℕ) → n < 10 ^ 34 → length (decimal n) ≤ 34
mantissa_length n h = length-decimal-le_wide 34 n (lit< tt) h (omega arith)

pub high_length : (n : ℕ) → n < 10 ^ 34 → length (decimal (n / 10 ^ 16)) ≤ 18
high_length n h = length-decimal-le_wide 18 (n / 10 ^ 16) (lit< tt) (omega arith) (omega arith)

low_count : (n : ℕ) → digit_count (10 ^ 16 + n % 10 ^ 16) ≡ 17
low_count n = count_between (10 ^ 16 + n % 10 ^ 16) 17 (omega arith) (omega arith) (omega arith)

pub low_length : (n : ℕ) → length (decimal (10 ^ 16 + n % 10 ^ 16)) ≡ 17
low_length n = decimal_length (10 ^ 16 + n % 10 ^ 16) (omega arith) (omega arith) ∙ low_count n

-- the high part written over the 1 that stands before the low part
pub written_parts : (n s : ℕ) (old middle out : List ℕ) → n < 10 ^ 34 → 2 ^ 64 ≤ n → length old ≤ 40 → s + length (decimal (10 ^ 16 + n % 10 ^ 16)) ≡ 40 →
    drop s middle ≡ decimal (10 ^ 16 + n % 10 ^ 16) ++ drop 40 old → out ≡ decimal (n / 10 ^ 16) ++ drop 24 middle → out ≡ decimal n
written_parts n s old middle out small wide room start written over =
    let l = low_length n in
    let at : s ≡ 23 = omega arith in
    let none : drop 40 old ≡ [] = drop_all 40 old room in
    let low : drop 23 middle ≡ decimal (10 ^ 16 + n % 10 ^ 16)
    = ap (λ k. drop k middle) (sym at) ∙ written ∙ ap (λ ds. decimal (10 ^ 16 + n % 10 ^ 16) ++ ds) none ∙ append-nil (decimal (10 ^ 16 + n % 10 ^ 16)) in
    let next : drop 24 middle ≡ drop 1 (drop 23 middle) = sym (drop-drop 1 23 middle) in
    let whole : n / 10 ^ 16 * 10 ^ 16 + n % 10 ^ 16 ≡ n = div-add-mod' n (10 ^ 16) in
    over ∙ ap (λ ds. decimal (n / 10 ^ 16) ++ ds) (next ∙ ap (drop 1) low)
    ∙ sym (decimal_parts 16 (n / 10 ^ 16) (n % 10 ^ 16) (omega arith) (omega arith) (omega arith) (omega arith))
    ∙ ap decimal whole
