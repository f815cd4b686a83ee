-- How the digits and the ended of a number are counted, a digit at a time.
use Rattle.std.proofs.Common.{◌≡◌, ◌≢◌, ◌==◌, ℕ, ◌+◌, ◌*◌, ◌/◌, ◌%◌, ◌^◌, ◌<◌, ◌≤◌, [], ◌∷◌, reverse, refl, ap, sym, false, ◌∙◌, add-one, arith, lit≤, lit<}
use Rattle.std.proofs.lemmas.Grind.{common_steps}
use Rattle.std.proofs.lemmas.Int.Digits.{length-digits_of_step, digits_of_step, length-digits_of-le}
use Rattle.std.proofs.lemmas.List.{reverse-append}
use Rattle.std.proofs.lemmas.Nat.{div-add-mod', pow-add}
use Rattle.std.proofs.Math.Nat.{div-lt_self, pow-suc}
use Rattle.std.specs.Int.Digits.{digits_of}
use Rattle.std.specs.List.{prefix_len}
use Rattle.dk_num.specs.Decimal.{digit_count, zero_count}

pub digit_count_step : (n : ℕ) → 0 < n → digit_count n ≡ digit_count (n / 10) + 1
digit_count_step n h = length-digits_of_step 10 n (lit≤ tt) h

pub digit_count_below : (k n : ℕ) → n < 10 ^ k → digit_count n ≤ k
digit_count_below k n h = length-digits_of-le 10 k n (lit≤ tt) h

pub reverse_digits : (n : ℕ) → 0 < n → reverse (digits_of 10 n) ≡ n % 10 ∷ reverse (digits_of 10 (n / 10))
reverse_digits n h = ap reverse (digits_of_step 10 n (lit≤ tt) h) ∙ reverse-append (digits_of 10 (n / 10)) (n % 10 ∷ [])

pub zero_count_more : (n : ℕ) → 0 < n → n % 10 ≡ 0 → zero_count n ≡ zero_count (n / 10) + 1
zero_count_more n h e = ap (prefix_len (λ d. d == 0)) (reverse_digits n h) ∙ rw e (omega arith)

pub zero_count_none : (n : ℕ) → 0 < n → n % 10 ≢ 0 → zero_count n ≡ 0
zero_count_none n h e = ap (prefix_len (λ d. d == 0)) (reverse_digits n h) ∙ (let t : (n % 10 == 0) ≡ false = grind (arith, common_steps) in rw t refl)

pub tenth_smaller : (n : ℕ) → 0 < n → n / 10 < n
tenth_smaller n h = div-lt_self h (lit< tt)

pub tenth_whole : (n : ℕ) → n % 10 ≡ 0 → n ≡ n / 10 * 10
tenth_whole n e = let d = div-add-mod' n 10 in omega arith

-- n without so many zeros at its end
pub record Stripped (n rest ended : ℕ) : Type 0 where
  pub left : 0 < rest
  pub whole : n ≡ rest * 10 ^ ended
  pub zeros_left : zero_count n ≡ ended + zero_count rest
  pub digits_left : digit_count n ≡ ended + digit_count rest
  pub few : digit_count n ≤ 39

pub stripped_more : (n rest ended : ℕ) → rest % 10 ≡ 0 → Stripped n rest ended → Stripped n (rest / 10) (ended + 1)
stripped_more n rest ended e s =
    let whole : rest ≡ rest / 10 * 10 = tenth_whole rest e in
    let z : zero_count rest ≡ zero_count (rest / 10) + 1 = zero_count_more rest s.left e in
    let d : digit_count rest ≡ digit_count (rest / 10) + 1 = digit_count_step rest s.left in
    let p : 10 ^ (ended + 1) ≡ 10 ^ ended * 10 = rw add-one (pow-suc 10 ended) in
    let q : rest / 10 * 10 * 10 ^ ended ≡ rest / 10 * (10 ^ ended * 10) = omega arith in
    record {
      left = omega arith;
      whole = s.whole ∙ ap (λ r. r * 10 ^ ended) whole ∙ q ∙ ap (λ x. rest / 10 * x) (sym p);
      zeros_left = omega arith;
      digits_left = omega arith;
      few = s.few;
    }

pub stripped_none : (n : ℕ) → 0 < n → n < 2 ^ 128 → Stripped n n 0
stripped_none n h small = record { left = h; whole = omega arith; zeros_left = omega arith; digits_left = omega arith; few = digit_count_below 39 n (omega arith) }

pub stripped_ends : (n rest ended : ℕ) → rest % 10 ≢ 0 → Stripped n rest ended → ended ≡ zero_count n
stripped_ends n rest ended ne s = let z = zero_count_none rest s.left ne in let e = s.zeros_left in omega arith

pub stripped_whole : (n rest ended : ℕ) → rest % 10 ≢ 0 → Stripped n rest ended → n ≡ rest * 10 ^ zero_count n
stripped_whole n rest ended ne s = s.whole ∙ ap (λ k. rest * 10 ^ k) (stripped_ends n rest ended ne s)

-- the zeros that are left are stripped too
pub stripped_then : (n rest ended r : ℕ) → Stripped n rest ended → rest ≡ r * 10 ^ zero_count rest → n ≡ r * 10 ^ zero_count n
stripped_then n rest ended r s e =
    let power : 10 ^ zero_count n ≡ 10 ^ ended * 10 ^ zero_count rest = ap (λ k. 10 ^ k) s.zeros_left ∙ pow-add 10 ended (zero_count rest) in
    let q : r * 10 ^ zero_count rest * 10 ^ ended ≡ r * (10 ^ ended * 10 ^ zero_count rest) = omega arith in
    s.whole ∙ ap (λ x. x * 10 ^ ended) e ∙ q ∙ ap (λ x. r * x) (sym power)

-- a number has a digit
pub digit_count_some : (n : ℕ) → 0 < n → 0 < digit_count n
digit_count_some n h = let d = digit_count_step n h in omega arith
