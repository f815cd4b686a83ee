-- A whole number with one digit more.
use Rattle.std.proofs.Common.{◌≡◌, ◌≢◌, ℕ, zero, suc, ◌+◌, ◌-◌, ◌*◌, ◌/◌, ◌%◌, ◌^◌, ◌<◌, ◌≤◌, List, [], ◌∷◌, length, take, drop, get_or, ap, sym, subst, ◌∙◌, arith, lit<, lit≤}
use Rattle.std.proofs.Math.Nat.{mul-le-mul_right}
use Rattle.std.proofs.lemmas.Nat.{pow-add}
use Rattle.std.proofs.lemmas.Int.Digits.{number_lt, number_digits_of, all_below_base_digits_of}
use Rattle.std.specs.Int.Digits.{digits_of}
use Rattle.dk_num.specs.Decimal.{digit_count, zero_count}
use Rattle.dk_num.specs.Reading.{after_digits, significant_count, IsSignificand, value_of}
use Rattle.dk_num.specs.declared.mantissa.Significand.{Significand}
use Rattle.dk_num.proofs.Digits.{digit_count_step, zero_count_more, zero_count_none}
use Rattle.dk_num.proofs.Powers.{ten_more, ten_pow_le}
use Rattle.dk_num.specs.Numbers.{AreDigits}
use Rattle.dk_num.proofs.Numerals.{digit_small, after_more, after_split, digits_left}

digit_last : (n d : ℕ) → d < 10 → ((n * 10 + d) / 10 ≡ n) × ((n * 10 + d) % 10 ≡ d)
digit_last n d h = (omega arith, omega arith)

pub digit_count_push : (n d : ℕ) → d < 10 → 0 < n * 10 + d → digit_count (n * 10 + d) ≡ digit_count n + 1
digit_count_push n d h some = digit_count_step (n * 10 + d) some ∙ ap (λ k. digit_count k + 1) (digit_last n d h).0

pub zero_count_push_zero : (n : ℕ) → 0 < n → zero_count (n * 10) ≡ zero_count n + 1
zero_count_push_zero n some =
    let q : n * 10 / 10 ≡ n = omega arith in
    let m : n * 10 % 10 ≡ 0 = omega arith in
    zero_count_more (n * 10) (omega arith) m ∙ ap (λ k. zero_count k + 1) q

pub zero_count_push : (n d : ℕ) → 0 < d → d < 10 → zero_count (n * 10 + d) ≡ 0
zero_count_push n d low high =
    let m : (n * 10 + d) % 10 ≡ d = (digit_last n d high).1 in
    let ne : (n * 10 + d) % 10 ≢ 0 = omega arith in
    zero_count_none (n * 10 + d) (omega arith) ne

-- a number is below the power of ten of its digits' number
pub below_power : (n : ℕ) → n < 10 ^ digit_count n
below_power n = subst (λ k. k < 10 ^ digit_count n) (number_digits_of 10 n (lit≤ tt)) (number_lt 10 (digits_of 10 n) (all_below_base_digits_of 10 n (lit≤ tt)))

-- a digit more leaves no fewer of them without the zeros at the end
pub significant_push : (n d : ℕ) → d < 10 → significant_count n ≤ significant_count (n * 10 + d)
significant_push zero d h = omega arith
significant_push (suc n) zero h =
    let a : digit_count (suc n * 10 + 0) ≡ digit_count (suc n) + 1 = digit_count_push (suc n) 0 h (omega arith) in
    let e : suc n * 10 + 0 ≡ suc n * 10 = omega arith in
    let b : zero_count (suc n * 10 + 0) ≡ zero_count (suc n) + 1 = ap zero_count e ∙ zero_count_push_zero (suc n) (omega arith) in
    omega arith
significant_push (suc n) (suc d) h =
    let a : digit_count (suc n * 10 + suc d) ≡ digit_count (suc n) + 1 = digit_count_push (suc n) (suc d) h (omega arith) in
    let b : zero_count (suc n * 10 + suc d) ≡ 0 = zero_count_push (suc n) (suc d) (omega arith) h in
    omega arith

pub zeros_more : (s : Significand) (r : Significand) → 0 < s.core → IsSignificand (value_of s) s → r.core ≡ s.core → r.count ≡ s.count → r.zeros ≡ s.zeros + 1 → IsSignificand (value_of s * 10 + 0) r
zeros_more s r some is core_is count_is zeros_is =
    let p : 10 ^ (s.zeros + 1) ≡ 10 ^ s.zeros * 10 = ten_more s.zeros in
    let q : s.core * 10 ^ (s.zeros + 1) ≡ s.core * (10 ^ s.zeros * 10) = ap (λ k. s.core * k) p in
    let w : value_of s * 10 + 0 ≡ s.core * 10 ^ (s.zeros + 1) = omega arith in
    let same : value_of s * 10 + 0 ≡ value_of s * 10 = omega arith in
    let positive : 0 < value_of s = value_some s some in
    let d : digit_count (value_of s * 10 + 0) ≡ digit_count (value_of s) + 1 = digit_count_push (value_of s) 0 (lit< tt) (omega arith) in
    let z : zero_count (value_of s * 10 + 0) ≡ zero_count (value_of s) + 1 = ap zero_count same ∙ zero_count_push_zero (value_of s) positive in
    let a = is.digits in let b = is.ended in let f = is.few in
    record {
      whole = rw (core_is, zeros_is) w;
      digits = omega arith;
      ended = omega arith;
      core = ap digit_count core_is ∙ is.core ∙ sym count_is;
      ends = ap zero_count core_is ∙ is.ends;
      few = omega arith;
    }
  where
    value_some : (t : Significand) → 0 < t.core → 0 < value_of t
    value_some t h = let one : 10 ^ 0 ≤ 10 ^ t.zeros = ten_pow_le 0 t.zeros (omega arith) in let m : 1 * 10 ^ t.zeros ≤ t.core * 10 ^ t.zeros = mul-le-mul_right (10 ^ t.zeros) h in omega arith

-- a number with no zeros at its end, as it is
pub alone : (n d : ℕ) (r : Significand) → 0 < d → d < 10 → r.core ≡ n * 10 + d → r.count ≡ digit_count n + 1 → r.zeros ≡ 0 → r.count ≤ 34 → IsSignificand (n * 10 + d) r
alone n d r low high core_is count_is zeros_is few =
    let a : digit_count (n * 10 + d) ≡ digit_count n + 1 = digit_count_push n d high (omega arith) in
    let z : zero_count (n * 10 + d) ≡ 0 = zero_count_push n d low high in
    record {
      whole = rw (core_is, zeros_is) (omega arith);
      digits = omega arith;
      ended = z ∙ sym zeros_is;
      core = ap digit_count core_is ∙ a ∙ sym count_is;
      ends = ap zero_count core_is ∙ z;
      few = few;
    }

pub digit_more : (s r : Significand) (d : ℕ) → 0 < d → d < 10 → IsSignificand (value_of s) s → r.core ≡ s.core * 10 ^ (s.zeros + 1) + d → r.count ≡ s.count + (s.zeros + 1) → r.zeros ≡ 0 → r.count ≤ 34 → IsSignificand (value_of s * 10 + d) r
digit_more s r d low high is core_is count_is zeros_is few =
    let p : 10 ^ (s.zeros + 1) ≡ 10 ^ s.zeros * 10 = ten_more s.zeros in
    let q : s.core * 10 ^ (s.zeros + 1) ≡ s.core * (10 ^ s.zeros * 10) = ap (λ k. s.core * k) p in
    let w : r.core ≡ value_of s * 10 + d = omega arith in
    let a = is.digits in
    alone (value_of s) d r low high w (omega arith) zeros_is few

-- too many digits are left behind one that isn't zero
pub too_many : (s : Significand) (d : ℕ) → 0 < d → d < 10 → IsSignificand (value_of s) s → 34 < s.count + (s.zeros + 1) → 34 < significant_count (value_of s * 10 + d)
too_many s d low high is many =
    let a : digit_count (value_of s * 10 + d) ≡ digit_count (value_of s) + 1 = digit_count_push (value_of s) d high (omega arith) in
    let z : zero_count (value_of s * 10 + d) ≡ 0 = zero_count_push (value_of s) d low high in
    let e = is.digits in
    omega arith

pub core_fits : (s : Significand) (n places : ℕ) → IsSignificand n s → s.count + places ≤ 34 → s.core * 10 ^ places ≤ 10 ^ 34
core_fits s n places is few =
    let small : s.core < 10 ^ s.count = subst (λ k. s.core < 10 ^ k) is.core (below_power s.core) in
    let m : s.core * 10 ^ places ≤ 10 ^ s.count * 10 ^ places = mul-le-mul_right (10 ^ places) (omega arith) in
    let e : 10 ^ (s.count + places) ≡ 10 ^ s.count * 10 ^ places = pow-add 10 s.count places in
    let le : 10 ^ (s.count + places) ≤ 10 ^ 34 = ten_pow_le (s.count + places) 34 few in
    omega arith

pub core_small : (n : ℕ) (s : Significand) → IsSignificand n s → s.core < 10 ^ 34
core_small n s is =
    let small : s.core < 10 ^ s.count = subst (λ k. s.core < 10 ^ k) is.core (below_power s.core) in
    let le : 10 ^ s.count ≤ 10 ^ 34 = ten_pow_le s.count 34 is.few in
    omega arith

pub significant_after : (n : ℕ) (ds : List ℕ) → AreDigits ds → significant_count n ≤ significant_count (after_digits n ds)
significant_after n [] h = omega arith
significant_after n (b ∷ bs) h =
    let d : b - 48 < 10 = digit_small b h.0 in
    let one : significant_count n ≤ significant_count (n * 10 + (b - 48)) = significant_push n (b - 48) d in
    let rest : significant_count (n * 10 + (b - 48)) ≤ significant_count (after_digits (n * 10 + (b - 48)) bs) = significant_after (n * 10 + (b - 48)) bs h.1 in
    omega arith

-- a digit more of a list
pub stepped : (n : ℕ) (ds : List ℕ) (i : ℕ) (s r : Significand) → i < length ds → value_of s ≡ after_digits n (take i ds) → IsSignificand (value_of s * 10 + (get_or ds i 0 - 48)) r →
    (value_of r ≡ after_digits n (take (i + 1) ds)) × IsSignificand (value_of r) r
stepped n ds i s r h e is =
    let more : after_digits n (take (i + 1) ds) ≡ after_digits n (take i ds) * 10 + (get_or ds i 0 - 48) = after_more n ds i h in
    let v : value_of r ≡ value_of s * 10 + (get_or ds i 0 - 48) = sym is.whole in
    (v ∙ ap (λ k. k * 10 + (get_or ds i 0 - 48)) e ∙ sym more, subst (λ k. IsSignificand k r) (sym v) is)

-- where too many digits are left already, too many are in the end
pub too_long : (n : ℕ) (ds : List ℕ) (i m : ℕ) → AreDigits ds → i < length ds → m ≡ after_digits n (take i ds) → 34 < significant_count (m * 10 + (get_or ds i 0 - 48)) → 34 < significant_count (after_digits n ds)
too_long n ds i m digits h e many =
    let more : after_digits n (take (i + 1) ds) ≡ m * 10 + (get_or ds i 0 - 48) = after_more n ds i h ∙ ap (λ k. k * 10 + (get_or ds i 0 - 48)) (sym e) in
    let grows : significant_count (after_digits n (take (i + 1) ds)) ≤ significant_count (after_digits (after_digits n (take (i + 1) ds)) (drop (i + 1) ds)) = significant_after _ _ (digits_left ds (i + 1) digits) in
    let now : 34 < significant_count (after_digits n (take (i + 1) ds)) = subst (λ k. 34 < significant_count k) (sym more) many in
    subst (λ k. 34 < significant_count k) (sym (after_split n ds (i + 1))) (below _ _ now grows)
  where
    below : (a b : ℕ) → 34 < a → a ≤ b → 34 < b
    below a b p q = omega arith
