-- Digits of a text, and the numbers that they make.
use Rattle.std.proofs.Common.{◌≡◌, ℕ, zero, suc, ◌+◌, ◌-◌, ◌*◌, ◌<◌, ◌≤◌, List, [], ◌∷◌, ◌++◌, map, length, take, drop, get_or, ap, sym, ◌∙◌, arith, true, min, take-append-drop}
use Rattle.std.proofs.lemmas.Grind.{common_steps}
use Rattle.std.proofs.lemmas.List.{map-append, take_more}
use Rattle.std.proofs.lemmas.Int.Digits.{number_after_append}
use Rattle.std.specs.Int.Digits.{number_from_digits_after}
use Rattle.dk_num.specs.Numbers.{AreDigits, is_digit}
use Rattle.dk_num.specs.Reading.{after_digits}

pub digit_low : (b : ℕ) → is_digit b ≡ true → 48 ≤ b
digit_low b h = grind (arith, common_steps)

pub digit_high : (b : ℕ) → is_digit b ≡ true → b ≤ 57
digit_high b h = grind (arith, common_steps)

pub digit_small : (b : ℕ) → is_digit b ≡ true → b - 48 < 10
digit_small b h = let k = digit_high b h in omega arith

pub digit_at : (ds : List ℕ) (i : ℕ) → AreDigits ds → i < length ds → is_digit (get_or ds i 0) ≡ true
digit_at [] i h lt = absurd (omega arith)
digit_at (b ∷ bs) zero h lt = h.0
digit_at (b ∷ bs) (suc i) h lt = digit_at bs i h.1 (omega arith)

pub digits_left : (ds : List ℕ) (i : ℕ) → AreDigits ds → AreDigits (drop i ds)
digits_left ds zero h = h
digits_left [] (suc i) h = tt
digits_left (b ∷ bs) (suc i) h = digits_left bs i h.1

pub after_append : (n : ℕ) (a b : List ℕ) → after_digits n (a ++ b) ≡ after_digits (after_digits n a) b
after_append n a b = ap (number_from_digits_after 10 n) (map-append (λ x. x - 48) a b) ∙ number_after_append 10 n (map (λ x. x - 48) a) (map (λ x. x - 48) b)

pub after_more : (n : ℕ) (ds : List ℕ) (i : ℕ) → i < length ds → after_digits n (take (i + 1) ds) ≡ after_digits n (take i ds) * 10 + (get_or ds i 0 - 48)
after_more n ds i h = ap (after_digits n) (take_more ds i 0 h) ∙ after_append n (take i ds) (get_or ds i 0 ∷ [])

pub after_split : (n : ℕ) (ds : List ℕ) (i : ℕ) → after_digits n ds ≡ after_digits (after_digits n (take i ds)) (drop i ds)
after_split n ds i = ap (after_digits n) (sym (take-append-drop i ds)) ∙ after_append n (take i ds) (drop i ds)

-- a number that is bounded stays so with a digit behind it
pub bounded_more : (n m d limit : ℕ) → 0 < limit → m ≡ min limit n → min limit (m * 10 + d) ≡ min limit (n * 10 + d)
bounded_more n m d limit some e = omega arith
