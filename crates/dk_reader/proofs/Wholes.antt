-- Which texts are a whole number.
use Rattle.std.proofs.Common.{◌≡◌, ℕ, ◌+◌, ◌-◌, ◌*◌, ◌<◌, ◌≤◌, Bool, true, false, List, [], ◌∷◌, length, drop, get_or, Some, None, refl, ap, sym, ◌∙◌, arith, nat_lt, nat_le}
use Rattle.std.specs.List.{list_all}
use Rattle.std.proofs.lemmas.Grind.{common_steps}
use Rattle.std.proofs.lemmas.List.{at_drop_more, at_drop_all}
use Rattle.dk_num.specs.Numbers.{is_digit, numeral_value}
use Rattle.dk_num.specs.Reading.{after_digits}
use Rattle.dk_reader.specs.Values.{whole_of}

-- further digits make a number no smaller
grows : (n : ℕ) (ds : List ℕ) → n ≤ after_digits n ds
grows n [] = omega arith
grows n (d ∷ ds) = let more : n * 10 + (d - 48) ≤ after_digits (n * 10 + (d - 48)) ds = grows (n * 10 + (d - 48)) ds in omega arith

-- a text whose first i bytes are digits of the number n
pub record WholeSoFar (text : List ℕ) (i n : ℕ) : Type 0 where
  pub value : after_digits n (drop i text) ≡ numeral_value text
  pub digits : list_all is_digit (drop i text) ≡ list_all is_digit text
  pub small : n ≤ 4000000

pub none_so_far : (text : List ℕ) → WholeSoFar text 0 0
none_so_far text = record { value = refl; digits = refl; small = omega arith }

-- the number with the next digit, which may be too great
record NextStep (text : List ℕ) (i n : ℕ) : Type 0 where
  value : after_digits n (drop i text) ≡ numeral_value text
  digits : list_all is_digit (drop i text) ≡ list_all is_digit text

next_step : (text : List ℕ) (i n b m : ℕ) → i < length text → b ≡ get_or text i b → is_digit b ≡ true → m ≡ 10 * n + (b - 48) → WholeSoFar text i n → NextStep text (i + 1) m
next_step text i n b m h is digit e was = record {
  value =
      let same : m ≡ n * 10 + (get_or text i b - 48) = omega arith in
      ap (λ k. after_digits k (drop (i + 1) text)) same ∙ sym (at_drop_more (after_digits n) text i b h) ∙ was.value;
  digits =
      let one : list_all is_digit (get_or text i b ∷ drop (i + 1) text) ≡ list_all is_digit (drop (i + 1) text) = rw (← is, digit) refl in
      sym one ∙ sym (at_drop_more (list_all is_digit) text i b h) ∙ was.digits;
}

pub step_further : (text : List ℕ) (i n b m : ℕ) → i < length text → b ≡ get_or text i b → is_digit b ≡ true → m ≡ 10 * n + (b - 48) → m ≤ 4000000 → WholeSoFar text i n → WholeSoFar text (i + 1) m
step_further text i n b m h is digit e small was = let s = next_step text i n b m h is digit e was in record { value = s.value; digits = s.digits; small = small }

not_digits : (text : List ℕ) → list_all is_digit text ≡ false → whole_of text ≡ None
not_digits text e = at (nat_lt 0 (length text)) refl
  where
    at : (b : Bool) → nat_lt 0 (length text) ≡ b → whole_of text ≡ None
    at true f = rw (f, e) refl
    at false f = rw f refl

pub no_digit : (text : List ℕ) (i n b : ℕ) → i < length text → b ≡ get_or text i b → is_digit b ≡ false → WholeSoFar text i n → whole_of text ≡ None
no_digit text i n b h is e was =
    let none : list_all is_digit (get_or text i b ∷ drop (i + 1) text) ≡ false = rw (← is, e) refl in
    not_digits text (sym was.digits ∙ at_drop_more (list_all is_digit) text i b h ∙ none)

pub too_great : (text : List ℕ) (i n b m : ℕ) → i < length text → b ≡ get_or text i b → is_digit b ≡ true → m ≡ 10 * n + (b - 48) → 4000000 < m → WholeSoFar text i n → whole_of text ≡ None
too_great text i n b m h is digit e above was = at (nat_lt 0 (length text)) (list_all is_digit text) refl refl
  where
    s : NextStep text (i + 1) m
    s = next_step text i n b m h is digit e was

    great : nat_le (numeral_value text) 4000000 ≡ false
    great = let more = grows m (drop (i + 1) text) in let v = s.value in grind (arith, common_steps)

    at : (x y : Bool) → nat_lt 0 (length text) ≡ x → list_all is_digit text ≡ y → whole_of text ≡ None
    at true true f g = rw (f, g, great) refl
    at true false f g = rw (f, g) refl
    at false y f g = rw f refl

pub whole_read : (text : List ℕ) (i n : ℕ) → length text ≤ i → 0 < length text → WholeSoFar text i n → whole_of text ≡ Some n
whole_read text i n h some was =
    let value : n ≡ numeral_value text = sym (at_drop_all (after_digits n) text i h) ∙ was.value in
    let digits : list_all is_digit text ≡ true = sym was.digits ∙ at_drop_all (list_all is_digit) text i h in
    let one : nat_lt 0 (length text) ≡ true = grind (arith, common_steps) in
    let small : nat_le (numeral_value text) 4000000 ≡ true = let f = was.small in grind (arith, common_steps) in
    rw (one, digits, small) (ap Some (sym value))

pub no_whole : (text : List ℕ) → length text ≡ 0 → whole_of text ≡ None
no_whole text e = let none : nat_lt 0 (length text) ≡ false = grind (arith, common_steps) in rw none refl
