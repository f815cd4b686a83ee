-- That the texts of a decimal are read back.
use Rattle.std.proofs.Common.{◌≡◌, inl, inr, ◌&&◌, Bool, true, false, ℕ, zero, suc, ◌+◌, ◌-◌, ◌*◌, ◌/◌, ◌%◌, ◌^◌, ◌<◌, ◌≤◌, List, [], ◌∷◌, ◌++◌, length, take, drop, replicate, Ok, refl, ap, ap₂, sym, subst, ◌∙◌, arith, lit<, ℤ, pos, negsuc, neg_ℤ, ◌+ℤ◌, ◌-ℤ◌, unsigned_abs, int_le, int_lt, nat_lt, codes, decimal, if◌then◌else◌, append_assoc, append-nil, length-append, take-append-drop}
use Rattle.std.specs.Prelude.{◌≤ℤ◌, nat_eq}
use Rattle.std.specs.List.{starts_with}
use Rattle.std.proofs.Math.Nat.{pow-suc}
use Rattle.std.proofs.lemmas.Bool.{eqb-true}
use Rattle.std.proofs.lemmas.Fmt.{decimal_by_steps_wide, decimal_digit, decimal_nonempty}
use Rattle.std.proofs.lemmas.Grind.{common_steps}
use Rattle.std.proofs.lemmas.Int.{ints}
use Rattle.std.proofs.lemmas.List.{length-replicate, length-drop, take_all}
use Rattle.std.proofs.lemmas.Nat.{div-add-mod'}
use Rattle.dk_num.specs.Decimal.{Decimal, IsCanonical, zero_decimal, leading, is_in_range, is_zero, digit_count, zero_count}
use Rattle.dk_num.specs.Numbers.{AreDigits, Spelling, Spells, IsSign, IsPointed, IsExponent, is_digit, numeral_value, mantissa_digits, with_sign, number_of, read_of, number}
use Rattle.dk_num.specs.Reading.{IsSignificand, after_digits}
use Rattle.dk_num.specs.Texts.{joined, sign_text, with_point, plain_digits, places_text, exponent_text, pointed, body_text, table_text, filled, pointed_fully, sci_text}
use Rattle.dk_num.specs.declared.mantissa.Significand.{Significand}
use Rattle.dk_num.proofs.Canonical.{abs_between, same_decimal}
use Rattle.dk_num.proofs.Digits.{digit_count_below, digit_count_some}
use Rattle.dk_num.proofs.Fronts.{reads_only}
use Rattle.dk_num.proofs.Lengths.{decimal_length}
use Rattle.dk_num.proofs.Numerals.{after_append}
use Rattle.dk_num.proofs.ReadingValues.{near_is, outcome, signed_by}
use Rattle.dk_num.proofs.Significands.{zeros_more}
use Rattle.dk_num.proofs.Values.{abs_zero}

-- a text is read as what its spelling says
pub spelled_reads : (text : List ℕ) (s : Spelling) → Spells text s → read_of text ≡ number_of s
spelled_reads text s is = sym (reads_only text (number_of s) (number s is))

-- digits, and the number that they make
pub record IsDigitsOf (ds : List ℕ) (n : ℕ) : Type 0 where
  pub digits : AreDigits ds
  pub value : numeral_value ds ≡ n

digits_join : (a b : List ℕ) → AreDigits a → AreDigits b → AreDigits (a ++ b)
digits_join [] b h k = k
digits_join (x ∷ a) b h k = (h.0, digits_join a b h.1 k)

digits_before : (a b : List ℕ) → AreDigits (a ++ b) → AreDigits a
digits_before [] b h = tt
digits_before (x ∷ a) b h = (h.0, digits_before a b h.1)

digits_behind : (a b : List ℕ) → AreDigits (a ++ b) → AreDigits b
digits_behind [] b h = h
digits_behind (x ∷ a) b h = digits_behind a b h.1

zeros_are_digits : (k : ℕ) → AreDigits (replicate k 48)
zeros_are_digits zero = tt
zeros_are_digits (suc k) = (refl, zeros_are_digits k)

byte_is_digit : (d : ℕ) → d < 10 → is_digit (48 + d) ≡ true
byte_is_digit d h = grind (arith, common_steps)

-- a digit more at the end
pushed : (ds : List ℕ) (n d : ℕ) → d < 10 → IsDigitsOf ds n → IsDigitsOf (ds ++ ((48 + d) ∷ [])) (n * 10 + d)
pushed ds n d h is =
    let more : numeral_value (ds ++ ((48 + d) ∷ [])) ≡ numeral_value ds * 10 + (48 + d - 48) = after_append 0 ds ((48 + d) ∷ []) in
    let v : numeral_value ds ≡ n = is.value in
    record { digits = digits_join ds ((48 + d) ∷ []) is.digits (byte_is_digit d h, tt); value = omega arith }

-- the text of a number is its digits
pub decimal_is : (n : ℕ) → n < 10 ^ 34 → IsDigitsOf (decimal n) n
decimal_is n h = decimal_by_steps_wide (λ k ds. IsDigitsOf ds k) one more n (omega arith)
  where
    one : (k : ℕ) → k < 10 → IsDigitsOf ((48 + k) ∷ []) k
    one k small = record { digits = (byte_is_digit k small, tt); value = omega arith }

    more : (k : ℕ) (ds : List ℕ) → 10 ≤ k → IsDigitsOf ds (k / 10) → IsDigitsOf (ds ++ ((48 + k % 10) ∷ [])) k
    more k ds large is = subst (λ m. IsDigitsOf (ds ++ ((48 + k % 10) ∷ [])) m) (div-add-mod' k 10) (pushed ds (k / 10) (k % 10) (omega arith) is)

ten_times : (n k : ℕ) → n * 10 ^ suc k ≡ n * 10 ^ k * 10
ten_times n k =
    let p : 10 ^ suc k ≡ 10 ^ k * 10 = pow-suc 10 k in
    let q : n * (10 ^ k * 10) ≡ n * 10 ^ k * 10 = omega arith in
    ap (λ x. n * x) p ∙ q

after_zeros : (n k : ℕ) → after_digits n (replicate k 48) ≡ n * 10 ^ k
after_zeros n zero = omega arith
after_zeros n (suc k) = let e = ten_times n k in after_zeros (n * 10 + 0) k ∙ omega arith

-- zeros at the end, and zeros in front
zeros_behind : (ds : List ℕ) (n k : ℕ) → IsDigitsOf ds n → IsDigitsOf (ds ++ replicate k 48) (n * 10 ^ k)
zeros_behind ds n k is = record {
  digits = digits_join ds (replicate k 48) is.digits (zeros_are_digits k);
  value = after_append 0 ds (replicate k 48) ∙ after_zeros (numeral_value ds) k ∙ ap (λ m. m * 10 ^ k) is.value;
}

zeros_before : (ds : List ℕ) (n k : ℕ) → IsDigitsOf ds n → IsDigitsOf (replicate k 48 ++ ds) n
zeros_before ds n k is =
    let none : 0 * 10 ^ k ≡ 0 = omega arith in
    record {
      digits = digits_join (replicate k 48) ds (zeros_are_digits k) is.digits;
      value = after_append 0 (replicate k 48) ds ∙ ap (λ m. after_digits m ds) (after_zeros 0 k ∙ none) ∙ is.value;
    }

-- a number with so many zeros behind it
abbrev with_zeros : ℕ → ℕ → Significand
with_zeros n k = record { core = n; count = digit_count n; zeros = k }

with_zeros_is : (n k : ℕ) → 0 < n → zero_count n ≡ 0 → digit_count n ≤ 34 → IsSignificand (n * 10 ^ k) (with_zeros n k)
with_zeros_is n zero some ends few =
    let e : n * 10 ^ 0 ≡ n = omega arith in
    record { whole = refl; digits = ap digit_count e ∙ omega arith; ended = ap zero_count e ∙ ends; core = refl; ends = ends; few = few }
with_zeros_is n (suc k) some ends few =
    let t = ten_times n k in
    let e : n * 10 ^ k * 10 + 0 ≡ n * 10 ^ suc k = omega arith in
    subst (λ m. IsSignificand m (with_zeros n (suc k))) e (zeros_more (with_zeros n k) (with_zeros n (suc k)) some (with_zeros_is n k some ends few) refl refl (omega arith))

-- the sign's text, and what it says
sign_is : (b : Bool) → IsSign (if b then codes "-" else [])
sign_is true = inr (inr refl)
sign_is false = inl refl

sign_says : (b : Bool) → starts_with nat_eq (if b then codes "-" else []) (codes "-") ≡ b
sign_says true = refl
sign_says false = refl

signed_abs : (z : ℤ) → signed_by (int_lt z (pos 0)) (unsigned_abs z) ≡ z
signed_abs (pos n) = let t : nat_lt n 0 ≡ false = grind (arith, common_steps) in rw t refl
signed_abs (negsuc n) = refl

-- what the digits of a decimal give, with zeros behind them for which its exponent is lower
outcome_is : (d : Decimal) (k : ℕ) → IsCanonical d → 0 < unsigned_abs d.mantissa →
    outcome (int_lt d.mantissa (pos 0)) (with_zeros (unsigned_abs d.mantissa) k) (d.exponent -ℤ pos k) ≡ Ok d
outcome_is d k is some =
    let low : neg_ℤ (pos 9999) ≤ℤ leading d = is.lowest some in
    let high : leading d ≤ℤ pos 9999 = is.highest some in
    let lead : ((d.exponent -ℤ pos k) +ℤ pos (digit_count (unsigned_abs d.mantissa) + k)) -ℤ pos 1 ≡ leading d = omega (arith, ints) in
    let range : is_in_range (leading d) ≡ true = in_range (leading d) low high in
    let back : (d.exponent -ℤ pos k) +ℤ pos k ≡ d.exponent = omega (arith, ints) in
    rw (lead, range) (ap Ok (same_decimal (signed_abs d.mantissa) back))
  where
    in_range : (l : ℤ) → neg_ℤ (pos 9999) ≤ℤ l → l ≤ℤ pos 9999 → is_in_range l ≡ true
    in_range l p q = grind (arith, ints, common_steps)

-- a spelling with the decimal's sign, its digits with zeros behind them, and an exponent that is lower for them
number_is : (d : Decimal) (s : Spelling) (k : ℕ) → IsCanonical d → 0 < unsigned_abs d.mantissa → s.sign ≡ sign_text d.mantissa → mantissa_digits s ≡ unsigned_abs d.mantissa * 10 ^ k →
    with_sign s.exponent_sign (numeral_value s.exponent) -ℤ pos (length s.fraction) ≡ d.exponent -ℤ pos k → number_of s ≡ Ok d
number_is d s k is some sign value place =
    let n : ℕ = unsigned_abs d.mantissa in
    let r : Significand = with_zeros n k in
    let digits : IsSignificand (n * 10 ^ k) r = with_zeros_is n k some (is.stripped some) (digit_count_below 34 n is.small) in
    let negative : starts_with nat_eq s.sign (codes "-") ≡ int_lt d.mantissa (pos 0) = ap (λ t. starts_with nat_eq t (codes "-")) sign ∙ sign_says (int_lt d.mantissa (pos 0)) in
    near_is s r (subst (λ m. IsSignificand m r) (sym value) digits) (λ none. absurd (omega arith))
    ∙ ap (λ b. outcome b r (with_sign s.exponent_sign (numeral_value s.exponent) -ℤ pos (length s.fraction))) negative
    ∙ ap (λ p. outcome (int_lt d.mantissa (pos 0)) r p) place
    ∙ outcome_is d k is some

-- a text of digits with a point among them or none: the digits of a number with zeros behind it, and so many of
-- them behind the point
record IsMantissa (text : List ℕ) (n places zeros : ℕ) : Type 0 where
  whole : List ℕ
  point : List ℕ
  fraction : List ℕ
  bytes : text ≡ whole ++ (point ++ fraction)
  some : 0 < length whole + length fraction
  point_is : IsPointed point fraction
  digits : IsDigitsOf (whole ++ fraction) (n * 10 ^ zeros)
  behind : length fraction ≡ places

-- the text of an exponent
record IsPower (text : List ℕ) (e : ℤ) : Type 0 where
  mark : List ℕ
  sign : List ℕ
  digits : List ℕ
  bytes : text ≡ mark ++ (sign ++ digits)
  shape : IsExponent mark sign digits
  value : with_sign sign (numeral_value digits) ≡ e

-- a decimal's sign, digits and exponent are read as the decimal
body_reads : (d : Decimal) (mantissa power : List ℕ) (places zeros : ℕ) (e : ℤ) → IsCanonical d → 0 < unsigned_abs d.mantissa → IsMantissa mantissa (unsigned_abs d.mantissa) places zeros → IsPower power e →
    e -ℤ pos places ≡ d.exponent -ℤ pos zeros → read_of (sign_text d.mantissa ++ (mantissa ++ power)) ≡ Ok d
body_reads d mantissa power places k e is some m p place =
    let s : Spelling = record { sign = sign_text d.mantissa; whole = m.whole; point = m.point; fraction = m.fraction; mark = p.mark; exponent_sign = p.sign; exponent = p.digits } in
    let joins : (m.whole ++ (m.point ++ m.fraction)) ++ (p.mark ++ (p.sign ++ p.digits)) ≡ m.whole ++ (m.point ++ (m.fraction ++ (p.mark ++ (p.sign ++ p.digits)))) = simp append_assoc in
    let spells : Spells (sign_text d.mantissa ++ (mantissa ++ power)) s = record {
      bytes = ap (λ l. sign_text d.mantissa ++ (l ++ power)) m.bytes ∙ ap (λ l. sign_text d.mantissa ++ ((m.whole ++ (m.point ++ m.fraction)) ++ l)) p.bytes ∙ ap (λ l. sign_text d.mantissa ++ l) joins;
      sign = sign_is (int_lt d.mantissa (pos 0));
      some = m.some;
      whole = digits_before m.whole m.fraction m.digits.digits;
      fraction = digits_behind m.whole m.fraction m.digits.digits;
      point = m.point_is;
      exponent = p.shape;
    } in
    let at : with_sign p.sign (numeral_value p.digits) -ℤ pos (length m.fraction) ≡ d.exponent -ℤ pos k = ap (λ x. x -ℤ pos (length m.fraction)) p.value ∙ ap (λ n. e -ℤ pos n) m.behind ∙ place in
    spelled_reads _ s spells ∙ number_is d s k is some refl m.digits.value at

-- digits with no point
without_point : (text ds : List ℕ) (n zeros : ℕ) → text ≡ ds → 0 < length ds → IsDigitsOf ds (n * 10 ^ zeros) → IsMantissa text n 0 zeros
without_point text ds n k e some is = record {
  whole = ds;
  point = [];
  fraction = [];
  bytes = e ∙ sym (append-nil ds);
  some = omega arith;
  point_is = inl (refl, refl);
  digits = subst (λ l. IsDigitsOf l (n * 10 ^ k)) (sym (append-nil ds)) is;
  behind = refl;
}

-- digits before a point and behind it
around_point : (text before behind : List ℕ) (n places zeros : ℕ) → text ≡ before ++ (codes "." ++ behind) → 0 < length before + length behind → length behind ≡ places → IsDigitsOf (before ++ behind) (n * 10 ^ zeros) →
    IsMantissa text n places zeros
around_point text before behind n places k e some count is = record {
  whole = before;
  point = codes ".";
  fraction = behind;
  bytes = e;
  some = some;
  point_is = inr refl;
  digits = is;
  behind = count;
}

-- no zeros behind the digits
no_zeros : (ds : List ℕ) (n : ℕ) → IsDigitsOf ds n → IsDigitsOf ds (n * 10 ^ 0)
no_zeros ds n is = let e : n ≡ n * 10 ^ 0 = omega arith in subst (λ m. IsDigitsOf ds m) e is

-- the digits cut in two
cut_in_two : (i : ℕ) (ds : List ℕ) (n : ℕ) → IsDigitsOf ds n → IsDigitsOf (take i ds ++ drop i ds) n
cut_in_two i ds n is = subst (λ l. IsDigitsOf l n) (sym (take-append-drop i ds)) is

cut_length : (i : ℕ) (ds : List ℕ) → length (take i ds) + length (drop i ds) ≡ length ds
cut_length i ds = sym (length-append (take i ds) (drop i ds)) ∙ ap length (take-append-drop i ds)

-- the four forms of the digits
with_zeros_behind_is : (ds : List ℕ) (n k : ℕ) → IsDigitsOf ds n → 0 < length ds → IsMantissa (joined (ds ∷ replicate k 48 ∷ [])) n 0 k
with_zeros_behind_is ds n k is some = without_point _ (ds ++ replicate k 48) n k (ap (λ l. ds ++ l) (append-nil (replicate k 48))) (omega (arith, length-append ds (replicate k 48))) (zeros_behind ds n k is)

with_point_is : (ds : List ℕ) (n places : ℕ) → IsDigitsOf ds n → 0 < length ds → IsMantissa (with_point ds places) n places 0
with_point_is ds n places is some = by_count (nat_lt places (length ds)) refl
  where
    by_count : (b : Bool) → nat_lt places (length ds) ≡ b →
        IsMantissa (if b then joined (take (length ds - places) ds ∷ codes "." ∷ drop (length ds - places) ds ∷ []) else joined (codes "0." ∷ replicate (places - length ds) 48 ∷ ds ∷ [])) n places 0
    by_count true t =
        let i : ℕ = length ds - places in
        let few : places < length ds = grind (arith, common_steps) in
        let count : length (drop i ds) ≡ places = length-drop i ds ∙ omega arith in
        let all = cut_length i ds in
        around_point _ (take i ds) (drop i ds) n places 0 (ap (λ l. take i ds ++ (codes "." ++ l)) (append-nil (drop i ds))) (omega arith) count (no_zeros _ n (cut_in_two i ds n is))
    by_count false t =
        let k : ℕ = places - length ds in
        let many : length ds ≤ places = grind (arith, common_steps) in
        let count : length (replicate k 48 ++ ds) ≡ places = length-append (replicate k 48) ds ∙ ap (λ m. m + length ds) (length-replicate k 48) ∙ omega arith in
        let bytes : joined (codes "0." ∷ replicate k 48 ∷ ds ∷ []) ≡ codes "0" ++ (codes "." ++ (replicate k 48 ++ ds)) = ap (λ l. codes "0." ++ (replicate k 48 ++ l)) (append-nil ds) in
        around_point _ (codes "0") (replicate k 48 ++ ds) n places 0 bytes (omega arith) count (no_zeros _ n (zeros_before (replicate k 48 ++ ds) n 1 (zeros_before ds n k is)))

pointed_is : (ds : List ℕ) (n : ℕ) → IsDigitsOf ds n → 0 < length ds → IsMantissa (pointed ds) n (length ds - 1) 0
pointed_is ds n is some = by_count (nat_lt 1 (length ds)) refl
  where
    by_count : (b : Bool) → nat_lt 1 (length ds) ≡ b → IsMantissa (if b then joined (take 1 ds ∷ codes "." ∷ drop 1 ds ∷ []) else take 1 ds) n (length ds - 1) 0
    by_count true t =
        let all = cut_length 1 ds in
        around_point _ (take 1 ds) (drop 1 ds) n (length ds - 1) 0 (ap (λ l. take 1 ds ++ (codes "." ++ l)) (append-nil (drop 1 ds))) (omega arith) (length-drop 1 ds) (no_zeros _ n (cut_in_two 1 ds n is))
    by_count false t =
        let few : length ds ≤ 1 = grind (arith, common_steps) in
        let none : 0 ≡ length ds - 1 = omega arith in
        subst (λ k. IsMantissa (take 1 ds) n k 0) none (without_point (take 1 ds) ds n 0 (take_all 1 ds few) some (no_zeros ds n is))

pointed_fully_is : (ds : List ℕ) (n k : ℕ) → k ≡ 15 - length (drop 1 ds) → IsDigitsOf ds n → 0 < length ds → IsMantissa (pointed_fully ds) n (length ds - 1 + k) k
pointed_fully_is ds n k e is some =
    let behind : List ℕ = drop 1 ds ++ replicate k 48 in
    let fill : filled (drop 1 ds) ≡ behind = ap (λ l. drop 1 ds ++ l) (append-nil (replicate (15 - length (drop 1 ds)) 48)) ∙ ap (λ m. drop 1 ds ++ replicate m 48) (sym e) in
    let bytes : pointed_fully ds ≡ take 1 ds ++ (codes "." ++ behind) = ap (λ l. take 1 ds ++ (codes "." ++ l)) (append-nil (filled (drop 1 ds)) ∙ fill) in
    let count : length behind ≡ length ds - 1 + k = length-append (drop 1 ds) (replicate k 48) ∙ ap₂ (λ x y. x + y) (length-drop 1 ds) (length-replicate k 48) in
    let all = cut_length 1 ds in
    let rest : length (drop 1 ds) ≡ length ds - 1 = length-drop 1 ds in
    let parts : (take 1 ds ++ drop 1 ds) ++ replicate k 48 ≡ take 1 ds ++ behind = append_assoc (take 1 ds) (drop 1 ds) (replicate k 48) in
    around_point _ (take 1 ds) behind n (length ds - 1 + k) k bytes (omega arith) count
    (subst (λ l. IsDigitsOf l (n * 10 ^ k)) parts (zeros_behind (take 1 ds ++ drop 1 ds) n k (cut_in_two 1 ds n is)))

-- no exponent
no_power : IsPower [] (pos 0)
no_power = record { mark = []; sign = []; digits = []; bytes = refl; shape = inl (refl, refl, refl); value = refl }

-- a number in at least two digits
two_digits : (n : ℕ) → n ≤ 10032 → let ds = joined ((if nat_lt n 10 then codes "0" else []) ∷ decimal n ∷ []) in (0 < length ds) × IsDigitsOf ds n
two_digits n few = by_size (nat_lt n 10)
  where
    number_of_it : IsDigitsOf (decimal n ++ []) n
    number_of_it = subst (λ l. IsDigitsOf l n) (sym (append-nil (decimal n))) (decimal_is n (omega arith))

    length_is : 0 < length (decimal n ++ [])
    length_is = subst (λ l. 0 < length l) (sym (append-nil (decimal n))) (decimal_nonempty n (omega arith))

    by_size : (b : Bool) → (0 < length ((if b then codes "0" else []) ++ (decimal n ++ []))) × IsDigitsOf ((if b then codes "0" else []) ++ (decimal n ++ [])) n
    by_size true = (omega arith, zeros_before (decimal n ++ []) n 1 number_of_it)
    by_size false = (length_is, number_of_it)

-- a number from its sign and its magnitude
negative : (z : ℤ) → int_lt z (pos 0) ≡ true → neg_ℤ (pos (unsigned_abs z)) ≡ z
negative z t = ap (λ b. signed_by b (unsigned_abs z)) (sym t) ∙ signed_abs z

positive : (z : ℤ) → int_lt z (pos 0) ≡ false → pos (unsigned_abs z) ≡ z
positive z t = ap (λ b. signed_by b (unsigned_abs z)) (sym t) ∙ signed_abs z

exponent_is : (e : ℤ) → unsigned_abs e ≤ 10032 → IsPower (exponent_text e) e
exponent_is e near = by_sign (int_lt e (pos 0)) refl
  where
    by_sign : (b : Bool) → int_lt e (pos 0) ≡ b → IsPower (if b then places_text (codes "e-") (unsigned_abs e) else places_text (codes "e+") (unsigned_abs e)) e
    by_sign true t = let ds = two_digits (unsigned_abs e) near in record {
      mark = codes "e";
      sign = codes "-";
      digits = _;
      bytes = refl;
      shape = inr (inl refl, inr (inr refl), (ds.0, ds.1.digits));
      value = ap (λ m. neg_ℤ (pos m)) ds.1.value ∙ negative e t;
    }
    by_sign false t = let ds = two_digits (unsigned_abs e) near in record {
      mark = codes "e";
      sign = codes "+";
      digits = _;
      bytes = refl;
      shape = inr (inl refl, inr (inl refl), (ds.0, ds.1.digits));
      value = ap pos ds.1.value ∙ positive e t;
    }

-- a decimal that isn't zero, and the digits of its mantissa
record HasDigits (d : Decimal) (ds : List ℕ) : Type 0 where
  canonical : IsCanonical d
  not_zero : 0 < unsigned_abs d.mantissa
  digits : IsDigitsOf ds (unsigned_abs d.mantissa)
  count : length ds ≡ digit_count (unsigned_abs d.mantissa)

decimal_digits : (d : Decimal) → IsCanonical d → is_zero d ≡ false → HasDigits d (decimal (unsigned_abs d.mantissa))
decimal_digits d is t =
    let some : 0 < unsigned_abs d.mantissa = grind (arith, common_steps) in
    record { canonical = is; not_zero = some; digits = decimal_is (unsigned_abs d.mantissa) is.small; count = decimal_length (unsigned_abs d.mantissa) some is.small }

some_digits : (d : Decimal) (ds : List ℕ) → HasDigits d ds → 0 < length ds
some_digits d ds has = let c = digit_count_some (unsigned_abs d.mantissa) has.not_zero in let n = has.count in omega arith

leading_is : (d : Decimal) → IsCanonical d → 0 < unsigned_abs d.mantissa → IsPower (exponent_text (leading d)) (leading d)
leading_is d is some =
    let low : neg_ℤ (pos 9999) ≤ℤ leading d = is.lowest some in
    let high : leading d ≤ℤ pos 9999 = is.highest some in
    exponent_is (leading d) (abs_between (leading d) (omega (arith, ints)) (omega (arith, ints)))

-- the forms of a decimal's text: without an exponent, either of the two, and with one in any case
plain_back : (d : Decimal) (ds : List ℕ) → HasDigits d ds → read_of (sign_text d.mantissa ++ plain_digits ds d.exponent) ≡ Ok d
plain_back d ds has = by_sign (int_lt d.exponent (pos 0)) refl
  where
    plain : (text : List ℕ) (places k : ℕ) → IsMantissa text (unsigned_abs d.mantissa) places k → pos 0 -ℤ pos places ≡ d.exponent -ℤ pos k → read_of (sign_text d.mantissa ++ text) ≡ Ok d
    plain text places k m place = ap (λ l. read_of (sign_text d.mantissa ++ l)) (sym (append-nil text)) ∙ body_reads d text [] places k (pos 0) has.canonical has.not_zero m no_power place

    by_sign : (b : Bool) → int_lt d.exponent (pos 0) ≡ b →
        read_of (sign_text d.mantissa ++ (if b then with_point ds (unsigned_abs d.exponent) else joined (ds ∷ replicate (unsigned_abs d.exponent) 48 ∷ []))) ≡ Ok d
    by_sign true t =
        let e : neg_ℤ (pos (unsigned_abs d.exponent)) ≡ d.exponent = negative d.exponent t in
        plain _ (unsigned_abs d.exponent) 0 (with_point_is ds (unsigned_abs d.mantissa) (unsigned_abs d.exponent) has.digits (some_digits d ds has)) (omega (arith, ints))
    by_sign false t =
        let e : pos (unsigned_abs d.exponent) ≡ d.exponent = positive d.exponent t in
        plain _ 0 (unsigned_abs d.exponent) (with_zeros_behind_is ds (unsigned_abs d.mantissa) (unsigned_abs d.exponent) has.digits (some_digits d ds has)) (omega (arith, ints))

body_back : (d : Decimal) (ds : List ℕ) → HasDigits d ds → read_of (sign_text d.mantissa ++ body_text ds d.exponent (leading d)) ≡ Ok d
body_back d ds has = by_leading (int_le (neg_ℤ (pos 6)) (leading d) && int_le (leading d) (pos 33))
  where
    by_leading : (b : Bool) → read_of (sign_text d.mantissa ++ (if b then plain_digits ds d.exponent else pointed ds ++ exponent_text (leading d))) ≡ Ok d
    by_leading true = plain_back d ds has
    by_leading false =
        let some = some_digits d ds has in
        let count : length ds ≡ digit_count (unsigned_abs d.mantissa) = has.count in
        let place : leading d -ℤ pos (length ds - 1) ≡ d.exponent -ℤ pos 0 = omega (arith, ints) in
        body_reads d (pointed ds) (exponent_text (leading d)) (length ds - 1) 0 (leading d) has.canonical has.not_zero
        (pointed_is ds (unsigned_abs d.mantissa) has.digits some) (leading_is d has.canonical has.not_zero) place

sci_body_back : (d : Decimal) (ds : List ℕ) → HasDigits d ds → read_of (sign_text d.mantissa ++ (pointed_fully ds ++ exponent_text (leading d))) ≡ Ok d
sci_body_back d ds has =
    let k : ℕ = 15 - length (drop 1 ds) in
    let some = some_digits d ds has in
    let count : length ds ≡ digit_count (unsigned_abs d.mantissa) = has.count in
    let place : leading d -ℤ pos (length ds - 1 + k) ≡ d.exponent -ℤ pos k = omega (arith, ints) in
    body_reads d (pointed_fully ds) (exponent_text (leading d)) (length ds - 1 + k) k (leading d) has.canonical has.not_zero
    (pointed_fully_is ds (unsigned_abs d.mantissa) k refl has.digits some) (leading_is d has.canonical has.not_zero) place

-- the one decimal that is zero
zero_only : (d : Decimal) → IsCanonical d → unsigned_abs d.mantissa ≡ 0 → zero_decimal ≡ d
zero_only d is none = same_decimal (sym (abs_zero d.mantissa none)) (sym (is.zero none))

-- the two texts of zero
zero_table : read_of (codes "0") ≡ Ok zero_decimal
unfolding read_of number_of
zero_table = refl

zero_sci : read_of (pointed_fully (codes "0") ++ exponent_text (pos 0)) ≡ Ok zero_decimal
unfolding read_of number_of
zero_sci = rw (decimal_digit 0 (lit< tt)) refl

pub table_reads : (d : Decimal) → IsCanonical d → read_of (table_text d) ≡ Ok d
unfolding table_text
table_reads d is = by_zero (is_zero d) refl
  where
    by_zero : (b : Bool) → is_zero d ≡ b → read_of (if b then codes "0" else sign_text d.mantissa ++ body_text (decimal (unsigned_abs d.mantissa)) d.exponent (leading d)) ≡ Ok d
    by_zero true t = zero_table ∙ ap Ok (zero_only d is (eqb-true _ _ t))
    by_zero false t = body_back d (decimal (unsigned_abs d.mantissa)) (decimal_digits d is t)

pub sci_reads : (d : Decimal) → IsCanonical d → read_of (sci_text d) ≡ Ok d
unfolding sci_text
sci_reads d is = by_zero (is_zero d) refl
  where
    by_zero : (b : Bool) → is_zero d ≡ b →
        read_of (if b then pointed_fully (codes "0") ++ exponent_text (pos 0) else sign_text d.mantissa ++ (pointed_fully (decimal (unsigned_abs d.mantissa)) ++ exponent_text (leading d))) ≡ Ok d
    by_zero true t = zero_sci ∙ ap Ok (zero_only d is (eqb-true _ _ t))
    by_zero false t = sci_body_back d (decimal (unsigned_abs d.mantissa)) (decimal_digits d is t)
