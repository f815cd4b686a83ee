-- The bytes of numbers and decimals begin no others'.
use Rattle.std.proofs.Common.{◌≡◌, ℕ, zero, suc, ◌+◌, ◌-◌, ◌*◌, ◌/◌, ◌%◌, ◌^◌, ◌<◌, ◌≤◌, ℤ, unsigned_abs, List, [], ◌∷◌, ◌++◌, length, drop, refl, sym, ◌∙◌, ap, subst, arith, length-append, append_assoc, Fits, FitsSigned, inl, inr}
use Rattle.std.specs.Int.{w16, w32, w128, to_le_bytes, cast_unsigned, cast_signed, bytes_low_first, byte_at}
use Rattle.std.specs.List.{All, flat_map}
use Rattle.std.proofs.Math.Nat.{eq-zero-or-pos, div-one, pow-suc, div-div-eq-div-mul}
use Rattle.std.proofs.Math.Facts.{Fits-of_z, to_z-of_z}
use Rattle.std.proofs.lemmas.Int.{fits_signed_from_abs, ints}
use Rattle.std.proofs.lemmas.List.{drop-drop}
use Rattle.std.proofs.lemmas.List.Elements.{All-head, All-tail}
use Rattle.dk_num.specs.Decimal.{Decimal, IsCanonical, digit_count}
use Rattle.dk_num.proofs.Digits.{digit_count_below}
use Rattle.dk_record.specs.Payloads.{decimal_bytes}
use Rattle.dk_record.specs.Readings.{IsPrefixFree, AreDecimals}

-- two fronts of one length that begin one list are one, and so is what follows
pub record Same (xs ys rest others : List ℕ) : Type 0 where
  pub front : xs ≡ ys
  pub back : rest ≡ others

pub split_same : (xs ys rest others : List ℕ) → length xs ≡ length ys → xs ++ rest ≡ ys ++ others → Same xs ys rest others
split_same [] [] rest others long e = record { front = refl; back = e }
split_same [] (y ∷ ys) rest others long e = absurd (omega arith)
split_same (x ∷ xs) [] rest others long e = absurd (omega arith)
split_same (x ∷ xs) (y ∷ ys) rest others long e =
    let head : x ≡ y = cc in
    let tail : xs ++ rest ≡ ys ++ others = cc in
    let same = split_same xs ys rest others (omega arith) tail in
    record { front = (λ i. head i ∷ same.front i); back = same.back }

-- as many things of a kind that is prefix-free, one behind the other
pub many_same : {A : Type 0} (IsOne : A → Type 0) (bytes_of : A → List ℕ) → IsPrefixFree IsOne bytes_of →
    (xs ys : List A) (rest others : List ℕ) → length xs ≡ length ys → All IsOne xs → All IsOne ys →
    flat_map bytes_of xs ++ rest ≡ flat_map bytes_of ys ++ others → (xs ≡ ys) × (rest ≡ others)
many_same IsOne bytes_of free [] [] rest others long one two e = (refl, e)
many_same IsOne bytes_of free [] (y ∷ ys) rest others long one two e = absurd (omega arith)
many_same IsOne bytes_of free (x ∷ xs) [] rest others long one two e = absurd (omega arith)
many_same IsOne bytes_of free (x ∷ xs) (y ∷ ys) rest others long one two e =
    let opened = sym (append_assoc (bytes_of x) (flat_map bytes_of xs) rest) ∙ e ∙ append_assoc (bytes_of y) (flat_map bytes_of ys) others in
    let head = free x y (flat_map bytes_of xs ++ rest) (flat_map bytes_of ys ++ others) (All-head IsOne x xs one) (All-head IsOne y ys two) opened in
    let tail = many_same IsOne bytes_of free xs ys rest others (omega arith) (All-tail IsOne x xs one) (All-tail IsOne y ys two) head.1 in
    let same : x ≡ y = head.0 in
    let others_same : xs ≡ ys = tail.0 in
    ((λ i. same i ∷ others_same i), tail.1)

pub length_low_first : (i k n : ℕ) → length (bytes_low_first i k n) ≡ k
length_low_first i zero n = refl
length_low_first i (suc k) n = omega (arith, length_low_first (suc i) k n)

pub byte_is : (i n : ℕ) → byte_at i n ≡ n / 256 ^ i % 256
byte_is zero n = ap (λ (m : ℕ). m % 256) (sym (div-one n))
byte_is (suc i) n = refl

pub next_is : (i n : ℕ) → n / 256 ^ suc i ≡ n / 256 ^ i / 256
next_is i n = ap (λ (m : ℕ). n / m) (pow-suc 256 i) ∙ sym (div-div-eq-div-mul n (256 ^ i) 256)

low_same : (i k n m : ℕ) → n / 256 ^ i < 256 ^ k → m / 256 ^ i < 256 ^ k → bytes_low_first i k n ≡ bytes_low_first i k m → n / 256 ^ i ≡ m / 256 ^ i
low_same i zero n m small other e = omega arith
low_same i (suc k) n m small other e =
    let head : byte_at i n ≡ byte_at i m = cc in
    let tail : bytes_low_first (suc i) k n ≡ bytes_low_first (suc i) k m = cc in
    let low : n / 256 ^ i % 256 ≡ m / 256 ^ i % 256 = sym (byte_is i n) ∙ head ∙ byte_is i m in
    let power = pow-suc 256 k in
    let high = low_same (suc i) k n m (omega (arith, next_is i n)) (omega (arith, next_is i m)) tail in
    omega (arith, low, high, next_is i n, next_is i m)

-- so many bytes are those of one number
pub number_same : (k n m : ℕ) → n < 256 ^ k → m < 256 ^ k → bytes_low_first 0 k n ≡ bytes_low_first 0 k m → n ≡ m
number_same k n m small other e =
    sym (div-one n) ∙ low_same 0 k n m (subst (λ v. v < 256 ^ k) (sym (div-one n)) small) (subst (λ v. v < 256 ^ k) (sym (div-one m)) other) e ∙ div-one m

pub attempt_same : (n m : ℕ) → n < 2 ^ 32 → m < 2 ^ 32 → to_le_bytes w32 n ≡ to_le_bytes w32 m → n ≡ m
attempt_same n m small other e = number_same 4 n m small other e

pub signed_same_16 : (a b : ℤ) → FitsSigned w16 a → FitsSigned w16 b → to_le_bytes w16 (cast_unsigned w16 a) ≡ to_le_bytes w16 (cast_unsigned w16 b) → a ≡ b
signed_same_16 a b small other e =
    let one : Fits w16 (cast_unsigned w16 a) = Fits-of_z {w = w16} {z = a} small in
    let two : Fits w16 (cast_unsigned w16 b) = Fits-of_z {w = w16} {z = b} other in
    let same = number_same 2 (cast_unsigned w16 a) (cast_unsigned w16 b) (search (arith, one)) (search (arith, two)) e in
    sym (to_z-of_z {w = w16} {z = a} small) ∙ ap (cast_signed w16) same ∙ to_z-of_z {w = w16} {z = b} other

pub signed_same_128 : (a b : ℤ) → FitsSigned w128 a → FitsSigned w128 b → to_le_bytes w128 (cast_unsigned w128 a) ≡ to_le_bytes w128 (cast_unsigned w128 b) → a ≡ b
signed_same_128 a b small other e =
    let one : Fits w128 (cast_unsigned w128 a) = Fits-of_z {w = w128} {z = a} small in
    let two : Fits w128 (cast_unsigned w128 b) = Fits-of_z {w = w128} {z = b} other in
    let same = number_same 16 (cast_unsigned w128 a) (cast_unsigned w128 b) (search (arith, one)) (search (arith, two)) e in
    sym (to_z-of_z {w = w128} {z = a} small) ∙ ap (cast_signed w128) same ∙ to_z-of_z {w = w128} {z = b} other

pub length-decimal_bytes : (d : Decimal) → length (decimal_bytes d) ≡ 18
length-decimal_bytes d =
    omega (arith, length-append (to_le_bytes w128 (cast_unsigned w128 d.mantissa)) (to_le_bytes w16 (cast_unsigned w16 d.exponent)), length_low_first 0 16 (cast_unsigned w128 d.mantissa), length_low_first 0 2 (cast_unsigned w16 d.exponent))

pub mantissa_fits : (d : Decimal) → IsCanonical d → FitsSigned w128 d.mantissa
mantissa_fits d canonical = fits_signed_from_abs w128 d.mantissa (omega (arith, canonical.small))

pub exponent_small : (d : Decimal) → IsCanonical d → unsigned_abs d.exponent < 2 ^ 15
exponent_small d canonical = elim (eq-zero-or-pos (unsigned_abs d.mantissa)) [
  | inl none ↦ subst (λ (z : ℤ). unsigned_abs z < 2 ^ 15) (sym (canonical.zero none)) (omega arith)
  | inr some ↦
      let low = canonical.lowest some in
      let high = canonical.highest some in
      let few : digit_count (unsigned_abs d.mantissa) ≤ 34 = digit_count_below 34 (unsigned_abs d.mantissa) canonical.small in
      omega (arith, ints, low, high, few)
]

pub exponent_fits : (d : Decimal) → IsCanonical d → FitsSigned w16 d.exponent
exponent_fits d canonical = fits_signed_from_abs w16 d.exponent (exponent_small d canonical)

pub exponent_word : (d : Decimal) → IsCanonical d → cast_signed w32 (cast_unsigned w32 d.exponent) ≡ d.exponent
exponent_word d canonical = to_z-of_z {w = w32} {z = d.exponent} (fits_signed_from_abs w32 d.exponent (omega (arith, exponent_small d canonical)))

pub decimal_is : (a b : Decimal) → a.mantissa ≡ b.mantissa → a.exponent ≡ b.exponent → a ≡ b
decimal_is a b m e = λ i. record { mantissa = m i; exponent = e i }

pub decimal_same : IsPrefixFree IsCanonical decimal_bytes
decimal_same a b rest others one two e =
    let whole = split_same (decimal_bytes a) (decimal_bytes b) rest others (length-decimal_bytes a ∙ sym (length-decimal_bytes b)) e in
    let parts = split_same (to_le_bytes w128 (cast_unsigned w128 a.mantissa)) (to_le_bytes w128 (cast_unsigned w128 b.mantissa)) (to_le_bytes w16 (cast_unsigned w16 a.exponent)) (to_le_bytes w16 (cast_unsigned w16 b.exponent)) refl whole.front in
    let m = signed_same_128 a.mantissa b.mantissa (mantissa_fits a one) (mantissa_fits b two) parts.front in
    let x = signed_same_16 a.exponent b.exponent (exponent_fits a one) (exponent_fits b two) parts.back in
    (decimal_is a b m x, whole.back)

pub decimals_same : (count : ℕ) → IsPrefixFree (AreDecimals count) (flat_map decimal_bytes)
decimals_same count ps qs rest others one two e = many_same IsCanonical decimal_bytes decimal_same ps qs rest others (one.long ∙ sym two.long) one.each two.each e

pub length-decimals : (ds : List Decimal) → length (flat_map decimal_bytes ds) ≡ 18 * length ds
length-decimals [] = refl
length-decimals (d ∷ ds) = omega (arith, length-append (decimal_bytes d) (flat_map decimal_bytes ds), length-decimal_bytes d, length-decimals ds)

-- a piece behind others, cut in two
pub joined : (before one two mid after want other : List ℕ) → after ≡ mid ++ two → mid ≡ before ++ one → one ≡ want → two ≡ other → after ≡ before ++ (want ++ other)
joined before one two mid after want other e f g h =
    e ∙ ap (λ (l : List ℕ). l ++ two) f ∙ append_assoc before one two ∙ ap (λ (l : List ℕ). before ++ (l ++ two)) g ∙ ap (λ (l : List ℕ). before ++ (want ++ l)) h

-- what two writes, one behind the other, leave as it was
pub kept : (m n : ℕ) (old mid new : List ℕ) → m ≤ n → drop m mid ≡ drop m old → drop n new ≡ drop n mid → drop n new ≡ drop n old
kept m n old mid new le first second =
    let split : n ≡ m + (n - m) = omega arith in
    second ∙ ap (λ (k : ℕ). drop k mid) split ∙ sym (drop-drop (n - m) m mid) ∙ ap (drop (n - m)) first ∙ drop-drop (n - m) m old ∙ ap (λ (k : ℕ). drop k old) (sym split)
