-- A number's text: an optional sign, digits with at most one point among, before or after them, and optionally
-- an exponent, which is e or E, an optional sign and digits.
use Rattle.std.specs.Prelude.{◌≡◌, ◌≢◌, ◌⊎◌, ℕ, ◌+◌, ◌-◌, ◌<◌, ◌≤◌, Bool, ◌&&◌, ◌||◌, List, [], ◌∷◌, ◌++◌, map, length, take, drop, take_while, codes, ℤ, pos, neg_ℤ, ◌-ℤ◌, Result, Ok, Err, IsTrue, if◌then◌else◌, nat_lt, nat_le, nat_eq, ◌==◌}
use Rattle.std.specs.Int.Digits.{number_from_digits}
use Rattle.std.specs.List.{starts_with}
use Rattle.dk_num.specs.Decimal.{Decimal, canonical, zero_decimal, leading, is_in_range, digit_count, zero_count}
use Rattle.dk_num.specs.declared.read.NumFault.{NumFault}
use Rattle.dk_num.specs.declared.read.NumFault.TheVariants.{Empty, Shape, TooLong, OutOfRange}

abbrev pub is_digit : ℕ → Bool
is_digit b = nat_le 48 b && nat_le b 57

abbrev pub AreDigits : List ℕ → Type 0
AreDigits [] = Unit {0}
AreDigits (b ∷ bs) = IsTrue (is_digit b) × AreDigits bs

abbrev pub is_sign_byte : ℕ → Bool
is_sign_byte b = (b == 43) || (b == 45)

abbrev pub is_point_byte : ℕ → Bool
is_point_byte b = b == 46

abbrev pub is_mark_byte : ℕ → Bool
is_mark_byte b = (b == 69) || (b == 101)

-- the first byte, where it is of this kind
abbrev pub front_byte : (ℕ → Bool) → List ℕ → List ℕ
front_byte is_kind [] = []
front_byte is_kind (b ∷ bs) = if is_kind b then b ∷ [] else []

-- one digit or more
abbrev pub IsNumeral : List ℕ → Type 0
IsNumeral ds = (0 < length ds) × AreDigits ds

abbrev pub numeral_value : List ℕ → ℕ
numeral_value ds = number_from_digits 10 (map (λ b. b - 48) ds)

-- the parts of a number's text, in order
pub record Spelling : Type 0 where
  pub sign : List ℕ
  pub whole : List ℕ
  pub point : List ℕ
  pub fraction : List ℕ
  pub mark : List ℕ
  pub exponent_sign : List ℕ
  pub exponent : List ℕ

abbrev pub spelled : Spelling → List ℕ
spelled s = s.sign ++ (s.whole ++ (s.point ++ (s.fraction ++ (s.mark ++ (s.exponent_sign ++ s.exponent)))))

abbrev pub IsSign : List ℕ → Type 0
IsSign text = (text ≡ []) ⊎ (text ≡ codes "+") ⊎ (text ≡ codes "-")

-- a point, or nothing and no digits behind it
abbrev pub IsPointed : List ℕ → List ℕ → Type 0
IsPointed point fraction = ((point ≡ []) × (fraction ≡ [])) ⊎ (point ≡ codes ".")

abbrev pub IsExponent : (mark sign digits : List ℕ) → Type 0
IsExponent mark sign digits =
    ((mark ≡ []) × (sign ≡ []) × (digits ≡ [])) ⊎ (((mark ≡ codes "e") ⊎ (mark ≡ codes "E")) × IsSign sign × IsNumeral digits)

-- the parts of a text, each as long as it can be, up to where it stops to be the front of a number's text
abbrev pub parts : List ℕ → Spelling
parts text =
    let sign = front_byte is_sign_byte text in
    let after_sign = drop (length sign) text in
    let whole = take_while is_digit after_sign in
    let after_whole = drop (length whole) after_sign in
    let point = front_byte is_point_byte after_whole in
    let after_point = drop (length point) after_whole in
    let fraction = take_while is_digit after_point in
    let after_fraction = drop (length fraction) after_point in
    let mark = if nat_lt 0 (length whole + length fraction) then front_byte is_mark_byte after_fraction else [] in
    let after_mark = drop (length mark) after_fraction in
    let exponent_sign = if nat_lt 0 (length mark) then front_byte is_sign_byte after_mark else [] in
    let exponent = if nat_lt 0 (length mark) then take_while is_digit (drop (length exponent_sign) after_mark) else [] in
    record { sign = sign; whole = whole; point = point; fraction = fraction; mark = mark; exponent_sign = exponent_sign; exponent = exponent }

pub record Spells (text : List ℕ) (s : Spelling) : Type 0 where
  pub bytes : text ≡ spelled s
  pub sign : IsSign s.sign
  pub some : 0 < length s.whole + length s.fraction
  pub whole : AreDigits s.whole
  pub fraction : AreDigits s.fraction
  pub point : IsPointed s.point s.fraction
  pub exponent : IsExponent s.mark s.exponent_sign s.exponent

abbrev pub with_sign : List ℕ → ℕ → ℤ
with_sign sign n = if starts_with nat_eq sign (codes "-") then neg_ℤ (pos n) else pos n

abbrev pub mantissa_digits : Spelling → ℕ
mantissa_digits s = numeral_value (s.whole ++ s.fraction)

-- the value as written
abbrev pub written : Spelling → Decimal
written s = record {
  mantissa = with_sign s.sign (mantissa_digits s);
  exponent = with_sign s.exponent_sign (numeral_value s.exponent) -ℤ pos (length s.fraction);
}

-- the decimal that a number's text spells, or why it is none
unfoldable pub number_of : Spelling → Result Decimal NumFault
number_of s =
    let n = mantissa_digits s in
    if n == 0 then Ok zero_decimal
    else (if nat_lt 34 (digit_count n - zero_count n) then Err TooLong
    else (if is_in_range (leading (written s)) then Ok (canonical (written s)) else Err OutOfRange))

-- the parts make up the text, with a digit before the exponent, and one in it where there is a mark
abbrev pub is_complete : List ℕ → Spelling → Bool
is_complete text s =
    (length (spelled s) == length text) && nat_lt 0 (length s.whole + length s.fraction)
    && ((length s.mark == 0) || nat_lt 0 (length s.exponent))

-- what a text says: a decimal, or why it says none
unfoldable pub read_of : List ℕ → Result Decimal NumFault
read_of [] = Err Empty
read_of (b ∷ bs) =
    let s = parts (b ∷ bs) in
    if is_complete (b ∷ bs) s then number_of s else Err (Shape (length (spelled s)))

-- some number's text goes on from here
abbrev pub IsFront : List ℕ → Type 0
IsFront front = (rest : List ℕ) × (s : Spelling) × Spells (front ++ rest) s

pub record IsLongestFront (text : List ℕ) (at : ℕ) : Type 0 where
  pub within : at ≤ length text
  pub front : IsFront (take at text)
  pub longest : (n : ℕ) → n ≤ length text → IsFront (take n text) → n ≤ at

abbrev pub IsNoNumber : List ℕ → Type 0
IsNoNumber text = (s : Spelling) → Spells text s → ⊥

-- what reading a text gives
pub data ReadsAs (text : List ℕ) : Result Decimal NumFault → Type 0 where
  empty : text ≡ [] → ReadsAs text (Err Empty)
  number : (s : Spelling) → Spells text s → ReadsAs text (number_of s)
  no_number : (at : ℕ) → text ≢ [] → IsNoNumber text → IsLongestFront text at → ReadsAs text (Err (Shape at))
