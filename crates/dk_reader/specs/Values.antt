-- The values of a keyword: numbers, whole numbers and strings, with N*value for N of them.
-- After the Dakota Reference Manual on input files: strings stand in quotes, and N*value repeats a number.
use Rattle.std.specs.Prelude.{ℕ, ◌-◌, Bool, List, [], length, map, sum_by, replicate, Option, Some, None, unwrap_or, ◌==◌, ◌&&◌, nat_lt, nat_le, if◌then◌else◌, slice_range, option_and_then}
use Rattle.std.specs.List.{flat_map, list_all, list_any, before_first, after_first}
use Rattle.std.specs.Result.{result_ok}
use Rattle.dk_num.specs.Decimal.{Decimal, zero_decimal}
use Rattle.dk_num.specs.Numbers.{is_digit, numeral_value, read_of}
use Rattle.dk_lex.specs.declared.token.TokenKind.{TokenKind}
use Rattle.dk_lex.specs.declared.token.TokenKind.TheVariants as kinds
use Rattle.dk_lex.specs.declared.token.Span.{Span}
use Rattle.dk_lex.specs.declared.token.Token.{Token}
use Rattle.dk_grammar.specs.Meanings.{text_at}
use Rattle.dk_reader.specs.declared.value.Value.{Value}

-- digits alone
abbrev pub is_numeral : List ℕ → Bool
is_numeral bytes = nat_lt 0 (length bytes) && list_all is_digit bytes

-- the whole number that digits alone say, up to 4,000,000: greater ones are in no range
abbrev pub whole_of : List ℕ → Option ℕ
whole_of bytes = if is_numeral bytes && nat_le (numeral_value bytes) 4000000 then Some (numeral_value bytes) else None

-- the number that a number's text says
abbrev pub number_of : List ℕ → Option Decimal
number_of bytes = result_ok (read_of bytes)

abbrev pub is_star : ℕ → Bool
is_star b = b == 42

-- N*value: digits, a star and what stands behind it
abbrev pub is_copied : List ℕ → Bool
is_copied bytes = list_any is_star bytes && is_numeral (before_first is_star bytes)

-- the value alone, without N*
abbrev pub bare : List ℕ → List ℕ
bare bytes = if is_copied bytes then after_first is_star bytes else bytes

abbrev pub if_positive : ℕ → Option ℕ
if_positive n = if n == 0 then None else Some n

-- N, where it is from 1 to 4,000,000, and 1 without N*
abbrev pub copies_of : List ℕ → Option ℕ
copies_of bytes = if is_copied bytes then option_and_then if_positive (whole_of (before_first is_star bytes)) else Some 1

-- the bytes between the quotes of a string
abbrev pub inside : List ℕ → List ℕ
inside bytes = slice_range bytes 1 (length bytes - 1)

-- a token of these bytes as a value: numbers alone stand for several, and strings have no number
abbrev pub value_by : TokenKind → Span → List ℕ → Value
value_by kinds.Number span bytes = record { span = span; copies = copies_of bytes; whole = whole_of (bare bytes); number = number_of (bare bytes); string = None }
value_by kinds.Quoted span bytes = record { span = span; copies = Some 1; whole = None; number = None; string = Some (inside bytes) }
value_by kinds.Word span bytes = record { span = span; copies = Some 1; whole = None; number = None; string = None }

-- tokens of a text as values
abbrev pub values_of : List ℕ → List Token → List Value
values_of text tokens = map (λ t. value_by t.kind t.span (text_at text t.span)) tokens

-- how many values it stands for
abbrev pub count : Value → ℕ
count v = unwrap_or v.copies 1

abbrev pub count_of : List Value → ℕ
count_of vs = sum_by count vs

-- each value as many times as it stands for itself
abbrev pub spread : List Value → List Value
spread vs = flat_map (λ v. replicate (count v) v) vs

abbrev pub whole : Value → ℕ
whole v = unwrap_or v.whole 0

abbrev pub number : Value → Decimal
number v = unwrap_or v.number zero_decimal

abbrev pub string : Value → List ℕ
string v = unwrap_or v.string []
