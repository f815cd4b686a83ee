-- What stands at the front of a text.
use Rattle.std.specs.Prelude.{◌≡◌, ℕ, ◌+◌, ◌<◌, ◌≤◌, Bool, List, [], ◌∷◌, ◌++◌, length, ◌==◌, ◌&&◌, ◌||◌, if◌then◌else◌}
use Rattle.dk_lex.specs.Bytes.{is_space, is_in_line, is_word_byte, is_string_byte, starts_white}
use Rattle.dk_lex.specs.Cut.{IsPiece, BeginsNone, span}
use Rattle.dk_lex.specs.declared.form.Form.{Form}
use Rattle.dk_lex.specs.declared.form.Run.{Run}
use Rattle.dk_lex.specs.declared.form.Run.TheVariants.{Word, Line, Blank, Inside}
use Rattle.dk_lex.specs.declared.form.Front.{Front}
use Rattle.dk_lex.specs.declared.form.Front.TheVariants as fronts
use Rattle.dk_lex.specs.declared.token.LexFault.TheVariants.{OpenString, BadByte}

-- white space or a backslash, in one line
abbrev pub is_blank : ℕ → Bool
is_blank b = is_in_line b && (is_space b || b == 92)

-- what a run is made of
abbrev pub belongs : Run → ℕ → Bool
belongs Word b = is_word_byte b
belongs Line b = is_in_line b
belongs Blank b = is_blank b
belongs (Inside quote) b = is_string_byte quote b

-- how many bytes at the front are white space
abbrev pub white_length : List ℕ → ℕ
white_length [] = 0
white_length (b ∷ rest) = if starts_white (b ∷ rest) then 1 + white_length rest else 0

-- a piece of this form and length is at the front
pub record IsFront (bytes : List ℕ) (form : Form) (len : ℕ) : Type 0 where
  pub front : List ℕ
  pub after : List ℕ
  pub bytes_are : bytes ≡ front ++ after
  pub len_is : length front ≡ len
  pub piece : IsPiece (record { form = form; bytes = front }) after

-- what is at the front, as the code says it: a piece, or why there is none
abbrev pub Begins : List ℕ → Front → Type 0
Begins bytes (fronts.Piece form len) = IsFront bytes form len
Begins bytes (fronts.Unclosed len) = (at : ℕ) → BeginsNone at bytes (OpenString (span at len))
Begins bytes (fronts.Stray offset) = (at : ℕ) → BeginsNone at bytes (BadByte (span (at + offset) 1))

-- the front lies in these bytes
abbrev pub Within : List ℕ → Front → Type 0
Within bytes (fronts.Piece form len) = (0 < len) × (len ≤ length bytes)
Within bytes (fronts.Unclosed len) = len ≤ length bytes
Within bytes (fronts.Stray offset) = offset < length bytes
