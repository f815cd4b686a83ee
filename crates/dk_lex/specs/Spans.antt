-- Where tokens stand in a text, and what strings have inside.
use Rattle.std.specs.Prelude.{◌≡◌, ℕ, ◌+◌, ◌-◌, ◌<◌, ◌≤◌, Bool, List, [], ◌∷◌, length, IsTrue, ◌&&◌, nat_le, slice_index}
use Rattle.std.specs.List.{All, list_all, slice_range}
use Rattle.dk_lex.specs.Bytes.{is_quote}
use Rattle.dk_lex.specs.declared.token.Span.{Span}
use Rattle.dk_lex.specs.declared.token.Token.{Token}
use Rattle.dk_lex.specs.declared.token.TokenKind.{TokenKind}
use Rattle.dk_lex.specs.declared.token.TokenKind.TheVariants as kinds

-- these tokens follow one another between these two places, and none is empty
abbrev pub AreBetween : ℕ → ℕ → List Token → Type 0
AreBetween low high [] = low ≤ high
AreBetween low high (t ∷ ts) = (low ≤ t.span.from) × (t.span.from < t.span.to) × AreBetween t.span.to high ts

-- the spans lie in the text, in order and apart, and none is empty
abbrev pub AreSpans : List ℕ → List Token → Type 0
AreSpans text tokens = AreBetween 0 (length text) tokens

-- a visible byte or a blank
abbrev pub is_printed : ℕ → Bool
is_printed b = nat_le 32 b && nat_le b 126

-- the bytes between the quotes of a string
abbrev pub inside : List ℕ → Span → List ℕ
inside text s = slice_range text (s.from + 1) (s.to - 1)

-- a string has two bytes or more: the first is a quote, the last the same one, and between them stand visible bytes and
-- blanks alone
abbrev pub IsStringAt : List ℕ → TokenKind → Span → Type 0
IsStringAt text kinds.Quoted s =
    (s.from + 2 ≤ s.to) × IsTrue (list_all is_printed (inside text s)) × IsTrue (is_quote (slice_index text s.from)) × (slice_index text (s.to - 1) ≡ slice_index text s.from)
IsStringAt text _ s = Unit {0}

-- this token is such a string, or no string
abbrev pub IsString : List ℕ → Token → Type 0
IsString text t = IsStringAt text t.kind t.span

-- the strings begin and end with one quote, with visible bytes and blanks alone between the two
abbrev pub AreStrings : List ℕ → List Token → Type 0
AreStrings text tokens = All (IsString text) tokens
