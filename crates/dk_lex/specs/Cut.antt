-- A text as a list of pieces.
-- After the section on the format of input files in Dakota's User's Manual: separators, comments, strings, long lines.
use Rattle.std.specs.Prelude.{◌≡◌, ℕ, ◌+◌, ◌<◌, Bool, List, [], ◌∷◌, ◌++◌, length, IsTrue, ◌==◌, ◌||◌, not, Result, Ok, Err, if◌then◌else◌}
use Rattle.std.specs.List.{list_all, flat_map}
use Rattle.dk_lex.specs.Bytes.{is_separator, is_quote, is_in_line, is_word_byte, is_string_byte, begins_number, starts_white}
use Rattle.dk_lex.specs.declared.form.Form.{Form}
use Rattle.dk_lex.specs.declared.form.Form.TheVariants.{White, Separator, Comment, Quoted, Word}
use Rattle.dk_lex.specs.declared.token.Span.{Span}
use Rattle.dk_lex.specs.declared.token.TokenKind.{TokenKind}
use Rattle.dk_lex.specs.declared.token.TokenKind.TheVariants as kinds
use Rattle.dk_lex.specs.declared.token.Token.{Token}
use Rattle.dk_lex.specs.declared.token.LexFault.{LexFault}
use Rattle.dk_lex.specs.declared.token.LexFault.TheVariants.{OpenString, BadByte, NoMemory}

-- a part of a text, with its form
pub record Piece : Type 0 where
  pub form : Form
  pub bytes : List ℕ

-- each of the bytes is white space, where these bytes follow
abbrev pub IsWhite : List ℕ → List ℕ → Type 0
IsWhite [] after = Unit {0}
IsWhite (b ∷ bs) after = IsTrue (starts_white (b ∷ (bs ++ after))) × IsWhite bs after

-- what each form of piece looks like, where these bytes follow
abbrev pub Looks : Form → List ℕ → List ℕ → Type 0
Looks White bytes after = IsWhite bytes after
Looks Separator bytes after = (b : ℕ) × IsTrue (is_separator b) × (bytes ≡ b ∷ [])
Looks Comment bytes after = (text : List ℕ) × (bytes ≡ 35 ∷ text) × IsTrue (list_all is_in_line text)
Looks Quoted bytes after =
    (quote : ℕ) × (text : List ℕ) × IsTrue (is_quote quote) × (bytes ≡ quote ∷ (text ++ quote ∷ [])) × IsTrue (list_all (is_string_byte quote) text)
Looks Word bytes after = IsTrue (list_all is_word_byte bytes)

-- a piece at the front of these bytes, which can't be made longer
pub record IsPiece (p : Piece) (after : List ℕ) : Type 0 where
  pub some : 0 < length p.bytes
  pub looks : Looks p.form p.bytes after
  pub longest : (more rest : List ℕ) → after ≡ more ++ rest → 0 < length more → Looks p.form (p.bytes ++ more) rest → ⊥

-- the text that pieces make
abbrev pub text_of : List Piece → List ℕ
text_of pieces = flat_map (λ p. p.bytes) pieces

-- these pieces, and then these bytes
abbrev pub ArePieces : List Piece → List ℕ → Type 0
ArePieces [] after = Unit {0}
ArePieces (p ∷ ps) after = IsPiece p (text_of ps ++ after) × ArePieces ps after

-- the front of the text is cut into these pieces, and these bytes are left
pub record CutsFront (text : List ℕ) (pieces : List Piece) (left : List ℕ) : Type 0 where
  pub whole : text ≡ text_of pieces ++ left
  pub each : ArePieces pieces left

-- the text is cut into these pieces
abbrev pub IsCut : List ℕ → List Piece → Type 0
IsCut text pieces = CutsFront text pieces []

-- no piece is at the front of these bytes
abbrev pub BeginsNoPiece : List ℕ → Type 0
BeginsNoPiece bytes = (p : Piece) (after : List ℕ) → bytes ≡ p.bytes ++ after → IsPiece p after → ⊥

-- the text is cut into these pieces as far as a piece begins, and these bytes are left
pub record IsCutAsFarAsCanBe (text : List ℕ) (pieces : List Piece) (left : List ℕ) : Type 0 where
  pub front : CutsFront text pieces left
  pub none : BeginsNoPiece left

-- so many bytes from this place on
abbrev pub span : ℕ → ℕ → Span
span from len = record { from = from; to = from + len }

-- a word is a number where it begins as one
abbrev pub word_kind : List ℕ → TokenKind
word_kind [] = kinds.Word
word_kind (b ∷ bs) = if begins_number b then kinds.Number else kinds.Word

-- a piece at this place is a token or none
abbrev pub token_at : ℕ → Form → List ℕ → List Token
token_at at Quoted bytes = record { kind = kinds.Quoted; span = span at (length bytes) } ∷ []
token_at at Word bytes = record { kind = word_kind bytes; span = span at (length bytes) } ∷ []
token_at at _ bytes = []

-- the tokens of pieces that begin at this place
abbrev pub tokens_from : ℕ → List Piece → List Token
tokens_from at [] = []
tokens_from at (p ∷ ps) = token_at at p.form p.bytes ++ tokens_from (at + length p.bytes) ps

-- no piece begins with this byte
abbrev pub begins_nothing : ℕ → List ℕ → Bool
begins_nothing b after = not (starts_white (b ∷ after) || is_separator b || b == 35 || is_quote b || is_word_byte b)

-- the line or the text ends here
abbrev pub EndsLine : List ℕ → Type 0
EndsLine [] = Unit {0}
EndsLine (b ∷ bs) = b ≡ 10

-- the bytes at this place begin no piece, for this reason
pub data BeginsNone (at : ℕ) (bytes : List ℕ) : LexFault → Type 0 where
  stray : (b : ℕ) (after : List ℕ) → bytes ≡ b ∷ after → IsTrue (begins_nothing b after) → BeginsNone at bytes (BadByte (span at 1))
  bad_in_string : (quote b : ℕ) (text after : List ℕ) → bytes ≡ quote ∷ (text ++ b ∷ after) → IsTrue (is_quote quote) → IsTrue (list_all (is_string_byte quote) text) →
      IsTrue (not (is_string_byte quote b || b == quote || b == 10)) → BeginsNone at bytes (BadByte (span (at + 1 + length text) 1))
  unclosed : (quote : ℕ) (text after : List ℕ) → bytes ≡ quote ∷ (text ++ after) → IsTrue (is_quote quote) → IsTrue (list_all (is_string_byte quote) text) →
      EndsLine after → BeginsNone at bytes (OpenString (span at (1 + length text)))

-- the first fault: the text is cut up to a place where no piece begins, for this reason
pub record IsFirstLexFault (text : List ℕ) (fault : LexFault) : Type 0 where
  pub pieces : List Piece
  pub left : List ℕ
  pub front : CutsFront text pieces left
  pub none : BeginsNone (length (text_of pieces)) left fault

-- the tokens of a text: those of its cut
pub record HasTokens (text : List ℕ) (tokens : List Token) : Type 0 where
  pub pieces : List Piece
  pub cut : IsCut text pieces
  pub tokens_are : tokens ≡ tokens_from 0 pieces

-- what a text gives: its tokens, or its first fault
abbrev pub LexesTo : List ℕ → Result (List Token) LexFault → Type 0
LexesTo text (Ok tokens) = HasTokens text tokens
LexesTo text (Err fault) = IsFirstLexFault text fault

-- what a call answered is what the text gives, unless memory ran out
abbrev pub Lexed : List ℕ → Result (List Token) LexFault → Type 0
Lexed text (Err NoMemory) = Unit {0}
Lexed text outcome = LexesTo text outcome

-- each text has a cut that goes as far as can be, and one alone
abbrev pub EachTextIsCut : Type 0
EachTextIsCut =
    (text : List ℕ) → (pieces : List Piece) × (left : List ℕ) × IsCutAsFarAsCanBe text pieces left
    × ((others : List Piece) (rest : List ℕ) → IsCutAsFarAsCanBe text others rest → (others ≡ pieces) × (rest ≡ left))

-- each text has its tokens or a first fault, and one of them alone
abbrev pub EachTextLexes : Type 0
EachTextLexes = (text : List ℕ) → (outcome : Result (List Token) LexFault) × LexesTo text outcome × ((other : Result (List Token) LexFault) → LexesTo text other → other ≡ outcome)
