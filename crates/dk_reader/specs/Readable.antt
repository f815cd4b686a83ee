-- Tokens that can be read as values.
use Rattle.std.specs.Prelude.{ℕ, List}
use Rattle.std.specs.List.{All}
use Rattle.dk_lex.specs.declared.token.Token.{Token}
use Rattle.dk_lex.specs.Spans.{IsString}
use Rattle.dk_grammar.specs.Judging.{IsSpan}
use Rattle.dk_grammar.specs.declared.parts.Item.{Item}

-- a token lies in the text, and a string has two quotes with visible bytes and blanks alone between them
pub record IsReadable (text : List ℕ) (t : Token) : Type 0 where
  pub span : IsSpan text t
  pub string : IsString text t

-- the values of these keywords are such tokens
abbrev pub AreReadable : List ℕ → List Item → Type 0
AreReadable text items = All (λ i. All (IsReadable text) i.values) items
