-- The tokens of a text lie in it.
use Rattle.std.proofs.Common.{◌≡◌, ℕ, ◌+◌, ◌≤◌, List, [], ◌∷◌, length, sym, ap, ◌∙◌, subst, arith, length-append, append-nil}
use Rattle.std.proofs.lemmas.List.Elements.{All-append, All-nil, All-cons}
use Rattle.dk_lex.specs.declared.token.Token.{Token}
use Rattle.dk_lex.specs.declared.token.TokenKind.{TokenKind}
use Rattle.dk_lex.specs.declared.token.TokenKind.TheVariants as kinds
use Rattle.dk_lex.specs.declared.form.Form.{Form}
use Rattle.dk_lex.specs.declared.form.Form.TheVariants.{White, Separator, Comment, Quoted, Word}
use Rattle.dk_lex.specs.Cut.{Piece, HasTokens, text_of, tokens_from, token_at, word_kind}
use Rattle.dk_grammar.specs.Judging.{IsSpan, AreSpans}

one_span : (text : List ℕ) (kind : TokenKind) (at len : ℕ) → at + len ≤ length text → AreSpans text (record { kind = kind; span = record { from = at; to = at + len } } ∷ [])
one_span text kind at len h = All-cons (IsSpan text) (record { kind = kind; span = record { from = at; to = at + len } }) [] (omega arith, h) (All-nil (IsSpan text))

token_span : (text : List ℕ) (at : ℕ) (form : Form) (bytes : List ℕ) → at + length bytes ≤ length text → AreSpans text (token_at at form bytes)
token_span text at White bytes h = All-nil (IsSpan text)
token_span text at Separator bytes h = All-nil (IsSpan text)
token_span text at Comment bytes h = All-nil (IsSpan text)
token_span text at Quoted bytes h = one_span text kinds.Quoted at (length bytes) h
token_span text at Word bytes h = one_span text (word_kind bytes) at (length bytes) h

spans_from : (text : List ℕ) (at : ℕ) (ps : List Piece) → at + length (text_of ps) ≤ length text → AreSpans text (tokens_from at ps)
spans_from text at [] h = All-nil (IsSpan text)
spans_from text at (p ∷ ps) h =
    let here : at + length p.bytes ≤ length text = omega (arith, h, length-append p.bytes (text_of ps)) in
    let rest : at + length p.bytes + length (text_of ps) ≤ length text = omega (arith, h, length-append p.bytes (text_of ps)) in
    All-append (IsSpan text) (token_at at p.form p.bytes) (tokens_from (at + length p.bytes) ps) (token_span text at p.form p.bytes here) (spans_from text (at + length p.bytes) ps rest)

-- the tokens of a text lie in it
pub spans_in : (text : List ℕ) (tokens : List Token) → HasTokens text tokens → AreSpans text tokens
spans_in text tokens has =
    let whole : text ≡ text_of has.pieces = has.cut.whole ∙ append-nil (text_of has.pieces) in
    let within : 0 + length (text_of has.pieces) ≤ length text = omega (arith, ap length whole) in
    subst (AreSpans text) (sym has.tokens_are) (spans_from text 0 has.pieces within)
