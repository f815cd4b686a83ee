-- The tokens of a cut text lie in it, in order.
use Rattle.std.proofs.Common.{◌≡◌, ℕ, zero, suc, ◌+◌, ◌<◌, ◌≤◌, List, [], ◌∷◌, ◌++◌, length, arith, length-append, ap, append-nil, ◌∙◌}
use Rattle.std.specs.List.{All}
use Rattle.dk_lex.specs.declared.token.Token.{Token}
use Rattle.dk_lex.specs.declared.form.Form.{Form}
use Rattle.dk_lex.specs.declared.form.Form.TheVariants.{White, Separator, Comment, Quoted, Word}
use Rattle.dk_lex.specs.Cut.{Piece, ArePieces, HasTokens, text_of, tokens_from, token_at}
use Rattle.dk_lex.specs.Spans.{AreBetween, AreSpans}

-- tokens that begin later begin late enough
between_lower : (low next high : ℕ) (ts : List Token) → low ≤ next → AreBetween next high ts → AreBetween low high ts
between_lower low next high [] below h = omega (arith, below, h)
between_lower low next high (t ∷ ts) below h = (omega (arith, below, h.0), h.1, h.2)

-- a piece's token stands before those of the later pieces
between_more : (low high : ℕ) (form : Form) (bytes : List ℕ) (ts : List Token) → 0 < length bytes → AreBetween (low + length bytes) high ts → AreBetween low high (token_at low form bytes ++ ts)
between_more low high White bytes ts some h = between_lower low (low + length bytes) high ts (omega arith) h
between_more low high Separator bytes ts some h = between_lower low (low + length bytes) high ts (omega arith) h
between_more low high Comment bytes ts some h = between_lower low (low + length bytes) high ts (omega arith) h
between_more low high Quoted bytes ts some h = (omega arith, omega (arith, some), h)
between_more low high Word bytes ts some h = (omega arith, omega (arith, some), h)

-- the tokens of pieces lie where the pieces do
pieces_between : (low high : ℕ) (ps : List Piece) (after : List ℕ) → ArePieces ps after → low + length (text_of ps) ≡ high → AreBetween low high (tokens_from low ps)
pieces_between low high [] after each ends = omega (arith, ends)
pieces_between low high (p ∷ ps) after each ends =
    between_more low high p.form p.bytes (tokens_from (low + length p.bytes) ps) each.0.some
    (pieces_between (low + length p.bytes) high ps after each.1 (omega (arith, ends, length-append p.bytes (text_of ps))))

-- the tokens of a text lie in it
pub tokens_lie : (text : List ℕ) (tokens : List Token) → HasTokens text tokens → AreSpans text tokens
tokens_lie text tokens h =
    let whole : length text ≡ length (text_of h.pieces) = ap length (h.cut.whole ∙ append-nil (text_of h.pieces)) in
    rw h.tokens_are (pieces_between 0 (length text) h.pieces [] h.cut.each (omega (arith, whole)))

-- where tokens end, all is behind where they begin
between_ends : (low high : ℕ) (ts : List Token) → AreBetween low high ts → low ≤ high
between_ends low high [] h = h
between_ends low high (t ∷ ts) h = omega (arith, h.0, h.1, between_ends t.span.to high ts h.2)

-- each token lies between the two places
each_between : (low high : ℕ) (ts : List Token) → AreBetween low high ts → All (λ t. (t.span.from ≤ t.span.to) × (t.span.to ≤ high)) ts
each_between low high [] h k d below = absurd (omega (arith, below))
each_between low high (t ∷ ts) h zero d below = (omega (arith, h.1), between_ends t.span.to high ts h.2)
each_between low high (t ∷ ts) h (suc k) d below = each_between t.span.to high ts h.2 k d (omega (arith, below))

-- the text can be sliced at each token
pub each_lies : (text : List ℕ) (tokens : List Token) → AreSpans text tokens → All (λ t. (t.span.from ≤ t.span.to) × (t.span.to ≤ length text)) tokens
each_lies text tokens h = each_between 0 (length text) tokens h
