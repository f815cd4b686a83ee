-- The loop over a text's pieces.
use Rattle.std.proofs.Common.{◌≡◌, ℕ, ◌+◌, ◌≤◌, List, [], ◌∷◌, ◌++◌, length, take, drop, refl, sym, ap, ◌∙◌, subst, arith, length-append, append_assoc, add-zero, zero-add, append-nil}
use Rattle.std.proofs.lemmas.List.{drop_at, take_at, drop-drop}
use Rattle.std.proofs.Math.ListN.{drop_of_length-le}
use Rattle.dk_lex.specs.declared.token.Token.{Token}
use Rattle.dk_lex.specs.declared.token.LexFault.{LexFault}
use Rattle.dk_lex.specs.declared.form.Form.{Form}
use Rattle.dk_lex.specs.Cut.{Piece, IsPiece, ArePieces, CutsFront, HasTokens, IsFirstLexFault, BeginsNone, text_of, tokens_from, token_at}
use Rattle.dk_lex.specs.Fronts.{IsFront}

-- a last piece's bytes join the text
text_push : (ps : List Piece) (p : Piece) → text_of (ps ++ p ∷ []) ≡ text_of ps ++ p.bytes
text_push [] p = append-nil p.bytes
text_push (q ∷ qs) p = ap (λ l. q.bytes ++ l) (text_push qs p) ∙ sym (append_assoc q.bytes (text_of qs) p.bytes)

-- a last piece joins the cut
pub pieces_push : (ps : List Piece) (p : Piece) (after : List ℕ) → ArePieces ps (p.bytes ++ after) → IsPiece p after → ArePieces (ps ++ p ∷ []) after
pieces_push [] p after before piece = (piece, tt)
pieces_push (q ∷ qs) p after before piece = (subst (IsPiece q) (joins qs) before.0, pieces_push qs p after before.1 piece)
  where
    joins : (rs : List Piece) → text_of rs ++ (p.bytes ++ after) ≡ text_of (rs ++ p ∷ []) ++ after
    joins rs = rw text_push (sym (append_assoc (text_of rs) p.bytes after))

-- a last piece's token joins the tokens
tokens_push : (at : ℕ) (ps : List Piece) (p : Piece) → tokens_from at (ps ++ p ∷ []) ≡ tokens_from at ps ++ token_at (at + length (text_of ps)) p.form p.bytes
tokens_push at [] p = append-nil (token_at at p.form p.bytes) ∙ ap (λ k. token_at k p.form p.bytes) (sym (add-zero at))
tokens_push at (q ∷ qs) p =
    let place : at + length q.bytes + length (text_of qs) ≡ at + length (q.bytes ++ text_of qs) = omega (arith, length-append q.bytes (text_of qs)) in
    ap (λ l. token_at at q.form q.bytes ++ l) (tokens_push (at + length q.bytes) qs p ∙ ap (λ k. tokens_from (at + length q.bytes) qs ++ token_at k p.form p.bytes) place)
    ∙ sym (append_assoc (token_at at q.form q.bytes) (tokens_from (at + length q.bytes) qs) (token_at (at + length (q.bytes ++ text_of qs)) p.form p.bytes))

-- the text in front of this place is cut into pieces, with these tokens
pub record LexedBefore (text : List ℕ) (tokens : List Token) (at : ℕ) : Type 0 where
  pub pieces : List Piece
  pub front : CutsFront text pieces (drop at text)
  pub place : length (text_of pieces) ≡ at
  pub tokens_are : tokens ≡ tokens_from 0 pieces

-- at the start nothing is cut
pub lexed_none : (text : List ℕ) → LexedBefore text [] 0
lexed_none text = record { pieces = []; front = record { whole = refl; each = tt }; place = refl; tokens_are = refl }

-- a piece at the front of what is left joins the cut
pub lexed_more : (text : List ℕ) (tokens : List Token) (at len : ℕ) (form : Form) (bytes : List ℕ) → LexedBefore text tokens at → IsFront (drop at text) form len → bytes ≡ take len (drop at text) → LexedBefore text (tokens ++ token_at at form bytes) (at + len)
lexed_more text tokens at len form bytes before first bytes_are =
    let p : Piece = record { form = form; bytes = first.front } in
    let left : drop (at + len) text ≡ first.after = sym (drop-drop len at text) ∙ ap (drop len) first.bytes_are ∙ drop_at first.front first.after len first.len_is in
    let same : bytes ≡ first.front = bytes_are ∙ ap (take len) first.bytes_are ∙ take_at first.front first.after len first.len_is in
    record {
      pieces = before.pieces ++ p ∷ [];
      front = record {
        whole = before.front.whole ∙ ap (λ l. text_of before.pieces ++ l) first.bytes_are ∙ sym (append_assoc (text_of before.pieces) first.front first.after)
            ∙ ap (λ l. l ++ first.after) (sym (text_push before.pieces p)) ∙ ap (λ l. text_of (before.pieces ++ p ∷ []) ++ l) (sym left);
        each = subst (ArePieces (before.pieces ++ p ∷ [])) (sym left) (pieces_push before.pieces p first.after (subst (ArePieces before.pieces) first.bytes_are before.front.each) first.piece);
      };
      place = ap length (text_push before.pieces p) ∙ omega (arith, length-append (text_of before.pieces) first.front, before.place, first.len_is);
      tokens_are = tokens_more before.pieces p tokens at bytes before.tokens_are before.place same;
    }
  where
    tokens_more : (ps : List Piece) (p : Piece) (ts : List Token) (k : ℕ) (bs : List ℕ) → ts ≡ tokens_from 0 ps → length (text_of ps) ≡ k → bs ≡ p.bytes → ts ++ token_at k p.form bs ≡ tokens_from 0 (ps ++ p ∷ [])
    tokens_more ps p ts k bs e l b = rw (e, b, ← l) (sym (tokens_push 0 ps p ∙ ap (λ i. tokens_from 0 ps ++ token_at i p.form p.bytes) (zero-add (length (text_of ps)))))

-- at the end the text is cut
pub lexed_all : (text : List ℕ) (tokens : List Token) (at : ℕ) → LexedBefore text tokens at → length text ≤ at → HasTokens text tokens
lexed_all text tokens at before ends =
    let none : drop at text ≡ [] = drop_of_length-le text ends in
    record {
      pieces = before.pieces;
      cut = subst (CutsFront text before.pieces) none before.front;
      tokens_are = before.tokens_are;
    }

-- where no piece begins, that is the first fault
pub lexed_fault : (text : List ℕ) (tokens : List Token) (at : ℕ) (fault : LexFault) → LexedBefore text tokens at → BeginsNone at (drop at text) fault → IsFirstLexFault text fault
lexed_fault text tokens at fault before none = record {
  pieces = before.pieces;
  left = drop at text;
  front = before.front;
  none = subst (λ k. BeginsNone k (drop at text) fault) (sym before.place) none;
}
