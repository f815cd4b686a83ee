-- What stands between the quotes of strings.
use Rattle.std.proofs.Common.{◌≡◌, ℕ, ◌+◌, ◌-◌, true, List, [], ◌∷◌, ◌++◌, length, take, drop, get_or, refl, sym, ap, ◌∙◌, subst, arith, length-append, append_assoc}
use Rattle.std.specs.List.{list_all, slice_range}
use Rattle.std.proofs.lemmas.List.{drop_at, take_at}
use Rattle.std.proofs.Math.Seq.{get_or-append_seam}
use Rattle.std.proofs.lemmas.List.Elements.{All-append, All-cons, All-nil}
use Rattle.dk_lex.specs.declared.token.Token.{Token}
use Rattle.dk_lex.specs.declared.token.TokenKind.TheVariants as kinds
use Rattle.dk_lex.specs.declared.form.Form.{Form}
use Rattle.dk_lex.specs.declared.form.Form.TheVariants.{White, Separator, Comment, Quoted, Word}
use Rattle.dk_lex.specs.Bytes.{is_quote, is_string_byte}
use Rattle.dk_lex.specs.Cut.{Piece, Looks, ArePieces, HasTokens, text_of, tokens_from, token_at, word_kind}
use Rattle.dk_lex.specs.Spans.{IsString, AreStrings, is_printed}
use Rattle.dk_lex.proofs.Runs.{both, left_of, right_of}

-- what may stand between quotes is visible or a blank
printed_inside : (q : ℕ) (bs : List ℕ) → list_all (is_string_byte q) bs ≡ true → list_all is_printed bs ≡ true
printed_inside q [] e = refl
printed_inside q (b ∷ bs) e =
    both (is_printed b) (list_all is_printed bs) (left_of (is_printed b) _ (left_of (is_string_byte q b) (list_all (is_string_byte q) bs) e))
    (printed_inside q bs (right_of (is_string_byte q b) (list_all (is_string_byte q) bs) e))

-- the bytes behind a front and in front of the rest
slice_between : (front bytes after text : List ℕ) (from to : ℕ) → text ≡ front ++ (bytes ++ after) → length front ≡ from → to ≡ from + length bytes → slice_range text from to ≡ bytes
slice_between front bytes after text from to whole starts ends =
    let len : to - from ≡ length bytes = omega (arith, ends) in
    let tail : drop from text ≡ bytes ++ after = ap (drop from) whole ∙ drop_at front (bytes ++ after) from starts in
    rw len (ap (take (length bytes)) tail ∙ take_at bytes after (length bytes) refl)

-- the token of a quoted piece has its quotes first and last, and printed bytes between them
quoted_token : (text before bytes after later : List ℕ) (at : ℕ) → text ≡ before ++ (bytes ++ after) → length before ≡ at → Looks Quoted bytes later →
    IsString text (record { kind = kinds.Quoted; span = record { from = at; to = at + length bytes } })
quoted_token text before bytes after later at whole starts looks =
    let q = looks.0 in
    let s = looks.1 in
    let len : length bytes ≡ 2 + length s = ap length looks.3 ∙ omega (arith, length-append s (q ∷ [])) in
    let same : text ≡ (before ++ q ∷ []) ++ (s ++ q ∷ after) =
    whole ∙ ap (λ l. before ++ (l ++ after)) looks.3 ∙ ap (λ l. before ++ q ∷ l) (append_assoc s (q ∷ []) after) ∙ sym (append_assoc before (q ∷ []) (s ++ q ∷ after)) in
    let inner : slice_range text (at + 1) (at + length bytes - 1) ≡ s =
    slice_between (before ++ q ∷ []) s (q ∷ after) text (at + 1) (at + length bytes - 1) same (omega (arith, length-append before (q ∷ []), starts)) (omega (arith, len)) in
    let opens : get_or text at 0 ≡ q =
    subst (λ k. get_or text k 0 ≡ q) starts (ap (λ l. get_or l (length before) 0) (same ∙ append_assoc before (q ∷ []) (s ++ q ∷ after)) ∙ get_or-append_seam before q (s ++ q ∷ after) 0) in
    let end : at + length bytes - 1 ≡ length (before ++ q ∷ s) = omega (arith, len, starts, length-append before (q ∷ s)) in
    let closes : get_or text (at + length bytes - 1) 0 ≡ q =
    subst (λ k. get_or text k 0 ≡ q) (sym end) (ap (λ l. get_or l (length (before ++ q ∷ s)) 0) (same ∙ append_assoc before (q ∷ []) (s ++ q ∷ after) ∙ sym (append_assoc before (q ∷ s) (q ∷ after))) ∙ get_or-append_seam (before ++ q ∷ s) q after 0) in
    (omega (arith, len), subst (λ l. list_all is_printed l ≡ true) (sym inner) (printed_inside q s looks.4), subst (λ b. is_quote b ≡ true) (sym opens) looks.2, closes ∙ sym opens)

-- a piece's token is a string if it is quoted
piece_string : (text before bytes after later : List ℕ) (form : Form) (at : ℕ) → text ≡ before ++ (bytes ++ after) → length before ≡ at → Looks form bytes later → AreStrings text (token_at at form bytes)
piece_string text before bytes after later White at whole starts looks = All-nil (IsString text)
piece_string text before bytes after later Separator at whole starts looks = All-nil (IsString text)
piece_string text before bytes after later Comment at whole starts looks = All-nil (IsString text)
piece_string text before bytes after later Quoted at whole starts looks = All-cons (IsString text) _ [] (quoted_token text before bytes after later at whole starts looks) (All-nil (IsString text))
piece_string text before bytes after later Word at whole starts looks = All-cons (IsString text) _ [] (by bytes) (All-nil (IsString text))
  where
    by : (bs : List ℕ) → IsString text (record { kind = word_kind bs; span = record { from = at; to = at + length bytes } })
    by [] = tt
    by (b ∷ bs) = grind arith

-- the strings of pieces behind a front of the text
strings_from : (text : List ℕ) (ps : List Piece) (before left : List ℕ) (at : ℕ) → text ≡ before ++ (text_of ps ++ left) → length before ≡ at → ArePieces ps left → AreStrings text (tokens_from at ps)
strings_from text [] before left at whole starts each = All-nil (IsString text)
strings_from text (p ∷ ps) before left at whole starts each =
    let here : text ≡ before ++ (p.bytes ++ (text_of ps ++ left)) = whole ∙ ap (λ l. before ++ l) (append_assoc p.bytes (text_of ps) left) in
    All-append (IsString text) (token_at at p.form p.bytes) (tokens_from (at + length p.bytes) ps)
    (piece_string text before p.bytes (text_of ps ++ left) (text_of ps ++ left) p.form at here starts each.0.looks)
    (strings_from text ps (before ++ p.bytes) left (at + length p.bytes) (here ∙ sym (append_assoc before p.bytes (text_of ps ++ left))) (omega (arith, length-append before p.bytes, starts)) each.1)

-- the strings of a text
pub strings_are : (text : List ℕ) (tokens : List Token) → HasTokens text tokens → AreStrings text tokens
strings_are text tokens h = rw h.tokens_are (strings_from text h.pieces [] [] 0 h.cut.whole refl h.cut.each)
