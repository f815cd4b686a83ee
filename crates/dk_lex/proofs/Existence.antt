-- Each text gives tokens or a fault.
use Rattle.std.proofs.Common.{◌≡◌, inl, inr, ℕ, zero, suc, ◌+◌, ◌<◌, ◌≤◌, Bool, true, false, List, [], ◌∷◌, length, take, drop, get_or, refl, sym, arith, length-drop}
use Rattle.std.specs.Prelude.{Result, Ok, Err, ◌==◌, nat_lt}
use Rattle.std.specs.List.{prefix_len}
use Rattle.std.proofs.lemmas.Bool.{eqb-true, eqb-false, ltb-true, ltb-false}
use Rattle.dk_lex.specs.declared.token.Token.{Token}
use Rattle.dk_lex.specs.declared.token.LexFault.{LexFault}
use Rattle.dk_lex.specs.declared.token.LexFault.TheVariants.{OpenString, BadByte}
use Rattle.dk_lex.specs.declared.form.Form.TheVariants as form
use Rattle.dk_lex.specs.declared.form.Run.TheVariants as run
use Rattle.dk_lex.specs.declared.form.Front.{Front}
use Rattle.dk_lex.specs.declared.form.Front.TheVariants.{Piece, Unclosed, Stray}
use Rattle.dk_lex.specs.Bytes.{is_separator, is_quote, is_word_byte}
use Rattle.dk_lex.specs.Cut.{LexesTo, span}
use Rattle.dk_lex.specs.Fronts.{Begins, white_length, belongs}
use Rattle.dk_lex.proofs.Fronts.{word_front, comment_at, separator_at, stray_front, none_at_front, no_white, string_closed, string_unclosed, string_stray}
use Rattle.dk_lex.proofs.White.{white_front}
use Rattle.dk_lex.proofs.Cuts.{LexedBefore, lexed_none, lexed_more, lexed_all, lexed_fault}

-- something is at the front
abbrev Found : List ℕ → Type 0
Found rest = (f : Front) × Begins rest f

module _ (rest : List ℕ) (some : 0 < length rest) where
  -- a string, by the byte behind its run
  string_by : (n : ℕ) → n ≡ prefix_len (belongs (run.Inside (get_or rest 0 0))) (drop 1 rest) → is_quote (get_or rest 0 0) ≡ true → (inside line closed : Bool) → nat_lt (1 + n) (length rest) ≡ inside → (get_or rest (1 + n) 0 == 10) ≡ line → (get_or rest (1 + n) 0 == get_or rest 0 0) ≡ closed → Found rest
  string_by n e quoted false line closed a b c = (Unclosed (1 + n), string_unclosed_past n e quoted (ltb-false _ _ a))
    where
      string_unclosed_past : (n : ℕ) → n ≡ prefix_len (belongs (run.Inside (get_or rest 0 0))) (drop 1 rest) → is_quote (get_or rest 0 0) ≡ true → length rest ≤ 1 + n → Begins rest (Unclosed (1 + n))
      string_unclosed_past n e quoted past = string_unclosed rest n some quoted e (inl (omega (arith, past, prefix_within (belongs (run.Inside (get_or rest 0 0))) (drop 1 rest), e, length-drop 1 rest)))
        where
          prefix_within : (p : ℕ → Bool) (bs : List ℕ) → prefix_len p bs ≤ length bs
          prefix_within p [] = omega arith
          prefix_within p (x ∷ xs) = by (prefix_within p xs) (p x) refl
            where
              by : prefix_len p xs ≤ length xs → (v : Bool) → p x ≡ v → prefix_len p (x ∷ xs) ≤ length (x ∷ xs)
              by h true v = rw v (omega (arith, h))
              by h false v = rw v (omega arith)
  string_by n e quoted true true closed a b c = (Unclosed (1 + n), string_unclosed rest n some quoted e (inr (eqb-true _ _ b)))
  string_by n e quoted true false true a b c = (Piece form.Quoted (1 + n + 1), string_closed rest n some quoted e (ltb-true _ _ a) (eqb-true _ _ c))
  string_by n e quoted true false false a b c = (Stray (1 + n), string_stray rest n some quoted e (ltb-true _ _ a) (eqb-false _ _ c) (eqb-false _ _ b))

  word_by : white_length rest ≡ 0 → is_separator (get_or rest 0 0) ≡ false → (get_or rest 0 0 == 35) ≡ false → is_quote (get_or rest 0 0) ≡ false → (n : ℕ) → prefix_len (belongs run.Word) rest ≡ n → Found rest
  word_by w s c q (suc n) e = (Piece form.Word (suc n), word_front rest (suc n) (sym e) (omega arith))
  word_by w s c q zero e = (Stray 0, λ at. stray_front rest at some (no_white rest w) s c q (none_at_front is_word_byte rest some e))

  quote_by : white_length rest ≡ 0 → is_separator (get_or rest 0 0) ≡ false → (get_or rest 0 0 == 35) ≡ false → (q : Bool) → is_quote (get_or rest 0 0) ≡ q → Found rest
  quote_by w s c true q = string_by _ refl q _ _ _ refl refl refl
  quote_by w s c false q = word_by w s c q _ refl

  comment_by : white_length rest ≡ 0 → is_separator (get_or rest 0 0) ≡ false → (c : Bool) → (get_or rest 0 0 == 35) ≡ c → Found rest
  comment_by w s true c = (Piece form.Comment (1 + prefix_len (belongs run.Line) (drop 1 rest)), comment_at rest _ some (eqb-true _ _ c) refl)
  comment_by w s false c = quote_by w s c _ refl

  separator_by : white_length rest ≡ 0 → (s : Bool) → is_separator (get_or rest 0 0) ≡ s → Found rest
  separator_by w true s = (Piece form.Separator 1, separator_at rest some s)
  separator_by w false s = comment_by w s _ refl

  white_by : (n : ℕ) → white_length rest ≡ n → Found rest
  white_by (suc n) e = (Piece form.White (suc n), white_front rest (suc n) (sym e) (omega arith))
  white_by zero e = separator_by e _ refl

  -- something stands at the front
  pub found : Found rest
  found = white_by _ refl

-- the text has an outcome
abbrev Lexes : List ℕ → Type 0
Lexes text = (outcome : Result (List Token) LexFault) × LexesTo text outcome

-- the text has an outcome, from what is cut of it so far
lexes_from : (fuel : ℕ) (text : List ℕ) (tokens : List Token) (at : ℕ) → LexedBefore text tokens at → length text ≤ at + fuel → Lexes text
lexes_from zero text tokens at before room = (Ok tokens, lexed_all text tokens at before (omega arith))
lexes_from (suc fuel) text tokens at before room = by (lexes_from fuel text) (nat_lt at (length text)) refl
  where
    step : ((ts : List Token) (next : ℕ) → LexedBefore text ts next → length text ≤ next + fuel → Lexes text) → (f : Front) → Begins (drop at text) f → Lexes text
    step again (Piece form len) first = again _ (at + len) (lexed_more text tokens at len form (take len (drop at text)) before first refl) (omega (arith, room, first.len_is, first.piece.some))
    step again (Unclosed len) none = (Err (OpenString (span at len)), lexed_fault text tokens at (OpenString (span at len)) before (none at))
    step again (Stray offset) none = (Err (BadByte (span (at + offset) 1)), lexed_fault text tokens at (BadByte (span (at + offset) 1)) before (none at))

    by : ((ts : List Token) (next : ℕ) → LexedBefore text ts next → length text ≤ next + fuel → Lexes text) → (v : Bool) → nat_lt at (length text) ≡ v → Lexes text
    by again false e = (Ok tokens, lexed_all text tokens at before (ltb-false _ _ e))
    by again true e = let f = found (drop at text) (omega (arith, length-drop at text, ltb-true _ _ e)) in step again f.0 f.1

-- each text has an outcome
pub lexes_some : (text : List ℕ) → Lexes text
lexes_some text = lexes_from (length text) text [] 0 (lexed_none text) (omega arith)
