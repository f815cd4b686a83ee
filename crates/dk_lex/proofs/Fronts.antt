-- Each form of piece at the front of a text.
use Rattle.std.proofs.Common.{◌≡◌, ◌⊎◌, inl, inr, ℕ, suc, ◌+◌, ◌-◌, ◌<◌, Bool, true, false, ◌&&◌, ◌||◌, not, List, [], ◌∷◌, ◌++◌, length, drop, get_or, refl, sym, ap, ◌∙◌, subst, arith, length-append, append_assoc}
use Rattle.std.specs.Prelude.{◌==◌, nat_le}
use Rattle.std.specs.List.{list_all, prefix_len}
use Rattle.std.proofs.lemmas.Bool.{both_ways, eq-eqb, ne_eqb}
use Rattle.std.proofs.lemmas.List.{get_or-append_right}
use Rattle.dk_lex.specs.declared.form.Form.TheVariants as form
use Rattle.dk_lex.specs.declared.form.Run.TheVariants as run
use Rattle.dk_lex.specs.declared.token.LexFault.TheVariants.{OpenString, BadByte}
use Rattle.dk_lex.specs.Bytes.{is_separator, is_quote, is_in_line, is_word_byte, is_string_byte, starts_white}
use Rattle.dk_lex.specs.Cut.{IsPiece, BeginsNone, stray, bad_in_string, unclosed, EndsLine, span}
use Rattle.dk_lex.specs.Fronts.{belongs, IsFront, white_length}
use Rattle.dk_lex.proofs.Runs.{split_at, no_longer, left_of, right_of}

-- a word
pub word_front : (rest : List ℕ) (n : ℕ) → n ≡ prefix_len (belongs run.Word) rest → 0 < n → IsFront rest form.Word n
word_front rest n e some =
    let s = split_at (belongs run.Word) rest in
    record {
      front = s.front;
      after = s.after;
      bytes_are = s.bytes_are;
      len_is = s.len_is ∙ sym e;
      piece = record {
        some = omega (arith, s.len_is, e);
        looks = s.each;
        longest = λ more left same more_some longer. no_longer (belongs run.Word) s.front s.after more left s.stops same more_some longer;
      };
    }

-- a comment
pub comment_front : (bs : List ℕ) (n : ℕ) → n ≡ prefix_len (belongs run.Line) bs → IsFront (35 ∷ bs) form.Comment (1 + n)
comment_front bs n e =
    let s = split_at (belongs run.Line) bs in
    record {
      front = 35 ∷ s.front;
      after = s.after;
      bytes_are = ap (λ l. 35 ∷ l) s.bytes_are;
      len_is = omega (arith, s.len_is, e);
      piece = record {
        some = omega arith;
        looks = (s.front, refl, s.each);
        longest = λ more left same more_some longer.
            let text_is : longer.0 ≡ s.front ++ more = let l = longer.1 in cc in
            no_longer (belongs run.Line) s.front s.after more left s.stops same more_some (subst (λ t. list_all is_in_line t ≡ true) text_is longer.2);
      };
    }

-- a comment, by the first byte
pub comment_at : (rest : List ℕ) (n : ℕ) → 0 < length rest → get_or rest 0 0 ≡ 35 → n ≡ prefix_len (belongs run.Line) (drop 1 rest) → IsFront rest form.Comment (1 + n)
comment_at [] n some first e = absurd (omega arith)
comment_at (b ∷ bs) n some first e = subst (λ x. IsFront (x ∷ bs) form.Comment (1 + n)) (sym first) (comment_front bs n e)

-- a separator
pub separator_at : (rest : List ℕ) → 0 < length rest → is_separator (get_or rest 0 0) ≡ true → IsFront rest form.Separator 1
separator_at [] some e = absurd (omega arith)
separator_at (b ∷ bs) some e = record {
  front = b ∷ [];
  after = bs;
  bytes_are = refl;
  len_is = refl;
  piece = record {
    some = omega arith;
    looks = (b, e, refl);
    longest = λ more left same more_some longer. let l = longer.2 in omega (arith, ap length l);
  };
}

-- a quote is no byte of its string
pub quote_ends : (q : ℕ) → is_string_byte q q ≡ false
quote_ends q = let h : (q == q) ≡ true = eq-eqb q q refl in
    rw h (and_false (nat_le 32 q) (nat_le q 126))
  where
    and_false : (x y : Bool) → (x && y && false) ≡ false
    and_false true true = refl
    and_false true false = refl
    and_false false y = refl

-- a string doesn't go on past its quote
no_inner_quote : (q : ℕ) (front more text : List ℕ) → (front ++ q ∷ []) ++ more ≡ text ++ q ∷ [] → 0 < length more → list_all (is_string_byte q) text ≡ true → ⊥
no_inner_quote q [] more [] same some each = omega (arith, ap length same)
no_inner_quote q [] more (t ∷ ts) same some each =
    let first : t ≡ q = cc in
    both_ways (is_string_byte q q) (quote_ends q) (subst (λ x. is_string_byte q x ≡ true) first (left_of _ _ each))
no_inner_quote q (f ∷ fs) more [] same some each = omega (arith, ap length same, length-append (fs ++ q ∷ []) more, length-append fs (q ∷ []))
no_inner_quote q (f ∷ fs) more (t ∷ ts) same some each =
    let tails : (fs ++ q ∷ []) ++ more ≡ ts ++ q ∷ [] = cc in
    no_inner_quote q fs more ts tails some (right_of (is_string_byte q t) (list_all (is_string_byte q) ts) each)

-- a string is a piece
pub quoted_piece : (q : ℕ) (text after : List ℕ) → is_quote q ≡ true → list_all (is_string_byte q) text ≡ true → IsPiece (record { form = form.Quoted; bytes = q ∷ (text ++ q ∷ []) }) after
quoted_piece q text after quoted each = record {
  some = omega arith;
  looks = (q, text, quoted, refl, each);
  longest = λ more left same more_some longer.
      let l = longer.3 in
      let first : longer.0 ≡ q = cc in
      let tails : (text ++ q ∷ []) ++ more ≡ longer.1 ++ longer.0 ∷ [] = cc in
      no_inner_quote q text more longer.1 (subst (λ x. (text ++ q ∷ []) ++ more ≡ longer.1 ++ x ∷ []) first tails) more_some
      (subst (λ x. list_all (is_string_byte x) longer.1 ≡ true) first longer.4);
}

-- the byte behind a run
pub behind : (q : ℕ) (bs front after : List ℕ) (n : ℕ) → bs ≡ front ++ after → length front ≡ n → get_or (q ∷ bs) (1 + n) 0 ≡ get_or after 0 0
behind q bs front after n e l =
    let one : 1 + n ≡ suc n = omega arith in
    let none : n - n ≡ 0 = omega arith in
    rw (one, e, get_or-append_right front after n n 0 l (omega arith), none) refl

-- a string
pub quoted_at : (q : ℕ) (bs front after : List ℕ) (n : ℕ) → bs ≡ front ++ after → length front ≡ n → is_quote q ≡ true → list_all (is_string_byte q) front ≡ true → 0 < length after → get_or after 0 0 ≡ q → IsFront (q ∷ bs) form.Quoted (1 + n + 1)
quoted_at q bs front [] n e l quoted each some here = absurd (omega arith)
quoted_at q bs front (c ∷ cs) n e l quoted each some here = record {
  front = q ∷ (front ++ q ∷ []);
  after = cs;
  bytes_are = ap (λ x. q ∷ x) (e ∙ ap (λ x. front ++ x ∷ cs) here ∙ sym (append_assoc front (q ∷ []) cs));
  len_is = omega (arith, length-append front (q ∷ []), l);
  piece = quoted_piece q front cs quoted each;
}

-- a string that isn't closed
pub unclosed_at : (q : ℕ) (bs front after : List ℕ) (n at : ℕ) → bs ≡ front ++ after → length front ≡ n → is_quote q ≡ true → list_all (is_string_byte q) front ≡ true → EndsLine after → BeginsNone at (q ∷ bs) (OpenString (span at (1 + n)))
unclosed_at q bs front after n at e l quoted each ends =
    subst (λ k. BeginsNone at (q ∷ bs) (OpenString (span at (1 + k)))) l (unclosed q front after (ap (λ x. q ∷ x) e) quoted each ends)

-- a byte that a string can't have
pub stray_at : (q : ℕ) (bs front after : List ℕ) (n at : ℕ) → bs ≡ front ++ after → length front ≡ n → is_quote q ≡ true → list_all (is_string_byte q) front ≡ true → 0 < length after →
    is_string_byte q (get_or after 0 0) ≡ false → (get_or after 0 0 == q) ≡ false → (get_or after 0 0 == 10) ≡ false → BeginsNone at (q ∷ bs) (BadByte (span (at + (1 + n)) 1))
stray_at q bs front [] n at e l quoted each some a b c = absurd (omega arith)
stray_at q bs front (x ∷ xs) n at e l quoted each some a b c =
    let place : at + 1 + length front ≡ at + (1 + n) = omega (arith, l) in
    subst (λ k. BeginsNone at (q ∷ bs) (BadByte (span k 1))) place (bad_in_string q x front xs (ap (λ y. q ∷ y) e) quoted each (rw (a, b, c) refl))

-- no test holds
none_of : (a b c d e : Bool) → a ≡ false → b ≡ false → c ≡ false → d ≡ false → e ≡ false → not (a || b || c || d || e) ≡ true
none_of a b c d e p q r s t = rw (p, q, r, s, t) refl

-- a byte with which no piece begins
pub stray_front : (rest : List ℕ) (at : ℕ) → 0 < length rest → starts_white rest ≡ false → is_separator (get_or rest 0 0) ≡ false → (get_or rest 0 0 == 35) ≡ false → is_quote (get_or rest 0 0) ≡ false →
    is_word_byte (get_or rest 0 0) ≡ false → BeginsNone at rest (BadByte (span (at + 0) 1))
stray_front [] at some w s c q b = absurd (omega arith)
stray_front (x ∷ xs) at some w s c q b =
    let place : at ≡ at + 0 = omega arith in
    subst (λ k. BeginsNone at (x ∷ xs) (BadByte (span k 1))) place (stray x xs refl (none_of _ _ _ _ _ w s c q b))

-- what a string may be, by the byte behind its run
pub string_closed : (rest : List ℕ) (n : ℕ) → 0 < length rest → is_quote (get_or rest 0 0) ≡ true → n ≡ prefix_len (belongs (run.Inside (get_or rest 0 0))) (drop 1 rest) → 1 + n < length rest → get_or rest (1 + n) 0 ≡ get_or rest 0 0 → IsFront rest form.Quoted (1 + n + 1)
string_closed [] n some quoted e in_range here = absurd (omega arith)
string_closed (q ∷ bs) n some quoted e in_range here =
    let s = split_at (belongs (run.Inside q)) bs in
    let l : length s.front ≡ n = s.len_is ∙ sym e in
    quoted_at q bs s.front s.after n s.bytes_are l quoted s.each (omega (arith, l, ap length s.bytes_are, length-append s.front s.after)) (sym (behind q bs s.front s.after n s.bytes_are l) ∙ here)

-- a string that isn't closed, by what ends its run
pub string_unclosed : (rest : List ℕ) (n : ℕ) → 0 < length rest → is_quote (get_or rest 0 0) ≡ true → n ≡ prefix_len (belongs (run.Inside (get_or rest 0 0))) (drop 1 rest) → ((1 + n ≡ length rest) ⊎ (get_or rest (1 + n) 0 ≡ 10)) → (at : ℕ) → BeginsNone at rest (OpenString (span at (1 + n)))
string_unclosed [] n some quoted e ends at = absurd (omega arith)
string_unclosed (q ∷ bs) n some quoted e ends at =
    let s = split_at (belongs (run.Inside q)) bs in
    let l : length s.front ≡ n = s.len_is ∙ sym e in
    unclosed_at q bs s.front s.after n at s.bytes_are l quoted s.each
    (by_end s.after ends (λ h. omega (arith, h, l, ap length s.bytes_are, length-append s.front s.after)) (λ h. sym (behind q bs s.front s.after n s.bytes_are l) ∙ h))
  where
    by_end : (after : List ℕ) → ((1 + n ≡ length (q ∷ bs)) ⊎ (get_or (q ∷ bs) (1 + n) 0 ≡ 10)) → (1 + n ≡ length (q ∷ bs) → length after ≡ 0) → (get_or (q ∷ bs) (1 + n) 0 ≡ 10 → get_or after 0 0 ≡ 10) → EndsLine after
    by_end [] h f g = tt
    by_end (c ∷ cs) (inl h) f g = absurd (omega (arith, f h))
    by_end (c ∷ cs) (inr h) f g = g h

-- a string with a byte that it can't have, by the byte behind its run
pub string_stray : (rest : List ℕ) (n : ℕ) → 0 < length rest → is_quote (get_or rest 0 0) ≡ true → n ≡ prefix_len (belongs (run.Inside (get_or rest 0 0))) (drop 1 rest) → 1 + n < length rest →
    (get_or rest (1 + n) 0 ≡ get_or rest 0 0 → ⊥) → (get_or rest (1 + n) 0 ≡ 10 → ⊥) → (at : ℕ) → BeginsNone at rest (BadByte (span (at + (1 + n)) 1))
string_stray [] n some quoted e in_range a b at = absurd (omega arith)
string_stray (q ∷ bs) n some quoted e in_range a b at =
    let s = split_at (belongs (run.Inside q)) bs in
    let l : length s.front ≡ n = s.len_is ∙ sym e in
    let here = behind q bs s.front s.after n s.bytes_are l in
    let more : 0 < length s.after = omega (arith, l, ap length s.bytes_are, length-append s.front s.after) in
    stray_at q bs s.front s.after n at s.bytes_are l quoted s.each more (first_stops s.after more s.stops) (ne_eqb _ _ (λ h. a (here ∙ h))) (ne_eqb _ _ (λ h. b (here ∙ h)))
  where
    first_stops : (after : List ℕ) → 0 < length after → ((b : ℕ) (tail : List ℕ) → after ≡ b ∷ tail → is_string_byte q b ≡ false) → is_string_byte q (get_or after 0 0) ≡ false
    first_stops [] some h = absurd (omega arith)
    first_stops (c ∷ cs) some h = h c cs refl

-- no bytes at the front belong to a run
pub none_at_front : (p : ℕ → Bool) (rest : List ℕ) → 0 < length rest → prefix_len p rest ≡ 0 → p (get_or rest 0 0) ≡ false
none_at_front p [] some e = absurd (omega arith)
none_at_front p (b ∷ bs) some e = by (p b) refl
  where
    by : (v : Bool) → p b ≡ v → p b ≡ false
    by false h = h
    by true h = absurd (let one : 1 + prefix_len p bs ≡ 0 = rw h at e in omega arith)

-- where no bytes are white, the first isn't
pub no_white : (rest : List ℕ) → white_length rest ≡ 0 → starts_white rest ≡ false
no_white [] e = refl
no_white (b ∷ bs) e = by (starts_white (b ∷ bs)) refl
  where
    by : (v : Bool) → starts_white (b ∷ bs) ≡ v → starts_white (b ∷ bs) ≡ false
    by false h = h
    by true h = absurd (let one : 1 + white_length bs ≡ 0 = rw h at e in omega arith)
