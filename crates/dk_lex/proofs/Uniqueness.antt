-- No text gives two outcomes.
use Rattle.std.proofs.Common.{◌≡◌, ℕ, ◌+◌, ◌<◌, Bool, true, false, ◌||◌, not, List, [], ◌∷◌, ◌++◌, length, refl, sym, ap, ◌∙◌, subst, arith, length-append, append_assoc}
use Rattle.std.specs.Prelude.{Result, Ok, Err, ◌==◌}
use Rattle.std.specs.List.{list_all}
use Rattle.std.proofs.lemmas.Bool.{both_ways, eq-eqb}
use Rattle.dk_lex.specs.declared.token.Token.{Token}
use Rattle.dk_lex.specs.declared.token.LexFault.{LexFault}
use Rattle.dk_lex.specs.declared.token.LexFault.TheVariants.{OpenString, BadByte}
use Rattle.dk_lex.specs.declared.form.Form.{Form}
use Rattle.dk_lex.specs.declared.form.Form.TheVariants.{White, Separator, Comment, Quoted, Word}
use Rattle.dk_lex.specs.Bytes.{is_separator, is_quote, is_word_byte, is_string_byte, starts_white}
use Rattle.dk_lex.specs.Cut.{Piece, IsPiece, Looks, ArePieces, BeginsNoPiece, IsCutAsFarAsCanBe, EachTextIsCut, HasTokens, IsFirstLexFault, BeginsNone, stray, bad_in_string, unclosed, EndsLine, begins_nothing, text_of, tokens_from, LexesTo, EachTextLexes, span}
use Rattle.dk_lex.proofs.Runs.{left_of, right_of}
use Rattle.dk_lex.proofs.Fronts.{quote_ends}
use Rattle.dk_lex.proofs.Existence.{lexes_some}
use Rattle.dk_lex.proofs.SamePieces.{form_of, same_piece, piece_form, quote_form}

-- one cut, and the same bytes left
pub record SameCut (ps qs : List Piece) (a b : List ℕ) : Type 0 where
  pub pieces : ps ≡ qs
  pub left : a ≡ b

-- a text has one cut that ends where no piece is
pub same_cut : (ps qs : List Piece) (a b : List ℕ) → ArePieces ps a → ArePieces qs b → BeginsNoPiece a → BeginsNoPiece b → text_of ps ++ a ≡ text_of qs ++ b → SameCut ps qs a b
same_cut [] [] a b hp hq na nb e = record { pieces = refl; left = e }
same_cut [] (q ∷ qs) a b hp hq na nb e = absurd (na q (text_of qs ++ b) (e ∙ append_assoc q.bytes (text_of qs) b) hq.0)
same_cut (p ∷ ps) [] a b hp hq na nb e = absurd (nb p (text_of ps ++ a) (sym e ∙ append_assoc p.bytes (text_of ps) a) hp.0)
same_cut (p ∷ ps) (q ∷ qs) a b hp hq na nb e =
    let first = same_piece p q (text_of ps ++ a) (text_of qs ++ b) hp.0 hq.0 (sym (append_assoc p.bytes (text_of ps) a) ∙ e ∙ append_assoc q.bytes (text_of qs) b) in
    let others = same_cut ps qs a b hp.1 hq.1 na nb first.left in
    record { pieces = λ i. first.piece i ∷ others.pieces i; left = others.left }

-- nothing begins behind the end
no_piece_in_none : BeginsNoPiece []
no_piece_in_none p after e h = omega (arith, ap length e, length-append p.bytes after, h.some)

-- the first of five tests holds
first_holds : (a b c d e : Bool) → a ≡ true → not (a || b || c || d || e) ≡ false
first_holds a b c d e p = rw p refl

-- the second does
second_holds : (a b c d e : Bool) → b ≡ true → not (a || b || c || d || e) ≡ false
second_holds true b c d e p = refl
second_holds false b c d e p = rw p refl

-- the third does
third_holds : (a b c d e : Bool) → c ≡ true → not (a || b || c || d || e) ≡ false
third_holds true b c d e p = refl
third_holds false true c d e p = refl
third_holds false false c d e p = rw p refl

-- the fourth does
fourth_holds : (a b c d e : Bool) → d ≡ true → not (a || b || c || d || e) ≡ false
fourth_holds true b c d e p = refl
fourth_holds false true c d e p = refl
fourth_holds false false true d e p = refl
fourth_holds false false false d e p = rw p refl

-- the fifth does
fifth_holds : (a b c d e : Bool) → e ≡ true → not (a || b || c || d || e) ≡ false
fifth_holds true b c d e p = refl
fifth_holds false true c d e p = refl
fifth_holds false false true d e p = refl
fifth_holds false false false true e p = refl
fifth_holds false false false false e p = rw p refl

-- a piece begins where some piece may
starts : (f : Form) (x : ℕ) (xs after : List ℕ) → Looks f (x ∷ xs) after → begins_nothing x (xs ++ after) ≡ false
starts White x xs after h = first_holds _ _ _ _ _ h.0
starts Separator x xs after h = second_holds (starts_white (x ∷ (xs ++ after))) _ _ _ _ (let e = h.2 in let same : h.0 ≡ x = cc in subst (λ y. is_separator y ≡ true) same h.1)
starts Comment x xs after h = third_holds (starts_white (x ∷ (xs ++ after))) (is_separator x) _ _ _ (let e = h.1 in let same : 35 ≡ x = cc in subst (λ y. (y == 35) ≡ true) same refl)
starts Quoted x xs after h = fourth_holds (starts_white (x ∷ (xs ++ after))) (is_separator x) (x == 35) _ _ (let e = h.3 in let same : h.0 ≡ x = cc in subst (λ y. is_quote y ≡ true) same h.2)
starts Word x xs after h = fifth_holds (starts_white (x ∷ (xs ++ after))) (is_separator x) (x == 35) (is_quote x) _ (left_of (is_word_byte x) (list_all is_word_byte xs) h)

-- what doesn't go on with a string
Stop : ℕ → List ℕ → Type 0
Stop q left = (b : ℕ) (rest : List ℕ) → left ≡ b ∷ rest → is_string_byte q b ≡ false

-- a byte that a string can't have ends its run
stop_at : (q b : ℕ) (rest : List ℕ) → is_string_byte q b ≡ false → Stop q (b ∷ rest)
unfolding Stop
stop_at q b rest e c more same = let first : b ≡ c = cc in subst (λ x. is_string_byte q x ≡ false) first e

-- a line's end ends a string's run
stop_line : (q : ℕ) (left : List ℕ) → EndsLine left → Stop q left
unfolding Stop
stop_line q [] ends c more same = absurd (cc)
stop_line q (b ∷ bs) ends c more same = let first : b ≡ c = cc in subst (λ x. is_string_byte q x ≡ false) (sym ends ∙ first) refl

-- runs of one length, and the same bytes behind
record SameStop (text other a b : List ℕ) : Type 0 where
  texts : length text ≡ length other
  left : a ≡ b

-- one string's bytes stop at one place
same_stop : (q : ℕ) (text other a b : List ℕ) → text ++ a ≡ other ++ b → list_all (is_string_byte q) text ≡ true → list_all (is_string_byte q) other ≡ true → Stop q a → Stop q b → SameStop text other a b
unfolding Stop
same_stop q [] [] a b e all more sa sb = record { texts = refl; left = e }
same_stop q [] (t ∷ ts) a b e all more sa sb = absurd (both_ways (is_string_byte q t) (sa t (ts ++ b) e) (left_of _ _ more))
same_stop q (t ∷ ts) [] a b e all more sa sb = absurd (both_ways (is_string_byte q t) (sb t (ts ++ a) (sym e)) (left_of _ _ all))
same_stop q (t ∷ ts) (u ∷ us) a b e all more sa sb =
    let tails : ts ++ a ≡ us ++ b = cc in
    let s = same_stop q ts us a b tails (right_of (is_string_byte q t) _ all) (right_of (is_string_byte q u) _ more) sa sb in
    record { texts = omega (arith, s.texts); left = s.left }

-- each of three tests fails
none_of_three : (a b c : Bool) → not (a || b || c) ≡ true → (a ≡ false) × (b ≡ false) × (c ≡ false)
none_of_three false false false e = (refl, refl, refl)
none_of_three true b c e = absurd (let h : false ≡ true = e in cc)
none_of_three false true c e = absurd (let h : false ≡ true = e in cc)
none_of_three false false true e = absurd (let h : false ≡ true = e in cc)

-- a quoted piece at a quote: its text, and what follows
record Closed (q : ℕ) (left : List ℕ) : Type 0 where
  text : List ℕ
  after : List ℕ
  is : left ≡ text ++ q ∷ after
  each : list_all (is_string_byte q) text ≡ true

-- a piece at a quote is a string
closed_of : (q : ℕ) (rest : List ℕ) (p : Piece) (after : List ℕ) → is_quote q ≡ true → q ∷ rest ≡ p.bytes ++ after → IsPiece p after → Closed q rest
closed_of q rest p after quoted e h = by p.form p.bytes h.some h.looks e
  where
    by : (f : Form) (bytes : List ℕ) → 0 < length bytes → Looks f bytes after → q ∷ rest ≡ bytes ++ after → Closed q rest
    by f [] some l e = absurd (omega arith)
    by f (x ∷ xs) some l e =
        let first : q ≡ x = cc in
        let is_quoted : f ≡ Quoted = sym (piece_form f x xs after l) ∙ ap form_of (sym first) ∙ quote_form q quoted in
        at_quoted xs (subst (λ y. Looks Quoted (y ∷ xs) after) (sym first) (subst (λ g. Looks g (x ∷ xs) after) is_quoted l)) (let t : rest ≡ xs ++ after = cc in t)
      where
        at_quoted : (xs : List ℕ) → Looks Quoted (q ∷ xs) after → rest ≡ xs ++ after → Closed q rest
        at_quoted xs l t =
            let e = l.3 in
            let quote : l.0 ≡ q = cc in
            let tail : xs ≡ l.1 ++ l.0 ∷ [] = cc in
            record {
              text = l.1;
              after = after;
              is = t ∙ ap (λ y. y ++ after) (tail ∙ ap (λ y. l.1 ++ y ∷ []) quote) ∙ append_assoc l.1 (q ∷ []) after;
              each = subst (λ y. list_all (is_string_byte y) l.1 ≡ true) quote l.4;
            }

-- where there is a fault no piece begins
pub no_piece_at : (at : ℕ) (left : List ℕ) (fault : LexFault) → BeginsNone at left fault → BeginsNoPiece left
no_piece_at at left _ (stray b rest e none) p after same h = by p.form p.bytes h.some h.looks same
  where
    by : (f : Form) (bytes : List ℕ) → 0 < length bytes → Looks f bytes after → left ≡ bytes ++ after → ⊥
    by f [] some l same = omega arith
    by f (x ∷ xs) some l same =
        let first : b ≡ x = cc in
        let others : rest ≡ xs ++ after = cc in
        both_ways (begins_nothing x (xs ++ after)) (starts f x xs after l) (subst (λ y. begins_nothing y (xs ++ after) ≡ true) first (subst (λ y. begins_nothing b y ≡ true) others none))
no_piece_at at left _ (bad_in_string q b text rest e quoted all neither) p after same h =
    let c = closed_of q (text ++ b ∷ rest) p after quoted (sym e ∙ same) h in
    let n = none_of_three _ _ _ neither in
    let s = same_stop q text c.text (b ∷ rest) (q ∷ c.after) c.is all c.each (stop_at q b rest n.0) (stop_at q q c.after (quote_ends q)) in
    let l = s.left in
    let same_byte : b ≡ q = cc in
    both_ways (b == q) n.1 (eq-eqb b q same_byte)
no_piece_at at left _ (unclosed q text rest e quoted all ends) p after same h =
    let c = closed_of q (text ++ rest) p after quoted (sym e ∙ same) h in
    let s = same_stop q text c.text rest (q ∷ c.after) c.is all c.each (stop_line q rest ends) (stop_at q q c.after (quote_ends q)) in
    let line : q ≡ 10 = subst EndsLine s.left ends in
    both_ways (is_quote 10) refl (subst (λ x. is_quote x ≡ true) line quoted)

-- a byte that begins nothing is no quote
not_quote : (q b : ℕ) (others rest : List ℕ) → q ∷ others ≡ b ∷ rest → is_quote q ≡ true → begins_nothing b rest ≡ true → ⊥
not_quote q b others rest e quoted none =
    let first : q ≡ b = cc in
    both_ways (begins_nothing b rest) (fourth_holds (starts_white (b ∷ rest)) (is_separator b) (b == 35) (is_quote b) _ (subst (λ x. is_quote x ≡ true) first quoted)) none

-- a string doesn't both end its line and have a stray byte
not_both : (q b : ℕ) (text rest : List ℕ) (r : ℕ) (other more : List ℕ) → q ∷ (text ++ b ∷ rest) ≡ r ∷ (other ++ more) → list_all (is_string_byte q) text ≡ true → not (is_string_byte q b || b == q || b == 10) ≡ true → list_all (is_string_byte r) other ≡ true → EndsLine more → ⊥
not_both q b text rest r other more joined all neither each ends =
    let first : r ≡ q = cc in
    let tails : text ++ b ∷ rest ≡ other ++ more = cc in
    let n = none_of_three _ _ _ neither in
    let s = same_stop q text other (b ∷ rest) more tails all (subst (λ x. list_all (is_string_byte x) other ≡ true) first each) (stop_at q b rest n.0) (stop_line q more ends) in
    let line : b ≡ 10 = subst EndsLine (sym s.left) ends in
    both_ways (b == 10) n.2 (eq-eqb b 10 line)

-- where no piece begins there is one reason
pub same_fault : (at : ℕ) (left : List ℕ) (f g : LexFault) → BeginsNone at left f → BeginsNone at left g → f ≡ g
same_fault at left _ _ (stray b rest e none) (stray c more d neither) = refl
same_fault at left _ _ (stray b rest e none) (bad_in_string q c text more d quoted all neither) = absurd (not_quote q b (text ++ c ∷ more) rest (sym d ∙ e) quoted none)
same_fault at left _ _ (stray b rest e none) (unclosed q text more d quoted all ends) = absurd (not_quote q b (text ++ more) rest (sym d ∙ e) quoted none)
same_fault at left _ _ (bad_in_string q c text more d quoted all neither) (stray b rest e none) = absurd (not_quote q b (text ++ c ∷ more) rest (sym d ∙ e) quoted none)
same_fault at left _ _ (unclosed q text more d quoted all ends) (stray b rest e none) = absurd (not_quote q b (text ++ more) rest (sym d ∙ e) quoted none)
same_fault at left _ _ (bad_in_string q b text rest e quoted all neither) (bad_in_string r c other more d quoted2 each neither2) =
    let joined : q ∷ (text ++ b ∷ rest) ≡ r ∷ (other ++ c ∷ more) = sym e ∙ d in
    let first : r ≡ q = cc in
    let tails : text ++ b ∷ rest ≡ other ++ c ∷ more = cc in
    let n = none_of_three _ _ _ neither in
    let m = none_of_three _ _ _ neither2 in
    let s = same_stop q text other (b ∷ rest) (c ∷ more) tails all (subst (λ x. list_all (is_string_byte x) other ≡ true) first each) (stop_at q b rest n.0) (stop_at q c more (subst (λ x. is_string_byte x c ≡ false) first m.0)) in
    ap (λ k. BadByte (span (at + 1 + k) 1)) s.texts
same_fault at left _ _ (bad_in_string q b text rest e quoted all neither) (unclosed r other more d quoted2 each ends) = absurd (not_both q b text rest r other more (sym e ∙ d) all neither each ends)
same_fault at left _ _ (unclosed r other more d quoted2 each ends) (bad_in_string q b text rest e quoted all neither) = absurd (not_both q b text rest r other more (sym e ∙ d) all neither each ends)
same_fault at left _ _ (unclosed q text rest e quoted all ends) (unclosed r other more d quoted2 each ends2) =
    let joined : q ∷ (text ++ rest) ≡ r ∷ (other ++ more) = sym e ∙ d in
    let first : r ≡ q = cc in
    let tails : text ++ rest ≡ other ++ more = cc in
    let s = same_stop q text other rest more tails all (subst (λ x. list_all (is_string_byte x) other ≡ true) first each) (stop_line q rest ends) (stop_line q more ends2) in
    ap (λ k. OpenString (span at (1 + k))) s.texts

-- a text's one outcome
module _ (text : List ℕ) where
  both_cut : (ts us : List Token) → HasTokens text ts → HasTokens text us → ts ≡ us
  both_cut ts us h k =
      let s = same_cut h.pieces k.pieces [] [] h.cut.each k.cut.each no_piece_in_none no_piece_in_none (sym h.cut.whole ∙ k.cut.whole) in
      h.tokens_are ∙ ap (tokens_from 0) s.pieces ∙ sym k.tokens_are

  cut_and_fault : (ts : List Token) (f : LexFault) → HasTokens text ts → IsFirstLexFault text f → ⊥
  cut_and_fault ts f h k =
      let s = same_cut h.pieces k.pieces [] k.left h.cut.each k.front.each no_piece_in_none (no_piece_at (length (text_of k.pieces)) k.left f k.none) (sym h.cut.whole ∙ k.front.whole) in
      nothing_begins (length (text_of k.pieces)) f (subst (λ l. BeginsNone (length (text_of k.pieces)) l f) (sym s.left) k.none)
    where
      nothing_begins : (at : ℕ) (f : LexFault) → BeginsNone at [] f → ⊥
      nothing_begins at _ (stray b after e none) = omega (arith, ap length e)
      nothing_begins at _ (bad_in_string q b text after e quoted all neither) = omega (arith, ap length e)
      nothing_begins at _ (unclosed q text after e quoted all ends) = omega (arith, ap length e)

  both_fault : (f g : LexFault) → IsFirstLexFault text f → IsFirstLexFault text g → f ≡ g
  both_fault f g h k =
      let s = same_cut h.pieces k.pieces h.left k.left h.front.each k.front.each (no_piece_at (length (text_of h.pieces)) h.left f h.none) (no_piece_at (length (text_of k.pieces)) k.left g k.none) (sym h.front.whole ∙ k.front.whole) in
      same_fault (length (text_of h.pieces)) h.left f g h.none (at_same h.pieces k.pieces h.left k.left s.pieces s.left k.none)
    where
      at_same : (ps qs : List Piece) (a b : List ℕ) → ps ≡ qs → a ≡ b → BeginsNone (length (text_of qs)) b g → BeginsNone (length (text_of ps)) a g
      at_same ps qs a b p l n = subst (λ x. BeginsNone (length (text_of x)) a g) (sym p) (subst (λ x. BeginsNone (length (text_of qs)) x g) (sym l) n)

  same_outcome : (a b : Result (List Token) LexFault) → LexesTo text a → LexesTo text b → a ≡ b
  same_outcome (Ok ts) (Ok us) h k = ap Ok (both_cut ts us h k)
  same_outcome (Ok ts) (Err f) h k = absurd (cut_and_fault ts f h k)
  same_outcome (Err f) (Ok ts) h k = absurd (cut_and_fault ts f k h)
  same_outcome (Err f) (Err g) h k = ap Err (both_fault f g h k)

-- the cut of a text's outcome goes as far as can be
cut_of : (text : List ℕ) (outcome : Result (List Token) LexFault) → LexesTo text outcome → (pieces : List Piece) × (left : List ℕ) × IsCutAsFarAsCanBe text pieces left
cut_of text (Ok tokens) h = (h.pieces, [], record { front = h.cut; none = no_piece_in_none })
cut_of text (Err fault) h = (h.pieces, h.left, record { front = h.front; none = no_piece_at (length (text_of h.pieces)) h.left fault h.none })

-- each text has one cut
pub each_text_is_cut : EachTextIsCut
each_text_is_cut text =
    let outcome = lexes_some text in
    let cut = cut_of text outcome.0 outcome.1 in (
      cut.0,
      cut.1,
      cut.2,
      λ others rest h.
          let s = same_cut others cut.0 rest cut.1 h.front.each cut.2.front.each h.none cut.2.none (sym h.front.whole ∙ cut.2.front.whole) in
          (s.pieces, s.left),
    )

-- the law
pub each_text_lexes : EachTextLexes
each_text_lexes text = let found = lexes_some text in (found.0, found.1, λ other h. same_outcome text other found.0 h found.1)
