-- What the values and tags of a parameters file are made of.
use Rattle.std.proofs.Common.{◌≡◌, ℕ, ◌+◌, ◌-◌, ◌%◌, ◌^◌, ◌<◌, ◌≤◌, ◌&&◌, ◌||◌, ◌==◌, Bool, true, false, List, [], ◌∷◌, ◌++◌, length, drop, map, refl, arith, lit<, nat_le, length-append}
use Rattle.std.specs.Prelude.{IsTrue, codes, decimal, ℤ, pos, unsigned_abs, int_lt, nat_lt, if◌then◌else◌}
use Rattle.std.specs.List.{All, list_all, enumerate_from}
use Rattle.std.specs.Char.{is_ascii_alphabetic}
use Rattle.std.proofs.lemmas.Bool.{and_parts, le-leb, and_from}
use Rattle.std.proofs.lemmas.Fmt.{decimal_by_steps_wide}
use Rattle.std.proofs.lemmas.List.Elements.{All-nil, All-cons, All-head, All-tail, All-append, All-take, All-drop, All-replicate}
use Rattle.dk_num.specs.Decimal.{Decimal, IsCanonical, is_zero, leading}
use Rattle.dk_num.specs.Texts.{sci_text, sign_text, pointed_fully, exponent_text, places_text}
use Rattle.dk_types.specs.Labels.{is_label, is_visible, AreLabels}
use Rattle.dk_types.specs.declared.study.ParamForm.{ParamForm}
use Rattle.dk_types.specs.declared.study.ParamForm.TheVariants.{Standard, Aprepro}
use Rattle.dk_params.specs.Params.{Line, Tags, line, numbered, tags, variable_lines, lines_with}
use Rattle.dk_params.proofs.Bounded.{AllLabels, leading_near}
use Rattle.dk_params.proofs.Words.{AreVisible, IsWord, IsPlain}

-- bytes of which each is visible
record Shows (bs : List ℕ) : Type 0 where
  pub each : AreVisible bs

shows_none : Shows []
shows_none = record { each = All-nil (λ b. is_visible b ≡ true) }

shows_next : (b : ℕ) {bs : List ℕ} → is_visible b ≡ true → Shows bs → Shows (b ∷ bs)
shows_next b {bs} h h' = record { each = All-cons (λ c. is_visible c ≡ true) b bs h h'.each }

shows_both : {xs ys : List ℕ} → Shows xs → Shows ys → Shows (xs ++ ys)
shows_both {xs} {ys} h h' = record { each = All-append (λ b. is_visible b ≡ true) xs ys h.each h'.each }

shows_cond : (b : Bool) {x y : List ℕ} → Shows x → Shows y → Shows (if b then x else y)
shows_cond true h h' = h
shows_cond false h h' = h'

-- bytes that a test finds visible
shown : (bs : List ℕ) → list_all is_visible bs ≡ true → Shows bs
shown [] h = shows_none
shown (b ∷ bs) h = let p = and_parts (is_visible b) (list_all is_visible bs) h in shows_next b p.0 (shown bs p.1)

digit_shows : (n : ℕ) → n < 10 → is_visible (48 + n) ≡ true
digit_shows n h = and_from _ _ (le-leb 33 (48 + n) (omega arith)) (le-leb (48 + n) 126 (omega arith))

-- the digits of a number
record IsNumeral (bs : List ℕ) : Type 0 where
  pub some : 0 < length bs
  pub shows : Shows bs

decimal_shows : (n : ℕ) → n < 10 ^ 64 → IsNumeral (decimal n)
decimal_shows n h = decimal_by_steps_wide (λ k ds. IsNumeral ds) one more n h
  where
    one : (k : ℕ) → k < 10 → IsNumeral ((48 + k) ∷ [])
    one k lt = record { some = omega arith; shows = shows_next (48 + k) (digit_shows k lt) shows_none }

    more : (k : ℕ) (ds : List ℕ) → 10 ≤ k → IsNumeral ds → IsNumeral (ds ++ ((48 + k % 10) ∷ []))
    more k ds le was = record {
      some = omega (arith, was.some, length-append ds ((48 + k % 10) ∷ []));
      shows = shows_both was.shows (shows_next (48 + k % 10) (digit_shows (k % 10) (omega arith)) shows_none);
    }

places_show : {mark : List ℕ} (n : ℕ) → Shows mark → n < 10 ^ 64 → Shows (places_text mark n)
places_show n h lt = shows_both h (shows_both (shows_cond (nat_lt n 10) (shows_next 48 refl shows_none) shows_none) (shows_both (decimal_shows n lt).shows shows_none))

exponent_shows : (e : ℤ) → unsigned_abs e < 10 ^ 64 → Shows (exponent_text e)
exponent_shows e h = shows_cond (int_lt e (pos 0)) (places_show (unsigned_abs e) (shown (codes "e-") refl) h) (places_show (unsigned_abs e) (shown (codes "e+") refl) h)

pointed_shows : {ds : List ℕ} → Shows ds → Shows (pointed_fully ds)
pointed_shows {ds} h =
    shows_both (record { each = All-take (λ b. is_visible b ≡ true) 1 ds h.each })
    (shows_both (shown (codes ".") refl)
    (shows_both (shows_both (record { each = All-drop (λ b. is_visible b ≡ true) 1 ds h.each })
    (shows_both (record { each = All-replicate (λ b. is_visible b ≡ true) (15 - length (drop 1 ds)) 48 refl }) shows_none))
    shows_none))

-- a text with a point in the middle, as a word
word_of : (sign ds exponent : List ℕ) → Shows sign → Shows ds → Shows exponent → IsWord (sign ++ (pointed_fully ds ++ exponent))
word_of sign ds exponent h h' h'' = record {
  some = simp length-append (omega arith);
  visible = (shows_both h (shows_both (pointed_shows h') h'')).each;
}

sci_word : (d : Decimal) → IsCanonical d → IsWord (sci_text d)
unfolding sci_text
sci_word d canonical = by (is_zero d) refl
  where
    n : ℕ
    n = unsigned_abs d.mantissa

    by : (b : Bool) → is_zero d ≡ b →
        IsWord (if b then pointed_fully (codes "0") ++ exponent_text (pos 0) else sign_text d.mantissa ++ (pointed_fully (decimal n) ++ exponent_text (leading d)))
    by true e = word_of [] (codes "0") (exponent_text (pos 0)) shows_none (shown (codes "0") refl) (exponent_shows (pos 0) (lit< tt))
    by false e =
        let le : unsigned_abs (leading d) ≤ 9999 = leading_near d canonical e in
        word_of (sign_text d.mantissa) (decimal n) (exponent_text (leading d)) (shows_cond (int_lt d.mantissa (pos 0)) (shown (codes "-") refl) shows_none)
        (decimal_shows n (omega (arith, canonical.small))).shows (exponent_shows (leading d) (omega arith))

label_word : (label : List ℕ) → is_label label ≡ true → IsWord label
label_word [] h = absurd (cc)
label_word (b ∷ bs) h =
    let front = (and_parts ((is_ascii_alphabetic b || b == 95) && list_all is_visible (b ∷ bs)) (nat_le (length (b ∷ bs)) 255) h).0 in
    record { some = omega arith; visible = (shown (b ∷ bs) (and_parts (is_ascii_alphabetic b || b == 95) (list_all is_visible (b ∷ bs)) front).1).each }

word : (b : ℕ) (bs : List ℕ) → list_all is_visible (b ∷ bs) ≡ true → IsWord (b ∷ bs)
word b bs h = record { some = omega arith; visible = (shown (b ∷ bs) h).each }

decimal_word : (n : ℕ) → n < 2 ^ 32 → IsWord (decimal n)
decimal_word n h = let d = decimal_shows n (omega arith) in record { some = d.some; visible = d.shows.each }

numbered_word : (b : ℕ) (bs label : List ℕ) (n : ℕ) → list_all is_visible (b ∷ bs) ≡ true → n < 2 ^ 32 → is_label label ≡ true → IsWord (numbered (b ∷ bs) n label)
numbered_word b bs label n h lt is = record {
  some = omega arith;
  visible = (shows_both (shown (b ∷ bs) h) (shows_both (decimal_shows n (omega arith)).shows (shows_both (shown (codes ":") refl) (record { each = (label_word label is).visible })))).each;
}

-- lines whose values and tags are words
pub record ArePlain (ls : List Line) : Type 0 where
  pub each : All IsPlain ls

plain_none : ArePlain []
plain_none = record { each = All-nil IsPlain }

plain_next : {l : Line} {ls : List Line} → IsPlain l → ArePlain ls → ArePlain (l ∷ ls)
plain_next {l} {ls} h h' = record { each = All-cons IsPlain l ls h h'.each }

plain_both : {ls ms : List Line} → ArePlain ls → ArePlain ms → ArePlain (ls ++ ms)
plain_both {ls} {ms} h h' = record { each = All-append IsPlain ls ms h.each h'.each }

variables_plain : (labels : List (List ℕ)) (point : List Decimal) → AllLabels labels → All IsCanonical point → ArePlain (variable_lines labels point)
variables_plain [] point are all = plain_none
variables_plain (label ∷ labels) [] are all = plain_none
variables_plain (label ∷ labels) (x ∷ point) are all =
    plain_next (record { value = sci_word x (All-head IsCanonical x point all); tag = label_word label (All-head (λ l. IsTrue (is_label l)) label labels are) })
    (variables_plain labels point (All-tail (λ l. IsTrue (is_label l)) label labels are) (All-tail IsCanonical x point all))

numbered_plain : (f : ℕ × List ℕ → Line) (labels : List (List ℕ)) (from : ℕ) → from + length labels < 2 ^ 32 → AllLabels labels →
    ((n : ℕ) (label : List ℕ) → n < 2 ^ 32 → is_label label ≡ true → IsPlain (f (n, label))) → ArePlain (map f (enumerate_from from labels))
numbered_plain f [] from lt are each = plain_none
numbered_plain f (label ∷ labels) from lt are each =
    plain_next (each from label (omega arith) (All-head (λ l. IsTrue (is_label l)) label labels are))
    (numbered_plain f labels (from + 1) (omega arith) (All-tail (λ l. IsTrue (is_label l)) label labels are) each)

record AreWords (t : Tags) : Type 0 where
  pub variables : IsWord t.variables
  pub functions : IsWord t.functions
  pub derivatives : IsWord t.derivatives
  pub components : IsWord t.components
  pub evaluation : IsWord t.evaluation

tags_words : (form : ParamForm) → AreWords (tags form)
tags_words Standard = record { variables = word _ _ refl; functions = word _ _ refl; derivatives = word _ _ refl; components = word _ _ refl; evaluation = word _ _ refl }
tags_words Aprepro = record { variables = word _ _ refl; functions = word _ _ refl; derivatives = word _ _ refl; components = word _ _ refl; evaluation = word _ _ refl }

pub lines_plain : (form : ParamForm) (variables responses : List (List ℕ)) (evaluation : ℕ) (point : List Decimal) → AreLabels variables → AreLabels responses →
    evaluation < 2 ^ 32 → All IsCanonical point → ArePlain (lines_with (tags form) variables responses evaluation point)
lines_plain form variables responses evaluation point vs rs lt all =
    let few = vs.few in
    let few' = rs.few in
    let t = tags_words form in
    plain_next (record { value = decimal_word (length variables) (omega arith); tag = t.variables })
    (plain_both (variables_plain variables point vs.each all)
    (plain_next (record { value = decimal_word (length responses) (omega arith); tag = t.functions })
    (plain_both (numbered_plain (λ (number, label). line (codes "1") (numbered (codes "ASV_") number label)) responses 1 (omega arith) rs.each
    (λ n label below is. record { value = word _ _ refl; tag = numbered_word 65 (codes "SV_") label n refl below is }))
    (plain_next (record { value = decimal_word (length variables) (omega arith); tag = t.derivatives })
    (plain_both (numbered_plain (λ (number, label). line (decimal number) (numbered (codes "DVV_") number label)) variables 1 (omega arith) vs.each
    (λ n label below is. record { value = decimal_word n below; tag = numbered_word 68 (codes "VV_") label n refl below is }))
    (plain_next (record { value = decimal_word 0 (lit< tt); tag = t.components })
    (plain_next (record { value = decimal_word evaluation lt; tag = t.evaluation }) plain_none)))))))
