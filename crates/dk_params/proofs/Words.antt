-- Words, which have visible bytes alone, and the lines of words.
use Rattle.std.proofs.Common.{◌≡◌, ℕ, ◌-◌, ◌<◌, ◌≤◌, ◌==◌, zero, suc, true, false, List, [], ◌∷◌, ◌++◌, length, replicate, cond, refl, ap, ◌∙◌, arith, append_assoc}
use Rattle.std.specs.Prelude.{codes, nat_lt, nat_le, Some}
use Rattle.std.specs.List.{All, filter, filter_map, cons_option, flat_map}
use Rattle.std.proofs.lemmas.Bool.{and_parts, leb-true, lt-ltb, ne_eqb}
use Rattle.std.proofs.lemmas.List.Elements.{All-nil, All-cons, All-head, All-tail, All-append, All-weaker, All-replicate}
use Rattle.std.proofs.lemmas.List.Splits.{slice_split_at, slice_split_none}
use Rattle.dk_types.specs.Labels.{is_visible}
use Rattle.dk_types.specs.declared.study.ParamForm.{ParamForm}
use Rattle.dk_types.specs.declared.study.ParamForm.TheVariants.{Standard, Aprepro}
use Rattle.dk_params.specs.Params.{Line, line_text}
use Rattle.dk_params.specs.Reading.{words, line_of, lines_in}

abbrev pub AreVisible : List ℕ → Type 0
AreVisible bs = All (λ b. is_visible b ≡ true) bs

pub record IsWord (w : List ℕ) : Type 0 where
  pub some : 0 < length w
  pub visible : AreVisible w

-- a visible byte is no blank and no line feed
visible_from : (b : ℕ) → is_visible b ≡ true → 33 ≤ b
visible_from b h = leb-true 33 b ((and_parts (nat_le 33 b) (nat_le b 126) h).0)

no_blank : (b : ℕ) → is_visible b ≡ true → (b == 32) ≡ false
no_blank b h = let f = visible_from b h in ne_eqb b 32 (λ e. omega (arith, f, e))

no_feed : (b : ℕ) → is_visible b ≡ true → (b == 10) ≡ false
no_feed b h = let f = visible_from b h in ne_eqb b 10 (λ e. omega (arith, f, e))

no_blanks : (w : List ℕ) → AreVisible w → All (λ b. (b == 32) ≡ false) w
no_blanks w h = All-weaker (λ b. is_visible b ≡ true) (λ b. (b == 32) ≡ false) no_blank w h

-- no line feed is among these bytes
record IsOneLine (bs : List ℕ) : Type 0 where
  pub each : All (λ b. (b == 10) ≡ false) bs

no_feeds : {w : List ℕ} → IsWord w → IsOneLine w
no_feeds {w} h = record { each = All-weaker (λ b. is_visible b ≡ true) (λ b. (b == 10) ≡ false) no_feed w h.visible }

some_true : (w : List ℕ) → 0 < length w → nat_lt 0 (length w) ≡ true
some_true w h = lt-ltb 0 (length w) h

-- blanks at the front are no words
words_behind : (k : ℕ) (text : List ℕ) → words (replicate k 32 ++ text) ≡ words text
words_behind zero text = refl
words_behind (suc k) text = words_behind k text

-- a word and a blank
words_next : (w text : List ℕ) → IsWord w → words (w ++ 32 ∷ text) ≡ w ∷ words text
words_next w text h =
    ap (filter (λ v. nat_lt 0 (length v))) (slice_split_at (λ b. b == 32) w 32 text (no_blanks w h.visible) refl)
    ∙ ap (λ t. cond t (w ∷ words text) (words text)) (some_true w h.some)

-- the last word
words_last : (w : List ℕ) → IsWord w → words w ≡ w ∷ []
words_last w h =
    ap (filter (λ v. nat_lt 0 (length v))) (slice_split_none (λ b. b == 32) w (no_blanks w h.visible))
    ∙ ap (λ t. cond t (w ∷ []) []) (some_true w h.some)

one_word : (b : ℕ) → is_visible b ≡ true → IsWord (b ∷ [])
one_word b h = record { some = omega arith; visible = All-cons (λ c. is_visible c ≡ true) b [] h (All-nil (λ c. is_visible c ≡ true)) }

-- a line without its line feed
abbrev body : ParamForm → Line → List ℕ
body Standard l = replicate (22 - length l.value) 32 ++ (l.value ++ (codes " " ++ l.tag))
body Aprepro l = codes "{ " ++ (l.tag ++ (codes " = " ++ (l.value ++ codes " }")))

body_then : (form : ParamForm) (l : Line) (text : List ℕ) → line_text form l ++ text ≡ body form l ++ 10 ∷ text
body_then Standard l text = simp append_assoc refl
body_then Aprepro l text = simp append_assoc refl

-- a line whose value and tag are words
pub record IsPlain (l : Line) : Type 0 where
  pub value : IsWord l.value
  pub tag : IsWord l.tag

body_words : (form : ParamForm) (l : Line) → IsPlain l → line_of form (words (body form l)) ≡ Some l
body_words Standard l h =
    ap (line_of Standard) (words_behind (22 - length l.value) (l.value ++ (32 ∷ l.tag)) ∙ words_next l.value l.tag h.value ∙ ap (λ ws. l.value ∷ ws) (words_last l.tag h.tag))
body_words Aprepro l h =
    ap (line_of Aprepro)
    (words_next (codes "{") (l.tag ++ (codes " = " ++ (l.value ++ codes " }"))) (one_word 123 refl)
    ∙ ap (λ ws. codes "{" ∷ ws) (words_next l.tag (codes "= " ++ (l.value ++ codes " }")) h.tag)
    ∙ ap (λ ws. codes "{" ∷ l.tag ∷ ws) (words_next (codes "=") (l.value ++ codes " }") (one_word 61 refl))
    ∙ ap (λ ws. codes "{" ∷ l.tag ∷ codes "=" ∷ ws) (words_next l.value (codes "}") h.value)
    ∙ ap (λ ws. codes "{" ∷ l.tag ∷ codes "=" ∷ l.value ∷ ws) (words_last (codes "}") (one_word 125 refl)))

both : {xs ys : List ℕ} → IsOneLine xs → IsOneLine ys → IsOneLine (xs ++ ys)
both {xs} {ys} h h' = record { each = All-append (λ b. (b == 10) ≡ false) xs ys h.each h'.each }

next : (b : ℕ) {bs : List ℕ} → (b == 10) ≡ false → IsOneLine bs → IsOneLine (b ∷ bs)
next b {bs} h h' = record { each = All-cons (λ c. (c == 10) ≡ false) b bs h h'.each }

none : IsOneLine []
none = record { each = All-nil (λ c. (c == 10) ≡ false) }

blanks : (k : ℕ) → IsOneLine (replicate k 32)
blanks k = record { each = All-replicate (λ b. (b == 10) ≡ false) k 32 refl }

body_one_line : (form : ParamForm) (l : Line) → IsPlain l → IsOneLine (body form l)
body_one_line Standard l h = both (blanks (22 - length l.value)) (both (no_feeds h.value) (next 32 refl (no_feeds h.tag)))
body_one_line Aprepro l h =
    next 123 refl (next 32 refl (both (no_feeds h.tag) (next 32 refl (next 61 refl (next 32 refl (both (no_feeds h.value) (next 32 refl (next 125 refl none))))))))

-- the lines of a text are those that it was made of
pub lines_read : (form : ParamForm) (ls : List Line) → All IsPlain ls → lines_in form (flat_map (line_text form) ls) ≡ ls
lines_read Standard [] h = refl
lines_read Aprepro [] h = refl
lines_read form (l ∷ ls) h =
    ap (lines_in form) (body_then form l (flat_map (line_text form) ls))
    ∙ ap (filter_map (λ t. line_of form (words t))) (slice_split_at (λ b. b == 10) (body form l) 10 (flat_map (line_text form) ls) (body_one_line form l plain).each refl)
    ∙ ap (λ found. cons_option found (lines_in form (flat_map (line_text form) ls))) (body_words form l plain)
    ∙ ap (λ more. l ∷ more) (lines_read form ls (All-tail IsPlain l ls h))
  where
    plain : IsPlain l
    plain = All-head IsPlain l ls h
