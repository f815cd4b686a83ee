-- Two longest pieces at the front of one text are one.
use Rattle.std.proofs.Common.{◌≡◌, ◌⊎◌, inl, inr, ℕ, ◌<◌, ◌≤◌, Bool, true, false, ◌&&◌, ◌||◌, not, List, [], ◌∷◌, ◌++◌, length, refl, sym, ap, ◌∙◌, subst, arith, append-nil}
use Rattle.std.specs.Prelude.{◌==◌, nat_le, if◌then◌else◌}
use Rattle.std.specs.List.{list_all}
use Rattle.std.proofs.lemmas.Bool.{eqb-true, ne_eqb, leb-true}
use Rattle.dk_lex.specs.declared.form.Form.{Form}
use Rattle.dk_lex.specs.declared.form.Form.TheVariants.{White, Separator, Comment, Quoted, Word}
use Rattle.dk_lex.specs.Bytes.{is_space, is_separator, is_quote, is_word_byte, ends_line, starts_white}
use Rattle.dk_lex.specs.Cut.{Piece, IsPiece, Looks}
use Rattle.dk_lex.proofs.Runs.{left_of, right_of}

-- the form of a piece, by its first byte
pub form_of : ℕ → Form
form_of b =
    if is_space b || b == 92 then White
    else (if is_separator b then Separator
    else (if b == 35 then Comment
    else (if is_quote b then Quoted else Word)))

-- one of two tests holds
one_of : (x y : Bool) → (x || y) ≡ true → (x ≡ true) ⊎ (y ≡ true)
one_of true y e = inl refl
one_of false y e = inr e

-- a comma or an equals sign begins a separator
separator_form : (b : ℕ) → is_separator b ≡ true → form_of b ≡ Separator
unfolding form_of
separator_form b e = by (one_of (b == 44) (b == 61) e)
  where
    by : ((b == 44) ≡ true) ⊎ ((b == 61) ≡ true) → form_of b ≡ Separator
    by (inl h) = subst (λ x. form_of x ≡ Separator) (sym (eqb-true b 44 h)) refl
    by (inr h) = subst (λ x. form_of x ≡ Separator) (sym (eqb-true b 61 h)) refl

-- a quote begins a string
pub quote_form : (b : ℕ) → is_quote b ≡ true → form_of b ≡ Quoted
unfolding form_of
quote_form b e = by (one_of (b == 34) (b == 39) e)
  where
    by : ((b == 34) ≡ true) ⊎ ((b == 39) ≡ true) → form_of b ≡ Quoted
    by (inl h) = subst (λ x. form_of x ≡ Quoted) (sym (eqb-true b 34 h)) refl
    by (inr h) = subst (λ x. form_of x ≡ Quoted) (sym (eqb-true b 39 h)) refl

-- what is white begins white space
white_form : (b : ℕ) (rest : List ℕ) → starts_white (b ∷ rest) ≡ true → form_of b ≡ White
unfolding form_of
white_form b rest e = let w : (is_space b || b == 92) ≡ true = weaker (is_space b) (b == 92) (ends_line rest) e in rw w refl
  where
    weaker : (x y z : Bool) → (x || y && z) ≡ true → (x || y) ≡ true
    weaker true y z p = refl
    weaker false true z p = refl
    weaker false false z p = p

-- each of four tests fails
none_of_these : (a b c d : Bool) → not (a || b || c || d) ≡ true → (a ≡ false) × (b ≡ false) × (c ≡ false) × (d ≡ false)
none_of_these false false false false e = (refl, refl, refl, refl)
none_of_these true b c d e = absurd (let h : false ≡ true = e in cc)
none_of_these false true c d e = absurd (let h : false ≡ true = e in cc)
none_of_these false false true d e = absurd (let h : false ≡ true = e in cc)
none_of_these false false false true e = absurd (let h : false ≡ true = e in cc)

-- a byte of a word begins one
word_form : (b : ℕ) → is_word_byte b ≡ true → form_of b ≡ Word
unfolding form_of
word_form b e =
    let visible : (nat_le 33 b && nat_le b 126) ≡ true = left_of (nat_le 33 b && nat_le b 126) _ e in
    let low : 33 ≤ b = leb-true 33 b (left_of (nat_le 33 b) (nat_le b 126) visible) in
    let n = none_of_these (is_quote b) (is_separator b) (b == 35) (b == 92) (right_of (nat_le 33 b && nat_le b 126) _ e) in
    let n1 = ne_eqb b 9 (λ h. omega arith) in
    let n2 = ne_eqb b 10 (λ h. omega arith) in
    let n3 = ne_eqb b 13 (λ h. omega arith) in
    let n4 = ne_eqb b 32 (λ h. omega arith) in
    rw (n1, n2, n3, n4, n.3, n.1, n.2, n.0) refl

-- the first byte of a piece tells its form
pub piece_form : (f : Form) (b : ℕ) (bs after : List ℕ) → Looks f (b ∷ bs) after → form_of b ≡ f
unfolding form_of
piece_form White b bs after h = white_form b (bs ++ after) h.0
piece_form Separator b bs after h = separator_form b (let e = h.2 in let same : h.0 ≡ b = cc in subst (λ x. is_separator x ≡ true) same h.1)
piece_form Comment b bs after h = let e = h.1 in let same : 35 ≡ b = cc in subst (λ x. form_of x ≡ Comment) same refl
piece_form Quoted b bs after h = quote_form b (let e = h.3 in let same : h.0 ≡ b = cc in subst (λ x. is_quote x ≡ true) same h.2)
piece_form Word b bs after h = word_form b (left_of (is_word_byte b) (list_all is_word_byte bs) h)

-- of two fronts of one list, one goes on from the other
pub data Fronts (xs ar ys br : List ℕ) : Type 0 where
  longer : (more : List ℕ) → ys ≡ xs ++ more → ar ≡ more ++ br → Fronts xs ar ys br
  shorter : (more : List ℕ) → xs ≡ ys ++ more → br ≡ more ++ ar → Fronts xs ar ys br

-- a byte joins both fronts
fronts_push : (x : ℕ) (xs ar ys br : List ℕ) → Fronts xs ar ys br → Fronts (x ∷ xs) ar (x ∷ ys) br
fronts_push x xs ar ys br (longer more e f) = longer more (ap (λ l. x ∷ l) e) f
fronts_push x xs ar ys br (shorter more e f) = shorter more (ap (λ l. x ∷ l) e) f

-- two fronts of one list are compared
pub compare_fronts : (xs ar ys br : List ℕ) → xs ++ ar ≡ ys ++ br → Fronts xs ar ys br
compare_fronts [] ar ys br e = longer ys refl e
compare_fronts (x ∷ xs) ar [] br e = shorter (x ∷ xs) refl (sym e)
compare_fronts (x ∷ xs) ar (y ∷ ys) br e =
    let first : x ≡ y = cc in
    let others : xs ++ ar ≡ ys ++ br = cc in
    subst (λ z. Fronts (x ∷ xs) ar (z ∷ ys) br) first (fronts_push x xs ar ys br (compare_fronts xs ar ys br others))

-- two longest pieces at the front of one text are one
pub record SamePiece (p q : Piece) (a b : List ℕ) : Type 0 where
  pub piece : p ≡ q
  pub left : a ≡ b

-- two pieces at the front are of one form
same_form : (p q : Piece) (a b : List ℕ) → IsPiece p a → IsPiece q b → p.bytes ++ a ≡ q.bytes ++ b → p.form ≡ q.form
same_form p q a b hp hq e = by p.form q.form p.bytes q.bytes hp.some hq.some hp.looks hq.looks e
  where
    by : (f g : Form) (xs ys : List ℕ) → 0 < length xs → 0 < length ys → Looks f xs a → Looks g ys b → xs ++ a ≡ ys ++ b → f ≡ g
    by f g [] ys some more l m e = absurd (omega arith)
    by f g (x ∷ xs) [] some more l m e = absurd (omega arith)
    by f g (x ∷ xs) (y ∷ ys) some more l m e =
        let first : x ≡ y = cc in
        sym (piece_form f x xs a l) ∙ ap form_of first ∙ piece_form g y ys b m

-- a piece has no more bytes than a longest one of its form
not_longer : (p q : Piece) (a b more : List ℕ) → IsPiece p a → IsPiece q b → p.form ≡ q.form → q.bytes ≡ p.bytes ++ more → a ≡ more ++ b → more ≡ []
not_longer p q a b [] hp hq f e l = refl
not_longer p q a b (m ∷ ms) hp hq f e l =
    absurd (hp.longest (m ∷ ms) b l (omega arith) (subst (λ bytes. Looks p.form bytes b) e (subst (λ g. Looks g q.bytes b) (sym f) hq.looks)))

-- two pieces at the front are one
pub same_piece : (p q : Piece) (a b : List ℕ) → IsPiece p a → IsPiece q b → p.bytes ++ a ≡ q.bytes ++ b → SamePiece p q a b
same_piece p q a b hp hq e = by (same_form p q a b hp hq e) (compare_fronts p.bytes a q.bytes b e)
  where
    make : p.form ≡ q.form → p.bytes ≡ q.bytes → a ≡ b → SamePiece p q a b
    make f bytes left = record { piece = λ i. record { form = f i; bytes = bytes i }; left = left }

    by : p.form ≡ q.form → Fronts p.bytes a q.bytes b → SamePiece p q a b
    by f (longer more bytes left) =
        let none = not_longer p q a b more hp hq f bytes left in
        make f (sym (bytes ∙ ap (λ l. p.bytes ++ l) none ∙ append-nil p.bytes)) (left ∙ ap (λ l. l ++ b) none)
    by f (shorter more bytes left) =
        let none = not_longer q p b a more hq hp (sym f) bytes left in
        make f (bytes ∙ ap (λ l. q.bytes ++ l) none ∙ append-nil q.bytes) (sym (left ∙ ap (λ l. l ++ a) none))
