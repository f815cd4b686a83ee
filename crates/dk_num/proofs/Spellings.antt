-- The spelling of a text is its cut.
use Rattle.std.proofs.Common.{◌≡◌, ◌⊎◌, inl, inr, ◌==◌, ◌||◌, Bool, true, false, ℕ, ◌+◌, ◌<◌, List, [], ◌∷◌, ◌++◌, length, refl, ap, sym, subst, ◌∙◌, arith, cond, if◌then◌else◌, length-append, append_assoc, nat_lt, codes}
use Rattle.std.specs.List.{take_while}
use Rattle.std.proofs.lemmas.Bool.{cases_lt}
use Rattle.std.proofs.lemmas.Grind.{common_steps}
use Rattle.std.proofs.lemmas.List.{append-nil, nil_from_length}
use Rattle.std.proofs.lemmas.List.Sums.{take_while-cons}
use Rattle.dk_num.specs.Numbers.{Spelling, AreDigits, IsSign, IsPointed, IsExponent, Spells, IsFront, is_digit, is_sign_byte, is_point_byte, is_mark_byte, front_byte, parts, spelled}
use Rattle.dk_num.proofs.Cuts.{IsCut, tail0, tail1, tail2, tail3, tail4, tail5, tail6, tail_spelled, cut_parts, run_digits, run_digits_if}

-- the text doesn't begin with a byte of this kind
abbrev pub NotFirst : (ℕ → Bool) → List ℕ → Type 0
NotFirst p [] = Unit {0}
NotFirst p (b ∷ bs) = p b ≡ false

front_none : (p : ℕ → Bool) (t : List ℕ) → NotFirst p t → front_byte p t ≡ []
front_none p [] n = refl
front_none p (b ∷ bs) n = rw n refl

sign_cut : (sign t : List ℕ) → IsSign sign → NotFirst is_sign_byte t → front_byte is_sign_byte (sign ++ t) ≡ sign
sign_cut sign t (inl e) n = rw e (front_none is_sign_byte t n)
sign_cut sign t (inr (inl e)) n = rw e refl
sign_cut sign t (inr (inr e)) n = rw e refl

run_cut : (ds t : List ℕ) → AreDigits ds → NotFirst is_digit t → take_while is_digit (ds ++ t) ≡ ds
run_cut [] [] d n = refl
run_cut [] (b ∷ bs) d n = take_while-cons is_digit b bs ∙ ap (λ x. cond x (b ∷ take_while is_digit bs) []) n
run_cut (b ∷ bs) t d n = take_while-cons is_digit b (bs ++ t) ∙ ap (λ x. cond x (b ∷ take_while is_digit (bs ++ t)) []) d.0 ∙ ap (λ l. b ∷ l) (run_cut bs t d.1 n)

digit_no_sign : (b : ℕ) → is_digit b ≡ true → is_sign_byte b ≡ false
digit_no_sign b h = grind (arith, common_steps)

digits_no_sign : (ds t : List ℕ) → 0 < length ds → AreDigits ds → NotFirst is_sign_byte (ds ++ t)
digits_no_sign [] t some d = absurd (omega arith)
digits_no_sign (b ∷ bs) t some d = digit_no_sign b d.0

body_no_sign : (whole point fraction t : List ℕ) → 0 < length whole + length fraction → AreDigits whole → IsPointed point fraction → NotFirst is_sign_byte (whole ++ (point ++ (fraction ++ t)))
body_no_sign [] point fraction t some d (inl e) = let z : length fraction ≡ 0 = ap length e.1 in absurd (omega arith)
body_no_sign [] point fraction t some d (inr e) = rw e refl
body_no_sign (b ∷ bs) point fraction t some d p = digit_no_sign b d.0

exponent_no_digit : (mark sign digits : List ℕ) → IsExponent mark sign digits → NotFirst is_digit (mark ++ (sign ++ (digits ++ [])))
exponent_no_digit mark sign digits (inl e) = rw (e.0, e.1, e.2) tt
exponent_no_digit mark sign digits (inr (inl e, x, d)) = rw e refl
exponent_no_digit mark sign digits (inr (inr e, x, d)) = rw e refl

exponent_no_point : (mark sign digits : List ℕ) → IsExponent mark sign digits → NotFirst is_point_byte (mark ++ (sign ++ (digits ++ [])))
exponent_no_point mark sign digits (inl e) = rw (e.0, e.1, e.2) tt
exponent_no_point mark sign digits (inr (inl e, x, d)) = rw e refl
exponent_no_point mark sign digits (inr (inr e, x, d)) = rw e refl

point_no_digit : (point fraction t : List ℕ) → IsPointed point fraction → NotFirst is_digit t → NotFirst is_digit (point ++ (fraction ++ t))
point_no_digit point fraction t (inl e) n = rw (e.0, e.1) n
point_no_digit point fraction t (inr e) n = rw e refl

point_cut : (point fraction t : List ℕ) → IsPointed point fraction → NotFirst is_point_byte t → front_byte is_point_byte (point ++ (fraction ++ t)) ≡ point
point_cut point fraction t (inl e) n = rw (e.0, e.1) (front_none is_point_byte t n)
point_cut point fraction t (inr e) n = rw e refl

mark_cut : (mark sign digits : List ℕ) → IsExponent mark sign digits → front_byte is_mark_byte (mark ++ (sign ++ (digits ++ []))) ≡ mark
mark_cut mark sign digits (inl e) = rw (e.0, e.1, e.2) refl
mark_cut mark sign digits (inr (inl e, x, d)) = rw e refl
mark_cut mark sign digits (inr (inr e, x, d)) = rw e refl

marked : (mark : List ℕ) → (mark ≡ codes "e") ⊎ (mark ≡ codes "E") → nat_lt 0 (length mark) ≡ true
marked mark (inl e) = rw e refl
marked mark (inr e) = rw e refl

exponent_sign_cut : (mark sign digits : List ℕ) → IsExponent mark sign digits → (if nat_lt 0 (length mark) then front_byte is_sign_byte (sign ++ (digits ++ [])) else []) ≡ sign
exponent_sign_cut mark sign digits (inl e) = rw (e.0, e.1) refl
exponent_sign_cut mark sign digits (inr (m, s, d)) = rw (marked mark m) (sign_cut sign (digits ++ []) s (digits_no_sign digits [] d.0 d.1))

exponent_cut : (mark sign digits : List ℕ) → IsExponent mark sign digits → (if nat_lt 0 (length mark) then take_while is_digit (digits ++ []) else []) ≡ digits
exponent_cut mark sign digits (inl e) = rw (e.0, e.2) refl
exponent_cut mark sign digits (inr (m, s, d)) = rw (marked mark m) (run_cut digits [] d.1 tt)

spelling_cut : (text : List ℕ) (s : Spelling) → Spells text s → IsCut s []
spelling_cut text s is =
    let t : nat_lt 0 (length s.whole + length s.fraction) ≡ true = lt_true _ is.some in
    let n = exponent_no_digit s.mark s.exponent_sign s.exponent is.exponent in
    record {
      sign = sign_cut s.sign (tail1 s []) is.sign (body_no_sign s.whole s.point s.fraction (tail4 s []) is.some is.whole is.point);
      whole = run_cut s.whole (tail2 s []) is.whole (point_no_digit s.point s.fraction (tail4 s []) is.point n);
      point = point_cut s.point s.fraction (tail4 s []) is.point (exponent_no_point s.mark s.exponent_sign s.exponent is.exponent);
      fraction = run_cut s.fraction (tail4 s []) is.fraction n;
      mark = rw t (mark_cut s.mark s.exponent_sign s.exponent is.exponent);
      exponent_sign = exponent_sign_cut s.mark s.exponent_sign s.exponent is.exponent;
      exponent = exponent_cut s.mark s.exponent_sign s.exponent is.exponent;
    }
  where
    lt_true : (n : ℕ) → 0 < n → nat_lt 0 n ≡ true
    lt_true n h = grind (arith, common_steps)

-- a text has at most one spelling, which its parts are
pub spelling_is : (text : List ℕ) (s : Spelling) → Spells text s → parts text ≡ s
spelling_is text s is = ap parts (is.bytes ∙ sym (append-nil (spelled s)) ∙ sym (tail_spelled s [])) ∙ cut_parts s [] (spelling_cut text s is)

-- two texts that begin alike
abbrev SameFirst : List ℕ → List ℕ → Type 0
SameFirst [] [] = Unit {0}
SameFirst (b ∷ bs) (c ∷ cs) = b ≡ c
SameFirst _ _ = ⊥

same_behind : (a t u : List ℕ) → SameFirst t u → SameFirst (a ++ t) (a ++ u)
same_behind [] t u h = h
same_behind (b ∷ bs) t u h = refl

front_same : (p : ℕ → Bool) (t u : List ℕ) → SameFirst t u → front_byte p t ≡ front_byte p u
front_same p [] [] h = refl
front_same p (b ∷ bs) (c ∷ cs) h = ap (λ x. if p x then x ∷ [] else []) h
front_same p [] (c ∷ cs) h = absurd h
front_same p (b ∷ bs) [] h = absurd h

head_fails : (b : ℕ) (bs : List ℕ) → take_while is_digit (b ∷ bs) ≡ [] → is_digit b ≡ false
head_fails b bs e = at (is_digit b) (sym (take_while-cons is_digit b bs) ∙ e)
  where
    at : (x : Bool) → cond x (b ∷ take_while is_digit bs) [] ≡ [] → x ≡ false
    at true f = absurd (cc)
    at false f = refl

next_stops : (b : ℕ) (ds t : List ℕ) → take_while is_digit (b ∷ t) ≡ b ∷ ds → take_while is_digit t ≡ ds
next_stops b ds t e = at (is_digit b) (sym (take_while-cons is_digit b t) ∙ e)
  where
    at : (x : Bool) → cond x (b ∷ take_while is_digit t) [] ≡ b ∷ ds → take_while is_digit t ≡ ds
    at true f = cc
    at false f = absurd (cc)

-- behind a whole run of digits no digit stands
run_stops : (ds t : List ℕ) → take_while is_digit (ds ++ t) ≡ ds → NotFirst is_digit t
run_stops [] [] e = tt
run_stops [] (b ∷ bs) e = head_fails b bs e
run_stops (d ∷ ds) t e = run_stops ds t (next_stops d ds (ds ++ t) e)

not_first_same : (t u : List ℕ) → SameFirst t u → NotFirst is_digit t → NotFirst is_digit u
not_first_same [] [] h n = tt
not_first_same (b ∷ bs) (c ∷ cs) h n = ap is_digit (sym h) ∙ n
not_first_same [] (c ∷ cs) h n = absurd h
not_first_same (b ∷ bs) [] h n = absurd h

run_same : (ds t u : List ℕ) → SameFirst t u → take_while is_digit (ds ++ t) ≡ ds → take_while is_digit (ds ++ u) ≡ ds
run_same ds t u h e = run_cut ds u (subst AreDigits e (run_digits (ds ++ t))) (not_first_same t u h (run_stops ds t e))

-- only the first byte behind the parts counts
pub cut_same : (s : Spelling) (r q : List ℕ) → SameFirst r q → IsCut s r → IsCut s q
cut_same s r q h c =
    let h6 = same_behind s.exponent r q h in
    let h5 = same_behind s.exponent_sign (tail6 s r) (tail6 s q) h6 in
    let h4 = same_behind s.mark (tail5 s r) (tail5 s q) h5 in
    let h3 = same_behind s.fraction (tail4 s r) (tail4 s q) h4 in
    let h2 = same_behind s.point (tail3 s r) (tail3 s q) h3 in
    let h1 = same_behind s.whole (tail2 s r) (tail2 s q) h2 in
    let h0 = same_behind s.sign (tail1 s r) (tail1 s q) h1 in
    record {
      sign = sym (front_same is_sign_byte (tail0 s r) (tail0 s q) h0) ∙ c.sign;
      whole = run_same s.whole (tail2 s r) (tail2 s q) h2 c.whole;
      point = sym (front_same is_point_byte (tail2 s r) (tail2 s q) h2) ∙ c.point;
      fraction = run_same s.fraction (tail4 s r) (tail4 s q) h4 c.fraction;
      mark = ap (λ l. if nat_lt 0 (length s.whole + length s.fraction) then l else []) (sym (front_same is_mark_byte (tail4 s r) (tail4 s q) h4)) ∙ c.mark;
      exponent_sign = ap (λ l. if nat_lt 0 (length s.mark) then l else []) (sym (front_same is_sign_byte (tail5 s r) (tail5 s q) h5)) ∙ c.exponent_sign;
      exponent = exponent_same (nat_lt 0 (length s.mark)) s.exponent r q h c.exponent;
    }
  where
    exponent_same : (x : Bool) (ds t u : List ℕ) → SameFirst t u → (if x then take_while is_digit (ds ++ t) else []) ≡ ds → (if x then take_while is_digit (ds ++ u) else []) ≡ ds
    exponent_same true ds t u h' e = run_same ds t u h' e
    exponent_same false ds t u h' e = e

-- what the parts of a cut are
pub record IsFrontShape (s : Spelling) : Type 0 where
  pub sign : IsSign s.sign
  pub whole : AreDigits s.whole
  pub fraction : AreDigits s.fraction
  pub point : IsPointed s.point s.fraction
  pub exponent : ((s.mark ≡ []) × (s.exponent_sign ≡ []) × (s.exponent ≡ [])) ⊎ ((0 < length s.whole + length s.fraction) × ((s.mark ≡ codes "e") ⊎ (s.mark ≡ codes "E")) × IsSign s.exponent_sign × AreDigits s.exponent)

sign_byte : (b : ℕ) → IsSign (front_byte is_sign_byte (b ∷ []))
sign_byte b = at (b == 43) refl (b == 45) refl
  where
    at : (x : Bool) → (b == 43) ≡ x → (y : Bool) → (b == 45) ≡ y → IsSign (if (x || y) then b ∷ [] else [])
    at true e y f = let i : b ≡ 43 = grind (arith, common_steps) in inr (inl (ap (λ n. n ∷ []) i))
    at false e true f = let i : b ≡ 45 = grind (arith, common_steps) in inr (inr (ap (λ n. n ∷ []) i))
    at false e false f = inl refl

front_sign : (t : List ℕ) → IsSign (front_byte is_sign_byte t)
front_sign [] = inl refl
front_sign (b ∷ bs) = sign_byte b

front_point : (t : List ℕ) → (front_byte is_point_byte t ≡ []) ⊎ (front_byte is_point_byte t ≡ codes ".")
front_point [] = inl refl
front_point (b ∷ bs) = at (b == 46) refl
  where
    at : (x : Bool) → (b == 46) ≡ x → ((if x then b ∷ [] else []) ≡ []) ⊎ ((if x then b ∷ [] else []) ≡ codes ".")
    at true e = let i : b ≡ 46 = grind (arith, common_steps) in inr (ap (λ n. n ∷ []) i)
    at false e = inl refl

front_mark : (t : List ℕ) → (front_byte is_mark_byte t ≡ []) ⊎ ((front_byte is_mark_byte t ≡ codes "e") ⊎ (front_byte is_mark_byte t ≡ codes "E"))
front_mark [] = inl refl
front_mark (b ∷ bs) = at (b == 69) refl (b == 101) refl
  where
    at : (x : Bool) → (b == 69) ≡ x → (y : Bool) → (b == 101) ≡ y →
        ((if (x || y) then b ∷ [] else []) ≡ []) ⊎ (((if (x || y) then b ∷ [] else []) ≡ codes "e") ⊎ ((if (x || y) then b ∷ [] else []) ≡ codes "E"))
    at true e y f = let i : b ≡ 69 = grind (arith, common_steps) in inr (inr (ap (λ n. n ∷ []) i))
    at false e true f = let i : b ≡ 101 = grind (arith, common_steps) in inr (inl (ap (λ n. n ∷ []) i))
    at false e false f = inl refl

lt_from : (n : ℕ) → nat_lt 0 n ≡ true → 0 < n
lt_from n h = grind (arith, common_steps)

sign_if : (x : Bool) (t : List ℕ) → IsSign (if x then front_byte is_sign_byte t else [])
sign_if true t = front_sign t
sign_if false t = inl refl

mark_if : (n : ℕ) (x : Bool) → nat_lt 0 n ≡ x → (t m : List ℕ) → (if x then front_byte is_mark_byte t else []) ≡ m → (m ≡ []) ⊎ ((0 < n) × ((m ≡ codes "e") ⊎ (m ≡ codes "E")))
mark_if n true e t m f = elim (front_mark t) [ inl g ↦ inl (sym f ∙ g) | inr (inl g) ↦ inr (lt_from n e, inl (sym f ∙ g)) | inr (inr g) ↦ inr (lt_from n e, inr (sym f ∙ g)) ]
mark_if n false e t m f = inl (sym f)

pub front_shape : (s : Spelling) (r : List ℕ) → IsCut s r → IsFrontShape s
front_shape s r c = record {
  sign = subst IsSign c.sign (front_sign (tail0 s r));
  whole = subst AreDigits c.whole (run_digits (tail1 s r));
  fraction = subst AreDigits c.fraction (run_digits (tail3 s r));
  point = elim (front_point (tail2 s r)) [ inl e ↦ inl (sym c.point ∙ e, no_fraction (sym c.point ∙ e)) | inr e ↦ inr (sym c.point ∙ e) ];
  exponent = elim (mark_if (length s.whole + length s.fraction) (nat_lt 0 (length s.whole + length s.fraction)) refl (tail4 s r) s.mark c.mark) [
    | inl e ↦ inl (e, unsigned e, undigited e)
    | inr m ↦ inr (m.0, m.1, subst IsSign c.exponent_sign (sign_if (nat_lt 0 (length s.mark)) (tail5 s r)), subst AreDigits c.exponent (run_digits_if (nat_lt 0 (length s.mark)) (tail6 s r)))
  ];
}
  where
    no_fraction : s.point ≡ [] → s.fraction ≡ []
    no_fraction e =
        let n : NotFirst is_digit (tail3 s r) = subst (λ p. NotFirst is_digit (p ++ tail3 s r)) e (run_stops s.whole (tail2 s r) c.whole) in
        sym c.fraction ∙ run_cut [] (tail3 s r) tt n

    unsigned : s.mark ≡ [] → s.exponent_sign ≡ []
    unsigned e = sym c.exponent_sign ∙ ap (λ m. if nat_lt 0 (length m) then front_byte is_sign_byte (tail5 s r) else []) e

    undigited : s.mark ≡ [] → s.exponent ≡ []
    undigited e = sym c.exponent ∙ ap (λ m. if nat_lt 0 (length m) then take_while is_digit (tail6 s r) else []) e

digits_push : (ds : List ℕ) → AreDigits ds → AreDigits (ds ++ 48 ∷ [])
digits_push [] d = (refl, tt)
digits_push (b ∷ bs) d = (d.0, digits_push bs d.1)

-- what the parts make up is the front of a number's text
pub parts_front : (s : Spelling) → IsFrontShape s → IsFront (spelled s)
parts_front s f = elim f.exponent [ inl e ↦ without e | inr e ↦ with_exponent e ]
  where
    with_exponent : (0 < length s.whole + length s.fraction) × ((s.mark ≡ codes "e") ⊎ (s.mark ≡ codes "E")) × IsSign s.exponent_sign × AreDigits s.exponent → IsFront (spelled s)
    with_exponent (some, m, x, d) = (
      48 ∷ [],
      record s { exponent = s.exponent ++ 48 ∷ [] },
      record {
        bytes = simp append_assoc;
        sign = f.sign;
        some = some;
        whole = f.whole;
        fraction = f.fraction;
        point = f.point;
        exponent = inr (m, x, (omega (arith, length-append s.exponent (48 ∷ [])), digits_push s.exponent d));
      },
    )

    number : (s.mark ≡ []) × (s.exponent_sign ≡ []) × (s.exponent ≡ []) → 0 < length s.whole + length s.fraction → IsFront (spelled s)
    number e some = ([], s, record { bytes = append-nil (spelled s); sign = f.sign; some = some; whole = f.whole; fraction = f.fraction; point = f.point; exponent = inl e })

    digit_next : (s.mark ≡ []) × (s.exponent_sign ≡ []) × (s.exponent ≡ []) → s.whole ≡ [] → s.fraction ≡ [] → IsPointed s.point s.fraction → IsFront (spelled s)
    digit_next e w g (inl p) = (
      48 ∷ [],
      record s { whole = 48 ∷ [] },
      record {
        bytes = rw (e.0, e.1, e.2, w, g, p.0) (append_assoc s.sign [] (48 ∷ []));
        sign = f.sign;
        some = omega arith;
        whole = (refl, tt);
        fraction = f.fraction;
        point = f.point;
        exponent = inl e;
      },
    )
    digit_next e w g (inr p) = (
      48 ∷ [],
      record s { fraction = 48 ∷ [] },
      record {
        bytes = rw (e.0, e.1, e.2, w, g, p) (append_assoc s.sign (codes ".") (48 ∷ []));
        sign = f.sign;
        some = omega arith;
        whole = f.whole;
        fraction = (refl, tt);
        point = inr p;
        exponent = inl e;
      },
    )

    without : (s.mark ≡ []) × (s.exponent_sign ≡ []) × (s.exponent ≡ []) → IsFront (spelled s)
    without e = elim (cases_lt 0 (length s.whole + length s.fraction)) [ inl some ↦ number e some | inr none ↦ digit_next e (nil_from_length s.whole (omega arith)) (nil_from_length s.fraction (omega arith)) f.point ]
