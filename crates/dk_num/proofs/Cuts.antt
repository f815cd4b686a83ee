-- How a text is cut into the parts of a number's text and what stands behind them.
use Rattle.std.proofs.Common.{◌≡◌, Bool, true, false, ℕ, ◌+◌, List, [], ◌∷◌, ◌++◌, length, drop, refl, ap, sym, subst, ◌∙◌, cond, if◌then◌else◌, append_assoc, nat_lt, take-append-drop}
use Rattle.std.specs.List.{take_while, prefix_len}
use Rattle.std.proofs.lemmas.List.{drop_at}
use Rattle.std.proofs.lemmas.List.Sums.{take_while-cons}
use Rattle.std.proofs.lemmas.List.Folds.{length-prefix_len}
use Rattle.dk_num.specs.Numbers.{Spelling, AreDigits, is_digit, is_sign_byte, is_point_byte, is_mark_byte, front_byte, parts, spelled}

-- what a text has from each part on
abbrev pub tail6 : Spelling → List ℕ → List ℕ
tail6 s r = s.exponent ++ r

abbrev pub tail5 : Spelling → List ℕ → List ℕ
tail5 s r = s.exponent_sign ++ tail6 s r

abbrev pub tail4 : Spelling → List ℕ → List ℕ
tail4 s r = s.mark ++ tail5 s r

abbrev pub tail3 : Spelling → List ℕ → List ℕ
tail3 s r = s.fraction ++ tail4 s r

abbrev pub tail2 : Spelling → List ℕ → List ℕ
tail2 s r = s.point ++ tail3 s r

abbrev pub tail1 : Spelling → List ℕ → List ℕ
tail1 s r = s.whole ++ tail2 s r

abbrev pub tail0 : Spelling → List ℕ → List ℕ
tail0 s r = s.sign ++ tail1 s r

-- each part is as long as it can be in front of what follows
pub record IsCut (s : Spelling) (r : List ℕ) : Type 0 where
  pub sign : front_byte is_sign_byte (tail0 s r) ≡ s.sign
  pub whole : take_while is_digit (tail1 s r) ≡ s.whole
  pub point : front_byte is_point_byte (tail2 s r) ≡ s.point
  pub fraction : take_while is_digit (tail3 s r) ≡ s.fraction
  pub mark : (if nat_lt 0 (length s.whole + length s.fraction) then front_byte is_mark_byte (tail4 s r) else []) ≡ s.mark
  pub exponent_sign : (if nat_lt 0 (length s.mark) then front_byte is_sign_byte (tail5 s r) else []) ≡ s.exponent_sign
  pub exponent : (if nat_lt 0 (length s.mark) then take_while is_digit (tail6 s r) else []) ≡ s.exponent

pub tail_spelled : (s : Spelling) (r : List ℕ) → tail0 s r ≡ spelled s ++ r
tail_spelled s r = sym (simp append_assoc)

-- the cut of a text is its parts
pub cut_parts : (s : Spelling) (r : List ℕ) → IsCut s r → parts (tail0 s r) ≡ s
cut_parts s r c = from (tail0 s r) (tail1 s r) (tail2 s r) (tail3 s r) (tail4 s r) (tail5 s r) (tail6 s r) s c.sign (drop_at s.sign _ _ refl) c.whole (drop_at s.whole _ _ refl) c.point (drop_at s.point _ _ refl)
    c.fraction (drop_at s.fraction _ _ refl) c.mark (drop_at s.mark _ _ refl) c.exponent_sign (drop_at s.exponent_sign _ _ refl) c.exponent
  where
    from : (t0 t1 t2 t3 t4 t5 t6 : List ℕ) (s' : Spelling) → front_byte is_sign_byte t0 ≡ s'.sign → drop (length s'.sign) t0 ≡ t1 → take_while is_digit t1 ≡ s'.whole → drop (length s'.whole) t1 ≡ t2 →
        front_byte is_point_byte t2 ≡ s'.point → drop (length s'.point) t2 ≡ t3 → take_while is_digit t3 ≡ s'.fraction → drop (length s'.fraction) t3 ≡ t4 →
        (if nat_lt 0 (length s'.whole + length s'.fraction) then front_byte is_mark_byte t4 else []) ≡ s'.mark → drop (length s'.mark) t4 ≡ t5 →
        (if nat_lt 0 (length s'.mark) then front_byte is_sign_byte t5 else []) ≡ s'.exponent_sign → drop (length s'.exponent_sign) t5 ≡ t6 →
        (if nat_lt 0 (length s'.mark) then take_while is_digit t6 else []) ≡ s'.exponent → parts t0 ≡ s'
    from t0 t1 t2 t3 t4 t5 t6 s' e0 d1 e1 d2 e2 d3 e3 d4 e4 d5 e5 d6 e6 = rw (e0, d1, e1, d2, e2, d3, e3, d4, e4, d5, e5, d6, e6) refl

front_split : (p : ℕ → Bool) (t : List ℕ) → front_byte p t ++ drop (length (front_byte p t)) t ≡ t
front_split p [] = refl
front_split p (b ∷ bs) = at (p b)
  where
    at : (x : Bool) → (if x then b ∷ [] else []) ++ drop (length (if x then b ∷ [] else [])) (b ∷ bs) ≡ b ∷ bs
    at true = refl
    at false = refl

run_split : (t : List ℕ) → take_while is_digit t ++ drop (length (take_while is_digit t)) t ≡ t
run_split t = ap (λ n. take_while is_digit t ++ drop n t) (length-prefix_len is_digit t) ∙ take-append-drop (prefix_len is_digit t) t

if_split : (x : Bool) (a t : List ℕ) → a ++ drop (length a) t ≡ t → (if x then a else []) ++ drop (length (if x then a else [])) t ≡ t
if_split true a t e = e
if_split false a t e = refl

-- what the text has behind its parts
abbrev pub rest_of : List ℕ → List ℕ
rest_of text =
    let s = parts text in
    drop (length s.exponent) (drop (length s.exponent_sign) (drop (length s.mark) (drop (length s.fraction) (drop (length s.point) (drop (length s.whole) (drop (length s.sign) text))))))

record Split (s : Spelling) (r t0 t1 t2 t3 t4 t5 t6 : List ℕ) : Type 0 where
  e0 : tail0 s r ≡ t0
  e1 : tail1 s r ≡ t1
  e2 : tail2 s r ≡ t2
  e3 : tail3 s r ≡ t3
  e4 : tail4 s r ≡ t4
  e5 : tail5 s r ≡ t5
  e6 : tail6 s r ≡ t6

split : (s : Spelling) (r t0 t1 t2 t3 t4 t5 t6 : List ℕ) → s.sign ++ t1 ≡ t0 → s.whole ++ t2 ≡ t1 → s.point ++ t3 ≡ t2 → s.fraction ++ t4 ≡ t3 → s.mark ++ t5 ≡ t4 → s.exponent_sign ++ t6 ≡ t5 → s.exponent ++ r ≡ t6 →
    Split s r t0 t1 t2 t3 t4 t5 t6
split s r t0 t1 t2 t3 t4 t5 t6 e0 e1 e2 e3 e4 e5 e6 =
    let f5 : tail5 s r ≡ t5 = ap (λ l. s.exponent_sign ++ l) e6 ∙ e5 in
    let f4 : tail4 s r ≡ t4 = ap (λ l. s.mark ++ l) f5 ∙ e4 in
    let f3 : tail3 s r ≡ t3 = ap (λ l. s.fraction ++ l) f4 ∙ e3 in
    let f2 : tail2 s r ≡ t2 = ap (λ l. s.point ++ l) f3 ∙ e2 in
    let f1 : tail1 s r ≡ t1 = ap (λ l. s.whole ++ l) f2 ∙ e1 in
    record { e0 = ap (λ l. s.sign ++ l) f1 ∙ e0; e1 = f1; e2 = f2; e3 = f3; e4 = f4; e5 = f5; e6 = e6 }

parts_split : (text : List ℕ) → let s = parts text in let t1 = drop (length s.sign) text in let t2 = drop (length s.whole) t1 in let t3 = drop (length s.point) t2 in let t4 = drop (length s.fraction) t3 in
    let t5 = drop (length s.mark) t4 in let t6 = drop (length s.exponent_sign) t5 in Split s (rest_of text) text t1 t2 t3 t4 t5 t6
parts_split text = split (parts text) (rest_of text) text _ _ _ _ _ _ (front_split is_sign_byte _) (run_split _) (front_split is_point_byte _) (run_split _)
    (if_split _ _ _ (front_split is_mark_byte _)) (if_split _ _ _ (front_split is_sign_byte _)) (if_split _ _ _ (run_split _))

pub parts_whole : (text : List ℕ) → tail0 (parts text) (rest_of text) ≡ text
parts_whole text = (parts_split text).e0

pub parts_cut : (text : List ℕ) → IsCut (parts text) (rest_of text)
parts_cut text = let p = parts_split text in let s = parts text in record {
  sign = ap (front_byte is_sign_byte) p.e0;
  whole = ap (take_while is_digit) p.e1;
  point = ap (front_byte is_point_byte) p.e2;
  fraction = ap (take_while is_digit) p.e3;
  mark = ap (λ l. if nat_lt 0 (length s.whole + length s.fraction) then front_byte is_mark_byte l else []) p.e4;
  exponent_sign = ap (λ l. if nat_lt 0 (length s.mark) then front_byte is_sign_byte l else []) p.e5;
  exponent = ap (λ l. if nat_lt 0 (length s.mark) then take_while is_digit l else []) p.e6;
}

pub run_digits : (xs : List ℕ) → AreDigits (take_while is_digit xs)
run_digits [] = tt
run_digits (b ∷ bs) = at (run_digits bs) (is_digit b) refl
  where
    at : AreDigits (take_while is_digit bs) → (x : Bool) → is_digit b ≡ x → AreDigits (take_while is_digit (b ∷ bs))
    at more true e = subst AreDigits (sym (take_while-cons is_digit b bs ∙ ap (λ y. cond y (b ∷ take_while is_digit bs) []) e)) (e, more)
    at more false e = subst AreDigits (sym (take_while-cons is_digit b bs ∙ ap (λ y. cond y (b ∷ take_while is_digit bs) []) e)) tt

pub run_digits_if : (b : Bool) (xs : List ℕ) → AreDigits (if b then take_while is_digit xs else [])
run_digits_if true xs = run_digits xs
run_digits_if false xs = tt
