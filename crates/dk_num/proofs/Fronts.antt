-- What the parts of a text say of it: it is a number's text, or where it stops to be the front of one.
use Rattle.std.proofs.Common.{◌≡◌, ◌≢◌, ◌⊎◌, inl, inr, ◌==◌, ◌&&◌, ◌||◌, Bool, true, false, ℕ, zero, suc, ◌+◌, ◌-◌, ◌<◌, ◌≤◌, List, [], ◌∷◌, ◌++◌, length, take, Result, Err, refl, ap, sym, subst, ◌∙◌, arith, length-append, append_assoc, nat_lt, codes}
use Rattle.std.proofs.lemmas.Bool.{cases_lt, cases_Bool}
use Rattle.std.proofs.lemmas.Grind.{common_steps}
use Rattle.std.proofs.lemmas.List.{append-nil, nil_from_length, take_at}
use Rattle.dk_num.specs.Decimal.{Decimal}
use Rattle.dk_num.specs.Numbers.{Spelling, IsExponent, Spells, IsFront, IsLongestFront, IsNoNumber, ReadsAs, parts, spelled, is_complete, read_of, number_of, empty, number, no_number}
use Rattle.dk_num.specs.declared.read.NumFault.{NumFault}
use Rattle.dk_num.specs.declared.read.NumFault.TheVariants.{Shape}
use Rattle.dk_num.proofs.Cuts.{IsCut, tail_spelled, cut_parts, parts_cut, parts_whole, rest_of}
use Rattle.dk_num.proofs.Spellings.{spelling_is, cut_same, IsFrontShape, front_shape, parts_front}
use Rattle.dk_num.proofs.Readings.{complete_is, reads_complete, reads_incomplete, reads_empty}

pub parts_bytes : (text : List ℕ) → text ≡ spelled (parts text) ++ rest_of text
parts_bytes text = sym (parts_whole text) ∙ tail_spelled (parts text) (rest_of text)

and_left : (a b : Bool) → (a && b) ≡ true → a ≡ true
and_left true b e = refl
and_left false b e = e

and_right : (a b : Bool) → (a && b) ≡ true → b ≡ true
and_right true b e = e
and_right false b e = absurd (cc)

zero_from : (n : ℕ) → (n == 0) ≡ true → n ≡ 0
zero_from n e = grind (arith, common_steps)

some_from : (n : ℕ) → nat_lt 0 n ≡ true → 0 < n
some_from n e = grind (arith, common_steps)

exponent_from : (s : Spelling) → IsFrontShape s → ((length s.mark == 0) || nat_lt 0 (length s.exponent)) ≡ true → IsExponent s.mark s.exponent_sign s.exponent
exponent_from s f e = elim f.exponent [ inl n ↦ inl n | inr x ↦ inr (x.1, x.2, (some_from (length s.exponent) (digits x.1), x.3)) ]
  where
    digits : (s.mark ≡ codes "e") ⊎ (s.mark ≡ codes "E") → nat_lt 0 (length s.exponent) ≡ true
    digits (inl m) = rw m at e
    digits (inr m) = rw m at e

pub complete_spells : (text : List ℕ) → is_complete text (parts text) ≡ true → Spells text (parts text)
complete_spells text h =
    let s : Spelling = parts text in
    let r : List ℕ = rest_of text in
    let t : ((length r == 0) && nat_lt 0 (length s.whole + length s.fraction) && ((length s.mark == 0) || nat_lt 0 (length s.exponent))) ≡ true = sym (complete_is text r s (parts_bytes text)) ∙ h in
    let front = and_left ((length r == 0) && nat_lt 0 (length s.whole + length s.fraction)) _ t in
    let f : IsFrontShape s = front_shape s r (parts_cut text) in
    let none : r ≡ [] = nil_from_length r (zero_from (length r) (and_left (length r == 0) _ front)) in
    record {
      bytes = parts_bytes text ∙ ap (λ l. spelled s ++ l) none ∙ append-nil (spelled s);
      sign = f.sign;
      some = some_from _ (and_right (length r == 0) _ front);
      whole = f.whole;
      fraction = f.fraction;
      point = f.point;
      exponent = exponent_from s f (and_right ((length r == 0) && nat_lt 0 (length s.whole + length s.fraction)) _ t);
    }

pub spells_complete : (text : List ℕ) (s : Spelling) → Spells text s → is_complete text s ≡ true
spells_complete text s is =
    let e : text ≡ spelled s ++ [] = is.bytes ∙ sym (append-nil (spelled s)) in
    let some : nat_lt 0 (length s.whole + length s.fraction) ≡ true = lt_true _ is.some in
    let last : ((length s.mark == 0) || nat_lt 0 (length s.exponent)) ≡ true = exponent is.exponent in
    complete_is text [] s e ∙ rw (some, last) refl
  where
    lt_true : (n : ℕ) → 0 < n → nat_lt 0 n ≡ true
    lt_true n h = grind (arith, common_steps)

    or_true : (a b : Bool) → b ≡ true → (a || b) ≡ true
    or_true true b e = refl
    or_true false b e = e

    exponent : IsExponent s.mark s.exponent_sign s.exponent → ((length s.mark == 0) || nat_lt 0 (length s.exponent)) ≡ true
    exponent (inl n) = rw n.0 refl
    exponent (inr (m, x, d)) = or_true (length s.mark == 0) _ (lt_true _ d.0)

pub incomplete_is : (text : List ℕ) → is_complete text (parts text) ≡ false → IsNoNumber text
incomplete_is text h s is = let e : true ≡ false = sym (spells_complete text s is) ∙ ap (is_complete text) (sym (spelling_is text s is)) ∙ h in absurd (cc)

-- the text goes on with a byte more behind its parts
record GoesOn (r : List ℕ) (n : ℕ) : Type 0 where
  byte : ℕ
  bytes : List ℕ
  others : List ℕ
  all : r ≡ byte ∷ bytes
  more : take n r ≡ byte ∷ others

goes_on : (r : List ℕ) (n : ℕ) → 0 < n → 0 < length r → GoesOn r n
goes_on [] n h k = absurd (omega arith)
goes_on (b ∷ bs) zero h k = absurd (omega arith)
goes_on (b ∷ bs) (suc n) h k = record { byte = b; bytes = bs; others = take n bs; all = refl; more = refl }

take_past : (a b : List ℕ) (n : ℕ) → length a ≤ n → take n (a ++ b) ≡ a ++ take (n - length a) b
take_past [] b n h = let e : n - 0 ≡ n = omega arith in ap (λ k. take k b) (sym e)
take_past (x ∷ a) b zero h = absurd (omega arith)
take_past (x ∷ a) b (suc n) h = let e : suc n - suc (length a) ≡ n - length a = omega arith in rw e (ap (λ l. x ∷ l) (take_past a b n (omega arith)))

-- no number's text begins with a byte more than the parts
no_longer : (text : List ℕ) (n : ℕ) → n ≤ length text → length (spelled (parts text)) < n → IsFront (take n text) → ⊥
no_longer text n within past (rest, s, is) =
    let p : Spelling = parts text in
    let r : List ℕ = rest_of text in
    let size : length text ≡ length (spelled p) + length r = ap length (parts_bytes text) ∙ length-append (spelled p) r in
    let g : GoesOn r (n - length (spelled p)) = goes_on r (n - length (spelled p)) (omega arith) (omega arith) in
    let front : take n text ≡ spelled p ++ (g.byte ∷ g.others) = ap (take n) (parts_bytes text) ∙ take_past (spelled p) r n (omega arith) ∙ ap (λ l. spelled p ++ l) g.more in
    let tail : List ℕ = g.byte ∷ (g.others ++ rest) in
    let whole : take n text ++ rest ≡ spelled p ++ tail = ap (λ l. l ++ rest) front ∙ append_assoc (spelled p) (g.byte ∷ g.others) rest in
    let same : IsCut p tail = cut_same p (g.byte ∷ g.bytes) tail refl (subst (λ l. IsCut p l) g.all (parts_cut text)) in
    let is_p : parts (take n text ++ rest) ≡ p = ap parts (whole ∙ sym (tail_spelled p tail)) ∙ cut_parts p tail same in
    let s_p : s ≡ p = sym (spelling_is (take n text ++ rest) s is) ∙ is_p in
    let a : length (take n text ++ rest) ≡ length (spelled p) = ap length is.bytes ∙ ap (λ x. length (spelled x)) s_p in
    let b : length (take n text ++ rest) ≡ length (spelled p) + length tail = ap length whole ∙ length-append (spelled p) tail in
    omega arith

pub longest : (text : List ℕ) → IsLongestFront text (length (spelled (parts text)))
longest text =
    let p : Spelling = parts text in
    let size : length text ≡ length (spelled p) + length (rest_of text) = ap length (parts_bytes text) ∙ length-append (spelled p) (rest_of text) in
    let front : take (length (spelled p)) text ≡ spelled p = ap (take (length (spelled p))) (parts_bytes text) ∙ take_at (spelled p) (rest_of text) _ refl in
    record {
      within = omega arith;
      front = subst (λ l. IsFront l) (sym front) (parts_front p (front_shape p (rest_of text) (parts_cut text)));
      longest = λ n h f. elim (cases_lt (length (spelled p)) n) [ inl past ↦ absurd (no_longer text n h past f) | inr le ↦ le ];
    }

-- a text that isn't empty
some_bytes : (text : List ℕ) → (text ≡ []) ⊎ (0 < length text)
some_bytes [] = inl refl
some_bytes (b ∷ bs) = inr (omega arith)

not_empty : (text : List ℕ) → 0 < length text → text ≢ []
not_empty text h e = let z : length text ≡ 0 = ap length e in omega arith

pub reads_as : (text : List ℕ) → ReadsAs text (read_of text)
reads_as text = elim (some_bytes text) [
  | inl none ↦ subst (λ x. ReadsAs text x) (sym (reads_empty text (ap length none))) (empty none)
  | inr some ↦ elim (cases_Bool (is_complete text (parts text))) [
    | inl h ↦ subst (λ x. ReadsAs text x) (sym (reads_complete text some h)) (number (parts text) (complete_spells text h))
    | inr h ↦ subst (λ x. ReadsAs text x) (sym (reads_incomplete text some h)) (no_number (length (spelled (parts text))) (not_empty text some) (incomplete_is text h) (longest text))
  ]
]

spelled_some : (text : List ℕ) (s : Spelling) → Spells text s → 0 < length text
spelled_some text s is = elim (some_bytes text) [ inl none ↦ absurd (nothing none) | inr some ↦ some ]
  where
    nothing : text ≡ [] → ⊥
    nothing e = let p : parts [] ≡ s = ap parts (sym e) ∙ spelling_is text s is in let z : length s.whole + length s.fraction ≡ 0 = ap (λ x. length x.whole + length x.fraction) (sym p) in let k = is.some in omega arith

some_from_not : (text : List ℕ) → text ≢ [] → 0 < length text
some_from_not text ne = elim (some_bytes text) [ inl none ↦ absurd (ne none) | inr some ↦ some ]

same_end : (text : List ℕ) (a b : ℕ) → IsLongestFront text a → IsLongestFront text b → a ≡ b
same_end text a b x y = let p : a ≤ b = y.longest a x.within x.front in let q : b ≤ a = x.longest b y.within y.front in omega arith

pub reads_only : (text : List ℕ) (result : Result Decimal NumFault) → ReadsAs text result → result ≡ read_of text
reads_only text result (empty none) = sym (reads_empty text (ap length none))
reads_only text result (number s is) =
    let e : parts text ≡ s = spelling_is text s is in
    let h : is_complete text (parts text) ≡ true = ap (is_complete text) e ∙ spells_complete text s is in
    sym (reads_complete text (spelled_some text s is) h ∙ ap number_of e)
reads_only text result (no_number at ne none front) = elim (cases_Bool (is_complete text (parts text))) [
  | inl h ↦ absurd (none (parts text) (complete_spells text h))
  | inr h ↦ ap (λ n. Err (Shape n)) (same_end text at (length (spelled (parts text))) front (longest text)) ∙ sym (reads_incomplete text (some_from_not text ne) h)
]
