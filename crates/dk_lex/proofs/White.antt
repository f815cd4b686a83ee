-- White space at the front of a text.
use Rattle.std.proofs.Common.{◌≡◌, ◌⊎◌, inl, inr, ℕ, suc, ◌+◌, ◌-◌, ◌<◌, ◌≤◌, Bool, true, false, ◌&&◌, ◌||◌, List, [], ◌∷◌, ◌++◌, length, drop, get_or, refl, sym, ap, ◌∙◌, subst, arith, length-append}
use Rattle.std.specs.Prelude.{◌==◌}
use Rattle.std.specs.List.{list_all, prefix_len}
use Rattle.std.proofs.lemmas.Bool.{both_ways, eqb-true, not-false}
use Rattle.std.proofs.lemmas.List.{get_or-append_right, drop_at}
use Rattle.dk_lex.specs.declared.form.Form.TheVariants as form
use Rattle.dk_lex.specs.Bytes.{is_space, is_in_line, ends_line, starts_white}
use Rattle.dk_lex.specs.Cut.{IsWhite, EndsLine}
use Rattle.dk_lex.specs.Fronts.{IsFront, white_length, is_blank}
use Rattle.dk_lex.proofs.Runs.{split_at, left_of, right_of, both}

-- white space at the front, and what follows isn't
pub record WhiteSplit (bytes : List ℕ) (n : ℕ) : Type 0 where
  pub front : List ℕ
  pub after : List ℕ
  pub bytes_are : bytes ≡ front ++ after
  pub len_is : length front ≡ n
  pub each : IsWhite front after
  pub stops : starts_white after ≡ false

-- white space, by whether the first byte is
white_by : (b : ℕ) (bs : List ℕ) → WhiteSplit bs (white_length bs) → (v : Bool) → starts_white (b ∷ bs) ≡ v → WhiteSplit (b ∷ bs) (white_length (b ∷ bs))
white_by b bs s true e = record {
  front = b ∷ s.front;
  after = s.after;
  bytes_are = ap (λ l. b ∷ l) s.bytes_are;
  len_is = rw e (omega (arith, s.len_is));
  each = (subst (λ l. starts_white (b ∷ l) ≡ true) s.bytes_are e, s.each);
  stops = s.stops;
}
white_by b bs s false e = record { front = []; after = b ∷ bs; bytes_are = refl; len_is = rw e refl; each = tt; stops = e }

-- the white space at the front
pub white_split : (bytes : List ℕ) → WhiteSplit bytes (white_length bytes)
white_split [] = record { front = []; after = []; bytes_are = refl; len_is = refl; each = tt; stops = refl }
white_split (b ∷ bs) = white_by b bs (white_split bs) (starts_white (b ∷ bs)) refl

-- what follows white space in white space is white
white_behind : (xs ys rest : List ℕ) → IsWhite (xs ++ ys) rest → IsWhite ys rest
white_behind [] ys rest e = e
white_behind (x ∷ xs) ys rest e = white_behind xs ys rest e.1

-- no longer front is white space
white_no_longer : (front after more rest : List ℕ) → starts_white after ≡ false → after ≡ more ++ rest → 0 < length more → IsWhite (front ++ more) rest → ⊥
white_no_longer front after [] rest stops same some e = omega arith
white_no_longer front after (m ∷ ms) rest stops same some e =
    both_ways (starts_white (m ∷ (ms ++ rest))) (subst (λ l. starts_white l ≡ false) same stops) (white_behind front (m ∷ ms) rest e).0

-- white space is a piece
pub white_front : (rest : List ℕ) (n : ℕ) → n ≡ white_length rest → 0 < n → IsFront rest form.White n
white_front rest n e some =
    let s = white_split rest in
    record {
      front = s.front;
      after = s.after;
      bytes_are = s.bytes_are;
      len_is = s.len_is ∙ sym e;
      piece = record {
        some = omega (arith, s.len_is, e);
        looks = s.each;
        longest = λ more left same more_some longer. white_no_longer s.front s.after more left s.stops same more_some longer;
      };
    }

-- blanks up to a line's end
pub ends_here : (bs after : List ℕ) → list_all is_blank bs ≡ true → EndsLine after → ends_line (bs ++ after) ≡ true
ends_here [] [] each ends = refl
ends_here [] (c ∷ cs) each ends = subst (λ x. ends_line (x ∷ cs) ≡ true) (sym ends) refl
ends_here (b ∷ bs) after each ends =
    let here : (is_in_line b && (is_space b || b == 92)) ≡ true = left_of (is_blank b) (list_all is_blank bs) each in
    let in_line : is_in_line b ≡ true = left_of (is_in_line b) (is_space b || b == 92) here in
    goes_on b (bs ++ after) in_line (right_of (is_in_line b) (is_space b || b == 92) here) (ends_here bs after (right_of (is_blank b) (list_all is_blank bs) each) ends)
  where
    goes_on : (c : ℕ) (cs : List ℕ) → is_in_line c ≡ true → (is_space c || c == 92) ≡ true → ends_line cs ≡ true → ends_line (c ∷ cs) ≡ true
    goes_on c cs in_line white rest =
        let one : 1 + prefix_len is_in_line cs ≡ suc (prefix_len is_in_line cs) = omega arith in
        rw (in_line, one, white, rest) refl

-- a run of blanks up to a line's end is white space
pub white_run : (bs after : List ℕ) → list_all is_blank bs ≡ true → EndsLine after → white_length (bs ++ after) ≡ length bs + white_length after
white_run [] after each ends = omega arith
white_run (b ∷ bs) after each ends =
    let here : (is_in_line b && (is_space b || b == 92)) ≡ true = left_of (is_blank b) (list_all is_blank bs) each in
    let others : list_all is_blank bs ≡ true = right_of (is_blank b) (list_all is_blank bs) each in
    let white : starts_white (b ∷ (bs ++ after)) ≡ true = is_white (is_space b) (b == 92) (ends_line (bs ++ after)) (right_of (is_in_line b) (is_space b || b == 92) here) (ends_here bs after others ends) in
    rw white (omega (arith, white_run bs after others ends))
  where
    is_white : (x y z : Bool) → (x || y) ≡ true → z ≡ true → (x || y && z) ≡ true
    is_white true y z p q = refl
    is_white false true z p q = q
    is_white false false z p q = p

-- blanks up to the end of a line or of the text are jumped over
pub blank_jump : (rest : List ℕ) (k : ℕ) → k ≡ prefix_len is_blank rest → ((length rest ≤ k) ⊎ (get_or rest k 0 ≡ 10)) → white_length rest ≡ k + white_length (drop k rest)
blank_jump rest k e ends =
    let s = split_at is_blank rest in
    let l : length s.front ≡ k = s.len_is ∙ sym e in
    let left : drop k rest ≡ s.after = ap (drop k) s.bytes_are ∙ dropped s.front s.after k l in
    let line_ends : EndsLine s.after = by_end s.after ends (λ h. omega (arith, h, l, ap length s.bytes_are, length-append s.front s.after)) (λ h. sym (byte s.front s.after s.bytes_are l) ∙ h) in
    ap white_length s.bytes_are ∙ white_run s.front s.after s.each line_ends ∙ both_sides s.front s.after l left
  where
    dropped : (front after : List ℕ) (n : ℕ) → length front ≡ n → drop n (front ++ after) ≡ after
    dropped front after n l = drop_at front after n l

    byte : (front after : List ℕ) → rest ≡ front ++ after → length front ≡ k → get_or rest k 0 ≡ get_or after 0 0
    byte front after h l = let none : k - k ≡ 0 = omega arith in rw (h, get_or-append_right front after k k 0 l (omega arith), none) refl

    by_end : (after : List ℕ) → ((length rest ≤ k) ⊎ (get_or rest k 0 ≡ 10)) → (length rest ≤ k → length after ≡ 0) → (get_or rest k 0 ≡ 10 → get_or after 0 0 ≡ 10) → EndsLine after
    by_end [] h f g = tt
    by_end (c ∷ cs) (inl h) f g = absurd (omega (arith, f h))
    by_end (c ∷ cs) (inr h) f g = g h

    both_sides : (front after : List ℕ) → length front ≡ k → drop k rest ≡ after → length front + white_length after ≡ k + white_length (drop k rest)
    both_sides front after l left = rw (l, left) refl

-- blanks that come before another byte of the line don't end it
no_line_end : (bs : List ℕ) → prefix_len is_blank bs < length bs → (get_or bs (prefix_len is_blank bs) 0 ≡ 10 → ⊥) → ends_line bs ≡ false
no_line_end [] some other = absurd (omega arith)
no_line_end (b ∷ bs) some other = by (no_line_end bs) (is_in_line b) (is_space b || b == 92) refl refl
  where
    by : (prefix_len is_blank bs < length bs → (get_or bs (prefix_len is_blank bs) 0 ≡ 10 → ⊥) → ends_line bs ≡ false) → (x y : Bool) → is_in_line b ≡ x → (is_space b || b == 92) ≡ y → ends_line (b ∷ bs) ≡ false
    by again true true p q =
        let blank : is_blank b ≡ true = both _ _ p q in
        let count : prefix_len is_blank (b ∷ bs) ≡ suc (prefix_len is_blank bs) = rw blank (omega arith) in
        let one : 1 + prefix_len is_in_line bs ≡ suc (prefix_len is_in_line bs) = omega arith in
        let rest = again (omega (arith, count, some)) (λ h. other (rw count h)) in
        rw (p, one, q, rest) refl
    by again true false p q = let one : 1 + prefix_len is_in_line bs ≡ suc (prefix_len is_in_line bs) = omega arith in rw (p, one, q) refl
    by again false y p q =
        let blank : is_blank b ≡ false = rw p refl in
        let count : prefix_len is_blank (b ∷ bs) ≡ 0 = rw blank refl in
        absurd (other (rw count (eqb-true b 10 (not-false (b == 10) p))))

-- a backslash before blanks and another byte isn't white space
pub blank_stop : (rest : List ℕ) (k : ℕ) → k ≡ prefix_len is_blank rest → 0 < length rest → get_or rest 0 0 ≡ 92 → k < length rest → (get_or rest k 0 ≡ 10 → ⊥) → white_length rest ≡ 0
blank_stop [] k e some first in_range other = absurd (omega arith)
blank_stop (b ∷ bs) k e some first in_range other = subst (λ x. white_length (x ∷ bs) ≡ 0) (sym first) stopped
  where
    count : k ≡ suc (prefix_len is_blank bs)
    count = subst (λ x. k ≡ prefix_len is_blank (x ∷ bs)) first e ∙ omega arith

    stopped : white_length (92 ∷ bs) ≡ 0
    stopped = rw (no_line_end bs (omega (arith, count, in_range)) (λ h. other (rw count h))) refl
