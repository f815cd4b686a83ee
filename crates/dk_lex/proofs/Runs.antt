-- A text's front run, and what makes a piece the longest.
use Rattle.std.proofs.Common.{◌≡◌, ℕ, ◌<◌, Bool, true, false, ◌&&◌, List, [], ◌∷◌, ◌++◌, length, take, drop, refl, ap, subst, arith, length-drop, ◌-◌}
use Rattle.std.specs.List.{list_all, prefix_len}
use Rattle.std.proofs.lemmas.Bool.{both_ways}
use Rattle.std.proofs.lemmas.List.{take_all}

-- x && y
pub both : (x y : Bool) → x ≡ true → y ≡ true → (x && y) ≡ true
both x y p q = rw (p, q) refl

-- the first of two tests
pub left_of : (x y : Bool) → (x && y) ≡ true → x ≡ true
left_of true y e = refl
left_of false y e = e

-- the second of two tests
pub right_of : (x y : Bool) → (x && y) ≡ true → y ≡ true
right_of true y e = e
right_of false y e = absurd (cc)

-- the bytes are a run of those that pass, and what follows doesn't go on with it
pub record Split (p : ℕ → Bool) (bytes : List ℕ) (n : ℕ) : Type 0 where
  pub front : List ℕ
  pub after : List ℕ
  pub bytes_are : bytes ≡ front ++ after
  pub len_is : length front ≡ n
  pub each : list_all p front ≡ true
  pub stops : (b : ℕ) (rest : List ℕ) → after ≡ b ∷ rest → p b ≡ false

-- a run, by whether its first byte passes
split_by : (p : ℕ → Bool) (b : ℕ) (bs : List ℕ) → Split p bs (prefix_len p bs) → (v : Bool) → p b ≡ v → Split p (b ∷ bs) (prefix_len p (b ∷ bs))
split_by p b bs s true e = record {
  front = b ∷ s.front;
  after = s.after;
  bytes_are = ap (λ l. b ∷ l) s.bytes_are;
  len_is = rw e (omega (arith, s.len_is));
  each = both (p b) (list_all p s.front) e s.each;
  stops = s.stops;
}
split_by p b bs s false e = record {
  front = [];
  after = b ∷ bs;
  bytes_are = refl;
  len_is = rw e refl;
  each = refl;
  stops = λ c rest same. let here : b ≡ c = cc in subst (λ x. p x ≡ false) here e;
}

-- the front run of those that pass
pub split_at : (p : ℕ → Bool) (bytes : List ℕ) → Split p bytes (prefix_len p bytes)
split_at p [] = record { front = []; after = []; bytes_are = refl; len_is = refl; each = refl; stops = λ c rest same. absurd (cc) }
split_at p (b ∷ bs) = split_by p b bs (split_at p bs) (p b) refl

-- what follows in a longer run passes
pub all_behind : (p : ℕ → Bool) (xs ys : List ℕ) → list_all p (xs ++ ys) ≡ true → list_all p ys ≡ true
all_behind p [] ys e = e
all_behind p (x ∷ xs) ys e = all_behind p xs ys (right_of (p x) (list_all p (xs ++ ys)) e)

-- no longer run passes
pub no_longer : (p : ℕ → Bool) (front after more rest : List ℕ) → ((b : ℕ) (tail : List ℕ) → after ≡ b ∷ tail → p b ≡ false) → after ≡ more ++ rest → 0 < length more → list_all p (front ++ more) ≡ true → ⊥
no_longer p front after [] rest stops same some e = omega arith
no_longer p front after (m ∷ ms) rest stops same some e =
    both_ways (p m) (stops m (ms ++ rest) same) (left_of (p m) (list_all p ms) (all_behind p front (m ∷ ms) e))

-- &xs[k..]
pub slice_tail : (xs : List ℕ) (k : ℕ) → take (length xs - k) (drop k xs) ≡ drop k xs
slice_tail xs k = take_all (length xs - k) (drop k xs) (omega (arith, length-drop k xs))
