-- The last number below a bound that passes a test, and an index with a hash more.
use Rattle.std.proofs.Common.{◌≡◌, ℕ, zero, suc, ◌<◌, ◌≤◌, Bool, true, false, List, [], ◌∷◌, ◌++◌, length, get_or, set, Option, Some, None, refl, ap, sym, subst, ◌∙◌, arith, cond, below_more}
use Rattle.std.specs.Prelude.{◌==◌, if◌then◌else◌}
use Rattle.std.proofs.lemmas.List.{get_or_append_left, get_or_push, get_or-set_same, get_or-set_other, length_push}
use Rattle.dk_book.specs.Index.{last_below, last_with, IsIndex}

-- tests that agree below the bound
last_alike : (f g : ℕ → Bool) (n : ℕ) → ((k : ℕ) → k < n → f k ≡ g k) → last_below f n ≡ last_below g n
last_alike f g zero h = refl
last_alike f g (suc n) h =
    ap (λ t. cond t (Some n) (last_below f n)) (h n (omega arith))
    ∙ ap (λ o. cond (g n) (Some n) o) (last_alike f g n (λ k l. h k (omega arith)))

-- where none is found, none passes
pub last_none : (f : ℕ → Bool) (n : ℕ) → last_below f n ≡ None → (k : ℕ) → k < n → f k ≡ false
last_none f zero e k l = absurd (omega arith)
last_none f (suc n) e k l = at (f n) refl e (last_none f n)
  where
    at : (t : Bool) → f n ≡ t → cond t (Some n) (last_below f n) ≡ None → (last_below f n ≡ None → (k : ℕ) → k < n → f k ≡ false) → f k ≡ false
    at true h e rest = absurd (cc)
    at false h e rest = below_more (λ k. f k ≡ false) n (rest e) h k (omega arith)

-- one that is found is below the bound and passes, and none behind it does
pub record IsLast (f : ℕ → Bool) (n k : ℕ) : Type 0 where
  pub below : k < n
  pub passes : f k ≡ true
  pub behind : (j : ℕ) → k < j → j < n → f j ≡ false

pub last_found : (f : ℕ → Bool) (n k : ℕ) → last_below f n ≡ Some k → IsLast f n k
last_found f zero k e = absurd (cc)
last_found f (suc n) k e = at (f n) refl e (last_found f n k)
  where
    at : (t : Bool) → f n ≡ t → cond t (Some n) (last_below f n) ≡ Some k → (last_below f n ≡ Some k → IsLast f n k) → IsLast f (suc n) k
    at true h e rest =
        let here : n ≡ k = cc in
        record { below = omega arith; passes = subst (λ i. f i ≡ true) here h; behind = λ j l m. absurd (omega arith) }
    at false h e rest =
        let found = rest e in
        record {
          below = omega (arith, found.below);
          passes = found.passes;
          behind = λ j past l. below_more (λ j. k < j → f j ≡ false) n (λ j l past. found.behind j past l) (λ past. h) j (omega arith) past;
        }

-- An index with a hash more

module _ (hashes : List ℕ) (hash : ℕ) where
  abbrev more : List ℕ
  more = hashes ++ hash ∷ []

  -- the hashes that were there
  alike : (other place : ℕ) → place ≤ length hashes → last_with more other place ≡ last_with hashes other place
  alike other place l =
      last_alike (λ k. get_or more k 0 == other) (λ k. get_or hashes k 0 == other) place
      (λ k m. ap (λ h. h == other) (get_or_append_left hashes (hash ∷ []) 0 k (omega arith)))

  -- the new one is the last of its own
  known_more : (last late : ℕ → Option ℕ) → ((other : ℕ) → last other ≡ last_with hashes other (length hashes)) →
      ((other : ℕ) → late other ≡ (if hash == other then Some (length hashes) else last other)) → (other : ℕ) → late other ≡ last_with more other (length more)
  known_more last late known put other =
      put other
      ∙ ap (λ o. cond (hash == other) (Some (length hashes)) o) (known other ∙ sym (alike other (length hashes) (omega arith)))
      ∙ ap (λ h. cond (h == other) (Some (length hashes)) (last_with more other (length hashes))) (sym (get_or_push hashes hash 0 (length hashes) refl))
      ∙ ap (last_with more other) (let long = length_push hashes hash in let e : suc (length hashes) ≡ length more = omega arith in e)

  chained_more : (last : ℕ → Option ℕ) (before : List (Option ℕ)) → IsIndex hashes last before → length hashes < length before →
      (place : ℕ) → place < length more → get_or (set before (length hashes) (last hash)) place None ≡ last_with more (get_or more place 0) place
  chained_more last before is room place l =
      below_more (λ place. get_or (set before (length hashes) (last hash)) place None ≡ last_with more (get_or more place 0) place) (length hashes)
      (λ k m.
      get_or-set_other before (length hashes) k (last hash) None (λ e. omega arith)
      ∙ is.chained k m
      ∙ sym (alike (get_or hashes k 0) k (omega arith))
      ∙ ap (λ h. last_with more h k) (sym (get_or_append_left hashes (hash ∷ []) 0 k m)))
      (get_or-set_same before (length hashes) (last hash) None room
      ∙ is.known hash
      ∙ sym (alike hash (length hashes) (omega arith))
      ∙ ap (λ h. last_with more h (length hashes)) (sym (get_or_push hashes hash 0 (length hashes) refl)))
      place (let long = length_push hashes hash in omega arith)

  pub index_more : (last late : ℕ → Option ℕ) (before : List (Option ℕ)) → IsIndex hashes last before → length hashes < length before →
      ((other : ℕ) → late other ≡ (if hash == other then Some (length hashes) else last other)) → IsIndex more late (set before (length hashes) (last hash))
  index_more last late before is room put = record { known = known_more last late is.known put; chained = chained_more last before is room }
