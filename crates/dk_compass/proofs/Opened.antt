-- The numbers that pass a test, as far as a pass over them has come.
use Rattle.std.proofs.Common.{◌≡◌, ℕ, zero, suc, ◌+◌, ◌<◌, ◌≤◌, Bool, true, false, [], ◌∷◌, ◌++◌, length, get_or, ap, sym, ◌∙◌, arith, cond, length-append}
use Rattle.std.specs.List.{filter, range_with_len}
use Rattle.std.proofs.lemmas.List.Elements.{filter-append}

-- one number more
range_more : (a n : ℕ) → range_with_len a (suc n) ≡ range_with_len a n ++ (a + n) ∷ []
range_more a zero = ap (λ k. k ∷ []) (let e : a ≡ a + 0 = omega arith in e)
range_more a (suc n) = ap (λ l. a ∷ l) (range_more (a + 1) n ∙ ap (λ k. range_with_len (a + 1) n ++ k ∷ []) (let e : a + 1 + n ≡ a + suc n = omega arith in e))

pub kept_more : (p : ℕ → Bool) (n : ℕ) (b : Bool) → p n ≡ b → filter p (range_with_len 0 (n + 1)) ≡ filter p (range_with_len 0 n) ++ cond b (n ∷ []) []
kept_more p n b e =
    let next : n + 1 ≡ suc n = omega arith in
    let last : 0 + n ≡ n = omega arith in
    ap (λ k. filter p (range_with_len 0 k)) next
    ∙ ap (filter p) (range_more 0 n ∙ ap (λ k. range_with_len 0 n ++ k ∷ []) last)
    ∙ filter-append p (range_with_len 0 n) (n ∷ [])
    ∙ ap (λ t. filter p (range_with_len 0 n) ++ cond t (n ∷ []) []) e

-- a number that passes stands behind all before it that pass
pub kept_at : (p : ℕ → Bool) (a n d : ℕ) → d < n → p (a + d) ≡ true → get_or (filter p (range_with_len a n)) (length (filter p (range_with_len a d))) 0 ≡ a + d
kept_at p a zero d within passes = absurd (omega arith)
kept_at p a (suc n) zero within passes =
    let same : a + 0 ≡ a = omega arith in
    ap (λ t. get_or (cond t (a ∷ filter p (range_with_len (a + 1) n)) (filter p (range_with_len (a + 1) n))) 0 0) (sym (ap p same) ∙ passes) ∙ sym same
kept_at p a (suc n) (suc d) within passes =
    let next : a + 1 + d ≡ a + suc d = omega arith in
    at (p a) (kept_at p (a + 1) n d (omega arith) (ap p next ∙ passes) ∙ next)
  where
    at : (b : Bool) → get_or (filter p (range_with_len (a + 1) n)) (length (filter p (range_with_len (a + 1) d))) 0 ≡ a + suc d →
        get_or (cond b (a ∷ filter p (range_with_len (a + 1) n)) (filter p (range_with_len (a + 1) n))) (length (cond b (a ∷ filter p (range_with_len (a + 1) d)) (filter p (range_with_len (a + 1) d)))) 0 ≡ a + suc d
    at true e = e
    at false e = e

-- how many pass, with one number more
pub counted_here : (p : ℕ → Bool) (n : ℕ) → p n ≡ true → length (filter p (range_with_len 0 (n + 1))) ≡ length (filter p (range_with_len 0 n)) + 1
counted_here p n e = ap length (kept_more p n true e) ∙ length-append (filter p (range_with_len 0 n)) (n ∷ [])

pub counted_past : (p : ℕ → Bool) (n : ℕ) → p n ≡ false → length (filter p (range_with_len 0 (n + 1))) ≡ length (filter p (range_with_len 0 n))
counted_past p n e = ap length (kept_more p n false e) ∙ length-append (filter p (range_with_len 0 n)) [] ∙ (let e : length (filter p (range_with_len 0 n)) + 0 ≡ length (filter p (range_with_len 0 n)) = omega arith in e)

-- no more pass than there are
pub kept_few : (p : ℕ → Bool) (a n : ℕ) → length (filter p (range_with_len a n)) ≤ n
kept_few p a zero = omega arith
kept_few p a (suc n) = at (p a) (kept_few p (a + 1) n)
  where
    at : (b : Bool) → length (filter p (range_with_len (a + 1) n)) ≤ n → length (cond b (a ∷ filter p (range_with_len (a + 1) n)) (filter p (range_with_len (a + 1) n))) ≤ suc n
    at true few = omega arith
    at false few = omega arith
