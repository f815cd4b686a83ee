-- Numbers that are cut off above.
use Rattle.std.proofs.Common.{◌≡◌, ℕ, zero, suc, ◌+◌, ◌-◌, ◌*◌, ◌<◌, ◌≤◌, List, [], ◌∷◌, length, map, replicate, drop, get_or, min, ◌⊎◌, inl, inr, refl, sym, ap, ◌∙◌, arith}
use Rattle.std.specs.Prelude.{◌≢◌, sum}
use Rattle.std.proofs.lemmas.Bool.{cases_lt}
use Rattle.std.proofs.lemmas.List.Folds.{fold_along, sum_by-replicate}
use Rattle.std.proofs.lemmas.List.Sums.{fold-append, sum_by-append}
use Rattle.std.proofs.Math.Nat.{le-mul_of_pos_right}
use Rattle.std.proofs.lemmas.Nat.{mul-le, mul-lt}
use Rattle.dk_reader.specs.declared.value.Value.{Value}
use Rattle.dk_reader.specs.Values.{count, whole, spread}
use Rattle.dk_reader.specs.declared.document.Document.{Document}
use Rattle.dk_reader.specs.Document.{variable_count}
use Rattle.dk_reader.specs.Study.{grid_from, each_count}
use Rattle.dk_reader.proofs.Copies.{spread_left}

-- numbers that are the same up to m stay so where they are multiplied
same_product : (m b c p : ℕ) → min b m ≡ min c m → min (b * (p + 1)) m ≡ min (c * (p + 1)) m
same_product m b c p e = at (cases_lt b m)
  where
    more : (n : ℕ) → n ≤ n * (p + 1)
    more n = le-mul_of_pos_right n (omega arith)

    at : (b < m) ⊎ (m ≤ b) → min (b * (p + 1)) m ≡ min (c * (p + 1)) m
    at (inl h) = let same : b ≡ c = omega arith in ap (λ n. min (n * (p + 1)) m) same
    at (inr h) = let left = more b in let right = more c in omega arith

same_grid : (m b c : ℕ) (ps : List ℕ) → min b m ≡ min c m → min (grid_from b ps) m ≡ min (grid_from c ps) m
same_grid m b c ps e = fold_along (λ n p. n * (p + 1)) (λ n p. n * (p + 1)) (λ x y. min x m ≡ min y m) (λ x y p h. same_product m x y p h) b c ps e

-- a grid is cut off as it grows
pub grid_cut : (m n : ℕ) (ps : List ℕ) → min (grid_from (min n m) ps) m ≡ min (grid_from n ps) m
grid_cut m n ps = same_grid m (min n m) n ps (omega arith)

grid_grows : (n : ℕ) (ps : List ℕ) → n ≤ grid_from n ps
grid_grows n [] = omega arith
grid_grows n (p ∷ ps) = let here : n ≤ n * (p + 1) = le-mul_of_pos_right n (omega arith) in let more = grid_grows (n * (p + 1)) ps in omega arith

-- and stays cut off
pub grid_full : (m n all : ℕ) (ps : List ℕ) → n ≡ m → min (grid_from n ps) m ≡ all → m ≡ all
grid_full m n all ps e was = let more = grid_grows n ps in omega arith

-- variables that aren't cut have one value
pub uncut_grid : (n k : ℕ) → grid_from n (replicate k 0) ≡ n
uncut_grid n zero = refl
uncut_grid n (suc k) = let one : n * (0 + 1) ≡ n = omega arith in ap (λ x. grid_from x (replicate k 0)) one ∙ uncut_grid n k

pub uncut : (m n p k : ℕ) → p ≡ 0 → n ≤ m → n ≡ min (grid_from n (replicate k p)) m
uncut m n p k e h = let same : grid_from n (replicate k p) ≡ n = ap (λ x. grid_from n (replicate k x)) e ∙ uncut_grid n k in omega arith

-- one variable more
pub grid_more : (m n p k i next all : ℕ) → i < k → next ≡ min (n * (p + 1)) m →
    min (grid_from n (replicate (k - i) p)) m ≡ all → min (grid_from next (replicate (k - (i + 1)) p)) m ≡ all
grid_more m n p k i next all h e was =
    let left : k - i ≡ suc (k - (i + 1)) = omega arith in
    ap (λ x. min (grid_from x (replicate (k - (i + 1)) p)) m) e
    ∙ grid_cut m (n * (p + 1)) (replicate (k - (i + 1)) p)
    ∙ ap (λ j. min (grid_from n (replicate j p)) m) (sym left)
    ∙ was

-- one value more
pub grid_value : (m n i k w next : ℕ) (vs : List Value) (v : Value) (all : ℕ) → i < length vs → v ≡ get_or vs i v → k ≡ count v → w ≡ whole v →
    next ≡ min (grid_from n (replicate k w)) m → min (grid_from n (map whole (spread (drop i vs)))) m ≡ all → min (grid_from next (map whole (spread (drop (i + 1) vs)))) m ≡ all
grid_value m n i k w next vs v all h is copies parts e was =
    let rest = map whole (spread (drop (i + 1) vs)) in
    ap (λ x. min (grid_from x rest) m) e
    ∙ grid_cut m (grid_from n (replicate k w)) rest
    ∙ ap (λ x. min x m) (sym (fold-append (λ x p. x * (p + 1)) n (replicate k w) rest))
    ∙ ap (λ l. min (grid_from n l) m) (sym (spread_left whole vs i v k w h is copies parts))
    ∙ was

-- the sum with one value more
pub sum_value : (s i k w : ℕ) (vs : List Value) (v : Value) (all : ℕ) → i < length vs → v ≡ get_or vs i v → k ≡ count v → w ≡ whole v →
    s + sum (map whole (spread (drop i vs))) ≡ all → (s + k * w) + sum (map whole (spread (drop (i + 1) vs))) ≡ all
sum_value s i k w vs v all h is copies parts was =
    let rest = map whole (spread (drop (i + 1) vs)) in
    let left = ap sum (spread_left whole vs i v k w h is copies parts) in
    let two = sum_by-append (λ x. x) (replicate k w) rest in
    let one = sum_by-replicate (λ x. x) k w in
    omega (arith, left, two, one, was)

pub product_small : (n w : ℕ) → n < 4294967296 → w < 4294967296 → n * w ≤ 18446744073709551615
product_small n w h k = let below = mul-lt n w 4294967296 4294967296 h k in omega arith

-- a product with a factor that is cut off
cut_product : (m n s : ℕ) → min (n * min s m) m ≡ min (n * s) m
cut_product m zero s = omega arith
cut_product m (suc n) s = at (cases_lt s m)
  where
    at : (s < m) ⊎ (m ≤ s) → min (suc n * min s m) m ≡ min (suc n * s) m
    at (inl h) = let same : min s m ≡ s = omega arith in ap (λ x. min (suc n * x) m) same
    at (inr h) =
        let same : min s m ≡ m = omega arith in
        let left = mul-le 1 m (suc n) m (omega arith) (omega arith) in
        let right = mul-le 1 s (suc n) s (omega arith) (omega arith) in
        let both : min (suc n * m) m ≡ min (suc n * s) m = omega arith in
        ap (λ x. min (suc n * x) m) same ∙ both

-- one count for all variables
one_count : (d : Document) (ks : List ℕ) → length ks ≡ 1 → sum (each_count d ks) ≡ variable_count d * sum ks
one_count d [] h = absurd (omega arith)
one_count d (k ∷ []) h = let one : k ≡ 0 + k = omega arith in sum_by-replicate (λ x. x) (variable_count d) k ∙ ap (λ x. variable_count d * x) one
one_count d (k ∷ l ∷ ks) h = absurd (omega arith)

-- one for each
pub own_counts : (d : Document) (ks : List ℕ) → length ks ≢ 1 → each_count d ks ≡ ks
own_counts d [] h = refl
own_counts d (k ∷ []) h = absurd (h refl)
own_counts d (k ∷ l ∷ ks) h = refl

pub same_counts : (m : ℕ) (d : Document) (ks : List ℕ) (n s : ℕ) → length ks ≡ 1 → n ≡ variable_count d → s ≡ min (sum ks) m → min (n * s) m ≡ min (sum (each_count d ks)) m
same_counts m d ks n s one e f =
    ap (λ x. min (x * s) m) e
    ∙ ap (λ x. min (variable_count d * x) m) f
    ∙ cut_product m (variable_count d) (sum ks)
    ∙ ap (λ x. min x m) (sym (one_count d ks one))
