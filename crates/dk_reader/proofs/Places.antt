-- One element more of the places of a list.
use Rattle.std.proofs.Common.{◌≡◌, ℕ, suc, ◌+◌, ◌<◌, List, [], ◌∷◌, ◌++◌, length, take, drop, get_or, sym, ap, ◌∙◌, arith}
use Rattle.std.specs.List.{flat_map}
use Rattle.std.proofs.Math.Seq.{take-suc, drop-cons}
use Rattle.dk_grammar.specs.Lists.{Place, places_after}

pub places_more : {X A : Type 0} (f : Place X → List A) (xs : List X) (i : ℕ) (d : X) → i < length xs →
    flat_map f (places_after (take i xs) (drop i xs)) ≡ f (record { before = take i xs; here = get_or xs i d; after = drop (i + 1) xs }) ++ flat_map f (places_after (take (i + 1) xs) (drop (i + 1) xs))
places_more f xs i d h =
    let next : i + 1 ≡ suc i = omega arith in
    let left : drop i xs ≡ get_or xs i d ∷ drop (i + 1) xs = drop-cons xs i d h ∙ ap (λ n. get_or xs i d ∷ drop n xs) (sym next) in
    let front : take i xs ++ (get_or xs i d ∷ []) ≡ take (i + 1) xs = sym (take-suc xs i d h) ∙ ap (λ n. take n xs) (sym next) in
    ap (λ l. flat_map f (places_after (take i xs) l)) left
    ∙ ap (λ l. f (record { before = take i xs; here = get_or xs i d; after = drop (i + 1) xs }) ++ flat_map f (places_after l (drop (i + 1) xs))) front
