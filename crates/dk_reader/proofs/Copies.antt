-- Values, each as many times as it stands for itself.
use Rattle.std.proofs.Common.{◌≡◌, ℕ, zero, suc, ◌+◌, ◌<◌, List, [], ◌∷◌, ◌++◌, length, map, replicate, take, drop, get_or, refl, sym, ap, ◌∙◌, append_assoc}
use Rattle.std.proofs.lemmas.List.{take_more, at_drop_more, length-append, length-replicate, map-append, append-nil}
use Rattle.std.proofs.lemmas.List.Sums.{sum_by-cons}
use Rattle.std.proofs.lemmas.List.Concat.{flat_map-append}
use Rattle.dk_reader.specs.declared.value.Value.{Value}
use Rattle.dk_reader.specs.Values.{count, count_of, spread}

-- a function of copies is copies of it
pub map-replicate : {X Y : Type 0} (f : X → Y) (n : ℕ) (x : X) → map f (replicate n x) ≡ replicate n (f x)
map-replicate f zero x = refl
map-replicate f (suc n) x = ap (λ l. f x ∷ l) (map-replicate f n x)

pub spread-append : {Y : Type 0} (f : Value → Y) (vs ws : List Value) → map f (spread (vs ++ ws)) ≡ map f (spread vs) ++ map f (spread ws)
spread-append f vs ws = ap (map f) (flat_map-append (λ v. replicate (count v) v) vs ws) ∙ map-append f (spread vs) (spread ws)

pub spread_one : {Y : Type 0} (f : Value → Y) (v : Value) → map f (spread (v ∷ [])) ≡ replicate (count v) (f v)
spread_one f v = ap (map f) (append-nil (replicate (count v) v)) ∙ map-replicate f (count v) v

-- one value more
pub spread_more : {Y : Type 0} (f : Value → Y) (vs : List Value) (i : ℕ) (v : Value) → i < length vs → v ≡ get_or vs i v →
    map f (spread (take (i + 1) vs)) ≡ map f (spread (take i vs)) ++ replicate (count v) (f v)
spread_more f vs i v h is =
    ap (λ l. map f (spread l)) (take_more vs i v h)
    ∙ ap (λ x. map f (spread (take i vs ++ x ∷ []))) (sym is)
    ∙ spread-append f (take i vs) (v ∷ [])
    ∙ ap (λ l. map f (spread (take i vs)) ++ l) (spread_one f v)

-- the same behind what was there
pub add_spread : {Y : Type 0} (f : Value → Y) (vs : List Value) (i : ℕ) (v : Value) (n : ℕ) (y : Y) (start now next : List Y) → i < length vs → v ≡ get_or vs i v → n ≡ count v → y ≡ f v →
    now ≡ start ++ map f (spread (take i vs)) → next ≡ now ++ replicate n y → next ≡ start ++ map f (spread (take (i + 1) vs))
add_spread f vs i v n y start now next h is copies one was added =
    added
    ∙ ap (λ l. l ++ replicate n y) was
    ∙ append_assoc start (map f (spread (take i vs))) (replicate n y)
    ∙ ap (λ m. start ++ (map f (spread (take i vs)) ++ replicate m y)) copies
    ∙ ap (λ x. start ++ (map f (spread (take i vs)) ++ replicate (count v) x)) one
    ∙ ap (λ l. start ++ l) (sym (spread_more f vs i v h is))

pub spread_cons : {Y : Type 0} (f : Value → Y) (v : Value) (vs : List Value) → map f (spread (v ∷ vs)) ≡ replicate (count v) (f v) ++ map f (spread vs)
spread_cons f v vs = map-append f (replicate (count v) v) (spread vs) ∙ ap (λ l. l ++ map f (spread vs)) (map-replicate f (count v) v)

-- how many there are
pub spread_length : {Y : Type 0} (f : Value → Y) (vs : List Value) → length (map f (spread vs)) ≡ count_of vs
spread_length f [] = refl
spread_length f (v ∷ vs) =
    ap length (spread_cons f v vs)
    ∙ length-append (replicate (count v) (f v)) (map f (spread vs))
    ∙ ap (λ n. n + length (map f (spread vs))) (length-replicate (count v) (f v))
    ∙ ap (λ n. count v + n) (spread_length f vs)
    ∙ sym (sum_by-cons count v vs)

-- what is left, from the next value on
pub spread_left : {Y : Type 0} (f : Value → Y) (vs : List Value) (i : ℕ) (v : Value) (n : ℕ) (y : Y) → i < length vs → v ≡ get_or vs i v → n ≡ count v → y ≡ f v →
    map f (spread (drop i vs)) ≡ replicate n y ++ map f (spread (drop (i + 1) vs))
spread_left f vs i v n y h is copies one =
    at_drop_more (λ l. map f (spread l)) vs i v h
    ∙ ap (λ x. map f (spread (x ∷ drop (i + 1) vs))) (sym is)
    ∙ spread_cons f v (drop (i + 1) vs)
    ∙ ap (λ m. replicate m (f v) ++ map f (spread (drop (i + 1) vs))) (sym copies)
    ∙ ap (λ x. replicate n x ++ map f (spread (drop (i + 1) vs))) (sym one)
