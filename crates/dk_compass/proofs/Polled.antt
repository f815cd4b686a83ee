-- The polls of an iteration, as rows of a pool.
use Rattle.std.proofs.Common.{◌≡◌, ℕ, ◌+◌, ◌/◌, true, false, List, [], ◌∷◌, ◌++◌, length, map, get_or, set, ap, sym, ◌∙◌, arith, append_assoc, append-nil, ℤ, pos, ◌+ℤ◌, length-append}
use Rattle.std.specs.List.{filter, range_with_len}
use Rattle.std.proofs.lemmas.List.{map-append, map-set}
use Rattle.std.proofs.Math.Seq.{get_or-append_seam, set-append_seam}
use Rattle.dk_num.specs.Decimal.{Decimal}
use Rattle.dk_num.specs.Units.{in_units}
use Rattle.dk_pool.specs.Pool.{PoolState}
use Rattle.dk_types.specs.declared.study.Variables.{Variables}
use Rattle.dk_types.specs.Search.{poll_at, keeps_bounds}
use Rattle.dk_compass.proofs.Opened.{kept_more}
use Rattle.dk_compass.proofs.Sized.{way}

-- the row of the iterate, in which one number is set, is that of the poll
pub row_set : (e : ℤ) (rows put set_rows : List (List Decimal)) (x : List ℤ) (delta : ℤ) (direction : ℕ) (index : ℕ) (number : ℤ) (d : Decimal) →
    put ≡ rows ++ map (in_units e) x ∷ [] → index ≡ length rows → set_rows ≡ set put index (set (get_or put index []) (direction / 2) d) → d ≡ in_units e number →
    number ≡ get_or x (direction / 2) (pos 0) +ℤ way delta direction → set_rows ≡ rows ++ map (in_units e) (poll_at x delta direction) ∷ []
row_set e rows put set_rows x delta direction index number d put_is index_is set_is d_is number_is =
    set_is
    ∙ ap (λ k. set put k (set (get_or put k []) (direction / 2) d)) index_is
    ∙ ap (λ l. set l (length rows) (set (get_or l (length rows) []) (direction / 2) d)) put_is
    ∙ set-append_seam rows (map (in_units e) x) [] (set (get_or (rows ++ map (in_units e) x ∷ []) (length rows) []) (direction / 2) d)
    ∙ ap (λ l. rows ++ set l (direction / 2) d ∷ []) (get_or-append_seam rows (map (in_units e) x) [] [])
    ∙ ap (λ v. rows ++ set (map (in_units e) x) (direction / 2) v ∷ []) (d_is ∙ ap (in_units e) number_is)
    ∙ ap (λ l. rows ++ l ∷ []) (sym (map-set (in_units e) x (direction / 2) (get_or x (direction / 2) (pos 0) +ℤ way delta direction)))

-- the directions below this one in which the bounds are kept
abbrev pub directions_below : Variables → (x : List ℤ) → (delta : ℤ) → (direction : ℕ) → List ℕ
directions_below variables x delta direction = filter (λ d. keeps_bounds variables (poll_at x delta d)) (range_with_len 0 direction)

-- rows and room, as far as the directions below this one
pub record ArePut (variables : Variables) (x : List ℤ) (delta e : ℤ) (old new : PoolState) (direction : ℕ) : Type 0 where
  pub rows : new.rows ≡ old.rows ++ map (map (in_units e)) (map (poll_at x delta) (directions_below variables x delta direction))
  pub width : new.width ≡ old.width
  pub room : new.spare + length (directions_below variables x delta direction) ≡ old.spare

pub put_more : (variables : Variables) (x : List ℤ) (delta e : ℤ) (old mid new : PoolState) (direction : ℕ) → keeps_bounds variables (poll_at x delta direction) ≡ true →
    new.rows ≡ mid.rows ++ map (in_units e) (poll_at x delta direction) ∷ [] → new.width ≡ mid.width → new.spare + 1 ≡ mid.spare →
    ArePut variables x delta e old mid direction → ArePut variables x delta e old new (direction + 1)
put_more variables x delta e old mid new direction keeps rows width room was =
    let row : List ℤ → List Decimal = map (in_units e) in
    let more : directions_below variables x delta (direction + 1) ≡ directions_below variables x delta direction ++ direction ∷ [] = kept_more (λ d. keeps_bounds variables (poll_at x delta d)) direction true keeps in
    let count : length (directions_below variables x delta (direction + 1)) ≡ length (directions_below variables x delta direction) + 1 = ap length more ∙ length-append (directions_below variables x delta direction) (direction ∷ []) in
    let before = was.room in
    record {
      rows = rows
          ∙ ap (λ l. l ++ row (poll_at x delta direction) ∷ []) was.rows
          ∙ append_assoc old.rows (map row (map (poll_at x delta) (directions_below variables x delta direction))) (row (poll_at x delta direction) ∷ [])
          ∙ ap (λ l. old.rows ++ l) (sym (map-append row (map (poll_at x delta) (directions_below variables x delta direction)) (poll_at x delta direction ∷ [])))
          ∙ ap (λ l. old.rows ++ map row l) (sym (map-append (poll_at x delta) (directions_below variables x delta direction) (direction ∷ [])))
          ∙ ap (λ l. old.rows ++ map row (map (poll_at x delta) l)) (sym more);
      width = width ∙ was.width;
      room = omega arith;
    }

pub put_past : (variables : Variables) (x : List ℤ) (delta e : ℤ) (old new : PoolState) (direction : ℕ) → keeps_bounds variables (poll_at x delta direction) ≡ false →
    ArePut variables x delta e old new direction → ArePut variables x delta e old new (direction + 1)
put_past variables x delta e old new direction leaves was =
    let more : directions_below variables x delta (direction + 1) ≡ directions_below variables x delta direction ++ [] = kept_more (λ d. keeps_bounds variables (poll_at x delta d)) direction false leaves in
    let same : directions_below variables x delta (direction + 1) ≡ directions_below variables x delta direction = more ∙ append-nil (directions_below variables x delta direction) in
    let count = ap length same in
    let before = was.room in
    record {
      rows = was.rows ∙ ap (λ l. old.rows ++ map (map (in_units e)) (map (poll_at x delta) l)) (sym same);
      width = was.width;
      room = omega arith;
    }
