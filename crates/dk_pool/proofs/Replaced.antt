-- A decimal of a pool's row that another one is written over.
use Rattle.std.proofs.Common.{◌≡◌, ◌∙◌, ℕ, zero, suc, ◌+◌, ◌*◌, ◌<◌, List, [], ◌∷◌, Option, Some, ap, sym, length, take, drop, set, get_or, arith}
use Rattle.std.proofs.Math.Nat.{zero-mul, suc-mul}
use Rattle.std.proofs.Math.Seq.{take-set-lt}
use Rattle.std.proofs.lemmas.List.{drop-set-add, drop-set-lt, set_split, take-set-le}
use Rattle.std.specs.Global.{Global}
use Rattle.dk_num.specs.Decimal.{Decimal}
use Rattle.dk_pool.specs.Pool.{PoolState}
use Rattle.dk_pool.specs.Region.{put}
use Rattle.dk_pool.specs.Rows.{rows_of, written, pool_of, IsPool}
use Rattle.dk_pool.specs.declared.region.Region.{Region}
use Rattle.dk_pool.proofs.Cut.{counted, row_lies}

-- a decimal that is written so far from the front is the j-th of the i-th row
rows_set : (width count i j : ℕ) (xs : List Decimal) (x : Decimal) → i < count → j < width
    → rows_of width count (set xs (i * width + j) x) ≡ set (rows_of width count xs) i (set (get_or (rows_of width count xs) i []) j x)
rows_set width zero i j xs x lt within = absurd (omega arith)
rows_set width (suc count) zero j xs x lt within =
    let place : zero * width + j ≡ j = omega (arith, zero-mul width) in
    ap (λ k. rows_of width (suc count) (set xs k x)) place
    ∙ ap (λ l. l ∷ rows_of width count (drop width (set xs j x))) (take-set-lt width xs j x within)
    ∙ ap (λ l. set (take width xs) j x ∷ rows_of width count l) (drop-set-lt width xs j x within)
rows_set width (suc count) (suc i) j xs x lt within =
    let further = i * width + j in
    let place : suc i * width + j ≡ width + further = omega (arith, suc-mul i width) in
    ap (λ k. rows_of width (suc count) (set xs k x)) place
    ∙ ap (λ l. l ∷ rows_of width count (drop width (set xs (width + further) x))) (take-set-le width xs (width + further) x (omega arith))
    ∙ ap (λ l. take width xs ∷ rows_of width count l) (drop-set-add width xs further x)
    ∙ ap (λ rows. take width xs ∷ rows) (rows_set width count i j (drop width xs) x (omega arith) within)

-- the j-th decimal of the i-th row of a pool
module _ (p : PoolState) (alloc : Global) (region : Option (Region Decimal Global)) (room count width : ℕ) (is : pool_of region room count width ≡ p) (inv : IsPool alloc region room count width)
    (i j : ℕ) (there : i < length p.rows) (within : j < p.width) where
  -- the row is as wide as the pool
  inside : j < width
  inside = let wide = ap (λ (q : PoolState). q.width) is in omega arith

  -- it is written
  pub number_lies : i * width + j < length (written region)
  number_lies = omega (arith, row_lies p alloc region room count width is inv i there, inside)

  -- another one is written over it
  pub number_set : (r new : Region Decimal Global) (x : Decimal) → region ≡ Some r → new.values ≡ put r.values (i * width + j) x
      → rows_of width count new.values ≡ set p.rows i (set (get_or p.rows i []) j x)
  number_set r new x held made =
      let values : written region ≡ r.values = ap written held in
      let lies = number_lies in
      let long = ap length values in
      let all = counted p alloc region room count width is inv in
      ap (rows_of width count) (made ∙ sym (set_split r.values (i * width + j) x (omega arith)))
      ∙ rows_set width count i j r.values x (omega arith) inside
      ∙ ap (λ l. set (rows_of width count l) i (set (get_or (rows_of width count l) i []) j x)) (sym values)
      ∙ ap (λ (q : PoolState). set q.rows i (set (get_or q.rows i []) j x)) is
