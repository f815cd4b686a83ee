-- Rows cut off the front of a list, and what a pool says of them.
use Rattle.std.proofs.Common.{◌≡◌, ◌∙◌, ℕ, zero, suc, ◌+◌, ◌-◌, ◌*◌, ◌^◌, ◌<◌, ◌≤◌, List, [], ◌∷◌, ◌++◌, Option, Some, None, refl, ap, sym, subst, length, take, drop, get_or, slice_get, arith}
use Rattle.std.proofs.Math.Nat.{zero-mul, suc-mul}
use Rattle.std.proofs.Math.Seq.{take-nil, drop-nil, take-suc, drop-append_seam}
use Rattle.std.proofs.lemmas.List.{length-append, length-drop, length-take, length-take-le, drop-drop, drop-take, take_at, append_assoc}
use Rattle.std.specs.Global.{Global}
use Rattle.dk_num.specs.Decimal.{Decimal}
use Rattle.dk_pool.specs.Pool.{PoolState}
use Rattle.dk_pool.specs.Region.{put}
use Rattle.dk_pool.specs.Rows.{rows_of, written, places, pool_of, IsPool}
use Rattle.dk_pool.specs.declared.region.Region.{Region}

module _ {X : Type 0} where
  take_of : (n m : ℕ) (l : List X) → take n (take (n + m) l) ≡ take n l
  take_of zero m l = refl
  take_of (suc n) m [] = ap (take (suc n)) (take-nil (suc n + m))
  take_of (suc n) m (x ∷ l) = let k : suc n + m ≡ suc (n + m) = omega arith in ap (λ j. take (suc n) (take j (x ∷ l))) k ∙ ap (λ t. x ∷ t) (take_of n m l)

  drop_at : (xs ys : List X) (n : ℕ) → length xs ≡ n → drop n (xs ++ ys) ≡ ys
  drop_at xs ys n e = ap (λ k. drop k (xs ++ ys)) (sym e) ∙ drop-append_seam xs ys

  -- up to the place that is written, and it
  pub put_next : (xs : List X) (i : ℕ) (x : X) → i ≤ length xs → take (suc i) (put xs i x) ≡ take i xs ++ x ∷ []
  put_next [] zero x le = refl
  put_next [] (suc i) x le = absurd (omega arith)
  put_next (y ∷ ys) zero x le = refl
  put_next (y ∷ ys) (suc i) x le = ap (λ l. y ∷ l) (put_next ys i x (omega arith))

  pub put_reaches : (xs : List X) (i : ℕ) (x : X) → i ≤ length xs → suc i ≤ length (put xs i x)
  put_reaches xs i x le = omega (arith, length-append (take i xs) (x ∷ drop (suc i) xs), length-take i xs)

  -- one more of the values is written
  pub written_next : (old now values new : List X) (place i : ℕ) (x : X) → new ≡ put now (place + i) x → place + i ≤ length now → i < length values → x ≡ get_or values i x
      → take (place + i) now ≡ take place old ++ take i values → take (place + (i + 1)) new ≡ take place old ++ take (i + 1) values
  written_next old now values new place i x made le lt is e =
      let far : place + (i + 1) ≡ suc (place + i) = omega arith in
      let next : suc i ≡ i + 1 = omega arith in
      ap (take (place + (i + 1))) made ∙ ap (λ k. take k (put now (place + i) x)) far ∙ put_next now (place + i) x le
      ∙ ap (λ l. l ++ x ∷ []) e ∙ append_assoc (take place old) (take i values) (x ∷ [])
      ∙ ap (λ l. take place old ++ l) (ap (λ y. take i values ++ y ∷ []) is ∙ sym (take-suc values i x lt) ∙ ap (λ k. take k values) next)

abbrev empty_list : List Decimal
empty_list = []

-- with no region a row is empty
pub empty_row : (width at : ℕ) → take width (drop at empty_list) ≡ empty_list
empty_row width at = ap (take width) (drop-nil at) ∙ take-nil width

pub rows_long : (width count : ℕ) (xs : List Decimal) → length (rows_of width count xs) ≡ count
rows_long width zero xs = refl
rows_long width (suc count) xs = ap suc (rows_long width count (drop width xs))

pub rows_first : (width n count : ℕ) (xs : List Decimal) → n ≤ count → rows_of width n xs ≡ take n (rows_of width count xs)
rows_first width zero count xs le = refl
rows_first width (suc n) zero xs le = absurd (omega arith)
rows_first width (suc n) (suc count) xs le = ap (λ l. take width xs ∷ l) (rows_first width n count (drop width xs) (omega arith))

pub row_at : (width count i : ℕ) (xs : List Decimal) → i < count → slice_get (rows_of width count xs) i ≡ Some (take width (drop (i * width) xs))
row_at width zero i xs lt = absurd (omega arith)
row_at width (suc count) zero xs lt = ap (λ k. Some (take width (drop k xs))) (sym (zero-mul width))
row_at width (suc count) (suc i) xs lt =
    row_at width count i (drop width xs) (omega arith)
    ∙ ap (λ l. Some (take width l)) (drop-drop (i * width) width xs ∙ ap (λ k. drop k xs) (omega (arith, suc-mul i width)))

-- the i-th of n rows ends within what n rows take
pub row_ends : (width n i : ℕ) → i < n → i * width + width ≤ n * width
row_ends width zero i lt = absurd (omega arith)
row_ends width (suc n) zero lt = omega (arith, suc-mul n width)
row_ends width (suc n) (suc i) lt = omega (arith, suc-mul n width, suc-mul i width, row_ends width n i (omega arith))

-- fewer rows take no more
pub fewer : (width n m : ℕ) → n ≤ m → n * width ≤ m * width
fewer width zero m le = omega arith
fewer width (suc n) m le = omega (arith, suc-mul n width, row_ends width m n le)

same_rows : (width n : ℕ) (xs ys : List Decimal) → take (n * width) xs ≡ take (n * width) ys → n * width ≤ length xs → n * width ≤ length ys → rows_of width n xs ≡ rows_of width n ys
same_rows width zero xs ys e lx ly = refl
same_rows width (suc n) xs ys e lx ly =
    let more : suc n * width ≡ width + n * width = omega (arith, suc-mul n width) in
    let e' : take (width + n * width) xs ≡ take (width + n * width) ys = subst (λ k. take k xs ≡ take k ys) more e in
    let front : take width xs ≡ take width ys = sym (take_of width (n * width) xs) ∙ ap (take width) e' ∙ take_of width (n * width) ys in
    let back : take (n * width) (drop width xs) ≡ take (n * width) (drop width ys) = sym (drop-take width (n * width) xs) ∙ ap (drop width) e' ∙ drop-take width (n * width) ys in
    ap (λ l. l ∷ rows_of width n (drop width xs)) front
    ∙ ap (λ l. take width ys ∷ l) (same_rows width n (drop width xs) (drop width ys) back (omega (arith, length-drop width xs)) (omega (arith, length-drop width ys)))

last_row : (width n : ℕ) (xs : List Decimal) → rows_of width (suc n) xs ≡ rows_of width n xs ++ take width (drop (n * width) xs) ∷ []
last_row width zero xs = ap (λ k. take width (drop k xs) ∷ []) (sym (zero-mul width))
last_row width (suc n) xs =
    ap (λ l. take width xs ∷ l) (last_row width n (drop width xs))
    ∙ ap (λ l. take width xs ∷ (rows_of width n (drop width xs) ++ take width l ∷ [])) (drop-drop (n * width) width xs ∙ ap (λ k. drop k xs) (omega (arith, suc-mul n width)))

-- a row that is written behind the others
pub rows_more : (width count : ℕ) (row old now : List Decimal) → length row ≡ width → count * width ≤ length old → count * width + width ≤ length now
    → take (count * width + width) now ≡ take (count * width) old ++ row → rows_of width (count + 1) now ≡ rows_of width count old ++ row ∷ []
rows_more width count row old now wide lo ln e =
    let n = count * width in
    let long : length (take n old) ≡ n = length-take-le n old lo in
    let row_is : take width (drop n now) ≡ row = sym (drop-take n width now) ∙ ap (drop n) e ∙ drop_at (take n old) row n long in
    let front : take n now ≡ take n old = sym (take_of n width now) ∙ ap (take n) e ∙ take_at (take n old) row n long in
    let others : rows_of width count now ≡ rows_of width count old = same_rows width count now old front (omega arith) lo in
    let next : count + 1 ≡ suc count = omega arith in
    ap (λ k. rows_of width k now) next ∙ last_row width count now ∙ (λ i. others i ++ row_is i ∷ [])

-- what a pool says of itself
module _ (p : PoolState) (alloc : Global) (region : Option (Region Decimal Global)) (room count width : ℕ) (is : pool_of region room count width ≡ p) (inv : IsPool alloc region room count width) where
  pub counted : count ≡ length p.rows
  counted = sym (rows_long width count (written region)) ∙ ap (λ (q : PoolState). length q.rows) is

  pub stays_small : length p.rows + p.spare < 2 ^ 32
  stays_small =
      let spare : room - count ≡ p.spare = ap (λ (q : PoolState). q.spare) is in
      let enough = inv.enough in let few = inv.few in
      omega (arith, counted)

  module _ (i : ℕ) (there : i < length p.rows) where
    pub row_lies : i * width + width ≤ length (written region)
    row_lies = let filled = inv.filled in omega (arith, row_ends width count i (omega (arith, counted)))

    pub row_is : slice_get p.rows i ≡ Some (take width (drop (i * width) (written region)))
    row_is = ap (λ (q : PoolState). slice_get q.rows i) (sym is) ∙ row_at width count i (written region) (omega (arith, counted))

    pub row_wide : length (take width (drop (i * width) (written region))) ≡ p.width
    row_wide = length-take-le width (drop (i * width) (written region)) (omega (arith, length-drop (i * width) (written region), row_lies)) ∙ ap (λ (q : PoolState). q.width) is

  module _ (row : List Decimal) (wide : length row ≡ p.width) where
    as_wide : length row ≡ width
    as_wide = wide ∙ sym (ap (λ (q : PoolState). q.width) is)

    behind : rows_of width count (written region) ++ row ∷ [] ≡ p.rows ++ row ∷ []
    behind = ap (λ (q : PoolState). q.rows ++ row ∷ []) is

    -- the row is written into the region
    pub row_put : (r new : Region Decimal Global) → region ≡ Some r → take (count * width + length row) new.values ≡ take (count * width) r.values ++ row
        → count * width + length row ≤ length new.values → rows_of width (count + 1) new.values ≡ p.rows ++ row ∷ []
    row_put r new there put reaches =
        let held : written region ≡ r.values = ap written there in
        rows_more width count row (written region) new.values as_wide inv.filled (subst (λ k. count * width + k ≤ length new.values) as_wide reaches)
        (subst (λ k. take (count * width + k) new.values ≡ take (count * width) r.values ++ row) as_wide put ∙ ap (λ l. take (count * width) l ++ row) (sym held))
        ∙ behind

    -- with no region the row is empty
    pub row_counted : region ≡ None → 1 ≤ p.spare → rows_of width (count + 1) (written region) ≡ p.rows ++ row ∷ []
    row_counted none spare =
        let room_left : room - count ≡ p.spare = ap (λ (q : PoolState). q.spare) is in
        let fits = inv.fits in let no_place : places region ≡ 0 = ap places none in
        let within : count * width + width ≤ 0 = omega (arith, row_ends width room count (omega arith)) in
        let empty : row ≡ [] = of_no_length row (omega (arith, as_wide)) in
        let held : written region ≡ [] = ap written none in
        ap (rows_of width (count + 1)) held
        ∙ rows_more width count row [] [] as_wide (omega arith) within (nothing_from (count * width + width) ∙ sym (ap (λ l. l ++ row) (nothing_from (count * width)) ∙ empty))
        ∙ ap (λ l. rows_of width count l ++ row ∷ []) (sym held) ∙ behind
      where
        of_no_length : (l : List Decimal) → length l ≡ 0 → l ≡ []
        of_no_length [] e = refl
        of_no_length (x ∷ l) e = absurd (omega arith)

        nothing_from : (k : ℕ) → take k (empty_list) ≡ empty_list
        nothing_from k = take-nil k
