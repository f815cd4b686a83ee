-- Rows, each a point beside its values.
use Rattle.std.proofs.Common.{◌≡◌, inl, inr, ℕ, zero, suc, ◌+◌, ◌-◌, ◌<◌, ◌≤◌, List, [], ◌∷◌, ◌++◌, length, Option, Some, None, refl, ap, sym, subst, ◌∙◌, arith, length-append}
use Rattle.std.specs.Prelude.{position, slice_get, slice_set, option_map, option_and_then}
use Rattle.std.proofs.lemmas.Bool.{cases_lt}
use Rattle.std.proofs.lemmas.Option.{slice_get_within}
use Rattle.dk_num.specs.Decimal.{Decimal}
use Rattle.dk_types.specs.declared.rows.Row.{Row}
use Rattle.dk_types.specs.Best.{same_point}
use Rattle.dk_pool.specs.Pool.{PoolState}
use Rattle.dk_book.proofs.Lists.{item_kept, item_last, place_kept}
use Rattle.dk_evaluate.specs.Pools.{rows_by, IsFirst, AreInPools}

pub rows_long : (ps vs : List (List Decimal)) → length vs ≡ length ps → length (rows_by ps vs) ≡ length ps
rows_long [] vs e = refl
rows_long (p ∷ ps) [] e = absurd (omega arith)
rows_long (p ∷ ps) (v ∷ vs) e = let h = rows_long ps vs (omega arith) in omega arith

row : List Decimal → List Decimal → Row
row p v = record { point = p; values = v }

pub rows_more : (ps vs : List (List Decimal)) (p v : List Decimal) → length vs ≡ length ps →
    rows_by (ps ++ p ∷ []) (vs ++ v ∷ []) ≡ rows_by ps vs ++ record { point = p; values = v } ∷ []
rows_more [] [] p v e = refl
rows_more [] (w ∷ vs) p v e = absurd (omega arith)
rows_more (q ∷ ps) [] p v e = absurd (omega arith)
rows_more (q ∷ ps) (w ∷ vs) p v e = ap (λ l. record { point = q; values = w } ∷ l) (rows_more ps vs p v (omega arith))

pub row_point : (ps vs : List (List Decimal)) (i : ℕ) (p : List Decimal) → length vs ≡ length ps → slice_get ps i ≡ Some p →
    option_map (λ (r : Row). r.point) (slice_get (rows_by ps vs) i) ≡ Some p
row_point [] vs i p e h = absurd (let w = slice_get_within [] i p h in omega arith)
row_point (q ∷ ps) [] i p e h = absurd (omega arith)
row_point (q ∷ ps) (w ∷ vs) zero p e h = h
row_point (q ∷ ps) (w ∷ vs) (suc i) p e h = row_point ps vs i p (omega arith) h

pub row_values : (ps vs : List (List Decimal)) (i : ℕ) (v : List Decimal) → length vs ≡ length ps → slice_get vs i ≡ Some v →
    option_map (λ (r : Row). r.values) (slice_get (rows_by ps vs) i) ≡ Some v
row_values ps [] i v e h = absurd (let w = slice_get_within [] i v h in omega arith)
row_values [] (w ∷ vs) i v e h = absurd (omega arith)
row_values (q ∷ ps) (w ∷ vs) zero v e h = h
row_values (q ∷ ps) (w ∷ vs) (suc i) v e h = row_values ps vs i v (omega arith) h

-- the number of a row that was there is kept
first_kept : (rows : List Row) (r : Row) (place number : ℕ) → place < length rows → IsFirst rows place number → IsFirst (rows ++ r ∷ []) place number
first_kept rows r place number within was = record { from = was.from; is = at (slice_get rows (place + 1 - 1)) refl was.is }
  where
    at : (o : Option Row) → slice_get rows (place + 1 - 1) ≡ o → option_and_then (λ (x : Row). position (λ (other : Row). same_point other.point x.point) rows) o ≡ Some (number - 1) →
        option_and_then (λ (x : Row). position (λ (other : Row). same_point other.point x.point) (rows ++ r ∷ [])) (slice_get (rows ++ r ∷ []) (place + 1 - 1)) ≡ Some (number - 1)
    at None e h = absurd (cc)
    at (Some x) e h =
        ap (option_and_then (λ (x : Row). position (λ (other : Row). same_point other.point x.point) (rows ++ r ∷ []))) (item_kept rows r (place + 1 - 1) (omega arith) ∙ e)
        ∙ place_kept (λ (other : Row). same_point other.point x.point) rows r (number - 1) h

-- the number of the row behind the others
first_last : (rows : List Row) (r : Row) (number : ℕ) → 1 ≤ number → position (λ (other : Row). same_point other.point r.point) (rows ++ r ∷ []) ≡ Some (number - 1) → IsFirst (rows ++ r ∷ []) (length rows) number
first_last rows r number from is = record {
  from = from;
  is = ap (λ i. option_and_then (λ (x : Row). position (λ (other : Row). same_point other.point x.point) (rows ++ r ∷ [])) (slice_get (rows ++ r ∷ []) i)) (let e : length rows + 1 - 1 ≡ length rows = omega arith in e)
      ∙ ap (option_and_then (λ (x : Row). position (λ (other : Row). same_point other.point x.point) (rows ++ r ∷ []))) (item_last rows r) ∙ is;
}

-- an item of a list in which one was set
item_other : (xs : List ℕ) (i k x y : ℕ) → (i ≡ k → ⊥) → slice_get (slice_set xs i y) k ≡ Some x → slice_get xs k ≡ Some x
item_other [] i k x y apart h = h
item_other (z ∷ xs) zero zero x y apart h = absurd (apart refl)
item_other (z ∷ xs) zero (suc k) x y apart h = h
item_other (z ∷ xs) (suc i) zero x y apart h = h
item_other (z ∷ xs) (suc i) (suc k) x y apart h = item_other xs i k x y (λ e. apart (ap suc e)) h

item_set : (xs : List ℕ) (i x y : ℕ) → slice_get (slice_set xs i y) i ≡ Some x → y ≡ x
item_set [] i x y h = absurd (let w = slice_get_within [] i x h in omega arith)
item_set (z ∷ xs) zero x y h = cc
item_set (z ∷ xs) (suc i) x y h = item_set xs i x y h

pub long_set : (xs : List ℕ) (i y : ℕ) → length (slice_set xs i y) ≡ length xs
long_set [] i y = refl
long_set (z ∷ xs) zero y = refl
long_set (z ∷ xs) (suc i) y = ap suc (long_set xs i y)

-- one row more
pub pooled_more : (points values more_points more_values : PoolState) (firsts : List ℕ) (p v : List Decimal) (index number : ℕ) →
    more_points.rows ≡ points.rows ++ p ∷ [] → more_points.spare + 1 ≡ points.spare → more_values.rows ≡ values.rows ++ v ∷ [] → more_values.spare + 1 ≡ values.spare →
    index ≡ length points.rows → 1 ≤ number → position (λ (r : Row). same_point r.point p) (rows_by points.rows values.rows ++ record { point = p; values = v } ∷ []) ≡ Some (number - 1) →
    AreInPools points values firsts → AreInPools more_points more_values (slice_set firsts index number)
pooled_more points values more_points more_values firsts p v index number ps spare vs room at from is was = record {
  paired = (let a = ap length ps ∙ length-append points.rows (p ∷ []) in let b = ap length vs ∙ length-append values.rows (v ∷ []) in let q = was.paired in omega arith);
  spare = (let q = was.spare in omega arith);
  enough = (let a = ap length ps ∙ length-append points.rows (p ∷ []) in let q = was.enough in let l = long_set firsts index number in omega arith);
  few = (let a = ap length ps ∙ length-append points.rows (p ∷ []) in let q = was.few in omega arith);
  first = λ place n within h. subst (λ (rows : List Row). IsFirst rows place n) (sym whole) (elim (cases_lt place (length points.rows)) [
    | inl l ↦ first_kept (rows_by points.rows values.rows) last place n (let q = long in omega arith) (was.first place n l (item_other firsts index place n number (λ e. omega arith) h))
    | inr l ↦ newest place n within l h
  ]);
}
  where
    last : Row
    last = record { point = p; values = v }

    long : length (rows_by points.rows values.rows) ≡ length points.rows
    long = rows_long points.rows values.rows was.paired

    whole : rows_by more_points.rows more_values.rows ≡ rows_by points.rows values.rows ++ last ∷ []
    whole = ap (λ l. rows_by l more_values.rows) ps ∙ ap (rows_by (points.rows ++ p ∷ [])) vs ∙ rows_more points.rows values.rows p v was.paired

    newest : (place n : ℕ) → place < length more_points.rows → length points.rows ≤ place → slice_get (slice_set firsts index number) place ≡ Some n → IsFirst (rows_by points.rows values.rows ++ last ∷ []) place n
    newest place n within l h =
        let a = ap length ps ∙ length-append points.rows (p ∷ []) in
        let e : index ≡ place = omega arith in
        let m : number ≡ n = item_set firsts place n number (subst (λ i. slice_get (slice_set firsts i number) place ≡ Some n) e h) in
        let q = long in
        let k : length (rows_by points.rows values.rows) ≡ place = omega arith in
        subst (λ (i : ℕ). IsFirst (rows_by points.rows values.rows ++ last ∷ []) i n) k
        (subst (λ (j : ℕ). IsFirst (rows_by points.rows values.rows ++ last ∷ []) (length (rows_by points.rows values.rows)) j) m (first_last (rows_by points.rows values.rows) last number from is))
