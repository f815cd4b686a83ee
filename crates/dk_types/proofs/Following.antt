-- What comes next in a study of any method, and behind a row more.
use Rattle.std.proofs.Common.{◌≡◌, inl, inr, ℕ, zero, suc, ◌+◌, ◌-◌, ◌<◌, ◌≤◌, Bool, true, false, List, [], ◌∷◌, ◌++◌, length, map, refl, sym, ap, subst, ◌∙◌, arith, ℤ, nat_lt, if◌then◌else◌, length-append}
use Rattle.std.specs.Prelude.{IsTrue}
use Rattle.std.proofs.lemmas.Grind.{common_steps}
use Rattle.std.proofs.lemmas.List.{map-append, length-map}
use Rattle.std.proofs.lemmas.List.FromFn.{length-map-range_with_len}
use Rattle.dk_num.specs.Decimal.{Decimal}
use Rattle.dk_num.specs.Units.{in_units}
use Rattle.dk_types.specs.declared.study.Study.{Study}
use Rattle.dk_types.specs.declared.study.Method.{Method}
use Rattle.dk_types.specs.declared.study.Method.TheVariants as method
use Rattle.dk_types.specs.declared.study.Why.{Why}
use Rattle.dk_types.specs.declared.study.Why.TheVariants.{Complete}
use Rattle.dk_types.specs.declared.rows.Row.{Row}
use Rattle.dk_types.specs.Limits.{limit, limit_by}
use Rattle.dk_types.specs.Points.{has_points, point, size}
use Rattle.dk_types.specs.Search.{search, Found, Poll, Ends}
use Rattle.dk_types.specs.Planned.{Next, At, Over, next, next_by, rest, rest_by, points_from, next_found, rest_found, values_in}
use Rattle.dk_types.proofs.Searched.{search_more, search_within}

-- A study whose points are known from the beginning

pub next_known : (study : Study) (rows : List Row) (m : Method) → IsTrue (has_points m) → next_by study rows m ≡ (if nat_lt (length rows) (size study) then At (point study (length rows)) else Over Complete)
next_known study rows (method.Vector steps way) h = refl
next_known study rows (method.List numbers) h = refl
next_known study rows (method.Centered step counts) h = refl
next_known study rows (method.Multidim partitions) h = refl
next_known study rows (method.Compass delta threshold iterations evaluations) h = absurd (cc)

pub rest_known : (study : Study) (rows : List Row) (m : Method) → IsTrue (has_points m) → rest_by study rows m ≡ points_from study (length rows) (size study - length rows)
rest_known study rows (method.Vector steps way) h = refl
rest_known study rows (method.List numbers) h = refl
rest_known study rows (method.Centered step counts) h = refl
rest_known study rows (method.Multidim partitions) h = refl
rest_known study rows (method.Compass delta threshold iterations evaluations) h = absurd (cc)

pub next_over : (study : Study) (rows : List Row) → IsTrue (has_points study.method) → nat_lt (length rows) (size study) ≡ false → next study rows ≡ Over Complete
next_over study rows known e = next_known study rows study.method known ∙ ap (λ (b : Bool). if b then At (point study (length rows)) else Over Complete) e

pub next_at : (study : Study) (rows : List Row) → IsTrue (has_points study.method) → nat_lt (length rows) (size study) ≡ true → next study rows ≡ At (point study (length rows))
next_at study rows known e = next_known study rows study.method known ∙ ap (λ (b : Bool). if b then At (point study (length rows)) else Over Complete) e

-- The points of a batch

-- behind a row of a batch comes the next of its points, and those behind that one
abbrev pub GoesOn : (study : Study) → (rows : List Row) → (behind : List (List Decimal)) → Type 0
GoesOn study rows behind = (row : Row) (q : List Decimal) (more : List (List Decimal)) → behind ≡ q ∷ more →
    (next study (rows ++ row ∷ []) ≡ At q) × (rest study (rows ++ row ∷ []) ≡ q ∷ more)

-- there are at most so many rows: one where even the first is more than the study may have
pub record IsRoom (study : Study) (rows : ℕ) : Type 0 where
  pub all : rows ≤ limit study + 1
  pub some : 1 ≤ limit study → rows ≤ limit study

-- what comes next, and the batch from there on: a point and those behind it, or the end and none
pub data Ahead (study : Study) (rows : List Row) : Next → List (List Decimal) → Type 0 where
  points : (p : List Decimal) (behind : List (List Decimal)) → IsRoom study (length rows + length (p ∷ behind)) → GoesOn study rows behind → Ahead study rows (At p) (p ∷ behind)
  end : (why : Why) → Ahead study rows (Over why) []

to_ahead : (study : Study) (rows : List Row) (n : Next) (batch : List (List Decimal)) → next study rows ≡ n → rest study rows ≡ batch → Ahead study rows n batch → Ahead study rows (next study rows) (rest study rows)
to_ahead study rows n batch e f h = subst (λ (x : Next). Ahead study rows x (rest study rows)) (sym e) (subst (Ahead study rows n) (sym f) h)

one_more : (rows : List Row) (row : Row) → length (rows ++ row ∷ []) ≡ length rows + 1
one_more rows row = length-append rows (row ∷ [])

ahead_known : (study : Study) (rows : List Row) → IsTrue (has_points study.method) → Ahead study rows (next study rows) (rest study rows)
ahead_known study rows known = at (nat_lt (length rows) (size study)) refl
  where
    points_of : (rows : List Row) (count : ℕ) → size study - length rows ≡ count → rest study rows ≡ points_from study (length rows) count
    points_of rows count e = rest_known study rows study.method known ∙ ap (points_from study (length rows)) e

    goes_on : (count : ℕ) → size study - length rows ≡ suc count → GoesOn study rows (points_from study (length rows + 1) count)
    goes_on zero left = λ row q more e. absurd (cc)
    goes_on (suc count) left = λ row q more e.
        let long = one_more rows row in
        let test : nat_lt (length (rows ++ row ∷ [])) (size study) ≡ true = grind (arith, common_steps) in
        let first : point study (length rows + 1) ≡ q = cc in
        let others : points_from study (length rows + 1 + 1) count ≡ more = cc in (
          next_at study (rows ++ row ∷ []) known test ∙ ap (λ (n : ℕ). At (point study n)) long ∙ ap At first,
          points_of (rows ++ row ∷ []) (suc count) (omega arith) ∙ ap (λ (n : ℕ). points_from study n (suc count)) long ∙ ap (λ (x : List Decimal). x ∷ points_from study (length rows + 1 + 1) count) first ∙ ap (λ l. q ∷ l) others,
        )

    left_over : (count : ℕ) → length rows < size study → size study - length rows ≡ count → Ahead study rows (next study rows) (rest study rows)
    left_over zero l e = absurd (omega arith)
    left_over (suc count) l e =
        let test : nat_lt (length rows) (size study) ≡ true = grind (arith, common_steps) in
        let long : length (points_from study (length rows + 1) count) ≡ count = length-map-range_with_len (point study) (length rows + 1) count in
        to_ahead study rows (At (point study (length rows))) (points_from study (length rows) (suc count)) (next_at study rows known test) (points_of rows (suc count) e)
        (points (point study (length rows)) (points_from study (length rows + 1) count) (record { all = omega arith; some = λ few. omega arith }) (goes_on count e))

    at : (b : Bool) → nat_lt (length rows) (size study) ≡ b → Ahead study rows (next study rows) (rest study rows)
    at true t = left_over (size study - length rows) (grind (arith, common_steps)) refl
    at false t =
        let done : size study ≤ length rows = grind (arith, common_steps) in
        to_ahead study rows (Over Complete) [] (next_over study rows known t) (points_of rows 0 (omega arith)) (end Complete)

-- what a search finds, in a study of it
abbrev search_of : Study → List Row → (delta threshold : ℤ) → (iterations evaluations : ℕ) → Found
search_of study rows delta threshold iterations evaluations = search study.variables delta threshold iterations evaluations (values_in rows)

ahead_search : (study : Study) (rows : List Row) (delta threshold : ℤ) (iterations evaluations : ℕ) → study.method ≡ method.Compass delta threshold iterations evaluations → Ahead study rows (next study rows) (rest study rows)
ahead_search study rows delta threshold iterations evaluations is = at (search_of study rows delta threshold iterations evaluations) refl
  where
    e : ℤ
    e = study.unit.exponent

    next_is : (rows : List Row) (found : Found) → search_of study rows delta threshold iterations evaluations ≡ found → next study rows ≡ next_found e found
    next_is rows found h = ap (next_by study rows) is ∙ ap (next_found e) h

    rest_is : (rows : List Row) (found : Found) → search_of study rows delta threshold iterations evaluations ≡ found → rest study rows ≡ rest_found e found
    rest_is rows found h = ap (rest_by study rows) is ∙ ap (rest_found e) h

    more_found : (row : Row) (p q : List ℤ) (behind : List (List ℤ)) → search_of study rows delta threshold iterations evaluations ≡ Poll p (q ∷ behind) →
        search_of study (rows ++ row ∷ []) delta threshold iterations evaluations ≡ Poll q behind
    more_found row p q behind h =
        ap (search study.variables delta threshold iterations evaluations) (map-append (λ (r : Row). r.values) rows (row ∷ []))
        ∙ search_more study.variables delta threshold iterations evaluations (values_in rows) row.values p q behind h

    goes_on : (p : List ℤ) (behind : List (List ℤ)) → search_of study rows delta threshold iterations evaluations ≡ Poll p behind → GoesOn study rows (map (map (in_units e)) behind)
    goes_on p [] h = λ row q more k. absurd (cc)
    goes_on p (x ∷ behind) h = λ row q more k.
        let first : map (in_units e) x ≡ q = cc in
        let others : map (map (in_units e)) behind ≡ more = cc in
        let found = more_found row p x behind h in (
          next_is (rows ++ row ∷ []) (Poll x behind) found ∙ ap At first,
          rest_is (rows ++ row ∷ []) (Poll x behind) found ∙ ap (λ (y : List Decimal). y ∷ map (map (in_units e)) behind) first ∙ ap (λ l. q ∷ l) others,
        )

    most : limit study ≡ evaluations
    most = ap (limit_by (length study.variables.labels)) is

    room : (p : List ℤ) (behind : List (List ℤ)) → search_of study rows delta threshold iterations evaluations ≡ Poll p behind → IsRoom study (length rows + length (map (in_units e) p ∷ map (map (in_units e)) behind))
    room p behind h =
        let a : length (values_in rows) ≡ length rows = length-map rows (λ (r : Row). r.values) in
        let b : length (map (map (in_units e)) behind) ≡ length behind = length-map behind (map (in_units e)) in
        let m = most in
        elim (search_within study.variables delta threshold iterations evaluations (values_in rows) p behind h) [
          | inl w ↦ record { all = omega arith; some = λ few. omega arith }
          | inr w ↦ record { all = omega arith; some = λ few. omega arith }
        ]

    at : (found : Found) → search_of study rows delta threshold iterations evaluations ≡ found → Ahead study rows (next study rows) (rest study rows)
    at (Poll p behind) h =
        to_ahead study rows (At (map (in_units e) p)) (map (in_units e) p ∷ map (map (in_units e)) behind) (next_is rows (Poll p behind) h) (rest_is rows (Poll p behind) h)
        (points (map (in_units e) p) (map (map (in_units e)) behind) (room p behind h) (goes_on p behind h))
    at (Ends why) h = to_ahead study rows (Over why) [] (next_is rows (Ends why) h) (rest_is rows (Ends why) h) (end why)

pub ahead : (study : Study) (rows : List Row) → Ahead study rows (next study rows) (rest study rows)
ahead study rows = at study.method refl
  where
    at : (m : Method) → study.method ≡ m → Ahead study rows (next study rows) (rest study rows)
    at (method.Vector steps way) is = ahead_known study rows (ap has_points is)
    at (method.List numbers) is = ahead_known study rows (ap has_points is)
    at (method.Centered step counts) is = ahead_known study rows (ap has_points is)
    at (method.Multidim partitions) is = ahead_known study rows (ap has_points is)
    at (method.Compass delta threshold iterations evaluations) is = ahead_search study rows delta threshold iterations evaluations is

-- What follows of it

-- a point that comes next, and those of its batch behind it
pub record IsAhead (study : Study) (rows : List Row) (p : List Decimal) : Type 0 where
  pub behind : List (List Decimal)
  pub batch : rest study rows ≡ p ∷ behind
  pub room : IsRoom study (length rows + length (p ∷ behind))
  pub goes_on : GoesOn study rows behind

pub is_ahead : (study : Study) (rows : List Row) (p : List Decimal) → next study rows ≡ At p → IsAhead study rows p
is_ahead study rows p h = at (next study rows) (rest study rows) refl h (ahead study rows)
  where
    at : (n : Next) (batch : List (List Decimal)) → rest study rows ≡ batch → n ≡ At p → Ahead study rows n batch → IsAhead study rows p
    at _ _ b e (points q behind room goes_on) =
        let same : q ≡ p = cc in
        record {
          behind = behind;
          batch = b ∙ ap (λ (x : List Decimal). x ∷ behind) same;
          room = room;
          goes_on = goes_on;
        }
    at _ _ b e (end why) = absurd (cc)

-- the batch begins with the point that comes next
pub batch_next : (study : Study) (rows : List Row) (p : List Decimal) (behind : List (List Decimal)) → rest study rows ≡ p ∷ behind → next study rows ≡ At p
batch_next study rows p behind h = at (next study rows) (rest study rows) refl h (ahead study rows)
  where
    at : (n : Next) (batch : List (List Decimal)) → next study rows ≡ n → batch ≡ p ∷ behind → Ahead study rows n batch → next study rows ≡ At p
    at _ _ e b (points q others room goes_on) = e ∙ ap At (let same : q ≡ p = cc in same)
    at _ _ e b (end why) = absurd (cc)

-- none is left where the study is over
pub over_none : (study : Study) (rows : List Row) (why : Why) → next study rows ≡ Over why → rest study rows ≡ []
over_none study rows why h = at (next study rows) (rest study rows) refl h (ahead study rows)
  where
    at : (n : Next) (batch : List (List Decimal)) → rest study rows ≡ batch → n ≡ Over why → Ahead study rows n batch → rest study rows ≡ []
    at _ _ b e (points q others room goes_on) = absurd (cc)
    at _ _ b e (end other) = b
