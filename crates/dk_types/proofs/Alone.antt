-- Which rows an evaluation gives.
use Rattle.std.proofs.Common.{◌≡◌, ◌⊎◌, inl, inr, ℕ, zero, suc, ◌<◌, Bool, true, false, List, [], ◌∷◌, ◌++◌, length, Some, take, ◌≤◌, sym, ap, ◌∙◌, refl, arith, nat_lt}
use Rattle.std.specs.Prelude.{slice_get, IsTrue}
use Rattle.std.proofs.lemmas.List.{take_all}
use Rattle.std.proofs.lemmas.Option.{slice_get_within}
use Rattle.std.proofs.lemmas.Grind.{common_steps}
use Rattle.dk_num.specs.Decimal.{Decimal}
use Rattle.dk_types.specs.declared.study.Study.{Study}
use Rattle.dk_types.specs.declared.study.Why.{Why}
use Rattle.dk_types.specs.declared.rows.Row.{Row}
use Rattle.dk_types.specs.declared.study.Method.{Method}
use Rattle.dk_types.specs.declared.study.Method.TheVariants as method
use Rattle.dk_types.specs.declared.study.Ending.TheVariants.{Finished, Aborted}
use Rattle.dk_types.specs.Limits.{limit, limit_by}
use Rattle.dk_types.specs.Sound.{IsSound, IsSoundMethod}
use Rattle.dk_types.specs.Points.{has_points, point, size}
use Rattle.dk_types.specs.Planned.{next, At, Over}
use Rattle.dk_types.specs.Answers.{Value}
use Rattle.dk_types.specs.Solo.{Alone, finished, aborted, waits, goes_on, Outcomes, Verdict, Ended, Open, with_row}
use Rattle.dk_types.specs.Laws.{AnswersPoints, AnswersInOrder, StandsAt, StandsBehind, answer_in}
use Rattle.dk_types.proofs.Searched.{take_before}
use Rattle.dk_types.proofs.Following.{next_over, next_at, is_ahead}
use Rattle.dk_types.proofs.Once.{length_more}

-- an item of a list with one more at its end
pub item_of : {A : Type 0} (xs : List A) (y : A) (i : ℕ) (x : A) → slice_get (xs ++ y ∷ []) i ≡ Some x → (slice_get xs i ≡ Some x) ⊎ ((i ≡ length xs) × (x ≡ y))
item_of [] y zero x h = inr (refl, cc)
item_of [] y (suc i) x h = absurd (cc)
item_of (z ∷ xs) y zero x h = inl h
item_of (z ∷ xs) y (suc i) x h = elim (item_of xs y i x h) [ inl k ↦ inl k | inr k ↦ inr (ap suc k.0, k.1) ]

length_taken : {A : Type 0} (xs : List A) (i : ℕ) (x : A) → slice_get xs i ≡ Some x → length (take i xs) ≡ i
length_taken [] i x h = absurd (cc)
length_taken (y ∷ xs) zero x h = refl
length_taken (y ∷ xs) (suc i) x h = ap suc (length_taken xs i x h)

-- the rows so far came in order
record Came (study : Study) (outcomes : Outcomes) (rows : List Row) : Type 0 where
  points : (i : ℕ) (row : Row) → slice_get rows i ≡ Some row → next study (take i rows) ≡ At row.point
  values : (i : ℕ) (row : Row) → slice_get rows i ≡ Some row → answer_in study outcomes row.point ≡ Value row.values

came_none : (study : Study) (outcomes : Outcomes) → Came study outcomes []
came_none study outcomes = record { points = λ i row h. absurd (cc); values = λ i row h. absurd (cc) }

came_more : (study : Study) (outcomes : Outcomes) (rows : List Row) (p v : List Decimal) → next study rows ≡ At p → answer_in study outcomes p ≡ Value v →
    Came study outcomes rows → Came study outcomes (with_row rows p v)
came_more study outcomes rows p v e a was = record {
  points = λ i row h. elim (item_of rows added i row h) [
    | inl k ↦ ap (next study) (take_before i rows added (let inside : i < length rows = slice_get_within rows i row k in omega arith)) ∙ was.points i row k
    | inr k ↦ ap (λ (n : ℕ). next study (take n (rows ++ added ∷ []))) k.0 ∙ ap (next study) (take_before (length rows) rows added (omega arith) ∙ take_all (length rows) rows (omega arith))
        ∙ e ∙ ap (λ (r : Row). At r.point) (sym k.1)
  ];
  values = λ i row h. elim (item_of rows added i row h) [
    | inl k ↦ was.values i row k
    | inr k ↦ ap (λ (r : Row). answer_in study outcomes r.point) k.1 ∙ a ∙ ap (λ (r : Row). Value r.values) (sym k.1)
  ];
}
  where
    added : Row
    added = record { point = p; values = v }

in_order_from : (study : Study) (outcomes : Outcomes) (rows last : List Row) (verdict : Verdict) → Alone study outcomes rows last verdict → Came study outcomes rows → AnswersInOrder study outcomes last verdict
in_order_from study outcomes _ _ _ (finished rows why e) was = record { points = was.points; values = was.values; stands = e }
in_order_from study outcomes _ _ _ (aborted rows p attempts e a) was = record { points = was.points; values = was.values; stands = ((p, (e, a)), refl) }
in_order_from study outcomes _ _ _ (waits rows p attempt e a) was = record { points = was.points; values = was.values; stands = (e, a) }
in_order_from study outcomes _ _ _ (goes_on rows p v last verdict e a s) was = in_order_from study outcomes (with_row rows p v) last verdict s (came_more study outcomes rows p v e a was)

pub rows_in_order : (study : Study) (outcomes : Outcomes) (rows : List Row) (verdict : Verdict) → Alone study outcomes [] rows verdict → AnswersInOrder study outcomes rows verdict
rows_in_order study outcomes rows verdict s = in_order_from study outcomes [] rows verdict s (came_none study outcomes)

-- How many rows there are

-- a point comes next only where the study may have one more
abbrev IsLimited : Study → Type 0
IsLimited study = (rows : List Row) (p : List Decimal) → next study rows ≡ At p → length rows < limit study

within_from : (study : Study) (outcomes : Outcomes) (rows last : List Row) (verdict : Verdict) → Alone study outcomes rows last verdict → IsLimited study → length rows ≤ limit study → length last ≤ limit study
within_from study outcomes _ _ _ (finished rows why e) most few = few
within_from study outcomes _ _ _ (aborted rows p attempts e a) most few = few
within_from study outcomes _ _ _ (waits rows p attempt e a) most few = few
within_from study outcomes _ _ _ (goes_on rows p v last verdict e a s) most few =
    within_from study outcomes (with_row rows p v) last verdict s most (let l = length_more rows p v in let m = most rows p e in omega arith)

-- a point comes next only where one is left
record IsNext (study : Study) (rows : List Row) (p : List Decimal) : Type 0 where
  is : p ≡ point study (length rows)
  left : length rows < size study

is_next : (study : Study) (rows : List Row) (p : List Decimal) → IsTrue (has_points study.method) → next study rows ≡ At p → IsNext study rows p
is_next study rows p known h = at (nat_lt (length rows) (size study)) refl
  where
    at : (b : Bool) → nat_lt (length rows) (size study) ≡ b → IsNext study rows p
    at true e = let k = next_at study rows known e in record { is = cc; left = grind (arith, common_steps) }
    at false e = let k = next_over study rows known e in absurd (cc)

none_left : (study : Study) (rows : List Row) (why : Why) → IsTrue (has_points study.method) → next study rows ≡ Over why → (length rows < size study → ⊥)
none_left study rows why known h = at (nat_lt (length rows) (size study)) refl
  where
    at : (b : Bool) → nat_lt (length rows) (size study) ≡ b → (length rows < size study → ⊥)
    at true e = let k = next_at study rows known e in absurd (cc)
    at false e = λ l. grind (arith, common_steps)

-- the most evaluations of a search are at least one
searches_some : (study : Study) → IsSound study → (m : Method) → study.method ≡ m → IsSoundMethod study.unit.exponent study.variables study.responses m → IsTrue (has_points m) ⊎ (1 ≤ limit_by (length study.variables.labels) m)
searches_some study sound (method.Vector steps way) is h = inl refl
searches_some study sound (method.List numbers) is h = inl refl
searches_some study sound (method.Centered step counts) is h = inl refl
searches_some study sound (method.Multidim partitions) is h = inl refl
searches_some study sound (method.Compass delta threshold iterations evaluations) is h = inr h.3.0

pub next_within : (study : Study) → IsSound study → IsLimited study
next_within study sound = λ rows p h. elim (searches_some study sound study.method refl sound.method) [
  | inl known ↦ (is_next study rows p known h).left
  | inr some ↦ (let k = is_ahead study rows p h in let r = k.room.some some in omega arith)
]

pub rows_keep_limit : (study : Study) (outcomes : Outcomes) (rows : List Row) (verdict : Verdict) → IsSound study → Alone study outcomes [] rows verdict → length rows ≤ limit study
rows_keep_limit study outcomes rows verdict sound s = within_from study outcomes [] rows verdict s (next_within study sound) (omega arith)

-- A study whose points are known from the beginning

stands_at : (study : Study) (outcomes : Outcomes) (rows : List Row) (verdict : Verdict) → IsTrue (has_points study.method) → length rows ≤ size study → StandsBehind study outcomes rows verdict → StandsAt study outcomes (length rows) verdict
stands_at study outcomes rows (Ended (Finished why)) known few h = let n = none_left study rows why known h in grind arith
stands_at study outcomes rows (Ended (Aborted evaluation attempts)) known few h =
    let k = is_next study rows h.0.0 known h.0.1.0 in (k.left, sym (ap (answer_in study outcomes) k.is) ∙ h.0.1.1, h.1)
stands_at study outcomes rows (Open p attempt) known few h = let k = is_next study rows p known h.0 in (k.left, sym (ap (answer_in study outcomes) k.is) ∙ h.1, k.is)

pub rows_are_points : (study : Study) (outcomes : Outcomes) (rows : List Row) (verdict : Verdict) → IsTrue (has_points study.method) → Alone study outcomes [] rows verdict → AnswersPoints study outcomes rows verdict
rows_are_points study outcomes rows verdict known s =
    let o : AnswersInOrder study outcomes rows verdict = rows_in_order study outcomes rows verdict s in
    record {
      points = λ i row h. (is_next study (take i rows) row.point known (o.points i row h)).is ∙ ap (point study) (length_taken rows i row h);
      values = o.values;
      stands = stands_at study outcomes rows verdict known (within_from study outcomes [] rows verdict s (λ before p h. (is_next study before p known h).left) (omega arith)) o.stands;
    }
