-- What the evaluation of a study one point at a time gives, in the subject's words.
use Rattle.std.specs.Prelude.{◌≡◌, ℕ, ◌+◌, ◌<◌, ◌≤◌, List, [], length, take, slice_get, Some, IsTrue}
use Rattle.dk_num.specs.Decimal.{Decimal}
use Rattle.dk_types.specs.declared.study.Study.{Study}
use Rattle.dk_types.specs.declared.study.Ending.{Ending}
use Rattle.dk_types.specs.declared.study.Ending.TheVariants.{Finished, Aborted}
use Rattle.dk_types.specs.declared.rows.Row.{Row}
use Rattle.dk_types.specs.Limits.{limit}
use Rattle.dk_types.specs.Sound.{IsSound}
use Rattle.dk_types.specs.Points.{has_points, point, size}
use Rattle.dk_types.specs.Planned.{next, At, Over}
use Rattle.dk_types.specs.Answers.{Answer, answer_by, Value, Dead, Next}
use Rattle.dk_types.specs.Solo.{Alone, Outcomes, Verdict, Ended, Open, Solo, Child}

-- rows and a verdict, of which there are no others
pub record ComesOnce (study : Study) (outcomes : Outcomes) : Type 0 where
  pub rows : List Row
  pub verdict : Verdict
  pub comes : Alone study outcomes [] rows verdict
  pub only : (others : List Row) (other : Verdict) → Alone study outcomes [] others other → (others ≡ rows) × (other ≡ verdict)

abbrev pub EachStudyComesOnce : Type 0
EachStudyComesOnce = (study : Study) (outcomes : Outcomes) → ComesOnce study outcomes

-- rows and an ending, of which there are no others
pub record EndsOnce (study : Study) (child : Child) : Type 0 where
  pub rows : List Row
  pub ending : Ending
  pub ends : Solo study child [] rows ending
  pub only : (others : List Row) (other : Ending) → Solo study child [] others other → (others ≡ rows) × (other ≡ ending)

abbrev pub EachStudyEndsOnce : Type 0
EachStudyEndsOnce = (study : Study) (child : Child) → EndsOnce study child

-- what the attempts of a point come to in a study
abbrev pub answer_in : Study → Outcomes → List Decimal → Answer
answer_in study outcomes p = answer_by study.interface.rule (outcomes p)

-- nothing comes next; or the point that does has no values, or waits for an attempt
abbrev pub StandsBehind : Study → Outcomes → List Row → Verdict → Type 0
StandsBehind study outcomes rows (Ended (Finished why)) = next study rows ≡ Over why
StandsBehind study outcomes rows (Ended (Aborted evaluation attempts)) =
    ((p : List Decimal) × ((next study rows ≡ At p) × (answer_in study outcomes p ≡ Dead attempts))) × (evaluation ≡ length rows + 1)
StandsBehind study outcomes rows (Open p attempt) = (next study rows ≡ At p) × (answer_in study outcomes p ≡ Next attempt)

-- each row has the point that comes next behind the rows before it, and what the attempts of this point come to
pub record AnswersInOrder (study : Study) (outcomes : Outcomes) (rows : List Row) (verdict : Verdict) : Type 0 where
  pub points : (i : ℕ) (row : Row) → slice_get rows i ≡ Some row → next study (take i rows) ≡ At row.point
  pub values : (i : ℕ) (row : Row) → slice_get rows i ≡ Some row → answer_in study outcomes row.point ≡ Value row.values
  pub stands : StandsBehind study outcomes rows verdict

abbrev pub RowsComeInOrder : Type 0
RowsComeInOrder = (study : Study) (outcomes : Outcomes) (rows : List Row) (verdict : Verdict) → Alone study outcomes [] rows verdict → AnswersInOrder study outcomes rows verdict

-- no study has more rows than its limit: its number of points, or the most evaluations of a search
abbrev pub RowsKeepTheLimit : Type 0
RowsKeepTheLimit = (study : Study) (outcomes : Outcomes) (rows : List Row) (verdict : Verdict) → IsSound study → Alone study outcomes [] rows verdict → length rows ≤ limit study

-- Of a study whose points are known from the beginning: all points have a row; or the point behind the rows has no values,
-- or waits for an attempt
abbrev pub StandsAt : Study → Outcomes → ℕ → Verdict → Type 0
StandsAt study outcomes count (Ended (Finished why)) = count ≡ size study
StandsAt study outcomes count (Ended (Aborted evaluation attempts)) =
    (count < size study) × (answer_in study outcomes (point study count) ≡ Dead attempts) × (evaluation ≡ count + 1)
StandsAt study outcomes count (Open p attempt) = (count < size study) × (answer_in study outcomes (point study count) ≡ Next attempt) × (p ≡ point study count)

pub record AnswersPoints (study : Study) (outcomes : Outcomes) (rows : List Row) (verdict : Verdict) : Type 0 where
  pub points : (i : ℕ) (row : Row) → slice_get rows i ≡ Some row → row.point ≡ point study i
  pub values : (i : ℕ) (row : Row) → slice_get rows i ≡ Some row → answer_in study outcomes row.point ≡ Value row.values
  pub stands : StandsAt study outcomes (length rows) verdict

abbrev pub RowsAreThePoints : Type 0
RowsAreThePoints = (study : Study) (outcomes : Outcomes) (rows : List Row) (verdict : Verdict) → IsTrue (has_points study.method) →
    Alone study outcomes [] rows verdict → AnswersPoints study outcomes rows verdict
