-- A study, evaluated one point at a time.
use Rattle.std.specs.Prelude.{◌≡◌, ℕ, ◌+◌, List, [], ◌∷◌, ◌++◌, length, Option, Some, None}
use Rattle.dk_num.specs.Decimal.{Decimal}
use Rattle.dk_num.specs.Arithmetic.{ros}
use Rattle.dk_types.specs.declared.study.Study.{Study}
use Rattle.dk_types.specs.declared.study.Why.{Why}
use Rattle.dk_types.specs.declared.study.Ending.{Ending}
use Rattle.dk_types.specs.declared.study.Ending.TheVariants.{Finished, Aborted}
use Rattle.dk_types.specs.declared.entry.Entry.{Entry}
use Rattle.dk_types.specs.declared.entry.Said.{Said}
use Rattle.dk_types.specs.declared.entry.Said.TheVariants.{Values, Failed}
use Rattle.dk_types.specs.declared.rows.Row.{Row}
use Rattle.dk_types.specs.Planned.{next, At, Over}
use Rattle.dk_types.specs.Entries.{said}
use Rattle.dk_types.specs.Answers.{answer_by, Value, Dead, Next}

-- what each attempt of a point gives
abbrev pub Child : Type 0
Child = List Decimal → (attempt : ℕ) → Said

-- one value, where there is one
abbrev pub as_said : Option Decimal → Said
as_said None = Failed
as_said (Some value) = Values (value ∷ [])

-- Rosenbrock's function of two variables
abbrev pub rosenbrock_child : Child
rosenbrock_child (x1 ∷ (x2 ∷ [])) attempt = as_said (ros x1 x2)
rosenbrock_child _ attempt = Failed

-- what each attempt of a point gave, as far as it was made
abbrev pub Outcomes : Type 0
Outcomes = List Decimal → (attempt : ℕ) → Option Said

-- a child answers each attempt
abbrev pub outcomes_of : Child → Outcomes
outcomes_of child p attempt = Some (child p attempt)

-- the study ends, or a point waits for this attempt
pub data Verdict : Type 0 where
  Ended : Ending → Verdict
  Open : (point : List Decimal) → (attempt : ℕ) → Verdict

-- a point with its values, behind the rows before
abbrev pub with_row : List Row → (point values : List Decimal) → List Row
with_row rows point values = rows ++ record { point = point; values = values } ∷ []

-- From these rows on, the study comes to those rows and this verdict, one point after another: each point gets what
-- its attempts come to under the study's rule.
pub data Alone (study : Study) (outcomes : Outcomes) : List Row → List Row → Verdict → Type 0 where
  finished : (rows : List Row) (why : Why) → next study rows ≡ Over why → Alone study outcomes rows rows (Ended (Finished why))
  aborted : (rows : List Row) (p : List Decimal) (attempts : ℕ) → next study rows ≡ At p → answer_by study.interface.rule (outcomes p) ≡ Dead attempts →
      Alone study outcomes rows rows (Ended (Aborted (length rows + 1) attempts))
  waits : (rows : List Row) (p : List Decimal) (attempt : ℕ) → next study rows ≡ At p → answer_by study.interface.rule (outcomes p) ≡ Next attempt →
      Alone study outcomes rows rows (Open p attempt)
  goes_on : (rows : List Row) (p v : List Decimal) (last : List Row) (verdict : Verdict) → next study rows ≡ At p → answer_by study.interface.rule (outcomes p) ≡ Value v →
      Alone study outcomes (with_row rows p v) last verdict → Alone study outcomes rows last verdict

-- what a study comes to over attempts that were made
abbrev pub Seq : Study → List Entry → List Row → Verdict → Type 0
Seq study entries rows verdict = Alone study (said entries) [] rows verdict

-- from these rows on, the study ends with those rows, so, where a child answers each attempt
abbrev pub Solo : Study → Child → List Row → List Row → Ending → Type 0
Solo study child rows last ending = Alone study (outcomes_of child) rows last (Ended ending)
