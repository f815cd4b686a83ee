-- Where the points of a study begin and end and what lies between, in the words of the Dakota Reference Manual (`method`:
-- `vector_parameter_study`, `list_parameter_study`, `centered_parameter_study`, `multidim_parameter_study`). All numbers
-- are whole numbers of the study's unit.
use Rattle.std.specs.Prelude.{◌≡◌, ℕ, ◌+◌, ◌-◌, ◌*◌, ◌<◌, ◌≤◌, List, length, map, get_or, set, sum, Some, flat_map, ℤ, pos, ◌+ℤ◌, ◌-ℤ◌, ◌*ℤ◌, IsTrue}
use Rattle.std.specs.List.{range_with_len}
use Rattle.dk_num.specs.Arithmetic.{whole_value}
use Rattle.dk_num.specs.Rounding.{IsNearest}
use Rattle.dk_types.specs.declared.study.Study.{Study}
use Rattle.dk_types.specs.declared.study.Method.TheVariants as method
use Rattle.dk_types.specs.declared.study.Way.{Way}
use Rattle.dk_types.specs.declared.study.Way.TheVariants.{Step, Final}
use Rattle.dk_types.specs.Points.{has_points, size, units_at, point}
use Rattle.dk_types.specs.Sound.{IsSound}
use Rattle.dk_method.specs.Laws.{IsMovedAlone}

-- how many variables a study has
abbrev pub width : Study → ℕ
width study = length study.variables.labels

-- the number of a variable in point i; both are counted from 0
abbrev pub number_at : Study → (i variable : ℕ) → ℤ
number_at study i variable = get_or (units_at study i) variable (pos 0)

-- each point has one number for each variable
abbrev pub EachPointIsWhole : Type 0
EachPointIsWhole = (study : Study) (i : ℕ) → IsSound study → IsTrue (has_points study.method) → i < size study → length (units_at study i) ≡ width study

-- its decimals have the values of its numbers of units
abbrev pub EachPointHasItsValues : Type 0
EachPointHasItsValues = (study : Study) (i : ℕ) → IsSound study → IsTrue (has_points study.method) → i < size study →
    map whole_value (point study i) ≡ map (λ k. whole_value (record { mantissa = k; exponent = study.unit.exponent })) (units_at study i)

-- no whole number is nearer to this part of the way from one number to another
abbrev pub IsPartWay : (part parts : ℕ) → (from to number : ℤ) → Type 0
IsPartWay part parts from to number = IsNearest (pos part *ℤ (to -ℤ from)) parts (number -ℤ from)

-- by a step each point is one step further than the point before it; up to a final point, where there is a step, each
-- is its part of the way, and the last one is the final point
abbrev pub GoesOn : Study → (steps : ℕ) → Way → Type 0
GoesOn study steps (Step step) =
    (i variable : ℕ) → i < steps → variable < width study → number_at study (i + 1) variable ≡ number_at study i variable +ℤ get_or step variable (pos 0)
GoesOn study steps (Final last) =
    (1 ≤ steps → units_at study steps ≡ last)
    × ((i variable : ℕ) → 1 ≤ steps → i ≤ steps → variable < width study → IsPartWay i steps (get_or study.variables.initial variable (pos 0)) (get_or last variable (pos 0)) (number_at study i variable))

-- a vector study has one point more than steps, and begins at the initial point
pub record IsVector (study : Study) (steps : ℕ) (way : Way) : Type 0 where
  pub count : size study ≡ steps + 1
  pub begins : units_at study 0 ≡ study.variables.initial
  pub goes_on : GoesOn study steps way

abbrev pub EachVectorGoesOn : Type 0
EachVectorGoesOn = (study : Study) (steps : ℕ) (way : Way) → IsSound study → study.method ≡ method.Vector steps way → IsVector study steps way

-- the points of a list study, one behind the other, are its numbers
abbrev pub EachListIsItsNumbers : Type 0
EachListIsItsNumbers = (study : Study) (numbers : List ℤ) → IsSound study → study.method ≡ method.List numbers →
    flat_map (units_at study) (range_with_len 0 (size study)) ≡ numbers

-- one of the p + 1 values of a variable whose range is cut in p parts; they needn't differ
pub record IsOneOfParts (parts : ℕ) (lower upper number : ℤ) : Type 0 where
  pub part : ℕ
  pub within : part ≤ parts
  pub nearest : IsPartWay part parts lower upper number

-- a grid begins at the lower bounds and ends at the upper ones
pub record IsGrid (study : Study) (partitions : List ℕ) (lower upper : List ℤ) : Type 0 where
  pub begins : units_at study 0 ≡ lower
  pub ends : units_at study (size study - 1) ≡ upper
  pub between : (i variable : ℕ) → i < size study → variable < width study →
      IsOneOfParts (get_or partitions variable 0) (get_or lower variable (pos 0)) (get_or upper variable (pos 0)) (number_at study i variable)

abbrev pub EachGridSpansItsBounds : Type 0
EachGridSpansItsBounds = (study : Study) (partitions : List ℕ) (lower upper : List ℤ) → IsSound study → study.method ≡ method.Multidim partitions →
    study.variables.lower ≡ Some lower → study.variables.upper ≡ Some upper → IsGrid study partitions lower upper

-- a centered study begins at the initial point; behind it, a point in which one variable is moved alone by so many steps
-- has this variable's number moved by so many of its steps, and the initial numbers of the others
pub record IsCentered (study : Study) (step : List ℤ) (counts : List ℕ) : Type 0 where
  pub count : size study ≡ 1 + 2 * sum counts
  pub begins : units_at study 0 ≡ study.variables.initial
  pub moves : (k variable : ℕ) (steps : ℤ) → k < 2 * sum counts → variable < width study → IsMovedAlone counts k variable steps →
      units_at study (k + 1) ≡ set study.variables.initial variable (get_or study.variables.initial variable (pos 0) +ℤ (steps *ℤ get_or step variable (pos 0)))

abbrev pub EachCenteredBeginsAtItsCentre : Type 0
EachCenteredBeginsAtItsCentre = (study : Study) (step : List ℤ) (counts : List ℕ) → IsSound study → study.method ≡ method.Centered step counts → IsCentered study step counts
