-- The points of vector, list, centered and multidimensional studies, in units and as decimals (Dakota Reference Manual,
-- `method`: `vector_parameter_study`, `list_parameter_study`, `centered_parameter_study`, `multidim_parameter_study`).
-- A compass search has no points but those that its values lead to: what is said here is meant of the four others, and
-- each statement has that as its premise (`has_points`).
use Rattle.std.specs.Prelude.{ℕ, Bool, true, false, ◌+◌, ◌-◌, ◌*◌, ◌/◌, ◌%◌, ◌==◌, List, [], ◌∷◌, length, map, zip, take, drop, replicate, unwrap_or, if◌then◌else◌, nat_lt, ℤ, pos, neg_ℤ, ◌+ℤ◌, ◌-ℤ◌, ◌*ℤ◌}
use Rattle.dk_num.specs.Decimal.{Decimal}
use Rattle.dk_num.specs.Units.{in_units}
use Rattle.dk_num.specs.Rounding.{rounded_quotient}
use Rattle.dk_types.specs.declared.study.Study.{Study}
use Rattle.dk_types.specs.declared.study.Variables.{Variables}
use Rattle.dk_types.specs.declared.study.Method.{Method}
use Rattle.dk_types.specs.declared.study.Method.TheVariants as method
use Rattle.dk_types.specs.declared.study.Way.TheVariants.{Step, Final}
use Rattle.dk_types.specs.Limits.{limit}

-- one of the four methods whose points are known from the beginning
abbrev pub has_points : Method → Bool
has_points (method.Compass delta threshold iterations evaluations) = false
has_points _ = true

-- how many points such a study has: as many as the rows that it may have at most
abbrev pub size : Study → ℕ
size study = limit study

-- so many steps from a point
abbrev pub after_steps : ℕ → (from step : List ℤ) → List ℤ
after_steps i from step = map (λ c. c.0 +ℤ (pos i *ℤ c.1)) (zip from step)

-- from one number on towards another: part i of the way, which is cut in so many parts, rounded to a whole number
abbrev pub on_the_way : (i parts : ℕ) → (from to : ℤ) → ℤ
on_the_way i parts from to = from +ℤ rounded_quotient (pos i *ℤ (to -ℤ from)) parts

-- where there are no steps, the one point is the first
abbrev pub towards : (i steps : ℕ) → (from to : List ℤ) → List ℤ
towards i steps from to = if steps == 0 then from else map (λ c. on_the_way i steps c.0 c.1) (zip from to)

-- how far one variable is moved: from as many steps back as it may go up to one step back, then from one step on up to
-- as many on
abbrev pub offset : (count k : ℕ) → ℤ
offset count k = if nat_lt k count then neg_ℤ (pos (count - k)) else pos (k - count + 1)

-- how far each variable is moved for point k behind the centre: first the first variable alone, in each of its moves,
-- then the second alone, and so on
abbrev pub offsets : (counts : List ℕ) → (k : ℕ) → List ℤ
offsets [] k = []
offsets (count ∷ counts) k =
    if nat_lt k (2 * count) then offset count k ∷ replicate (length counts) (pos 0) else pos 0 ∷ offsets counts (k - 2 * count)

-- the centre, then each point around it
abbrev pub moves : (counts : List ℕ) → (i : ℕ) → List ℤ
moves counts i = if i == 0 then replicate (length counts) (pos 0) else offsets counts (i - 1)

abbrev pub around : (i : ℕ) → (centre step : List ℤ) → (counts : List ℕ) → List ℤ
around i centre step counts = map (λ c. c.0 +ℤ (c.1.0 *ℤ c.1.1)) (zip centre (zip (moves counts i) step))

-- the choice of each variable in choice i of a grid, the first variable varying fastest
abbrev pub choices : (partitions : List ℕ) → (i : ℕ) → List ℕ
choices [] i = []
choices (p ∷ partitions) i = i % (p + 1) ∷ choices partitions (i / (p + 1))

abbrev pub in_grid : (i : ℕ) → (partitions : List ℕ) → (lower upper : List ℤ) → List ℤ
in_grid i partitions lower upper =
    map (λ c. on_the_way c.0.0 c.0.1 c.1.0 c.1.1) (zip (zip (choices partitions i) partitions) (zip lower upper))

-- point i of such a method, counted from 0
abbrev pub units_by : Variables → Method → (i : ℕ) → List ℤ
units_by variables (method.Vector steps (Step step)) i = after_steps i variables.initial step
units_by variables (method.Vector steps (Final final)) i = towards i steps variables.initial final
units_by variables (method.List points) i = take (length variables.labels) (drop (i * length variables.labels) points)
units_by variables (method.Centered step counts) i = around i variables.initial step counts
units_by variables (method.Multidim partitions) i = in_grid i partitions (unwrap_or variables.lower []) (unwrap_or variables.upper [])
units_by variables (method.Compass delta threshold iterations evaluations) i = []

-- point i of such a study, counted from 0, in units
abbrev pub units_at : Study → (i : ℕ) → List ℤ
units_at study i = units_by study.variables study.method i

-- and as decimals
abbrev pub point : Study → (i : ℕ) → List Decimal
point study i = map (in_units study.unit.exponent) (units_at study i)
