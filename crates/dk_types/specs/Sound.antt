-- What holds of each accepted study.
use Rattle.std.specs.Prelude.{◌≡◌, ℕ, ◌+◌, ◌*◌, ◌%◌, ◌^◌, ◌<◌, ◌≤◌, List, length, ℤ, pos, ◌<ℤ◌, unsigned_abs, IsTrue, Option, Some, None, true}
use Rattle.std.specs.List.{All}
use Rattle.dk_num.specs.Units.{IsUnitExponent, is_moderate, in_units}
use Rattle.dk_types.specs.declared.study.Study.{Study}
use Rattle.dk_types.specs.declared.study.Responses.{Responses}
use Rattle.dk_types.specs.declared.study.Variables.{Variables}
use Rattle.dk_types.specs.declared.study.Method.{Method}
use Rattle.dk_types.specs.declared.study.Method.TheVariants as method
use Rattle.dk_types.specs.declared.study.Way.{Way}
use Rattle.dk_types.specs.declared.study.Way.TheVariants.{Step, Final}
use Rattle.dk_types.specs.declared.study.Driver.{Driver}
use Rattle.dk_types.specs.declared.study.Driver.TheVariants.{Direct, Fork}
use Rattle.dk_types.specs.declared.study.FailRule.{FailRule}
use Rattle.dk_types.specs.declared.study.FailRule.TheVariants.{Abort, Retry, Recover}
use Rattle.dk_types.specs.Labels.{AreLabels}
use Rattle.dk_types.specs.Limits.{limit}

-- from one number up to another
abbrev pub IsBetween : (low high n : ℕ) → Type 0
IsBetween low high n = (low ≤ n) × (n ≤ high)

-- a number of units of at most 29 digits, whose decimal is zero or led by a power of ten in -400..400
pub record IsNumber (exponent k : ℤ) : Type 0 where
  pub few : unsigned_abs k < 10 ^ 29
  pub moderate : IsTrue (is_moderate (in_units exponent k))

-- one number for each variable
pub record IsPoint (exponent : ℤ) (variables : ℕ) (ks : List ℤ) : Type 0 where
  pub one_each : length ks ≡ variables
  pub each : All (IsNumber exponent) ks

abbrev pub IsBound : ℤ → ℕ → Option (List ℤ) → Type 0
IsBound exponent variables None = Unit {0}
IsBound exponent variables (Some ks) = IsPoint exponent variables ks

-- one count for each variable, each in this range
pub record AreCounts (variables low high : ℕ) (counts : List ℕ) : Type 0 where
  pub one_each : length counts ≡ variables
  pub each : All (IsBetween low high) counts

abbrev pub IsWay : ℤ → ℕ → Way → Type 0
IsWay exponent variables (Step step) = IsPoint exponent variables step
IsWay exponent variables (Final final) = IsPoint exponent variables final

-- points behind one another, and at least one
pub record ArePoints (exponent : ℤ) (variables : ℕ) (ks : List ℤ) : Type 0 where
  pub some : 0 < length ks
  pub whole : length ks % variables ≡ 0
  pub each : All (IsNumber exponent) ks

-- a number of units above 0
pub record IsLength (exponent k : ℤ) : Type 0 where
  pub number : IsNumber exponent k
  pub positive : pos 0 <ℤ k

abbrev pub IsSoundMethod : ℤ → Variables → Responses → Method → Type 0
IsSoundMethod exponent variables responses (method.Vector steps way) = (steps ≤ 10000) × IsWay exponent (length variables.labels) way
IsSoundMethod exponent variables responses (method.List points) = ArePoints exponent (length variables.labels) points
IsSoundMethod exponent variables responses (method.Centered step counts) =
    IsPoint exponent (length variables.labels) step × AreCounts (length variables.labels) 0 10000 counts
IsSoundMethod exponent variables responses (method.Multidim partitions) =
    AreCounts (length variables.labels) 1 10000 partitions × ((lower : List ℤ) × (variables.lower ≡ Some lower)) × ((upper : List ℤ) × (variables.upper ≡ Some upper))
IsSoundMethod exponent variables responses (method.Compass delta threshold iterations evaluations) =
    IsLength exponent delta × IsLength exponent threshold × (iterations ≤ 10000) × IsBetween 1 100000 evaluations
    × (responses.objectives ≡ true) × (length responses.labels ≡ 1)

abbrev pub IsSoundDriver : (variables responses : ℕ) → Driver → Type 0
IsSoundDriver variables responses Direct = (variables ≡ 2) × (responses ≡ 1)
IsSoundDriver variables responses (Fork words) = 0 < length words

abbrev pub IsSoundRule : (responses : ℕ) → FailRule → Type 0
IsSoundRule responses Abort = Unit {0}
IsSoundRule responses (Retry times) = IsBetween 1 1000 times
IsSoundRule responses (Recover values) = length values ≡ responses

pub record IsSound (study : Study) : Type 0 where
  pub unit : IsUnitExponent study.unit.exponent
  pub variables : AreLabels study.variables.labels
  pub responses : AreLabels study.responses.labels
  pub initial : IsPoint study.unit.exponent (length study.variables.labels) study.variables.initial
  pub lower : IsBound study.unit.exponent (length study.variables.labels) study.variables.lower
  pub upper : IsBound study.unit.exponent (length study.variables.labels) study.variables.upper
  pub method : IsSoundMethod study.unit.exponent study.variables study.responses study.method
  pub driver : IsSoundDriver (length study.variables.labels) (length study.responses.labels) study.interface.driver
  pub rule : IsSoundRule (length study.responses.labels) study.interface.rule
  pub concurrency : IsBetween 1 64 study.interface.concurrency
  pub parameters : 0 < length study.interface.parameters
  pub results : 0 < length study.interface.results
  pub files_differ : study.interface.parameters ≡ study.interface.results → ⊥
  -- the greatest number of rows, at most 100,000, and of numbers in them, at most 4,000,000
  pub limit_is : study.limit ≡ limit study
  pub few_rows : study.limit ≤ 100000
  pub few_numbers : study.limit * (length study.variables.labels + length study.responses.labels) ≤ 4000000
