-- What each rule of failure capturing makes of the attempts at a point, in the manual's words (Dakota Reference Manual,
-- `interface`, `failure_capture`: `abort`, `retry`, `recover`).
use Rattle.std.specs.Prelude.{◌≡◌, ◌⊎◌, ◌↔◌, ℕ, ◌+◌, ◌<◌, ◌≤◌, List, Option, Some, None}
use Rattle.dk_num.specs.Decimal.{Decimal}
use Rattle.dk_types.specs.declared.study.FailRule.{FailRule}
use Rattle.dk_types.specs.declared.study.FailRule.TheVariants.{Abort, Retry, Recover}
use Rattle.dk_types.specs.declared.entry.Said.{Said}
use Rattle.dk_types.specs.declared.entry.Said.TheVariants.{Values, Failed}
use Rattle.dk_types.specs.Answers.{Value, Dead, Next, answer_by}

-- the attempts 1 to k were made, and each failed
abbrev pub AllFail : (says : ℕ → Option Said) → (k : ℕ) → Type 0
AllFail says k = (attempt : ℕ) → 1 ≤ attempt → attempt ≤ k → says attempt ≡ Some Failed

-- how many attempts a point is given: one, and under `retry = times` so many more
abbrev pub allowed : FailRule → ℕ
allowed Abort = 1
allowed (Retry times) = 1 + times
allowed (Recover values) = 1

-- the attempt is allowed, and all before it failed
pub record IsReached (rule : FailRule) (says : ℕ → Option Said) (attempt : ℕ) : Type 0 where
  pub from : 1 ≤ attempt
  pub within : attempt ≤ allowed rule
  pub before : (earlier : ℕ) → 1 ≤ earlier → earlier < attempt → says earlier ≡ Some Failed

-- all attempts that are allowed failed, and nothing stands in for their values
abbrev pub IsDead : FailRule → (says : ℕ → Option Said) → (attempts : ℕ) → Type 0
IsDead (Recover values) says attempts = ⊥
IsDead rule says attempts = (attempts ≡ allowed rule) × AllFail says attempts

-- the one attempt failed, and these values stand in
abbrev pub IsRecovered : FailRule → (says : ℕ → Option Said) → List Decimal → Type 0
IsRecovered (Recover values) says v = (says 1 ≡ Some Failed) × (v ≡ values)
IsRecovered rule says v = ⊥

-- an attempt that is reached gave these values
pub record GivesValues (rule : FailRule) (says : ℕ → Option Said) (v : List Decimal) : Type 0 where
  pub attempt : ℕ
  pub reached : IsReached rule says attempt
  pub gave : says attempt ≡ Some (Values v)

-- an attempt that is reached wasn't made yet
pub record IsDue (rule : FailRule) (says : ℕ → Option Said) (attempt : ℕ) : Type 0 where
  pub reached : IsReached rule says attempt
  pub not_made : says attempt ≡ None

-- when a point is dead, when it has values, and when an attempt is due
pub record AnswersByRule (rule : FailRule) (says : ℕ → Option Said) : Type 0 where
  pub dead : (attempts : ℕ) → (answer_by rule says ≡ Dead attempts) ↔ IsDead rule says attempts
  pub value : (v : List Decimal) → (answer_by rule says ≡ Value v) ↔ (GivesValues rule says v ⊎ IsRecovered rule says v)
  pub due : (attempt : ℕ) → (answer_by rule says ≡ Next attempt) ↔ IsDue rule says attempt

abbrev pub EachRuleAnswers : Type 0
EachRuleAnswers = (rule : FailRule) (says : ℕ → Option Said) → AnswersByRule rule says
