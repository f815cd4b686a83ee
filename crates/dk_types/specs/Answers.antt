-- What the attempts of a point come to under a rule of failure capturing.
use Rattle.std.specs.Prelude.{ℕ, zero, suc, ◌+◌, List, Option, Some, None}
use Rattle.dk_num.specs.Decimal.{Decimal}
use Rattle.dk_types.specs.declared.study.FailRule.{FailRule}
use Rattle.dk_types.specs.declared.study.FailRule.TheVariants.{Abort, Retry, Recover}
use Rattle.dk_types.specs.declared.entry.Entry.{Entry}
use Rattle.dk_types.specs.declared.entry.Said.{Said}
use Rattle.dk_types.specs.declared.entry.Said.TheVariants.{Values, Failed}
use Rattle.dk_types.specs.Entries.{said}

-- the point has these values, or has none after so many attempts, or this attempt is to be made next
pub data Answer : Type 0 where
  Value : List Decimal → Answer
  Dead : (attempts : ℕ) → Answer
  Next : (attempt : ℕ) → Answer

-- how often the rule tries again
abbrev pub retries : FailRule → ℕ
retries Abort = 0
retries (Retry times) = times
retries (Recover values) = 0

-- what the rule makes of a point whose last attempt failed too
abbrev pub given_up : FailRule → (attempts : ℕ) → Answer
given_up Abort attempts = Dead attempts
given_up (Retry times) attempts = Dead attempts
given_up (Recover values) attempts = Value values

-- by what this attempt gave, and by what it comes to where it failed
abbrev pub by_attempt : (attempt : ℕ) → (failed : Answer) → Option Said → Answer
by_attempt attempt failed None = Next attempt
by_attempt attempt failed (Some (Values values)) = Value values
by_attempt attempt failed (Some Failed) = failed

-- what the attempts from this one on come to, where so many may follow it
abbrev pub answer_from : FailRule → (says : ℕ → Option Said) → (left attempt : ℕ) → Answer
answer_from rule says zero attempt = by_attempt attempt (given_up rule attempt) (says attempt)
answer_from rule says (suc left) attempt = by_attempt attempt (answer_from rule says left (attempt + 1)) (says attempt)

-- what the attempts 1, 2, .. come to, where this is what each of them gave
abbrev pub answer_by : FailRule → (says : ℕ → Option Said) → Answer
answer_by rule says = answer_from rule says (retries rule) 1

abbrev pub answer : FailRule → List Entry → List Decimal → Answer
answer rule entries p = answer_by rule (said entries p)
