-- Which calls of an object in memory fail, and what it counts.
use Rattle.std.specs.Prelude.{◌≡◌, ◌⊎◌, ℕ, ◌+◌, ◌-◌, ◌^◌, ◌≤◌, min, Contains, List, Option, MatchOption, Result, OnOk, OnErr}

-- the numbers of the calls that fail, from 1; the number from which on every call fails; and how many calls were made, how
-- many failed, and how many of these for want of memory
pub record CallState : Type 0 where
  pub fail : List ℕ
  pub stop : Option ℕ
  pub made : ℕ
  pub faults : ℕ
  pub refused : ℕ

-- no call was made
abbrev pub fresh : List ℕ → Option ℕ → CallState
fresh fail stop = record { fail = fail; stop = stop; made = 0; faults = 0; refused = 0 }

-- one more, up to the last number of 64 bits
abbrev pub one_more : ℕ → ℕ
one_more count = min (count + 1) (2 ^ 64 - 1)

-- the call of this number fails: the number is named, or is that of the stop or a greater one
abbrev pub IsDue : CallState → ℕ → Type 0
IsDue calls number = Contains calls.fail number ⊎ MatchOption calls.stop ⊥ (λ stop. stop ≤ number)

-- a call was made
abbrev pub called : CallState → CallState
called calls = record { fail = calls.fail; stop = calls.stop; made = one_more calls.made; faults = calls.faults; refused = calls.refused }

-- it failed
abbrev pub failed : CallState → CallState
failed calls = record { fail = calls.fail; stop = calls.stop; made = calls.made; faults = one_more calls.faults; refused = calls.refused }

-- it failed for want of memory
abbrev pub refused : CallState → CallState
refused calls = record { fail = calls.fail; stop = calls.stop; made = calls.made; faults = one_more calls.faults; refused = one_more calls.refused }

-- a call that takes no memory: it fails exactly where it is due
pub record IsCounted {A E : Type 0} (old new : CallState) (due : Type 0) (result : Result A E) : Type 0 where
  pub ok : OnOk result ((due → ⊥) × (new ≡ called old))
  pub err : OnErr result (due × (new ≡ failed (called old)))

-- a call that may take memory: it fails where it is due, and where memory was wanting, which is counted apart
pub record IsCountedGrowth {A E : Type 0} (old new : CallState) (due : Type 0) (result : Result A E) : Type 0 where
  pub ok : OnOk result ((due → ⊥) × (new ≡ called old))
  pub err : OnErr result ((due × (new ≡ failed (called old))) ⊎ (new ≡ refused (called old)))
