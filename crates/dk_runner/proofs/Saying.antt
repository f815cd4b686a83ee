-- What a finished buffer has said.
use Rattle.std.proofs.Common.{ℕ, List, inl, inr, Option, Some, None}
use Rattle.std.specs.Prelude.{Result, Ok, Err}
use Rattle.dk_outside.specs.Sinks.{Held, Grows, GrowsByFront}
use Rattle.dk_outside.specs.Flows.{Arrives}
use Rattle.dk_outside.specs.declared.Failed.{Failed}
use Rattle.dk_runner.specs.Headline.{Says, OnlyGrows}

pub says : (old new : Option Held) (n m : ℕ) (result : Result (Unit {0}) Failed) (text : List ℕ) → Arrives old n new m result text → Says old new n m text
says old new n m (Ok u) text h = inl h.written
says old new n m (Err f) text h = inr (h.cause.failed, h.written)

-- a sink that grew by these bytes only grew
pub grows_only : (old new : Option Held) (bytes : List ℕ) → Grows old new bytes → OnlyGrows old new
grows_only None new bytes h = tt
grows_only (Some held) new bytes h = (bytes, h)

pub front_only : (old new : Option Held) (text : List ℕ) → GrowsByFront old new text → OnlyGrows old new
front_only old new text h = grows_only old new h.front h.grew

pub says_only : (old new : Option Held) (n m : ℕ) (text : List ℕ) → Says old new n m text → OnlyGrows old new
says_only old new n m text (inl h) = grows_only old new text h
says_only old new n m text (inr h) = front_only old new text h.1
