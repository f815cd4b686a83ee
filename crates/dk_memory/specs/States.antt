-- What a source and a sink in memory hold.
use Rattle.std.specs.Prelude.{ℕ, List}
use Rattle.dk_outside.specs.Sinks.{Held}
use Rattle.dk_memory.specs.Calls.{CallState}

-- a source: the bytes that are left
pub record SourceState : Type 0 where
  pub left : List ℕ
  pub calls : CallState

-- a sink: the name begun and the bytes taken since, and how many more bytes it takes
pub record SinkState : Type 0 where
  pub held : Held
  pub room : ℕ
  pub calls : CallState
