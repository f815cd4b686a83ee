-- What a bench in memory holds, and what a child does there.
use Rattle.std.specs.Prelude.{◌≡◌, ◌≢◌, ℕ, List, [], ◌∷◌, ◌++◌, Option}
use Rattle.dk_outside.specs.declared.run.Run.{Run}
use Rattle.dk_outside.specs.Benches.{Contents, Leaves}
use Rattle.dk_memory.specs.declared.files.File.{File}
use Rattle.dk_memory.specs.Calls.{CallState}
use Rattle.dk_memory.specs.Files.{look, left_over}

-- its files, of which the first of a name counts, and the children that ran
pub record BenchState : Type 0 where
  pub files : List File
  pub runs : List Run
  pub calls : CallState

-- what is told of it
abbrev pub contents : List File → List Run → Contents
contents files runs = record { file = look files; runs = runs }

-- the child ran over the bytes of its parameters file: it left something that it may leave, and where this was no file, the
-- results file is as it was
pub record Ran (leaves : Leaves) (old new : Contents) (run : Run) : Type 0 where
  pub runs : new.runs ≡ old.runs ++ run ∷ []
  pub left : Option (List ℕ)
  pub allowed : leaves run.bytes run.attempt left
  pub file : new.file run.results ≡ left_over left (old.file run.results)
  pub others : (other : List ℕ) → other ≢ run.results → new.file other ≡ old.file other
