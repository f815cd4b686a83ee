-- What a sink of a table holds.
use Rattle.std.specs.Prelude.{◌≡◌, ◌⊎◌, ℕ, List, ◌++◌, Option, Some, None, IfSome, Result, MatchResult}
use Rattle.dk_outside.specs.Sinks.{Held, Keeps, begun_with}
use Rattle.dk_types.specs.declared.study.Study.{Study}

-- the sink was begun with the table's name and has taken these bytes and nothing else, where the study asks for one
abbrev pub HasTable : Study → List ℕ → (old new : Option Held) → Type 0
HasTable study bytes old new = elim study.table [ None ↦ Keeps old new | Some name ↦ IfSome old (λ _. new ≡ Some (begun_with name bytes)) ]

-- it holds what it held, or was begun and has taken a front of these bytes
pub record HasFront (study : Study) (bytes : List ℕ) (old new : Option Held) : Type 0 where
  pub front : List ℕ
  pub rest : List ℕ
  pub whole : front ++ rest ≡ bytes
  pub holds : Keeps old new ⊎ HasTable study front old new

-- the whole table at Ok, and no more than a front of it at Err
abbrev pub WritesTable : {E : Type 0} → Study → List ℕ → (old new : Option Held) → Result (Unit {0}) E → Type 0
WritesTable study bytes old new result = MatchResult result (λ _. HasTable study bytes old new) (λ _. HasFront study bytes old new)
