-- What the bytes of a restart file stand for.
use Rattle.std.specs.Prelude.{◌≡◌, ℕ, ◌+◌, ◌<◌, List, [], ◌∷◌, ◌++◌, length}
use Rattle.std.specs.List.{All, sum_by}
use Rattle.dk_types.specs.declared.study.Shape.{Shape}
use Rattle.dk_types.specs.declared.entry.Entry.{Entry}
use Rattle.dk_types.specs.Entries.{AreEntries}
use Rattle.dk_record.specs.Payloads.{payload, header_payload, IsStored}

-- no entry was ever kept in it: it has at most one byte, or begins with a closed gate
abbrev pub IsUnborn : List ℕ → Type 0
IsUnborn [] = Unit {0}
IsUnborn (gate ∷ []) = Unit {0}
IsUnborn (gate ∷ byte ∷ bytes) = gate ≡ 0

-- an open gate and the payload of each entry in turn
pub data AreRecords : List Entry → List ℕ → Type 0 where
  none : AreRecords [] []
  more : (gate : ℕ) (e : Entry) (entries : List Entry) (bytes : List ℕ) → 0 < gate → AreRecords entries bytes →
      AreRecords (e ∷ entries) (gate ∷ (payload e ++ bytes))

-- an open gate, the header of the shape, and the records of the entries
pub record IsFront (shape : Shape) (entries : List Entry) (bytes : List ℕ) : Type 0 where
  pub gate : ℕ
  pub is_open : 0 < gate
  pub records : List ℕ
  pub are_records : AreRecords entries records
  pub split : bytes ≡ gate ∷ (header_payload shape ++ records)

-- a well-formed list of entries that records can hold
pub record AreKept (shape : Shape) (entries : List Entry) : Type 0 where
  pub well_formed : AreEntries (length shape.variables) (length shape.responses) entries
  pub stored : All (IsStored (length shape.variables) (length shape.responses)) entries

-- such a front and a closed gate, whatever follows
pub record IsBorn (shape : Shape) (bytes : List ℕ) (entries : List Entry) : Type 0 where
  pub front : List ℕ
  pub rest : List ℕ
  pub is_front : IsFront shape entries front
  pub split : bytes ≡ front ++ 0 ∷ rest
  pub kept : AreKept shape entries

-- the bytes stand for the entries
pub data Stands (shape : Shape) (bytes : List ℕ) : List Entry → Type 0 where
  unborn : IsUnborn bytes → Stands shape bytes []
  born : (entries : List Entry) → IsBorn shape bytes entries → Stands shape bytes entries

-- how many bytes the gates, the header and the records take
abbrev pub used : Shape → List Entry → ℕ
used shape entries = 2 + (length (header_payload shape) + sum_by (λ e. 1 + length (payload e)) entries)
