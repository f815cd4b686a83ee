-- What holds of the bytes of restart files.
use Rattle.std.specs.Prelude.{◌≡◌, ℕ, ◌+◌, List, [], ◌∷◌, ◌++◌, length, Option, Some}
use Rattle.dk_num.specs.Decimal.{Decimal}
use Rattle.dk_types.specs.declared.study.Shape.{Shape}
use Rattle.dk_types.specs.declared.entry.Entry.{Entry}
use Rattle.dk_record.specs.declared.headers.StoredShape.{StoredShape}
use Rattle.dk_record.specs.declared.record.Decoded.{Decoded}
use Rattle.dk_record.specs.Payloads.{payload, header_payload, IsShape, IsStored}
use Rattle.dk_record.specs.Readings.{IsPrefixFree, ReadsHeader, ReadsRecord, said_by}
use Rattle.dk_record.specs.Files.{IsFront, IsBorn, Stands, used}

-- no header's payload is a proper front of another's, and none is that of two shapes
abbrev pub HeadersArePrefixFree : Type 0
HeadersArePrefixFree = IsPrefixFree IsShape header_payload

-- no record's payload is a proper front of another's of the same widths, and none is that of two entries
abbrev pub PayloadsArePrefixFree : Type 0
PayloadsArePrefixFree = (variables responses : ℕ) → IsPrefixFree (IsStored variables responses) payload

-- a header that was written is read again, whatever follows it
abbrev pub HeadersAreReadAgain : Type 0
HeadersAreReadAgain = (shape : Shape) (rest : List ℕ) (answer : Option StoredShape) → IsShape shape →
    ReadsHeader (header_payload shape ++ rest) answer → answer ≡ Some (record { shape = shape; length = length (header_payload shape) })

-- what a reader of records told is this entry, and all of its payload was read
pub record Tells (e : Entry) (point values : List Decimal) (answer : Option Decoded) : Type 0 where
  pub decoded : Decoded
  pub is_some : answer ≡ Some decoded
  pub entry : record { point = point; attempt = decoded.attempt; said = said_by decoded.values values } ≡ e
  pub size : decoded.length ≡ length (payload e)

-- a record that was written is read again, whatever follows it
abbrev pub RecordsAreReadAgain : Type 0
RecordsAreReadAgain = (variables responses : ℕ) (e : Entry) (rest : List ℕ) (point values : List Decimal) (answer : Option Decoded) →
    IsStored variables responses e → ReadsRecord variables responses (payload e ++ rest) point values answer → Tells e point values answer

-- bytes stand for one list of entries at most
abbrev pub BytesStandForOneList : Type 0
BytesStandForOneList = (shape : Shape) (bytes : List ℕ) (entries others : List Entry) → Stands shape bytes entries → Stands shape bytes others → entries ≡ others

-- a file that was born is that of one shape
abbrev pub FilesHaveOneShape : Type 0
FilesHaveOneShape = (shape other : Shape) (bytes : List ℕ) (entries others : List Entry) →
    IsShape shape → IsShape other → IsBorn shape bytes entries → IsBorn other bytes others → shape ≡ other

-- no bytes, one byte, and a closed gate with whatever behind it stand for no entries, and for nothing else
abbrev pub UnbornFilesStandForNone : Type 0
UnbornFilesStandForNone = (shape : Shape) → Stands shape [] []
    × ((byte : ℕ) → Stands shape (byte ∷ []) [])
    × ((rest : List ℕ) → Stands shape (0 ∷ rest) [])
    × ((byte : ℕ) (entries : List Entry) → Stands shape (byte ∷ []) entries → entries ≡ [])
    × ((rest : List ℕ) (entries : List Entry) → Stands shape (0 ∷ rest) entries → entries ≡ [])

-- the end gate is the last byte of those that are used
abbrev pub EndGateIsTheLastUsed : Type 0
EndGateIsTheLastUsed = (shape : Shape) (entries : List Entry) (front : List ℕ) → IsFront shape entries front → length front + 1 ≡ used shape entries
