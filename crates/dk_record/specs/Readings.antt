-- What stands at the front of bytes that are read.
use Rattle.std.specs.Prelude.{◌≡◌, ℕ, ◌^◌, ◌<◌, ◌≤◌, Bool, true, false, List, ◌++◌, length, Option, Some, None, IfSome, IsTrue}
use Rattle.std.specs.List.{All}
use Rattle.dk_num.specs.Decimal.{Decimal, IsCanonical}
use Rattle.dk_types.specs.declared.study.Shape.{Shape}
use Rattle.dk_types.specs.declared.entry.Entry.{Entry}
use Rattle.dk_types.specs.declared.entry.Said.{Said}
use Rattle.dk_types.specs.declared.entry.Said.TheVariants.{Values, Failed}
use Rattle.dk_types.specs.Entries.{values_of}
use Rattle.dk_types.specs.Labels.{is_label}
use Rattle.dk_record.specs.declared.headers.StoredShape.{StoredShape}
use Rattle.dk_record.specs.declared.record.Decoded.{Decoded}
use Rattle.dk_record.specs.Payloads.{payload, header_payload, IsShape, IsStored}

-- the bytes of this thing, which is one of its kind, stand at the front, and this follows them
pub record Begins {A : Type 0} (IsOne : A → Type 0) (bytes_of : A → List ℕ) (bytes : List ℕ) (one : A) (rest : List ℕ) : Type 0 where
  pub is_one : IsOne one
  pub split : bytes ≡ bytes_of one ++ rest

-- the bytes of no such thing stand at the front
abbrev pub NoneBegins : {A : Type 0} → (IsOne : A → Type 0) → (bytes_of : A → List ℕ) → (bytes : List ℕ) → Type 0
NoneBegins {A} IsOne bytes_of bytes = (one : A) (rest : List ℕ) → Begins IsOne bytes_of bytes one rest → ⊥

-- two such things whose bytes begin one content are one, and so is what follows: none's are a proper front of another's
abbrev pub IsPrefixFree : {A : Type 0} → (IsOne : A → Type 0) → (bytes_of : A → List ℕ) → Type 0
IsPrefixFree {A} IsOne bytes_of = (one other : A) (rest others : List ℕ) →
    IsOne one → IsOne other → bytes_of one ++ rest ≡ bytes_of other ++ others → (one ≡ other) × (rest ≡ others)

-- so many decimals
pub record AreDecimals (count : ℕ) (ds : List Decimal) : Type 0 where
  pub long : length ds ≡ count
  pub each : All IsCanonical ds

-- the number of an attempt
pub record IsAttempt (attempt : ℕ) : Type 0 where
  pub first : 1 ≤ attempt
  pub last : attempt < 2 ^ 32

-- what an attempt may give, for so many responses
pub record IsSaid (responses : ℕ) (said : Said) : Type 0 where
  pub values_length : IfSome (values_of said) (λ values. length values ≡ responses)
  pub values : IfSome (values_of said) (λ values. All IsCanonical values)

-- how many labels a list may have
pub record IsCount (count : ℕ) : Type 0 where
  pub some : 1 ≤ count
  pub few : count ≤ 100

-- one label
abbrev pub IsLabel : List ℕ → Type 0
IsLabel label = IsTrue (is_label label)

-- so many labels
pub record HasLabels (count : ℕ) (labels : List (List ℕ)) : Type 0 where
  pub long : length labels ≡ count
  pub each : All IsLabel labels

-- the header's payload of this shape stands at the front, and has this length
pub record HasHeader (bytes : List ℕ) (shape : Shape) (size : ℕ) : Type 0 where
  pub rest : List ℕ
  pub begins : Begins IsShape header_payload bytes shape rest
  pub size_is : size ≡ length (header_payload shape)

-- the payload of this entry's record stands at the front, and has this length
pub record HasRecord (variables responses : ℕ) (bytes : List ℕ) (e : Entry) (size : ℕ) : Type 0 where
  pub rest : List ℕ
  pub begins : Begins (IsStored variables responses) payload bytes e rest
  pub size_is : size ≡ length (payload e)

-- what a reader of headers answers: the shape, or none exactly where no header's payload stands at the front
abbrev pub ReadsHeader : List ℕ → Option StoredShape → Type 0
ReadsHeader bytes None = NoneBegins IsShape header_payload bytes
ReadsHeader bytes (Some stored) = HasHeader bytes stored.shape stored.length

-- what an attempt gave: these values, or nothing
abbrev pub said_by : (gave : Bool) → List Decimal → Said
said_by true values = Values values
said_by false values = Failed

-- What a reader of records answers that leaves these decimals in its two slices: the one entry, or none exactly where no
-- record's payload of these widths stands at the front.
abbrev pub ReadsRecord : (variables responses : ℕ) → List ℕ → (point values : List Decimal) → Option Decoded → Type 0
ReadsRecord variables responses bytes point values None = NoneBegins (IsStored variables responses) payload bytes
ReadsRecord variables responses bytes point values (Some decoded) =
    HasRecord variables responses bytes (record { point = point; attempt = decoded.attempt; said = said_by decoded.values values }) decoded.length
