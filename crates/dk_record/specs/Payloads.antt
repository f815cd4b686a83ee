-- The bytes of a restart file's parts.
use Rattle.std.specs.Prelude.{◌≡◌, ℕ, ◌+◌, ◌*◌, ◌^◌, ◌<◌, ◌≤◌, List, [], ◌∷◌, ◌++◌, length, codes, IfSome}
use Rattle.std.specs.List.{All, flat_map}
use Rattle.std.specs.Int.{w16, w32, w128, to_le_bytes, cast_unsigned}
use Rattle.dk_num.specs.Decimal.{Decimal, IsCanonical}
use Rattle.dk_types.specs.declared.study.Shape.{Shape}
use Rattle.dk_types.specs.declared.entry.Entry.{Entry}
use Rattle.dk_types.specs.declared.entry.Said.{Said}
use Rattle.dk_types.specs.declared.entry.Said.TheVariants.{Values, Failed}
use Rattle.dk_types.specs.Entries.{values_of}
use Rattle.dk_types.specs.Labels.{AreLabels}

-- the mantissa in 16 bytes and the exponent in 2, both in two's complement, the lowest byte first
abbrev pub decimal_bytes : Decimal → List ℕ
decimal_bytes d = to_le_bytes w128 (cast_unsigned w128 d.mantissa) ++ to_le_bytes w16 (cast_unsigned w16 d.exponent)

-- a kind byte, 1 before values and 0 for an attempt that failed, and the values that were given
abbrev pub said_bytes : Said → List ℕ
said_bytes (Values values) = 1 ∷ flat_map decimal_bytes values
said_bytes Failed = 0 ∷ []

-- the payload of an entry's record: the point, the attempt in 4 bytes, and what it gave
abbrev pub payload : Entry → List ℕ
payload e = flat_map decimal_bytes e.point ++ (to_le_bytes w32 e.attempt ++ said_bytes e.said)

-- a label behind its length
abbrev pub label_bytes : List ℕ → List ℕ
label_bytes label = length label ∷ label

-- how many labels there are, in 2 bytes, and the labels
abbrev pub labels_bytes : List (List ℕ) → List ℕ
labels_bytes labels = to_le_bytes w16 (length labels) ++ flat_map label_bytes labels

-- the payload of a file's header
abbrev pub header_payload : Shape → List ℕ
header_payload shape = codes "DKRSTv1\n" ++ (labels_bytes shape.variables ++ labels_bytes shape.responses)

-- labels that a header can hold
pub record IsShape (shape : Shape) : Type 0 where
  pub variables : AreLabels shape.variables
  pub responses : AreLabels shape.responses

-- an entry that a record can hold, for so many variables and responses
pub record IsStored (variables responses : ℕ) (e : Entry) : Type 0 where
  pub point_length : length e.point ≡ variables
  pub point : All IsCanonical e.point
  pub first : 1 ≤ e.attempt
  pub last : e.attempt < 2 ^ 32
  pub values_length : IfSome (values_of e.said) (λ values. length values ≡ responses)
  pub values : IfSome (values_of e.said) (λ values. All IsCanonical values)

-- how many bytes a payload has, for a point of so many decimals
abbrev pub payload_size : (variables : ℕ) → Said → ℕ
payload_size variables (Values values) = 18 * variables + 5 + 18 * length values
payload_size variables Failed = 18 * variables + 5
