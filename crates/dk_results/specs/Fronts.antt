-- What stands at the front of a text, byte by byte.
use Rattle.std.specs.Prelude.{◌≡◌, ℕ, suc, Bool, false, ◌||◌, not, List, [], ◌∷◌, None, option_map, IsTrue}
use Rattle.dk_num.specs.Decimal.{Decimal}
use Rattle.dk_results.specs.Pieces.{is_space, is_line_feed, begins_comment, pieces}
use Rattle.dk_results.specs.Results.{values_in}

-- a byte that no white space and no comment begins with
abbrev pub is_piece_byte : ℕ → Bool
is_piece_byte b = not (is_space b || begins_comment b)

-- not a line feed
abbrev pub is_in_line : ℕ → Bool
is_in_line b = not (is_line_feed b)

-- a byte of white space is at the front
abbrev pub begins_space : List ℕ → Bool
begins_space [] = false
begins_space (b ∷ bs) = is_space b

-- a piece is at the front, or nothing
abbrev pub BeginsPiece : List ℕ → Type 0
BeginsPiece [] = Unit {0}
BeginsPiece (b ∷ bs) = IsTrue (is_piece_byte b)

-- behind white space and comments stand a number of this value, with the label behind it if there is one, and the rest
abbrev pub BeginsValue : List ℕ → (value : Decimal) → (rest : List ℕ) → Type 0
BeginsValue bytes value rest = (count : ℕ) → values_in (suc count) (pieces bytes) ≡ option_map (λ others. value ∷ others) (values_in count (pieces rest))

-- no number stands there
abbrev pub BeginsNoValue : List ℕ → Type 0
BeginsNoValue bytes = (count : ℕ) → values_in (suc count) (pieces bytes) ≡ None
