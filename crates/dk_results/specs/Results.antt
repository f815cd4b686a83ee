-- What a results file comes to: the values of a study's responses, or a failure.
-- After the sections on the format of results files and on failure capturing in Dakota's User's Manual. This project's
-- own: `fail` counts at the front alone, in any case of its letters, and whatever isn't results is a failure.
use Rattle.std.specs.Prelude.{ℕ, zero, suc, Bool, false, List, [], ◌∷◌, drop, codes, Option, Some, None, option_map, Result, Ok, Err, ◌==◌, ◌||◌, if◌then◌else◌}
use Rattle.std.specs.Char.{is_ascii_alphabetic, eq_ignore_ascii_case}
use Rattle.std.specs.List.{prefix_len, starts_with}
use Rattle.dk_num.specs.Decimal.{Decimal}
use Rattle.dk_num.specs.Numbers.{read_of}
use Rattle.dk_num.specs.declared.read.NumFault.{NumFault}
use Rattle.dk_results.specs.Pieces.{is_space, pieces}
use Rattle.dk_results.specs.declared.reading.Reading.{Reading}
use Rattle.dk_results.specs.declared.reading.Reading.TheVariants.{Values, Failed}

abbrev pub behind_space : List ℕ → List ℕ
behind_space bytes = drop (prefix_len is_space bytes) bytes

-- the bytes begin with the word, in any case of its letters
abbrev pub begins_with_fail : List ℕ → Bool
begins_with_fail bytes = starts_with eq_ignore_ascii_case bytes (codes "fail")

-- they do so behind white space
abbrev pub says_fail : List ℕ → Bool
says_fail bytes = begins_with_fail (behind_space bytes)

-- a letter or _
abbrev pub begins_label : ℕ → Bool
begins_label b = is_ascii_alphabetic b || b == 95

abbrev pub is_label : List ℕ → Bool
is_label [] = false
is_label (b ∷ bs) = begins_label b

-- without the label at the front, where one stands there
abbrev pub behind_label : List (List ℕ) → List (List ℕ)
behind_label [] = []
behind_label (piece ∷ pieces) = if is_label piece then pieces else piece ∷ pieces

-- a number's value in front of the others, where there are all of them
abbrev pub in_front : Result Decimal NumFault → Option (List Decimal) → Option (List Decimal)
in_front (Ok value) values = option_map (λ others. value ∷ others) values
in_front (Err fault) values = None

-- the values of so many numbers, where the pieces are these, each with a label behind it or none
abbrev pub values_in : (count : ℕ) → List (List ℕ) → Option (List Decimal)
values_in zero [] = Some []
values_in zero (piece ∷ pieces) = None
values_in (suc count) [] = None
values_in (suc count) (piece ∷ pieces) = in_front (read_of piece) (values_in count (behind_label pieces))

-- the values that the bytes give to so many responses; none is a failure
unfoldable pub results_of : List ℕ → (count : ℕ) → Option (List Decimal)
results_of bytes count = if says_fail bytes then None else values_in count (pieces bytes)

-- what was read, by its answer and the values that were written
abbrev pub read_as : Reading → List Decimal → Option (List Decimal)
read_as Values values = Some values
read_as Failed values = None
