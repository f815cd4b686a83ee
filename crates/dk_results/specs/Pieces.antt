-- The pieces of a results file: what stands between white space, once its comments are taken off.
-- After the section on the format of results files in Dakota's User's Manual. That comments may stand there is this
-- project's own.
use Rattle.std.specs.Prelude.{ℕ, Bool, true, false, List, [], ◌∷◌, ◌==◌, ◌||◌, not, if◌then◌else◌}
use Rattle.std.specs.List.{filter, flat_map, take_while}

-- tab, line feed, carriage return and blank
abbrev pub is_space : ℕ → Bool
is_space b = b == 9 || b == 10 || b == 13 || b == 32

abbrev pub is_line_feed : ℕ → Bool
is_line_feed b = b == 10

-- a #
abbrev pub begins_comment : ℕ → Bool
begins_comment b = b == 35

-- a byte in front of the first part
abbrev pub onto : ℕ → List (List ℕ) → List (List ℕ)
onto b [] = (b ∷ []) ∷ []
onto b (part ∷ parts) = (b ∷ part) ∷ parts

-- the parts between bytes of this sort, empty ones too
abbrev pub parts_between : (ℕ → Bool) → List ℕ → List (List ℕ)
parts_between ends [] = [] ∷ []
parts_between ends (b ∷ bs) = if ends b then [] ∷ parts_between ends bs else onto b (parts_between ends bs)

abbrev pub without_comment : List ℕ → List ℕ
without_comment line = take_while (λ b. not (begins_comment b)) line

abbrev pub has_bytes : List ℕ → Bool
has_bytes [] = false
has_bytes (b ∷ bs) = true

abbrev pub pieces_of_line : List ℕ → List (List ℕ)
pieces_of_line line = filter has_bytes (parts_between is_space (without_comment line))

-- the pieces of all lines, in order
unfoldable pub pieces : List ℕ → List (List ℕ)
pieces bytes = flat_map pieces_of_line (parts_between is_line_feed bytes)
