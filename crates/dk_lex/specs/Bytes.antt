-- Which bytes pieces are made of.
-- After the section on the format of input files in Dakota's User's Manual, of ASCII texts alone.
use Rattle.std.specs.Prelude.{ℕ, Bool, false, List, [], ◌∷◌, ◌==◌, ◌&&◌, ◌||◌, not, nat_le}
use Rattle.std.specs.List.{list_all, take_while}

-- tab, line feed, carriage return and blank
abbrev pub is_space : ℕ → Bool
is_space b = b == 9 || b == 10 || b == 13 || b == 32

-- a comma or an equals sign
abbrev pub is_separator : ℕ → Bool
is_separator b = b == 44 || b == 61

-- a quote of either sort
abbrev pub is_quote : ℕ → Bool
is_quote b = b == 34 || b == 39

-- not a line feed
abbrev pub is_in_line : ℕ → Bool
is_in_line b = not (b == 10)

-- a visible byte that isn't a quote, a separator, a # or a backslash
abbrev pub is_word_byte : ℕ → Bool
is_word_byte b = nat_le 33 b && nat_le b 126 && not (is_quote b || is_separator b || b == 35 || b == 92)

-- what may stand between two quotes
abbrev pub is_string_byte : ℕ → ℕ → Bool
is_string_byte quote b = nat_le 32 b && nat_le b 126 && not (b == quote)

-- a byte that begins a number: a digit, a sign or a point
abbrev pub begins_number : ℕ → Bool
begins_number b = nat_le 48 b && nat_le b 57 || b == 43 || b == 45 || b == 46

-- only white space, backslashes among it, stands before the end of the line or of the text
abbrev pub ends_line : List ℕ → Bool
ends_line rest = list_all (λ b. is_space b || b == 92) (take_while is_in_line rest)

-- the first byte is white space. A backslash is, where only white space stands between it and its line's end
abbrev pub starts_white : List ℕ → Bool
starts_white [] = false
starts_white (b ∷ rest) = is_space b || b == 92 && ends_line rest
