-- What may be a label of a variable or a response.
use Rattle.std.specs.Prelude.{◌≤◌, ℕ, Bool, true, false, List, [], ◌∷◌, length, ◌==◌, ◌&&◌, ◌||◌, nat_le, IsTrue, not}
use Rattle.std.specs.List.{All, list_all, list_any}
use Rattle.std.specs.Char.{is_ascii_alphabetic}
use Rattle.std.specs.Str.{bytes_eq}

abbrev pub is_visible : ℕ → Bool
is_visible b = nat_le 33 b && nat_le b 126

-- an ASCII letter or _ at the front, visible bytes alone, and at most 255 of them
abbrev pub is_label : List ℕ → Bool
is_label [] = false
is_label (b ∷ bs) = (is_ascii_alphabetic b || b == 95) && list_all is_visible (b ∷ bs) && nat_le (length (b ∷ bs)) 255

-- no label stands twice
abbrev pub are_distinct : List (List ℕ) → Bool
are_distinct [] = true
are_distinct (label ∷ labels) = not (list_any (bytes_eq label) labels) && are_distinct labels

-- one to a hundred labels, no two of them the same
pub record AreLabels (labels : List (List ℕ)) : Type 0 where
  pub some : 1 ≤ length labels
  pub few : length labels ≤ 100
  pub each : All (λ label. IsTrue (is_label label)) labels
  pub distinct : IsTrue (are_distinct labels)
