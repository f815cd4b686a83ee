-- Which variable of a centered study is moved.
use Rattle.std.specs.Prelude.{◌≡◌, ℕ, ◌==◌, ◌≤◌, ◌<◌, List, length, get_or, if◌then◌else◌, pos, unsigned_abs}
use Rattle.dk_types.specs.Points.{offsets}
use Rattle.dk_method.specs.declared.centered.Move.{Move}

-- in move k this variable is moved by so many steps, and no other one is
pub record IsMove (counts : List ℕ) (k : ℕ) (move : Move) : Type 0 where
  pub variable : move.variable < length counts
  pub few : unsigned_abs move.offset ≤ 10000
  pub alone : (j : ℕ) → j < length counts → get_or (offsets counts k) j (pos 0) ≡ (if j == move.variable then move.offset else pos 0)
