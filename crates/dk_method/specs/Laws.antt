-- What is true of the points of vector, list, centered and multidimensional studies, in the subject's words.
use Rattle.std.specs.Prelude.{◌≡◌, ℕ, ◌+◌, ◌-◌, ◌*◌, ◌^◌, ◌<◌, ◌≤◌, List, [], ◌∷◌, length, replicate, set, get_or, take, sum, ℤ, pos, unsigned_abs, int_lt, if◌then◌else◌}
use Rattle.std.specs.List.{All}
use Rattle.dk_types.specs.declared.study.Study.{Study}
use Rattle.dk_types.specs.Limits.{grid_size}
use Rattle.dk_types.specs.Points.{choices, offsets, size, units_at}
use Rattle.dk_types.specs.Sound.{IsSound}

-- a number of units that an i128 holds with room to spare
abbrev pub IsSmall : ℤ → Type 0
IsSmall k = unsigned_abs k < 10 ^ 34

abbrev pub EachQuantityIsSmall : Type 0
EachQuantityIsSmall = (study : Study) (i : ℕ) → IsSound study → i < size study → All IsSmall (units_at study i)

-- this variable is moved by so many steps, and no other one is
abbrev pub IsMovedAlone : (counts : List ℕ) → (k variable : ℕ) → (steps : ℤ) → Type 0
IsMovedAlone counts k variable steps = offsets counts k ≡ set (replicate (length counts) (pos 0)) variable steps

-- at least one step, back or on, and at most as many as the variable's count
pub record IsReach (counts : List ℕ) (variable : ℕ) (steps : ℤ) : Type 0 where
  pub inside : variable < length counts
  pub some : 1 ≤ unsigned_abs steps
  pub few : unsigned_abs steps ≤ get_or counts variable 0

-- how many moves of a variable come before the one by so many steps: from as many steps back as it may go up to one step
-- back, then from one step on up to as many on
abbrev pub moves_before : (count : ℕ) → (steps : ℤ) → ℕ
moves_before count steps = if int_lt steps (pos 0) then count - unsigned_abs steps else count + unsigned_abs steps - 1

-- the place of a move: behind all moves of the variables before this one
abbrev pub place_of_move : (counts : List ℕ) → (variable : ℕ) → (steps : ℤ) → ℕ
place_of_move counts variable steps = 2 * sum (take variable counts) + moves_before (get_or counts variable 0) steps

-- just one move has this variable alone moved by so many steps, the one at its place
pub record IsMovedOnce (counts : List ℕ) (variable : ℕ) (steps : ℤ) : Type 0 where
  pub number : ℕ
  pub at : number ≡ place_of_move counts variable steps
  pub within : number < 2 * sum counts
  pub alone : IsMovedAlone counts number variable steps
  pub only : (k : ℕ) → k < 2 * sum counts → IsMovedAlone counts k variable steps → k ≡ number

-- a move has one variable moved, and by so many steps
pub record MovesOne (counts : List ℕ) (k : ℕ) : Type 0 where
  pub variable : ℕ
  pub steps : ℤ
  pub reach : IsReach counts variable steps
  pub alone : IsMovedAlone counts k variable steps

pub record HasEachMove (counts : List ℕ) : Type 0 where
  pub once : (variable : ℕ) (steps : ℤ) → IsReach counts variable steps → IsMovedOnce counts variable steps
  pub no_other : (k : ℕ) → k < 2 * sum counts → MovesOne counts k

abbrev pub EachMoveOnce : Type 0
EachMoveOnce = (counts : List ℕ) → HasEachMove counts

-- one of the numbers 0 up to its partitions for each variable
abbrev pub AreChoices : (partitions ks : List ℕ) → Type 0
AreChoices [] [] = Unit {0}
AreChoices [] (k ∷ ks) = ⊥
AreChoices (p ∷ partitions) [] = ⊥
AreChoices (p ∷ partitions) (k ∷ ks) = (k ≤ p) × AreChoices partitions ks

-- the place of some choices in the grid: the first variable varies fastest
abbrev pub place : (partitions ks : List ℕ) → ℕ
place [] ks = 0
place (p ∷ partitions) [] = 0
place (p ∷ partitions) (k ∷ ks) = k + (p + 1) * place partitions ks

-- these choices are made at their place in the grid, and at no other one
pub record AreMadeOnce (partitions ks : List ℕ) : Type 0 where
  pub within : place partitions ks < grid_size partitions
  pub made : choices partitions (place partitions ks) ≡ ks
  pub only : (i : ℕ) → i < grid_size partitions → choices partitions i ≡ ks → i ≡ place partitions ks

-- at this place of the grid stand choices, whose place it is
pub record MakesChoices (partitions : List ℕ) (i : ℕ) : Type 0 where
  pub are : AreChoices partitions (choices partitions i)
  pub at : place partitions (choices partitions i) ≡ i

pub record HasEachChoice (partitions : List ℕ) : Type 0 where
  pub once : (ks : List ℕ) → AreChoices partitions ks → AreMadeOnce partitions ks
  pub no_other : (i : ℕ) → i < grid_size partitions → MakesChoices partitions i

abbrev pub EachChoiceOnce : Type 0
EachChoiceOnce = (partitions : List ℕ) → HasEachChoice partitions
