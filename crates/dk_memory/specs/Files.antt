-- Files in memory, and what a child leaves.
use Rattle.std.specs.Prelude.{◌≡◌, ◌≢◌, ℕ, ◌≤◌, List, take, Option, Some, None, option_map}
use Rattle.std.specs.List.{find}
use Rattle.std.specs.Str.{bytes_eq}
use Rattle.dk_memory.specs.declared.files.File.{File}
use Rattle.dk_memory.specs.declared.child.Left.{Left}
use Rattle.dk_memory.specs.declared.child.Left.TheVariants.{Nothing, Bytes}

-- the bytes of the first file of this name
abbrev pub look : List File → List ℕ → Option (List ℕ)
look files name = option_map (λ file. file.bytes) (find (λ file. bytes_eq file.name name) files)

-- the file of this name is so now, and all others are as before
pub record AreSet (old new : List File) (name : List ℕ) (content : Option (List ℕ)) : Type 0 where
  pub others : (other : List ℕ) → other ≢ name → look new other ≡ look old other
  pub file : look new name ≡ content

-- what a child left: the first bytes of the buffer, or no file
abbrev pub left_of : Left → List ℕ → Option (List ℕ)
left_of Nothing buffer = None
left_of (Bytes n) buffer = Some (take n buffer)

-- there is room for it
abbrev pub IsWithin : Left → (room : ℕ) → Type 0
IsWithin Nothing room = Unit {0}
IsWithin (Bytes n) room = n ≤ room

-- what stands then in the results file: what was left, or what stood there before
abbrev pub left_over : (left before : Option (List ℕ)) → Option (List ℕ)
left_over (Some bytes) before = Some bytes
left_over None before = before
