-- The names of an evaluation's two files (Dakota Reference Manual, `file_tag`).
use Rattle.std.specs.Prelude.{ℕ, Bool, List, ◌++◌, codes, decimal, nat_lt, ◌||◌, if◌then◌else◌}
use Rattle.dk_types.specs.declared.study.Interface.{Interface}

-- files are told apart by their row where the study says so, or where several evaluations may run at once
abbrev pub is_tagged : Interface → Bool
is_tagged interface = interface.tag || nat_lt 1 interface.concurrency

-- a period and the row, counted from 1, behind the name
abbrev pub name_of : (tagged : Bool) → (name : List ℕ) → (row : ℕ) → List ℕ
name_of tagged name row = if tagged then name ++ (codes "." ++ decimal row) else name

abbrev pub file_name : Interface → (name : List ℕ) → (row : ℕ) → List ℕ
file_name interface name row = name_of (is_tagged interface) name row
