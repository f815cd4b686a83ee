use Rattle.std.proofs.Common.{◌≡◌, ◌≢◌, ℕ, ◌-◌, ◌≤◌, List, None, take, length, vec_len, vec_capacity}
use Rattle.dk_memory.specs.Files.{look}
use Rattle.dk_memory.proofs.files.remove.Given as goal

abbrev pub invariant-places : goal.invariant-places
invariant-places l = record {
  within : l.place ≤ length l.files.items;
  others : (other : List ℕ) → other ≢ l.name → look l.files.items other ≡ look l.initial.files.items other;
  none : look (take l.place l.files.items) l.name ≡ None;
  len : vec_len l.files ≤ vec_len l.initial.files;
  capacity : vec_capacity l.files ≡ vec_capacity l.initial.files;
}

abbrev pub decreases-places : goal.decreases-places
decreases-places l = length l.files.items - l.place
