use Rattle.std.proofs.Common.{◌-◌, length}
use Rattle.std.specs.Prelude.{map, string_bytes}
use Rattle.dk_words.specs.Sorting.{IsSorted}
use Rattle.dk_words.proofs.words.find_options.Given as goal

abbrev pub invariant-loop-word : goal.invariant-loop-word
invariant-loop-word l = IsSorted (map string_bytes l.words) l.found

abbrev pub decreases-loop-word : goal.decreases-loop-word
decreases-loop-word l = length l.words - l.found.count
