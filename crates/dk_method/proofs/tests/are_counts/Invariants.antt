use Rattle.std.proofs.Common.{ℕ, ◌<◌, get_or}
use Rattle.dk_types.specs.Sound.{IsBetween}
use Rattle.dk_method.proofs.tests.are_counts.Given as goal

abbrev pub invariant-loop-count : goal.invariant-loop-count
invariant-loop-count l = (k : ℕ) → k < l.count-index → IsBetween l.least 10000 (get_or l.counts k 0)
