use Rattle.std.proofs.Common.{◌≡◌}
use Rattle.dk_book.proofs.tests.points_of_one_hash_are_told_apart.Given as goal

abbrev pub invariant-loop-first : goal.invariant-loop-first
invariant-loop-first g l = l.book.variables ≡ 2
