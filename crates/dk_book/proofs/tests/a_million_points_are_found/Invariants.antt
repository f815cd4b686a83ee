use Rattle.std.proofs.Common.{◌≡◌}
use Rattle.dk_book.proofs.tests.a_million_points_are_found.Given as goal

abbrev pub invariant-loop-index : goal.invariant-loop-index
invariant-loop-index g l = l.book.variables ≡ 1
