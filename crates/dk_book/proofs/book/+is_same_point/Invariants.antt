use Rattle.std.proofs.Common.{length}
use Rattle.dk_book.proofs.book.+is_same_point.Given as goal

abbrev pub decreases-is_same_point : goal.decreases-is_same_point
decreases-is_same_point l = length l.point.now
