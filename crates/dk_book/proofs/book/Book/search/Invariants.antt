use Rattle.dk_book.proofs.Searched.{IsWalk, left}
use Rattle.dk_book.proofs.book.Book.search.Given as goal

abbrev pub invariant-loop-next : goal.invariant-loop-next
invariant-loop-next l = IsWalk l.self-inside.points.rows l.point l.next

abbrev pub decreases-loop-next : goal.decreases-loop-next
decreases-loop-next l = left l.next
