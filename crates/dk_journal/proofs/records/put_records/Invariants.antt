use Rattle.std.proofs.Common.{length}
use Rattle.dk_journal.proofs.Walked.{IsUnderWay}
use Rattle.dk_journal.proofs.records.put_records.Given as goal

abbrev pub invariant-loop-behind : goal.invariant-loop-behind
invariant-loop-behind l = IsUnderWay l.fn.bytes l.fn.book l.rest l.count l.book

abbrev pub decreases-loop-behind : goal.decreases-loop-behind
decreases-loop-behind l = length l.rest
