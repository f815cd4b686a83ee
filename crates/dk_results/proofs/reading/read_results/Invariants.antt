use Rattle.std.proofs.Common.{length}
use Rattle.dk_results.proofs.Walks.{IsUnderWay}
use Rattle.dk_results.proofs.reading.read_results.Given as goal

abbrev pub invariant-loop-place : goal.invariant-loop-place
invariant-loop-place l = IsUnderWay l.bytes (length l.fn.out) l.out l.place l.rest
