use Rattle.std.proofs.Common.{◌≡◌, length}
use Rattle.dk_measure.proofs.attempts.attempt_rows.Given as goal

abbrev pub invariant-loop-place : goal.invariant-loop-place
invariant-loop-place g l = length l.point ≡ length l.station.task.variables
