use Rattle.dk_report.proofs.Repeated.{HasCounted}
use Rattle.dk_report.proofs.repeats.repeat_count.Given as goal

abbrev pub invariant-loop-place : goal.invariant-loop-place
invariant-loop-place g l = HasCounted (g.R.Rows.rows l.rows) l.place l.count
