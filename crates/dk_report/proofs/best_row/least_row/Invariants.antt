use Rattle.dk_report.proofs.BestRows.{IsFirstLeast}
use Rattle.dk_report.proofs.best_row.least_row.Given as goal

abbrev pub invariant-loop-place : goal.invariant-loop-place
invariant-loop-place g l = IsFirstLeast (g.R.Rows.rows l.rows) l.place l.least
