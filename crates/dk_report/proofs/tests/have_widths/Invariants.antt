use Rattle.std.proofs.Common.{ℕ, ◌<◌, get_or}
use Rattle.dk_types.specs.declared.rows.Row.{Row}
use Rattle.dk_types.specs.Widths.{HasWidths}
use Rattle.dk_report.proofs.tests.have_widths.Given as goal

abbrev pub invariant-loop-row : goal.invariant-loop-row
invariant-loop-row l = (k : ℕ) (d : Row) → k < l.row-index → HasWidths l.study (get_or l.rows k d)
