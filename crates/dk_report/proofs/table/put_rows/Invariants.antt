use Rattle.std.proofs.Common.{◌+◌, drop}
use Rattle.dk_types.specs.Texts.{row_lines}
use Rattle.dk_report.proofs.Parts.{Part}
use Rattle.dk_report.proofs.table.put_rows.Given as goal

abbrev pub invariant-loop-place : goal.invariant-loop-place
invariant-loop-place g l =
    Part g.T.Sink.held g.T.Sink.faults l.fn.writer l.writer
    (row_lines (l.place + 1) (drop l.place (g.R.Rows.rows l.rows))) (row_lines 1 (g.R.Rows.rows l.rows))
