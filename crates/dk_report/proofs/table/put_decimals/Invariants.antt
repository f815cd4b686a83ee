use Rattle.std.proofs.Common.{drop}
use Rattle.dk_types.specs.Texts.{decimals_text}
use Rattle.dk_report.proofs.Parts.{Part}
use Rattle.dk_report.proofs.table.put_decimals.Given as goal

abbrev pub invariant-loop-decimal : goal.invariant-loop-decimal
invariant-loop-decimal g l =
    Part g.T.Sink.held g.T.Sink.faults l.fn.writer l.writer
    (decimals_text (drop l.decimal-index l.decimals)) (decimals_text l.decimals)
