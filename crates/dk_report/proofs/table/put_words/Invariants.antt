use Rattle.std.proofs.Common.{drop}
use Rattle.dk_types.specs.Texts.{words_text}
use Rattle.dk_report.proofs.Parts.{Part}
use Rattle.dk_report.proofs.table.put_words.Given as goal

abbrev pub invariant-loop-word : goal.invariant-loop-word
invariant-loop-word g l =
    Part g.T.Sink.held g.T.Sink.faults l.fn.writer l.writer
    (words_text (drop l.word-index l.words)) (words_text l.words)
