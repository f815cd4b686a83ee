use Rattle.dk_outside.specs.Benches.{Contents}
use Rattle.dk_types.specs.declared.study.Driver.TheVariants.{Direct}
use Rattle.std.proofs.Common.{◌≡◌, ◌≤◌, Option, ◌-◌, length, List}
use Rattle.dk_types.specs.declared.entry.Entry.{Entry}
use Rattle.dk_types.specs.Limits.{limit}
use Rattle.dk_types.specs.Planned.{AnswersLast}
use Rattle.dk_journal.specs.Journals.{JournalState}
use Rattle.dk_evaluate.specs.Evaluated.{IsOpen, Runs}
use Rattle.dk_evaluate.specs.Turns.{IsSoFar}
use Rattle.dk_evaluate.proofs.evaluation.evaluate_batches.Given as goal

abbrev pub invariant-loop-why : goal.invariant-loop-why
invariant-loop-why g l = record {
  study_is : g.P.Planner.study l.planning ≡ l.study;
  answered : AnswersLast (g.P.Planner.was_given l.planning) (g.P.Planner.batch l.planning) l.run.table.rows.rows;
  opened : IsOpen l.study l.run.ledger.book l.run.ledger.journal;
  so_far : IsSoFar l.study l.run.ledger.book l.run.table;
  runs : (start : JournalState) (bench : Option Contents) (before : List Entry) → Runs g.B.Bench.leaves l.study start bench before l.initial.run.ledger.book l.initial.run.ledger.journal (g.B.Bench.held l.initial.station.bench) l.initial.run.table.rows.rows →
      Runs g.B.Bench.leaves l.study start bench before l.run.ledger.book l.run.ledger.journal (g.B.Bench.held l.station.bench) l.run.table.rows.rows;
  task : l.station.task ≡ l.initial.station.task;
  slot : l.station.slot ≡ l.initial.station.slot;
  direct : l.study.interface.driver ≡ Direct → l.station.bench ≡ l.initial.station.bench;
  after : g.B.Bench.after l.initial.station.bench l.station.bench;
  later : g.B.Bench.faults l.initial.station.bench ≤ g.B.Bench.faults l.station.bench;
}

abbrev pub decreases-loop-why : goal.decreases-loop-why
decreases-loop-why g l = limit l.study - length l.run.table.rows.rows
