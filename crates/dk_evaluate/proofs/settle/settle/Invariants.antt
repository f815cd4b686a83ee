use Rattle.std.proofs.Common.{◌≡◌, ◌≤◌, length}
use Rattle.std.specs.Prelude.{slice_get}
use Rattle.dk_types.specs.declared.study.Driver.TheVariants.{Direct}
use Rattle.dk_evaluate.proofs.Settling.{IsSettling, left_of}
use Rattle.dk_evaluate.proofs.settle.settle.Given as goal

abbrev pub invariant-loop-given : goal.invariant-loop-given
invariant-loop-given g l = record {
  settling : IsSettling g.B.Bench.leaves l.initial.station.task l.row l.rule l.point l.initial.ledger.book l.ledger.book l.initial.ledger.journal l.ledger.journal (g.B.Bench.held l.initial.station.bench) (g.B.Bench.held l.station.bench) l.card.index;
  values : length l.values ≡ length l.initial.values;
  task : l.station.task ≡ l.initial.station.task;
  slot : l.station.slot ≡ l.initial.station.slot;
  direct : l.initial.station.task.interface.driver ≡ Direct → l.station.bench ≡ l.initial.station.bench;
  after : g.B.Bench.after l.initial.station.bench l.station.bench;
  later : g.B.Bench.faults l.initial.station.bench ≤ g.B.Bench.faults l.station.bench;
}

abbrev pub decreases-loop-given : goal.decreases-loop-given
decreases-loop-given g l = left_of l.rule (slice_get l.ledger.book.cards l.card.index)
