use Rattle.std.proofs.Common.{sym, subst}
use Rattle.dk_evaluate.specs.Evaluated.{Runs}
use Rattle.dk_evaluate.proofs.Running.{runs_start}
use Rattle.dk_evaluate.proofs.evaluation.evaluate.Goals as goal

pub returns-clause-ends : goal.returns-clause-ends
returns-clause-ends g c = λ before keeps.
    let start = runs_start g.B.Bench.leaves c.args.study.now c.args.ledger.journal (g.B.Bench.held c.args.station.now.bench) before c.args.ledger.book c.requires.opened.of_study keeps in
    c.evaluate_batches-verdict.ensures.ends c.args.ledger.journal (g.B.Bench.held c.args.station.now.bench) before
    (subst (Runs g.B.Bench.leaves c.args.study.now c.args.ledger.journal (g.B.Bench.held c.args.station.now.bench) before c.args.ledger.book c.args.ledger.journal (g.B.Bench.held c.args.station.now.bench)) (sym c.requires.prepared.none) start)
