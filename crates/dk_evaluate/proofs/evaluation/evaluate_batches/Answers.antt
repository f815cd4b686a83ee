use Rattle.std.proofs.Common.{◌≡◌, ◌∙◌, Some, refl, sym, ap}
use Rattle.dk_types.specs.declared.study.Study.{Study}
use Rattle.dk_types.specs.Planned.{plan}
use Rattle.dk_evaluate.proofs.Evaluations.{batch_is, end_is, fewer_left}
use Rattle.dk_evaluate.proofs.Running.{runs_over}
use Rattle.dk_evaluate.proofs.Trying.{its_fault_later}
use Rattle.dk_evaluate.proofs.evaluation.evaluate_batches.Goals as goal

pub returns-in-Finished-clause-ends : goal.returns-in-Finished-clause-ends
returns-in-Finished-clause-ends g c = λ start bench before was.
    let rows = c.loop-why.run.table.rows.rows in
    let planned : plan c.args.study.now rows ≡ c.next.result = sym (c.next.ensures.plan ∙ ap (λ (s : Study). plan s rows) c.loop-why.invariant.study_is) in
    runs_over g.B.Bench.leaves c.args.study.now start bench before c.loop-why.run.ledger.book c.loop-why.run.ledger.journal (g.B.Bench.held c.loop-why.station.bench) rows c.in-Finished.why (c.loop-why.invariant.runs start bench before was)
    (end_is c.args.study.now rows c.in-Finished.why (planned ∙ c.in-Finished.is))

pub returns-in-Some-clause-cause : goal.returns-in-Some-clause-cause
returns-in-Some-clause-cause g c = λ stop is.
    let faults = g.B.Bench.faults in
    let inv = c.loop-why.invariant in
    its_fault_later c.args.station.now.slot c.loop-why.station.slot (faults c.args.station.now.bench) (faults c.loop-why.station.bench) (faults c.evaluate_batch.new.station.bench) stop inv.slot inv.later (c.in-Some.ensures.cause stop (ap Some is))

pub loop-why-smaller : goal.loop-why-smaller
loop-why-smaller g c =
    let rows = c.loop-why.run.table.rows.rows in
    let planned : plan c.args.study.now rows ≡ c.next.result = sym (c.next.ensures.plan ∙ ap (λ (s : Study). plan s rows) c.loop-why.invariant.study_is) in
    let batch = batch_is c.args.study.now rows c.in-Batch.first c.in-Batch.count (planned ∙ c.in-Batch.is) in
    fewer_left c.args.study.now rows c.evaluate_batch.new.run.table.rows.rows batch.point c.requires.sound batch.next_is (c.in_default.ensures.answers refl)
