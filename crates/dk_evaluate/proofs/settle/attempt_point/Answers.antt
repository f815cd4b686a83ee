use Rattle.std.proofs.Common.{◌∙◌, length, ap, sym}
use Rattle.dk_params.specs.declared.task.Task.{Task}
use Rattle.dk_evaluate.proofs.Trying.{wide_as, made_by, broke_by, attempted_by}
use Rattle.dk_evaluate.specs.Attempted.{said_as}
use Rattle.dk_evaluate.proofs.settle.attempt_point.Goals as goal

pub returns-in-Ok-clause-attempted : goal.returns-in-Ok-clause-attempted
returns-in-Ok-clause-attempted g c =
    let task = c.args.station.now.task in
    let held = g.B.Bench.held in
    let reading = c.in-Ok.reading in
    let values = c.attempt.new.self.values in
    let made = made_by g.B.Bench.leaves task c.args.job.now.row c.args.point.now c.args.job.now.attempt values task.interface.driver reading (held c.args.station.now.bench) (held c.attempt.new.self.bench) c.in-Ok.ensures.child
    (λ is. let d = c.in-Ok.ensures.direct is in (ap held d.0, d.1)) in
    attempted_by g.B.Bench.leaves task c.args.job.now.row c.args.card.index c.args.point.now c.args.job.now.attempt (said_as reading values) c.args.ledger.now.book c.keep_reading.new.ledger.book c.args.ledger.now.journal c.keep_reading.new.ledger.journal
    (held c.args.station.now.bench) (held c.attempt.new.self.bench) c.keep_reading.result (wide_as reading values c.args.ledger.now.book.responses (c.in-Ok.ensures.width ∙ ap (λ (t : Task). length t.responses) c.in-Ok.ensures.task ∙ sym c.requires.responses)) made c.keep_reading.ensures.kept
