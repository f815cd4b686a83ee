use Rattle.std.proofs.Common.{◌≡◌, ℕ, [], None, Some, ap, refl, sym, ◌∙◌, subst}
use Rattle.dk_evaluate.specs.Attempted.{IsItsFault}
use Rattle.dk_runner.specs.Endings.{Scene, scene, EndsStudy, SaysLine}
use Rattle.dk_runner.specs.Outsides.{Outside, outside}
use Rattle.dk_runner.specs.declared.status.Status.TheVariants.{NoMemory}
use Rattle.dk_runner.proofs.Over.{ended, unprepared, unopened, same_outside}
use Rattle.dk_runner.proofs.over_file.run_study.Goals as goal

pub returns-in-Ok-prepare-clause-ends : goal.returns-in-Ok-prepare-clause-ends
returns-in-Ok-prepare-clause-ends g c =
    let study = c.args.study.now in
    let leaves = g.B.Bench.leaves in
    let held = g.B.Bench.held in
    let counts = g.B.Bench.faults in
    let mode = c.args.mode in
    let old = g.K.Disk.told c.args.restart in
    let before = g.K.Disk.faults c.args.restart in
    let untouched = c.report.new.table ≡ c.args.table.now in
    let left = c.report.result in
    let o = c.in-Ok.ensures.opened in
    let ran = c.evaluate-ran.result in
    let first = c.in-Ok-station.station.bench in
    let last = c.evaluate-ran.new.station.bench in
    let at : Scene = scene [] None 0 0 (g.T.Sink.held c.args.table.now) (g.T.Sink.held c.report.new.table) (g.T.Sink.faults c.args.table.now) (g.T.Sink.faults c.report.new.table)
    (g.U.Sink.held c.args.out.now) (g.U.Sink.held c.report.new.out) (g.U.Sink.faults c.args.out.now) (g.U.Sink.faults c.report.new.out) in
    let e = ended leaves study c.requires.sound mode old before c.in-Ok.ledger.journal c.in-Ok.ledger.book o c.in-Ok.ensures.over c.in-Ok.ensures.later (held first) (counts first) at untouched
    ran.ledger.journal ran.ledger.book (held last) (counts last) c.evaluate-ran.ensures.later c.evaluate-ran.ensures.variables c.evaluate-ran.ensures.responses ran.verdict ran.rows.rows left.status
    (c.evaluate-ran.ensures.ends o.entries (record { stands = o.stands_for; holds = o.holds })) (λ stop is. subst (λ (slot : ℕ). IsItsFault slot (counts first) (counts last) stop) c.in-Ok-station.ensures.slot (c.evaluate-ran.ensures.cause stop is)) c.report.ensures.reports in
    let bench = c.report.ensures.bench ∙ c.give_back.ensures in
    subst (λ (x : Outside). EndsStudy leaves study at x untouched left.status)
    (same_outside mode old ran.ledger.journal.told (g.K.Disk.told left.restart) before ran.ledger.journal.faults (g.K.Disk.faults left.restart) (Some ran.ledger.book) left.book (held first) (held c.args.bench) (held last) (held left.bench)
    (counts first) (counts c.args.bench) (counts last) (counts left.bench) c.report.ensures.told c.report.ensures.faults c.report.ensures.book (ap held (sym c.in-Ok-station.ensures.bench)) (ap held bench) (ap counts (sym c.in-Ok-station.ensures.bench)) (ap counts bench)) e

pub returns-in-Err-prepare-clause-ends : goal.returns-in-Err-prepare-clause-ends
returns-in-Err-prepare-clause-ends g c =
    let study = c.args.study.now in
    let leaves = g.B.Bench.leaves in
    let held = g.B.Bench.held in
    let counts = g.B.Bench.faults in
    let mode = c.args.mode in
    let old = g.K.Disk.told c.args.restart in
    let before = g.K.Disk.faults c.args.restart in
    let untouched = c.args.table.now ≡ c.args.table.now in
    let left = c.stop.result in
    let o = c.in-Ok.ensures.opened in
    let journal = c.in-Ok.ledger.journal in
    let first = c.in-Ok-station.station.bench in
    let at : Scene = scene [] None 0 0 (g.T.Sink.held c.args.table.now) (g.T.Sink.held c.args.table.now) (g.T.Sink.faults c.args.table.now) (g.T.Sink.faults c.args.table.now)
    (g.U.Sink.held c.args.out.now) (g.U.Sink.held c.stop.new.out) (g.U.Sink.faults c.args.out.now) (g.U.Sink.faults c.stop.new.out) in
    let e = unprepared leaves study c.requires.sound mode old before journal c.in-Ok.ledger.book o c.in-Ok.ensures.over c.in-Ok.ensures.later (held first) (counts first) at untouched o.variables o.responses refl c.stop.ensures.says in
    let bench = c.stop.ensures.bench ∙ c.give_back-in-Err-prepare.ensures in
    subst (λ status. EndsStudy leaves study at (outside mode old (g.K.Disk.told left.restart) before (g.K.Disk.faults left.restart) left.book (held c.args.bench) (held left.bench) (counts c.args.bench) (counts left.bench)) untouched status) (sym c.stop.ensures.status)
    (subst (λ (x : Outside). EndsStudy leaves study at x untouched NoMemory)
    (same_outside mode old journal.told (g.K.Disk.told left.restart) before journal.faults (g.K.Disk.faults left.restart) (Some c.in-Ok.ledger.book) left.book (held first) (held c.args.bench) (held first) (held left.bench)
    (counts first) (counts c.args.bench) (counts first) (counts left.bench) c.stop.ensures.told c.stop.ensures.faults c.stop.ensures.book (ap held (sym c.in-Ok-station.ensures.bench)) (ap held bench) (ap counts (sym c.in-Ok-station.ensures.bench)) (ap counts bench)) e)

pub returns-in-Err-station-clause-ends : goal.returns-in-Err-station-clause-ends
returns-in-Err-station-clause-ends g c =
    let study = c.args.study.now in
    let leaves = g.B.Bench.leaves in
    let held = g.B.Bench.held in
    let counts = g.B.Bench.faults in
    let mode = c.args.mode in
    let old = g.K.Disk.told c.args.restart in
    let before = g.K.Disk.faults c.args.restart in
    let untouched = c.args.table.now ≡ c.args.table.now in
    let left = c.stop-in-Err-station.result in
    let ensures = c.stop-in-Err-station.ensures in
    let o = c.in-Ok.ensures.opened in
    let journal = c.in-Ok.ledger.journal in
    let first = c.args.bench in
    let at : Scene = scene [] None 0 0 (g.T.Sink.held c.args.table.now) (g.T.Sink.held c.args.table.now) (g.T.Sink.faults c.args.table.now) (g.T.Sink.faults c.args.table.now)
    (g.U.Sink.held c.args.out.now) (g.U.Sink.held c.stop-in-Err-station.new.out) (g.U.Sink.faults c.args.out.now) (g.U.Sink.faults c.stop-in-Err-station.new.out) in
    let e = unprepared leaves study c.requires.sound mode old before journal c.in-Ok.ledger.book o c.in-Ok.ensures.over c.in-Ok.ensures.later (held first) (counts first) at untouched o.variables o.responses refl ensures.says in
    let bench = ensures.bench ∙ c.in-Err-station.ensures.given_back in
    subst (λ status. EndsStudy leaves study at (outside mode old (g.K.Disk.told left.restart) before (g.K.Disk.faults left.restart) left.book (held first) (held left.bench) (counts first) (counts left.bench)) untouched status) (sym ensures.status)
    (subst (λ (x : Outside). EndsStudy leaves study at x untouched NoMemory)
    (same_outside mode old journal.told (g.K.Disk.told left.restart) before journal.faults (g.K.Disk.faults left.restart) (Some c.in-Ok.ledger.book) left.book (held first) (held first) (held first) (held left.bench)
    (counts first) (counts first) (counts first) (counts left.bench) ensures.told ensures.faults ensures.book refl (ap held bench) refl (ap counts bench)) e)

pub returns-in-Err-clause-ends : goal.returns-in-Err-clause-ends
returns-in-Err-clause-ends g c =
    let study = c.args.study.now in
    let leaves = g.B.Bench.leaves in
    let held = g.B.Bench.held in
    let counts = g.B.Bench.faults in
    let mode = c.args.mode in
    let old = g.K.Disk.told c.args.restart in
    let before = g.K.Disk.faults c.args.restart in
    let refused = c.in-Err.field-0 in
    let new = g.K.Disk.told refused.disk in
    let now = g.K.Disk.faults refused.disk in
    let untouched = c.args.table.now ≡ c.args.table.now in
    let bench = c.args.bench in
    let at : Scene = scene [] None 0 0 (g.T.Sink.held c.args.table.now) (g.T.Sink.held c.args.table.now) (g.T.Sink.faults c.args.table.now) (g.T.Sink.faults c.args.table.now)
    (g.U.Sink.held c.args.out.now) (g.U.Sink.held c.refuse.new.out) (g.U.Sink.faults c.args.out.now) (g.U.Sink.faults c.refuse.new.out) in
    let line = subst (SaysLine at) c.status_of_open.ensures c.refuse.ensures.says in
    let e = unopened leaves study mode old new before now (held bench) (counts bench) refused.fault at untouched c.in-Err.ensures.refused c.in-Err.ensures.over c.in-Err.ensures.later refl line in
    subst (EndsStudy leaves study at (outside mode old new before now None (held bench) (held bench) (counts bench) (counts bench)) untouched) (sym (c.refuse.ensures.status ∙ c.status_of_open.ensures)) e

pub station-requires-clause-together : goal.station-requires-clause-together
station-requires-clause-together g c = λ row. c.requires.together _ _
