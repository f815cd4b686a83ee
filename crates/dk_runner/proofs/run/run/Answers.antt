use Rattle.std.proofs.Common.{◌≡◌, [], ◌∷◌}
use Rattle.std.specs.Prelude.{map, string_bytes}
use Rattle.dk_runner.specs.Endings.{Scene, scene}
use Rattle.dk_runner.specs.Outsides.{outside_of}
use Rattle.dk_runner.proofs.Accepts.{without_table, without_driver}
use Rattle.dk_runner.proofs.Reported.{ends_so}
use Rattle.dk_runner.proofs.run.run.Goals as goal

pub returns-in-Ok-clause-no_table_asked : goal.returns-in-Ok-clause-no_table_asked
returns-in-Ok-clause-no_table_asked g c = without_table _ c.in-Ok.study c.in-Ok.ensures.has_reason.1 c.run_study.ensures.leaves_table

pub returns-in-Ok-clause-direct : goal.returns-in-Ok-clause-direct
returns-in-Ok-clause-direct g c = without_driver _ c.in-Ok.study c.in-Ok.ensures.has_reason.1 c.run_study.ensures.direct

pub returns-in-Ok-clause-ends : goal.returns-in-Ok-clause-ends
returns-in-Ok-clause-ends g c =
    let words = map string_bytes c.args.words.now in
    let at : Scene = scene words (g.S.Source.left c.args.source.now) (g.S.Source.faults c.args.source.now) (g.S.Source.faults c.accept.new.source)
    (g.T.Sink.held c.args.table.now) (g.T.Sink.held c.run_study.new.table) (g.T.Sink.faults c.args.table.now) (g.T.Sink.faults c.run_study.new.table)
    (g.U.Sink.held c.args.out.now) (g.U.Sink.held c.run_study.new.out) (g.U.Sink.faults c.args.out.now) (g.U.Sink.faults c.run_study.new.out) in
    let left = c.run_study.result in
    ends_so g.B.Bench.leaves at (outside_of g.K.Disk.told g.K.Disk.faults g.B.Bench.held g.B.Bench.faults c.args.mode c.args.restart left.restart left.book (c.args.bench ∷ []) (left.bench ∷ []))
    (c.run_study.new.table ≡ c.args.table.now) ((left.restart ≡ c.args.restart) × (left.bench ≡ c.args.bench)) c.in-Ok.study left.status c.in-Ok.ensures.has_reason c.run_study.ensures.ends
