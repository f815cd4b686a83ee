use Rattle.std.specs.Prelude.{map, string_bytes}
use Rattle.dk_runner.specs.Checked.{Stage, stage}
use Rattle.dk_runner.proofs.CheckTold.{refusal_told, accepted_told}
use Rattle.dk_runner.proofs.checks.check.Goals as goal

pub returns-clause-refusal_told : goal.returns-clause-refusal_told
returns-clause-refusal_told g c =
    let at : Stage = stage (map string_bytes c.args.words.now) (g.S.Source.left c.args.study.now) (g.S.Source.faults c.args.study.now) (g.S.Source.faults c.check_study.new.source)
    (g.U.Sink.held c.args.out.now) (g.U.Sink.held c.check_study.new.out) (g.U.Sink.faults c.args.out.now) (g.U.Sink.faults c.check_study.new.out) in
    λ is source. refusal_told at c.check_study.result c.check_study.ensures.ends is source

pub returns-clause-accepted_told : goal.returns-clause-accepted_told
returns-clause-accepted_told g c =
    let at : Stage = stage (map string_bytes c.args.words.now) (g.S.Source.left c.args.study.now) (g.S.Source.faults c.args.study.now) (g.S.Source.faults c.check_study.new.source)
    (g.U.Sink.held c.args.out.now) (g.U.Sink.held c.check_study.new.out) (g.U.Sink.faults c.args.out.now) (g.U.Sink.faults c.check_study.new.out) in
    λ is source out. accepted_told at c.check_study.result c.check_study.ensures.ends is source out
