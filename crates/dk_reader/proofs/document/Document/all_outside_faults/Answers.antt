use Rattle.dk_reader.specs.Steps.{outside_faults}
use Rattle.dk_reader.proofs.First.{found_at, none_at}
use Rattle.dk_reader.proofs.document.Document.all_outside_faults.Goals as goal

pub returns-in-Some : goal.returns-in-Some
returns-in-Some c = found_at (outside_faults c.args.self.now) c.loop-place.place c.variable_count-place-end.result c.loop-place-test.true c.in-Some.fault _ c.in-Some.ensures c.loop-place.invariant

pub loop-place-preserved : goal.loop-place-preserved
loop-place-preserved c = none_at (outside_faults c.args.self.now) c.loop-place.place c.variable_count-place-end.result c.loop-place-test.true _ c.in_default.ensures c.loop-place.invariant
