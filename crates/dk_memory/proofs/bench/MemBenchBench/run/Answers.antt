use Rattle.std.proofs.Common.{◌≡◌, List, ℕ, Some, subst}
use Rattle.dk_outside.specs.Benches.{start_of}
use Rattle.dk_memory.specs.Files.{look}
use Rattle.dk_memory.specs.BenchStates.{BenchState, contents, Ran}
use Rattle.dk_memory.proofs.Benching.{ran_starts}
use Rattle.dk_memory.proofs.bench.MemBenchBench.run.Goals as goal

pub returns-in-Ok-clause-ran : goal.returns-in-Ok-clause-ran
returns-in-Ok-clause-ran g c =
    let call = c.args.call.now in
    subst (λ (s : BenchState). (bytes : List ℕ) → look s.files call.parameters.now ≡ Some bytes →
    Ran g.F.Child.leaves (contents s.files s.runs) (contents c.run_child.new.files.items c.run_child.new.runs.items) (start_of call.driver.now call.parameters.now call.results.now bytes call.attempt))
    c.self.view_is c.in-Ok.ensures.ran

pub returns-in-Ok-clause-runs : goal.returns-in-Ok-clause-runs
returns-in-Ok-clause-runs g c = λ bytes is. ran_starts _ _ _ _ (returns-in-Ok-clause-ran g c bytes is)
