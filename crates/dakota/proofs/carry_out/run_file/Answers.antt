use Rattle.dk_runner.proofs.FirstBench.{all_together}
use Rattle.dakota.proofs.carry_out.run_file.Goals as goal

pub dakota-ended-requires-clause-together : goal.dakota-ended-requires-clause-together
dakota-ended-requires-clause-together g c = all_together _ _ (λ bench parameters results. tt)
