use Rattle.dk_params.specs.Params.{task_of}
use Rattle.dk_params.proofs.Bounded.{covered}
use Rattle.dk_params.proofs.study.params_bound.Goals as goal

pub returns-clause-covers : goal.returns-clause-covers
returns-clause-covers c = covered (task_of c.args.study.now) c.most_bytes.result c.requires.variables c.requires.responses (cc)
