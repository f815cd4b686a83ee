use Rattle.dk_params.proofs.Bounded.{covered}
use Rattle.dk_params.proofs.task.Task.params_bound.Goals as goal

pub returns-clause-covers : goal.returns-clause-covers
returns-clause-covers c = covered c.args.self.now c.most_bytes.result c.requires.variables c.requires.responses (cc)
