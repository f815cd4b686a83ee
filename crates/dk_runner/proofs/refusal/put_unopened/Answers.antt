use Rattle.dk_outside.proofs.Carrying.{then}
use Rattle.dk_runner.proofs.refusal.put_unopened.Goals as goal

pub returns : goal.returns
returns g c = then c.put.ensures (then c.put_refusal.ensures c.put-2.ensures)
