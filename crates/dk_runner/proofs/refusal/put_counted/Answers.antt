use Rattle.dk_outside.proofs.Carrying.{then}
use Rattle.dk_runner.proofs.refusal.put_counted.Goals as goal

pub returns : goal.returns
returns g c = then c.put.ensures (then c.put_number.ensures c.put-2.ensures)
