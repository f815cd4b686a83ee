use Rattle.dk_outside.proofs.Carrying.{then, same_bytes}
use Rattle.dk_runner.proofs.refusal.put_bench.Goals as goal

pub returns : goal.returns
returns g c = then c.put.ensures (then c.put_number.ensures (then c.put-2.ensures (then (same_bytes c.step_name.ensures c.put-3.ensures) c.put-4.ensures)))
