use Rattle.dk_outside.proofs.Carrying.{then, same_bytes}
use Rattle.dk_report.proofs.summary.put_finished.Goals as goal

pub returns : goal.returns
returns g c = then c.put.ensures (then (same_bytes c.why_name.ensures c.put-2.ensures) c.put-3.ensures)
