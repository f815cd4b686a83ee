use Rattle.dk_outside.proofs.Carrying.{then}
use Rattle.dk_report.proofs.summary.put_counts.Goals as goal

pub returns : goal.returns
returns g c = then c.put.ensures (then c.put_number.ensures (then c.put-2.ensures (then c.put_number-2.ensures (then c.put-3.ensures (then c.put_number-3.ensures c.put-4.ensures)))))
