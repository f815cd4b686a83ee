use Rattle.dk_outside.proofs.Carrying.{then}
use Rattle.dk_report.proofs.summary.put_aborted.Goals as goal

pub returns : goal.returns
returns g c = then c.put.ensures (then c.put_number.ensures (then c.put-2.ensures (then c.put_number-2.ensures c.put-3.ensures)))
