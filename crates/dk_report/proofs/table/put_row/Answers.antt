use Rattle.dk_outside.proofs.Carrying.{then}
use Rattle.dk_report.proofs.table.put_row.Goals as goal

pub returns : goal.returns
returns g c = then c.put_number.ensures (then c.put.ensures (then c.put_decimals.ensures (then c.put_decimals-2.ensures c.put-2.ensures)))
