use Rattle.std.proofs.Common.{◌∙◌}
use Rattle.dk_outside.proofs.Carrying.{then, same_bytes}
use Rattle.dk_report.proofs.summary.put_setting.Goals as goal

pub returns : goal.returns
returns g c = then (same_bytes (c.as_bytes.ensures.value ∙ c.as_str.ensures) c.put.ensures) (then c.put-2.ensures c.put_decimal.ensures)
