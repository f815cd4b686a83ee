use Rattle.std.proofs.Common.{ap}
use Rattle.dk_outside.proofs.Carrying.{then, same_bytes}
use Rattle.dk_types.specs.Texts.{settings}
use Rattle.dk_report.proofs.summary.put_best_lines.Goals as goal

pub returns : goal.returns
returns g c =
    then c.put.ensures (then c.put_number.ensures (then c.put-2.ensures (then (same_bytes (ap (λ labels. settings labels c.args.point.now) c.items.ensures) c.put_settings.ensures)
    (then c.put-3.ensures (then (same_bytes (ap (λ labels. settings labels c.args.values.now) c.items-2.ensures) c.put_settings-2.ensures) c.put-4.ensures)))))
