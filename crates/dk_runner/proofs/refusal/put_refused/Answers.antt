use Rattle.dk_outside.proofs.Carrying.{then, same_bytes}
use Rattle.dk_runner.proofs.refusal.put_refused.Goals as goal

pub returns : goal.returns
returns g c =
    then c.put.ensures (then (same_bytes c.kind_name.ensures c.put-2.ensures) (then c.put-3.ensures (then c.put_number.ensures
    (then c.put-4.ensures (then c.put_number-2.ensures c.put-5.ensures)))))
