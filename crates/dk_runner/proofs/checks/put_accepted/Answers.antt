use Rattle.std.proofs.Common.{ℕ, List, ap, length}
use Rattle.std.specs.Prelude.{decimal}
use Rattle.dk_outside.proofs.Carrying.{then, same_bytes}
use Rattle.dk_runner.proofs.checks.put_accepted.Goals as goal

pub returns : goal.returns
returns g c =
    then c.put.ensures (then (same_bytes (ap (λ (l : List (List ℕ)). decimal (length l)) c.items.ensures) c.put_number.ensures)
    (then c.put-2.ensures (then (same_bytes (ap (λ (l : List (List ℕ)). decimal (length l)) c.items-2.ensures) c.put_number-2.ensures) (then c.put-3.ensures (then c.put_number-3.ensures c.put-4.ensures)))))
