use Rattle.std.proofs.Common.{ap, sym}
use Rattle.dk_outside.proofs.Carrying.{same_bytes}
use Rattle.dk_runner.specs.Lines.{line}
use Rattle.dk_runner.specs.declared.status.Status.TheVariants.{SinkFault}
use Rattle.dk_runner.proofs.refusal.put_unwritten.Goals as goal

pub returns-in-Table : goal.returns-in-Table
returns-in-Table g c = same_bytes (ap (λ which. line (SinkFault which)) (sym c.in-Table.is)) c.put.ensures
