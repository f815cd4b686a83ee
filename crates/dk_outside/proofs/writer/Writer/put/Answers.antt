use Rattle.dk_outside.proofs.Carrying.{then}
use Rattle.dk_outside.proofs.writer.Writer.put.Goals as goal

pub returns : goal.returns
returns g c = then c.send.ensures.puts_nothing c.put_alone.ensures
