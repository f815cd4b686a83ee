use Rattle.std.proofs.Common.{ap, sym}
use Rattle.dk_outside.proofs.Carrying.{same_bytes}
use Rattle.dk_runner.specs.Lines.{refusal_text}
use Rattle.dk_runner.proofs.refusal.put_refusal.Goals as goal

pub returns-in-NotEmpty : goal.returns-in-NotEmpty
returns-in-NotEmpty g c = same_bytes (ap refusal_text (sym c.in-NotEmpty.is)) c.put_counted.ensures

pub returns-in-NotARestart : goal.returns-in-NotARestart
returns-in-NotARestart g c = same_bytes (ap refusal_text (sym c.in-NotARestart.is)) c.put.ensures

pub returns-in-Damaged : goal.returns-in-Damaged
returns-in-Damaged g c = same_bytes (ap refusal_text (sym c.in-Damaged.is)) c.put_counted-in-Damaged.ensures

pub returns-in-TooLarge : goal.returns-in-TooLarge
returns-in-TooLarge g c = same_bytes (ap refusal_text (sym c.in-TooLarge.is)) c.put_counted-in-TooLarge.ensures
