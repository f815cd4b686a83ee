use Rattle.std.proofs.Common.{refl}
use Rattle.dk_outside.proofs.Carrying.{passes, breaks}
use Rattle.dk_outside.proofs.writer.Writer.pass.Goals as goal

pub returns-in-Ok : goal.returns-in-Ok
returns-in-Ok g c = record { same = refl; carries = rw c.if-self.false (passes _ _ _ _ _ _ c.requires c.in-Ok.ensures.bytes c.in-Ok.ensures.cause.later) }

pub returns-in-Err : goal.returns-in-Err
returns-in-Err g c =
    record { same = refl; carries = rw c.if-self.false (breaks _ _ _ _ _ _ c.requires c.in-Err.ensures.bytes c.in-Err.ensures.cause.later c.in-Err.ensures.cause.failed) }
