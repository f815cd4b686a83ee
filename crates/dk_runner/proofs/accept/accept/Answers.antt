use Rattle.std.proofs.Common.{sym, ◌∙◌, ap, Err}
use Rattle.dk_runner.proofs.Accepts.{refuses_long}
use Rattle.dk_runner.proofs.accept.accept.Goals as goal

pub returns-in-Err-TooLong-clause-has_reason : goal.returns-in-Err-TooLong-clause-has_reason
returns-in-Err-TooLong-clause-has_reason g c =
    let long = c.in-Err-TooLong.ensures.too_long in
    rw c.refused.ensures (sym c.usage_for.ensures ∙ c.in_default.is, refuses_long _ (long (ap Err c.in-Err-TooLong.field-0-is)))
