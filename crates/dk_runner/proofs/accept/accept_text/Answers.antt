use Rattle.dk_runner.specs.Accepted.{faulty}
use Rattle.dk_runner.proofs.accept.accept_text.Goals as goal

pub returns-in-Err-Study-clause-has_verdict : goal.returns-in-Err-Study-clause-has_verdict
returns-in-Err-Study-clause-has_verdict c =
    rw c.in-Err-Study.fault-is (faulty c.in-Err-Study.fault c.requires (rw (c.in-Err-Study.is, c.in-Err-Study.field-0-is) at c.read_study.ensures.says_study_or_fault))
