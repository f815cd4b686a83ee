use Rattle.std.proofs.Common.{rules}
use Rattle.dk_outside.proofs.Carrying.{arrives}
use Rattle.dk_runner.proofs.Saying.{grows_only, front_only}
use Rattle.dk_runner.proofs.checks.write_accepted.Goals as goal

pub returns-in-Ok-clause-grows : goal.returns-in-Ok-clause-grows
returns-in-Ok-clause-grows g c = let there = grows_only _ _ _ (arrives c.new-writer.ensures.carries_nothing c.put_accepted.ensures c.in-Ok.ensures).written in search rules

pub returns-in-Ok-clause-tells : goal.returns-in-Ok-clause-tells
returns-in-Ok-clause-tells g c = let there = (arrives c.new-writer.ensures.carries_nothing c.put_accepted.ensures c.in-Ok.ensures).written in search rules

pub returns-in-Err-clause-grows : goal.returns-in-Err-clause-grows
returns-in-Err-clause-grows g c = let there = front_only _ _ _ (arrives c.new-writer.ensures.carries_nothing c.put_accepted.ensures c.in-Err.ensures).written in search rules

pub returns-in-Err-clause-tells : goal.returns-in-Err-clause-tells
returns-in-Err-clause-tells g c = let there = arrives c.new-writer.ensures.carries_nothing c.put_accepted.ensures c.in-Err.ensures in search rules
