use Rattle.std.proofs.Common.{rules}
use Rattle.dk_outside.proofs.Carrying.{arrives}
use Rattle.dk_runner.proofs.Saying.{says, says_only}
use Rattle.dk_runner.proofs.refusal.write_line.Goals as goal

pub returns-clause-says : goal.returns-clause-says
returns-clause-says g c = let told = says _ _ _ _ _ _ (arrives c.new-writer.ensures.carries_nothing c.put_line.ensures c.finish.ensures) in search rules

pub returns-clause-grows : goal.returns-clause-grows
returns-clause-grows g c = let told = says_only _ _ _ _ _ (says _ _ _ _ _ _ (arrives c.new-writer.ensures.carries_nothing c.put_line.ensures c.finish.ensures)) in search rules
