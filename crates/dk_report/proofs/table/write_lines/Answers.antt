use Rattle.std.proofs.Common.{rules}
use Rattle.dk_outside.proofs.Carrying.{then, arrives}
use Rattle.dk_report.proofs.table.write_lines.Goals as goal

pub returns-clause-bytes : goal.returns-clause-bytes
returns-clause-bytes g c = let there = arrives c.new-writer.ensures.carries_nothing (then c.put_header.ensures c.put_rows.ensures) c.finish.ensures in search rules

pub returns-clause-cause : goal.returns-clause-cause
returns-clause-cause g c = let there = arrives c.new-writer.ensures.carries_nothing (then c.put_header.ensures c.put_rows.ensures) c.finish.ensures in search rules
