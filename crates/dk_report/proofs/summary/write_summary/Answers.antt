use Rattle.std.proofs.Common.{rules}
use Rattle.dk_outside.proofs.Carrying.{then, same_bytes, arrives}
use Rattle.dk_types.specs.Texts.{counts_line}
use Rattle.dk_report.proofs.Parts.{both}
use Rattle.dk_report.proofs.summary.write_summary.Goals as goal

pub returns-clause-bytes : goal.returns-clause-bytes
returns-clause-bytes g c =
    let counts = same_bytes (both counts_line c.count.ensures c.repeat_count.ensures.value) c.put_counts.ensures in
    let there = arrives c.new-writer.ensures.carries_nothing (then c.put_ending.ensures (then counts c.put_best.ensures)) c.finish.ensures in
    search rules

pub returns-clause-cause : goal.returns-clause-cause
returns-clause-cause g c =
    let there = arrives c.new-writer.ensures.carries_nothing (then c.put_ending.ensures (then c.put_counts.ensures c.put_best.ensures)) c.finish.ensures in
    search rules
