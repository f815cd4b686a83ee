use Rattle.std.proofs.Common.{rules}
use Rattle.dk_journal.proofs.Judged.{too_large_told, not_empty_told}
use Rattle.dk_journal.proofs.opening.read_in.Goals as goal

pub returns-then-length-limit-clause-refused : goal.returns-then-length-limit-clause-refused
returns-then-length-limit-clause-refused g c shape =
    too_large_told c.args.mode shape c.args.limit c.in-Ok-length.length (g.K.Disk.told c.args.disk.now) (g.K.Disk.told c.sync.new.self) (g.K.Disk.told c.length.new.self)
    c.in-Ok.ensures.syncs c.length.ensures.told c.in-Ok-length.ensures.length c.if-length-limit.true

pub returns-then-length-gt0-clause-refused : goal.returns-then-length-gt0-clause-refused
returns-then-length-gt0-clause-refused g c shape =
    not_empty_told c.args.mode shape c.args.limit c.in-Ok-length.length (g.K.Disk.told c.args.disk.now) (g.K.Disk.told c.sync.new.self) (g.K.Disk.told c.length.new.self)
    c.in-Ok.ensures.syncs c.length.ensures.told c.in-Ok-length.ensures.length (search rules) c.if-length-limit.false (search rules)
