use Rattle.std.proofs.Common.{is_ok}
use Rattle.dk_journal.proofs.Bearing.{room_short, shut_short, begins_short}
use Rattle.dk_journal.proofs.birth.begin.Goals as goal

pub bear-requires-in-Ok : goal.bear-requires-in-Ok
bear-requires-in-Ok g c =
    room_short (g.K.Disk.told c.shut.new.disk) (shut_short (g.K.Disk.told c.args.disk.now) (g.K.Disk.told c.shut.new.disk) c.args.size c.requires c.if-size-gt-SHORT.false c.in-Ok.ensures.shuts)

pub returns-in-Ok-clause-begins : goal.returns-in-Ok-clause-begins
returns-in-Ok-clause-begins g c =
    begins_short (g.K.Disk.told c.args.disk.now) (g.K.Disk.told c.shut.new.disk) (g.K.Disk.told c.bear-in-Ok.new.disk) c.args.size c.args.header.now (is_ok c.bear-in-Ok.result) c.if-size-gt-SHORT.false c.in-Ok.ensures.shuts c.bear-in-Ok.ensures.bears
