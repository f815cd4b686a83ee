use Rattle.std.proofs.Common.{rules}
use Rattle.dk_journal.proofs.Judged.{found_begun}
use Rattle.dk_journal.proofs.opening.start.Goals as goal

pub returns-in-Ok-begin-clause-found : goal.returns-in-Ok-begin-clause-found
returns-in-Ok-begin-clause-found g c =
    found_begun c.args.shape.now c.args.cards c.args.bytes.now c.in-Ok-empty_file.file.items c.len.result (g.K.Disk.told c.args.disk.now) (g.K.Disk.told c.begin.new.disk) c.in-Ok.book
    (search rules) c.requires.unborn c.requires.rests c.in-Ok-empty_file.ensures (search rules) (search rules)
