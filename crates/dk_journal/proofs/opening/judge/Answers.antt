use Rattle.dk_journal.proofs.Judged.{found_ok}
use Rattle.dk_journal.proofs.opening.judge.Goals as goal

pub returns-else-is_unborn-clause-found : goal.returns-else-is_unborn-clause-found
returns-else-is_unborn-clause-found g c =
    found_ok c.args.shape.now c.args.cards c.args.bytes.now (g.K.Disk.told c.args.disk.now) c.take_over.result c.requires.rests c.take_over.ensures.found
