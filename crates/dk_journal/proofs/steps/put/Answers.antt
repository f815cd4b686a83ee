use Rattle.std.proofs.Common.{is_ok}
use Rattle.dk_journal.proofs.Putting.{puts_nothing, puts_all}
use Rattle.dk_journal.proofs.steps.put.Goals as goal

pub returns-in-Ok-clause-puts : goal.returns-in-Ok-clause-puts
returns-in-Ok-clause-puts g c =
    puts_all (g.K.Disk.told c.args.disk.now) (g.K.Disk.told c.rewrite.new.disk) (g.K.Disk.told c.rewrite-in-Ok.new.disk) c.args.end c.args.piece.now (is_ok c.rewrite-in-Ok.result) c.in-Ok.ensures.leads c.rewrite-in-Ok.ensures.leads

pub returns-in-Err-clause-puts : goal.returns-in-Err-clause-puts
returns-in-Err-clause-puts g c =
    puts_nothing (g.K.Disk.told c.args.disk.now) (g.K.Disk.told c.rewrite.new.disk) c.args.end c.args.piece.now c.in-Err.ensures.leads
