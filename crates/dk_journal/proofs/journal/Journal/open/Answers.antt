use Rattle.dk_journal.proofs.Opens.{opened_exact, refused_exact}
use Rattle.dk_journal.specs.Journals.{JournalState}
use Rattle.std.proofs.Common.{true}
use Rattle.dk_journal.proofs.journal.Journal.open.Goals as goal

pub returns-in-Ok-clause-exact : goal.returns-in-Ok-clause-exact
returns-in-Ok-clause-exact g c =
    let journal : JournalState = record { told = g.K.Disk.told c.open_file.new.disk; faults = g.K.Disk.faults c.open_file.new.disk; shape = c.in-Ok.parts.shape; end = c.in-Ok.found.end; entries = c.in-Ok.found.count; limit = c.args.limit; whole = true } in
    opened_exact c.args.mode c.args.shape.now c.args.limit c.args.cards (g.K.Disk.told c.args.disk) journal c.in-Ok.found.book c.requires.shape c.in-Ok.ensures.opened

pub returns-in-Err-clause-exact : goal.returns-in-Err-clause-exact
returns-in-Err-clause-exact g c =
    refused_exact c.args.mode c.args.shape.now c.args.limit (g.K.Disk.told c.args.disk) (g.K.Disk.told c.open_file.new.disk) (g.K.Disk.faults c.args.disk) (g.K.Disk.faults c.open_file.new.disk) c.in-Err.fault c.in-Err.ensures.refused
