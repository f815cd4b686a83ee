use Rattle.dk_method.proofs.Quantities.{moved_read, moved_small}
use Rattle.dk_method.proofs.vector.stepped.Goals as goal

pub returns-clause-value : goal.returns-clause-value
returns-clause-value c = moved_read c.args.from c.args.count c.args.step c.requires.from c.requires.step c.requires.count

pub returns-clause-small : goal.returns-clause-small
returns-clause-small c =
    rw (moved_read c.args.from c.args.count c.args.step c.requires.from c.requires.step c.requires.count)
    (moved_small c.args.from c.args.count c.args.step c.requires.from c.requires.step c.requires.count)
