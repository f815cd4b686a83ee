use Rattle.std.proofs.Common.{◌+◌, is_ok, subst, arith}
use Rattle.std.proofs.lemmas.Grind.{take-set_at}
use Rattle.dk_journal.specs.Rests.{Puts}
use Rattle.dk_journal.proofs.steps.put_front.Goals as goal

pub returns-clause-puts : goal.returns-clause-puts
returns-clause-puts g c =
    subst (λ bytes. Puts (g.K.Disk.told c.args.disk.now) (g.K.Disk.told c.put.new.disk) c.args.end bytes (is_ok c.put.result)) (take-set_at c.args.buffer.now c.args.size (c.args.size + 1) 0 (omega arith) c.requires.size) c.put.ensures.puts
