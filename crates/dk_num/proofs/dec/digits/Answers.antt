use Rattle.std.proofs.Common.{sym}
use Rattle.dk_num.proofs.Endings.{count_from}
use Rattle.dk_num.proofs.dec.digits.Goals as goal

pub returns-else-n-eq0-clause-count : goal.returns-else-n-eq0-clause-count
returns-else-n-eq0-clause-count c = sym (count_from c.args.n c.ilog10.result c.ilog10.ensures.power_le c.ilog10.ensures.next_power_gt)
