use Rattle.std.proofs.Common.{rules, ◌-ℤ◌, pos, to_z, of_z, w32}
use Rattle.dk_num.proofs.Leading.{within_unit}
use Rattle.dk_num.proofs.units.unit_of.Goals as goal

pub returns-clause-holds_all : goal.returns-clause-holds_all
returns-clause-holds_all c =
    within_unit c.args.numbers.now (to_z w32 (of_z w32 (to_z w32 (of_z w32 c.unwrap_or-leading.result) -ℤ pos 28))) (search rules)
