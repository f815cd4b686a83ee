use Rattle.dk_num.proofs.UnitLaws.{leads_from, leads_below}
use Rattle.dk_num.proofs.laws.values.leading_is_the_first_power.Goals as goal

pub returns-clause-starts_there : goal.returns-clause-starts_there
returns-clause-starts_there c = leads_from

pub returns-clause-stays_below_the_next : goal.returns-clause-stays_below_the_next
returns-clause-stays_below_the_next c = leads_below
