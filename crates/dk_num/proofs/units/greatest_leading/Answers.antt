use Rattle.dk_num.proofs.Leading.{greatest_step, greatest_end, greatest_moderate}
use Rattle.dk_num.proofs.units.greatest_leading.Goals as goal

pub loop-number-preserved : goal.loop-number-preserved
loop-number-preserved c =
    rw (c.greater-greatest.ensures, c.leading.ensures)
    (rw (← c.number-item.is) at (greatest_step c.args.numbers.now c.loop-number.number-index c.loop-number.greatest c.number-item.result c.loop-number-test.true c.loop-number.invariant))

pub returns-clause-value : goal.returns-clause-value
returns-clause-value c = greatest_end _ _ _ c.loop-number-test.false c.loop-number.invariant

pub returns-clause-moderate : goal.returns-clause-moderate
returns-clause-moderate c = rw (greatest_end _ _ _ c.loop-number-test.false c.loop-number.invariant) (greatest_moderate _ c.requires)
