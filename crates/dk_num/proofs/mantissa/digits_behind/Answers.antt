use Rattle.std.proofs.Common.{arith}
use Rattle.dk_num.specs.Reading.{value_of}
use Rattle.dk_num.proofs.Numerals.{digit_at, digit_low, digit_small}
use Rattle.dk_num.proofs.Significands.{stepped, too_long}
use Rattle.dk_num.proofs.mantissa.digits_behind.Goals as goal

pub overflow_sub-digit : goal.overflow_sub-digit
overflow_sub-digit c = digit_low _ (digit_at c.args.digits.now c.loop-digit.digit-index c.requires.digits c.loop-digit-test.true)

pub behind-requires-clause-high : goal.behind-requires-clause-high
behind-requires-clause-high c = digit_small _ (digit_at c.args.digits.now c.loop-digit.digit-index c.requires.digits c.loop-digit-test.true)

pub returns-in-None-clause-is : goal.returns-in-None-clause-is
returns-in-None-clause-is c = too_long _ c.args.digits.now c.loop-digit.digit-index _ c.requires.digits c.loop-digit-test.true c.loop-digit.invariant.value c.in-None.ensures.is

pub loop-digit-preserved : goal.loop-digit-preserved
loop-digit-preserved c =
    let more = stepped (value_of c.args.number) c.args.digits.now c.loop-digit.digit-index c.loop-digit.all c.in-Some.more c.loop-digit-test.true c.loop-digit.invariant.value c.in-Some.ensures.is in
    record { value = more.0; is = more.1; zeros = omega (arith, c.in-Some.ensures) }
