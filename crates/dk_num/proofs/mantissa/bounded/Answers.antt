use Rattle.std.proofs.Common.{◌∙◌, ap, sym, min, ◌^◌, lit<, ◌-◌, get_or, take}
use Rattle.dk_num.specs.Numbers.{numeral_value}
use Rattle.dk_num.proofs.Numerals.{digit_at, digit_low, digit_small, after_more, bounded_more}
use Rattle.dk_num.proofs.mantissa.bounded.Goals as goal

pub overflow_sub-digit : goal.overflow_sub-digit
overflow_sub-digit c = digit_low _ (digit_at c.args.digits.now c.loop-digit.digit-index c.requires c.loop-digit-test.true)

pub bounded_behind-number-requires-clause-digit : goal.bounded_behind-number-requires-clause-digit
bounded_behind-number-requires-clause-digit c = digit_small _ (digit_at c.args.digits.now c.loop-digit.digit-index c.requires c.loop-digit-test.true)

pub loop-digit-preserved : goal.loop-digit-preserved
loop-digit-preserved c =
    c.bounded_behind-number.ensures ∙ bounded_more (numeral_value (take c.loop-digit.digit-index c.args.digits.now)) c.loop-digit.number (get_or c.args.digits.now c.loop-digit.digit-index 0 - 48) (10 ^ 20) (lit< tt) c.loop-digit.invariant
    ∙ ap (min (10 ^ 20)) (sym (after_more 0 c.args.digits.now c.loop-digit.digit-index c.loop-digit-test.true))
