use Rattle.std.proofs.Common.{ℕ, ◌++◌, ◌<◌, ◌≤◌, ◌≡◌, ◌∙◌, ap, sym, subst, arith}
use Rattle.std.specs.Prelude.{MatchOption}
use Rattle.dk_num.specs.Reading.{IsSignificand, significant_count, after_digits, value_of}
use Rattle.dk_num.specs.Numbers.{numeral_value}
use Rattle.dk_num.proofs.Numerals.{after_append}
use Rattle.dk_num.proofs.Significands.{significant_after}
use Rattle.dk_num.proofs.read.significand.Goals as goal

pub returns-in-Some-clause-is : goal.returns-in-Some-clause-is
returns-in-Some-clause-is c =
    let all : after_digits (value_of c.in-Some.number) c.args.fraction.now ≡ numeral_value (c.args.whole.now ++ c.args.fraction.now)
    = ap (λ n. after_digits n c.args.fraction.now) (sym c.in-Some.ensures.is.whole) ∙ sym (after_append 0 c.args.whole.now c.args.fraction.now) in
    subst (λ n. MatchOption c.digits_behind-in-Some.result (34 < significant_count n) (λ r. IsSignificand n r)) all c.digits_behind-in-Some.ensures.is

below : (a b : ℕ) → 34 < a → a ≤ b → 34 < b
below a b h k = omega arith

pub returns-in-None-clause-is : goal.returns-in-None-clause-is
returns-in-None-clause-is c =
    subst (λ n. 34 < significant_count n) (sym (after_append 0 c.args.whole.now c.args.fraction.now)) (below _ _ c.in-None.ensures.is (significant_after (after_digits 0 c.args.whole.now) c.args.fraction.now c.requires.fraction))
