use Rattle.std.proofs.Common.{arith}
use Rattle.dk_num.proofs.Digits.{stripped_none, stripped_more, stripped_then, stripped_ends, stripped_whole}
use Rattle.std.proofs.lemmas.Bool.{both_ways}
use Rattle.dk_num.proofs.Endings.{zero_count_few}
use Rattle.dk_num.proofs.dec.strip.Goals as goal

pub loop-rest-init : goal.loop-rest-init
loop-rest-init c = stripped_none _ c.requires (omega arith)

pub returns-clause-whole : goal.returns-clause-whole
returns-clause-whole c = stripped_then _ _ _ _ c.loop-rest.invariant c.strip_short-short.ensures.whole

pub returns-clause-few : goal.returns-clause-few
returns-clause-few c = omega (arith, zero_count_few c.args.n c.requires, c.strip_short-short.ensures.zeros)

pub returns-then-not-ends_with_zero-clause-zeros : goal.returns-then-not-ends_with_zero-clause-zeros
returns-then-not-ends_with_zero-clause-zeros c = stripped_ends _ _ _ (λ e. both_ways _ c.if-not-ends_with_zero.true (c.ends_with_zero.ensures.1 e)) c.loop-rest.invariant

pub returns-then-not-ends_with_zero-clause-whole : goal.returns-then-not-ends_with_zero-clause-whole
returns-then-not-ends_with_zero-clause-whole c = stripped_whole _ _ _ (λ e. both_ways _ c.if-not-ends_with_zero.true (c.ends_with_zero.ensures.1 e)) c.loop-rest.invariant

pub loop-rest-preserved : goal.loop-rest-preserved
loop-rest-preserved c = stripped_more _ _ _ (c.ends_with_zero.ensures.0 c.if-not-ends_with_zero.false) c.loop-rest.invariant
