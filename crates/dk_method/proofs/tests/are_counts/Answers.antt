use Rattle.std.proofs.Common.{get_or, arith, below_more}
use Rattle.std.proofs.lemmas.List.Elements.{All-from_get_or}
use Rattle.dk_types.specs.Sound.{IsBetween}
use Rattle.dk_method.proofs.tests.are_counts.Goals as goal

pub loop-count-preserved : goal.loop-count-preserved
loop-count-preserved c = below_more (λ k. IsBetween c.args.least 10000 (get_or c.args.counts.now k 0)) c.loop-count.count-index c.loop-count.invariant (omega arith, omega arith)

pub returns : goal.returns
returns c = λ is. All-from_get_or (IsBetween c.args.least 10000) c.args.counts.now 0 (λ j h. c.loop-count.invariant j (omega arith))
