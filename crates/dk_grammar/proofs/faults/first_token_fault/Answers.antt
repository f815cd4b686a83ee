use Rattle.dk_grammar.proofs.Growing.{judged_start, judged_all, first_some}
use Rattle.dk_grammar.proofs.faults.first_token_fault.Goals as goal

pub loop-place-init : goal.loop-place-init
loop-place-init c = judged_start c.args.text.now c.args.tokens.now c.start-context.result (c.start-context.ensures c.args.text.now)

pub returns-in-Err : goal.returns-in-Err
returns-in-Err c = first_some c.in-Err.fault _ c.in-Err.ensures

pub returns : goal.returns
returns c = judged_all c.args.text.now c.args.tokens.now c.loop-place.place c.loop-place.context c.loop-place-test.false c.loop-place.invariant
