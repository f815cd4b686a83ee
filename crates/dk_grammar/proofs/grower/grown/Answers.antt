use Rattle.dk_grammar.proofs.Growing.{grown_start}
use Rattle.dk_grammar.proofs.grower.grown.Goals as goal

pub loop-place-init : goal.loop-place-init
loop-place-init c = grown_start c.args.text.now c.args.tokens.now _ (c.start.ensures c.args.text.now) c.new.ensures.items c.new-2.ensures.items
