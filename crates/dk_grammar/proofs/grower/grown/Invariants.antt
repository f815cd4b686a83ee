use Rattle.dk_grammar.specs.Growths.{IsGrown}
use Rattle.dk_grammar.proofs.grower.grown.Given as goal

abbrev pub invariant-loop-place : goal.invariant-loop-place
invariant-loop-place l = IsGrown l.text l.tokens l.place l.growth
