use Rattle.dk_grammar.specs.Growths.{IsJudged}
use Rattle.dk_grammar.proofs.faults.first_token_fault.Given as goal

abbrev pub invariant-loop-place : goal.invariant-loop-place
invariant-loop-place l = IsJudged l.text l.tokens l.place l.context
