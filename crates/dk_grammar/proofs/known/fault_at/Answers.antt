use Rattle.std.proofs.Common.{ap, ◌∙◌}
use Rattle.dk_grammar.specs.Lists.{first}
use Rattle.dk_grammar.specs.Judging.{faults_by}
use Rattle.dk_grammar.proofs.Judged.{judged}
use Rattle.dk_grammar.proofs.Looked.{no_word}
use Rattle.dk_grammar.proofs.known.fault_at.Goals as goal

pub token_fault-requires : goal.token_fault-requires
token_fault-requires c = no_word c.args.text.now c.args.token c.args.before.now c.known_of-known.result c.known_of-known.ensures

pub returns : goal.returns
returns c = λ after. c.token_fault.ensures ∙ ap (λ k. first (faults_by c.args.token.span k)) c.known_of-known.ensures ∙ ap first (judged c.args.text.now (record { before = c.args.before.now; here = c.args.token; after = after }))
