use Rattle.std.proofs.Common.{sym, subst}
use Rattle.std.specs.Prelude.{Err}
use Rattle.dk_reader.specs.Reading.{DocumentOf}
use Rattle.dk_reader.proofs.TextReads.{bytes_refused, tokens_refused, readable}
use Rattle.dk_reader.proofs.reader.document_of_text.Goals as goal

pub returns-in-Err : goal.returns-in-Err
returns-in-Err c = subst (λ r. DocumentOf c.args.text.now (Err r)) (sym c.refused_bytes.ensures) (bytes_refused c.args.text.now c.in-Err.fault c.in-Err.ensures.gives_outcome)

pub returns-in-Err-tree : goal.returns-in-Err-tree
returns-in-Err-tree c = subst (λ r. DocumentOf c.args.text.now (Err r)) (sym c.refused_tokens.ensures) (tokens_refused c.args.text.now c.in-Ok.tokens c.in-Ok.ensures.gives_outcome c.in-Err-tree.fault c.in-Err-tree.ensures.gives_outcome)

pub document_of-requires : goal.document_of-requires
document_of-requires c = readable c.args.text.now c.in-Ok.tokens c.in-Ok.ensures.gives_outcome c.in-Ok-tree.tree c.in-Ok.ensures.gives_spans_in_order c.in-Ok.ensures.gives_closed_strings c.in-Ok-tree.ensures.gives_outcome
