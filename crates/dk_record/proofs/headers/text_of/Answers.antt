use Rattle.dk_record.proofs.Labels.{label_text}
use Rattle.dk_record.proofs.headers.text_of.Goals as goal

pub unreachable-requires : goal.unreachable-requires
unreachable-requires c = c.in-Err.ensures.cases.0 (label_text c.args.bytes.now c.requires)
