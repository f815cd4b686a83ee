use Rattle.dk_reader.proofs.Printed.{printed_text}
use Rattle.dk_reader.proofs.read.text_of.Goals as goal

-- visible bytes and blanks are text
pub unreachable-requires : goal.unreachable-requires
unreachable-requires c = c.in-Err.ensures.cases.0 (printed_text c.args.bytes.now c.requires)
