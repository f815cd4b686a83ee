use Rattle.std.proofs.Common.{ap}
use Rattle.dk_outside.proofs.Carrying.{then, same_bytes}
use Rattle.dk_types.specs.Texts.{words_text}
use Rattle.dk_report.proofs.table.put_header.Goals as goal

pub returns : goal.returns
returns g c = then c.put.ensures (then (same_bytes (ap words_text c.items.ensures) c.put_words.ensures) (then (same_bytes (ap words_text c.items-2.ensures) c.put_words-2.ensures) c.put-2.ensures))
