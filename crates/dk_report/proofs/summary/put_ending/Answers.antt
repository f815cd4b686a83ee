use Rattle.std.proofs.Common.{ap, sym}
use Rattle.dk_outside.proofs.Carrying.{same_bytes}
use Rattle.dk_types.specs.Texts.{ending_line}
use Rattle.dk_report.proofs.summary.put_ending.Goals as goal

pub returns-in-Finished : goal.returns-in-Finished
returns-in-Finished g c = same_bytes (ap ending_line (sym c.in-Finished.is)) c.put_finished.ensures

pub returns-in-Aborted : goal.returns-in-Aborted
returns-in-Aborted g c = same_bytes (ap ending_line (sym c.in-Aborted.is)) c.put_aborted.ensures
