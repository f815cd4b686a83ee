use Rattle.std.proofs.Common.{length}
use Rattle.dk_report.proofs.summary.+put_settings.Given as goal

abbrev pub decreases-put_settings : goal.decreases-put_settings
decreases-put_settings g l = length l.labels.now
