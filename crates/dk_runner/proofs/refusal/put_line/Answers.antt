use Rattle.std.proofs.Common.{ap, sym}
use Rattle.dk_outside.proofs.Carrying.{same_bytes}
use Rattle.dk_runner.specs.Lines.{line}
use Rattle.dk_runner.proofs.refusal.put_line.Goals as goal

pub returns-in-Usage : goal.returns-in-Usage
returns-in-Usage g c = same_bytes (ap line (sym c.in-Usage.is)) c.put_usage.ensures

pub returns-in-StudyRefused : goal.returns-in-StudyRefused
returns-in-StudyRefused g c = same_bytes (ap line (sym c.in-StudyRefused.is)) c.put_refused.ensures

pub returns-in-SourceFault : goal.returns-in-SourceFault
returns-in-SourceFault g c = same_bytes (ap line (sym c.in-SourceFault.is)) c.put.ensures

pub returns-in-SinkFault : goal.returns-in-SinkFault
returns-in-SinkFault g c = same_bytes (ap line (sym c.in-SinkFault.is)) c.put_unwritten.ensures

pub returns-in-NoMemory : goal.returns-in-NoMemory
returns-in-NoMemory g c = same_bytes (ap line (sym c.in-NoMemory.is)) c.put-in-NoMemory.ensures

pub returns-in-RestartRefused : goal.returns-in-RestartRefused
returns-in-RestartRefused g c = same_bytes (ap line (sym c.in-RestartRefused.is)) c.put_unopened.ensures

pub returns-in-DiskFault : goal.returns-in-DiskFault
returns-in-DiskFault g c = same_bytes (ap line (sym c.in-DiskFault.is)) c.put-in-DiskFault.ensures

pub returns-in-RestartFull : goal.returns-in-RestartFull
returns-in-RestartFull g c = same_bytes (ap line (sym c.in-RestartFull.is)) c.put_full.ensures

pub returns-in-BenchFault : goal.returns-in-BenchFault
returns-in-BenchFault g c = same_bytes (ap line (sym c.in-BenchFault.is)) c.put_bench.ensures
