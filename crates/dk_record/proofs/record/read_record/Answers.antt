use Rattle.std.proofs.Common.{length}
use Rattle.dk_record.specs.Readings.{said_by}
use Rattle.dk_record.proofs.Records.{no_attempt, no_said, has_record}
use Rattle.dk_record.proofs.record.read_record.Goals as goal

pub returns-in_default-read_attempt-clause-reads : goal.returns-in_default-read_attempt-clause-reads
returns-in_default-read_attempt-clause-reads c =
    no_attempt (length c.args.point.now) (length c.args.values.now) c.args.bytes.now c.read_decimals.new.out c.in-Some.behind.now c.in-Some.ensures c.in_default-read_attempt.ensures

pub returns-in_default-read_said-clause-reads : goal.returns-in_default-read_said-clause-reads
returns-in_default-read_said-clause-reads c =
    no_said (length c.args.point.now) (length c.args.values.now) c.args.bytes.now c.read_decimals.new.out c.in-Some.behind.now c.in-Some-read_attempt.attempt c.in-Some-read_attempt.behind.now
    c.in-Some.ensures c.in-Some-read_attempt.ensures c.in_default-read_said.ensures.reads

pub returns-clause-reads : goal.returns-clause-reads
returns-clause-reads c =
    has_record (length c.args.point.now) (length c.args.values.now) c.args.bytes.now c.read_decimals.new.out c.in-Some.behind.now c.in-Some-read_attempt.attempt c.in-Some-read_attempt.behind.now
    c.in-Some.ensures c.in-Some-read_attempt.ensures (said_by c.in-Some-read_said.gave c.read_said.new.values) c.in-Some-read_said.rest.now c.in-Some-read_said.ensures.reads
