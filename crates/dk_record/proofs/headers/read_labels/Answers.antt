use Rattle.std.proofs.Common.{◌≡◌, false}
use Rattle.dk_types.specs.Labels.{are_distinct}
use Rattle.dk_record.proofs.Readers.{twice}
use Rattle.dk_record.proofs.headers.read_labels.Goals as goal

pub returns-then-not-are_distinct : goal.returns-then-not-are_distinct
returns-then-not-are_distinct c =
    let many = rw c.in-Some-2.is at c.in_ok-labels.ensures in
    let no_good : are_distinct c.in-Some-2.labels.items ≡ false = cc in
    twice c.args.bytes.now c.in-Some.count c.in-Some.behind.now c.in-Some-2.labels.items c.in-Some-2.rest.now c.in-Some.ensures many no_good
