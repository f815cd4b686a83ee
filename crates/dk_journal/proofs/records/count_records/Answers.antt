use Rattle.std.proofs.Common.{arith, length}
use Rattle.dk_journal.specs.Walks.{HasNoRecord, AreCounted, none}
use Rattle.dk_journal.proofs.Walked.{at_widths, record_at, counted_more, counted_few}
use Rattle.dk_journal.proofs.records.count_records.Goals as goal

pub loop-record-preserved : goal.loop-record-preserved
loop-record-preserved c =
    let r = record_at _ _ _ _ _ _ _ c.loop-record.auto.point c.loop-record.auto.values c.in-Some.ensures in
    let few = counted_few _ _ _ _ _ r in
    record {
      counted = λ records values counted. counted_more _ _ _ _ _ records values _ c.args.bytes.now _ _ r (c.count_of.ensures c.next_record.new.values) c.loop-record.invariant.counted counted;
      short = omega (arith, few.0, c.loop-record.invariant.short);
      few = omega (arith, few.1, c.count_of.ensures c.next_record.new.values, c.loop-record.invariant.few);
    }

pub returns : goal.returns
returns c =
    let r = at_widths (λ n m. HasNoRecord n m c.loop-record.rest.now) _ _ _ _ c.loop-record.auto.point c.loop-record.auto.values c.in_default.ensures in
    at_widths (λ k l. AreCounted (length c.args.point.now) (length c.args.values.now) c.args.bytes.now k l) _ _ _ _ (omega arith) (omega arith)
    (c.loop-record.invariant.counted 0 0 (none c.loop-record.rest.now r))
