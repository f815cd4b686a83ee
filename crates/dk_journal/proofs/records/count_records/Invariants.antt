use Rattle.std.proofs.Common.{ℕ, ◌+◌, ◌≤◌, length}
use Rattle.dk_journal.specs.Walks.{AreCounted}
use Rattle.dk_journal.proofs.records.count_records.Given as goal

-- what is counted from here on comes to what is counted in all
abbrev pub invariant-loop-record : goal.invariant-loop-record
invariant-loop-record l = record {
  counted : (records values : ℕ) → AreCounted (length l.fn.point) (length l.fn.values) l.rest records values →
      AreCounted (length l.fn.point) (length l.fn.values) l.fn.bytes (l.counts.records + records) (l.counts.values + values);
  short : l.counts.records + length l.rest ≤ length l.fn.bytes;
  few : l.counts.values ≤ l.counts.records;
}

abbrev pub decreases-loop-record : goal.decreases-loop-record
decreases-loop-record l = length l.rest
