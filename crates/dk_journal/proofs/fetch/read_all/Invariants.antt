use Rattle.std.proofs.Common.{◌≡◌, ◌-◌, ◌≤◌, length, IfSome}
use Rattle.dk_journal.specs.Fetches.{HasFetched}
use Rattle.dk_journal.proofs.fetch.read_all.Given as goal

abbrev pub invariant-reads : goal.invariant-reads
invariant-reads g l =
    IfSome (g.K.Disk.told l.fn.disk) (λ course. HasFetched course.now.bytes l.bytes l.count)
    × (l.count ≤ length l.bytes)
    × (length l.bytes ≡ length l.fn.bytes)
    × (g.K.Disk.told l.disk ≡ g.K.Disk.told l.fn.disk)
    × (g.K.Disk.faults l.fn.disk ≤ g.K.Disk.faults l.disk)

abbrev pub decreases-reads : goal.decreases-reads
decreases-reads g l = length l.bytes - l.count
