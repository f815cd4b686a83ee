-- What a write and a sync come to.
use Rattle.std.proofs.Common.{◌≡◌, inl, inr, ℕ, ◌≤◌, false, List, length, Option, Some, None, option_map, Result, Ok, Err, is_ok, IfSome, ◌∙◌, ap}
use Rattle.dk_outside.specs.declared.course.Course.{Course}
use Rattle.dk_outside.specs.Disks.{written_over, wrote, broke, all_synced, BreaksWrite, Syncs}
use Rattle.dk_outside.proofs.Shown.{written_torn}
use Rattle.dk_journal.specs.Rests.{nothing, pending, synced, Leads}

pub broken_write : (old new : Option Course) (at : ℕ) (piece : List ℕ) → BreaksWrite old new at (length piece) → Leads old new at piece false
broken_write None new at piece (inl stays) = stays
broken_write None new at piece (inr torn) = torn.2
broken_write (Some course) new at piece (inl stays) = (course, stays, nothing)
broken_write (Some course) new at piece (inr torn) = (broke at (length piece) torn.0 course, torn.2, pending torn.0 torn.1)

pub synced_write : {E : Type 0} → (old mid new : Option Course) (at : ℕ) (piece : List ℕ) (result : Result (Unit {0}) E) →
    IfSome old (λ course. at ≤ length course.now.bytes) → mid ≡ option_map (wrote at piece) old → Syncs mid new result → Leads old new at piece (is_ok result)
synced_write None mid new at piece (Ok done) within written syncs = syncs ∙ ap (option_map all_synced) written
synced_write None mid new at piece (Err failed) within written syncs = syncs ∙ written
synced_write (Some course) mid new at piece (Ok done) within written syncs =
    (all_synced (wrote at piece course), syncs ∙ ap (option_map all_synced) written, synced)
synced_write (Some course) mid new at piece (Err failed) within written syncs =
    (wrote at piece course, syncs ∙ written, pending (written_over course.now.bytes at piece) (written_torn course.now.bytes at piece within))
