-- How a disk in memory stands behind the calls that it keeps.
use Rattle.std.specs.Prelude.{ℕ, List, [], length}
use Rattle.std.specs.List.{fold}
use Rattle.dk_outside.specs.declared.course.Course.{Course}
use Rattle.dk_outside.specs.Disks.{settled, later, after_write, written_over}
use Rattle.dk_memory.specs.declared.event.Event.{Event}
use Rattle.dk_memory.specs.declared.event.Event.TheVariants.{Wrote, Broke, Synced}

-- one moment more
abbrev pub step : Course → Event → Course
step course (Wrote at piece) = later course (after_write course.now at (length piece.items) (written_over course.now.bytes at piece.items))
step course (Broke at count) = later course (after_write course.now at count course.now.bytes)
step course Synced = later course (settled course.now.bytes)

-- nothing was called
abbrev pub start : List ℕ → Course
start bytes = record { now = settled bytes; earlier = [] }

-- these calls were made, in order, since it had these bytes
abbrev pub course_of : List ℕ → List Event → Course
course_of first events = fold step (start first) events
