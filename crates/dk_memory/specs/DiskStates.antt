-- What a disk in memory holds.
use Rattle.dk_outside.specs.declared.course.Course.{Course}
use Rattle.dk_memory.specs.Calls.{CallState}
use Rattle.dk_memory.specs.Events.{course_of}
use Rattle.dk_memory.specs.declared.disk.MemDisk.{MemDisk}

-- how it stands, and how it stood at each earlier moment
pub record DiskState : Type 0 where
  pub course : Course
  pub calls : CallState

-- what its fields stand for
abbrev pub disk_state : MemDisk → DiskState
disk_state disk = record { course = course_of disk.kept.first.items disk.kept.events.items; calls = disk.calls }
