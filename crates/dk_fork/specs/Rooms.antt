-- The room in which a station makes an attempt.
use Rattle.std.specs.Prelude.{◌≡◌, ◌+◌, ◌≤◌, length, string_capacity}
use Rattle.dk_params.specs.declared.task.Task.{Task}
use Rattle.dk_params.specs.Bounds.{bound_of}
use Rattle.dk_fork.specs.declared.room.Room.{Room}
use Rattle.dk_fork.specs.Allowed.{most_bytes}

-- there is room for both names with their row, for the parameters, for what is left, and for a value of each response
pub record IsRoomFor (task : Task) (room : Room) : Type 0 where
  pub parameters : length task.interface.parameters + 11 ≤ string_capacity room.parameters
  pub results : length task.interface.results + 11 ≤ string_capacity room.results
  pub text : bound_of task ≤ length room.text.items
  pub left : length room.left.items ≡ most_bytes
  pub values : length room.values.items ≡ length task.responses
