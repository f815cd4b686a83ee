use Rattle.std.proofs.Common.{◌≡◌, ◌++◌, length, take}
use Rattle.std.specs.Int.{w16, to_le_bytes}
use Rattle.std.specs.List.{flat_map}
use Rattle.dk_record.specs.Payloads.{label_bytes}
use Rattle.dk_record.proofs.headers.put_labels.Given as goal

abbrev pub invariant-loop-label : goal.invariant-loop-label
invariant-loop-label l = l.out.items ≡ l.fn.out.items ++ (to_le_bytes w16 (length l.labels) ++ flat_map label_bytes (take l.label-index l.labels))
