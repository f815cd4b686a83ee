use Rattle.std.proofs.Common.{◌≡◌, take, map}
use Rattle.dk_reader.specs.Document.{field_at}
use Rattle.dk_reader.proofs.grow.fields_of.Given as goal

abbrev pub invariant-loop-item : goal.invariant-loop-item
invariant-loop-item l = l.fields.items ≡ map (field_at l.text) (take l.item-index l.items)
