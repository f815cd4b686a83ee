use Rattle.dk_memory.proofs.Imaging.{behind_write}
use Rattle.dk_memory.proofs.kept.Kept.write.Goals as goal

pub invariant_of-self : goal.invariant_of-self
invariant_of-self c =
    let was = c.args.self.now in
    let e = c.overwrite.ensures in
    let h = behind_write was.first.items was.events.items c.overwrite.new.events.items was.bytes.items c.overwrite.new.bytes.items c.args.at c.args.piece.now c.overwrite.result e.bytes e.bytes_stay e.events e.events_stay c.requires was.present was.left in
    record { present = h.0; left = h.1 }
