use Rattle.dk_memory.proofs.Imaging.{behind_failed_write}
use Rattle.dk_memory.proofs.kept.Kept.fail_write.Goals as goal

pub invariant_of-self : goal.invariant_of-self
invariant_of-self c =
    let was = c.args.self.now in
    let h = behind_failed_write was.first.items was.events.items c.push.new.self.items was.bytes.items c.args.at c.args.count c.push.result c.push.ensures.items c.requires was.present was.left in
    record { present = h.0; left = h.1 }
