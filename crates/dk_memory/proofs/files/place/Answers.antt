use Rattle.std.proofs.Common.{subst, List, ℕ, None, arith, ◌<◌, vec_len, vec_capacity}
use Rattle.dk_memory.specs.Files.{AreSet}
use Rattle.dk_memory.proofs.Looks.{put_last}
use Rattle.dk_memory.proofs.files.place.Goals as goal

pub returns : goal.returns
returns c =
    let gone = subst (λ (name : List ℕ). AreSet c.args.files.now.items c.remove.new.files.items name None) c.as_str.ensures c.remove.ensures.set in
    let room : vec_len c.remove.new.files < vec_capacity c.remove.new.files = omega (arith, c.requires, c.remove.ensures.len, c.remove.ensures.capacity) in
    put_last c.args.files.now.items c.remove.new.files.items c.push.new.self.items c.args.file c.push.result gone c.push.ensures.items (c.push.ensures.succeeds room)
