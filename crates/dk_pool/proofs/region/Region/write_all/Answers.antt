use Rattle.std.proofs.Common.{◌∙◌, ◌+◌, ap, length, arith}
use Rattle.dk_pool.proofs.Cut.{put_reaches, written_next}
use Rattle.dk_pool.proofs.region.Region.write_all.Goals as goal

pub overflow_add-place : goal.overflow_add-place
overflow_add-place g c =
    let small = c.args.self.now.small in let room = c.requires.within.1 in let inside = c.loop-i-test.true in
    record { fits = omega arith }

pub loop-i-preserved : goal.loop-i-preserved
loop-i-preserved g c =
    let so_far = c.loop-i.invariant in let made = c.write.ensures in
    let at_end = put_reaches c.loop-i.self.values (c.args.place + c.loop-i.i) c.index-values-i.result so_far.reaches in
    let long = ap length made.2 in
    record {
      block = (made.0 ∙ so_far.block.0, made.1 ∙ so_far.block.1);
      written = written_next c.args.self.now.values c.loop-i.self.values c.args.values.now c.write.new.self.values c.args.place c.loop-i.i c.index-values-i.result made.2 so_far.reaches c.loop-i-test.true c.index-values-i.is so_far.written;
      reaches = omega arith;
    }
