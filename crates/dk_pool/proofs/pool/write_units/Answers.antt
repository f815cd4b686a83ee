use Rattle.std.proofs.Common.{◌∙◌, ◌+◌, ap, length, map, arith}
use Rattle.std.proofs.lemmas.List.{length-map}
use Rattle.dk_num.specs.Units.{in_units}
use Rattle.dk_pool.proofs.Cut.{put_reaches, written_next}
use Rattle.dk_pool.proofs.Units.{decimal_at}
use Rattle.dk_pool.proofs.pool.write_units.Goals as goal

pub loop-place-preserved : goal.loop-place-preserved
loop-place-preserved c =
    let so_far = c.loop-place.invariant in let made = c.write.ensures in
    let at_end = put_reaches c.loop-place.region.values (c.args.start + c.loop-place.place) c.from_units.result so_far.reaches in
    let decimals = map (in_units c.args.unit.exponent) c.args.units.now in
    let long = ap length made.2 in
    record {
      block = (made.0 ∙ so_far.block.0, made.1 ∙ so_far.block.1);
      written = written_next c.args.region.now.values c.loop-place.region.values decimals c.write.new.self.values c.args.start c.loop-place.place c.from_units.result made.2 so_far.reaches
          (omega (arith, length-map c.args.units.now (in_units c.args.unit.exponent)))
          (decimal_at _ _ _ _ c.requires.are_small (omega arith) c.from_units.ensures.gives_units) so_far.written;
      reaches = omega arith;
    }
