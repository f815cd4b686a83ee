use Rattle.std.proofs.Common.{◌+◌, ◌++◌, decimal, arith}
use Rattle.std.proofs.lemmas.Grind.{common_steps}
use Rattle.std.proofs.lemmas.List.FromFn.{map-range_with_len_more}
use Rattle.dk_reader.proofs.parts.numbered.Goals as goal

pub loop-place-preserved : goal.loop-place-preserved
loop-place-preserved c =
    let one = map-range_with_len_more (λ i. c.args.prefix.now ++ decimal i) 1 c.loop-place.place (c.loop-place.place + 1) (omega arith) in
    grind (arith, common_steps, one)
