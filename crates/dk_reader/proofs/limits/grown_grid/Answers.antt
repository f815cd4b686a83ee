use Rattle.std.proofs.Common.{◌+◌, ◌*◌, ◌-◌, min, replicate, ap, ◌∙◌, arith}
use Rattle.dk_reader.proofs.Sizes.{uncut, grid_full, grid_more}
use Rattle.dk_reader.proofs.limits.grown_grid.Goals as goal

pub returns-then-parts-eq0 : goal.returns-then-parts-eq0
returns-then-parts-eq0 c = uncut 100001 c.args.points c.args.parts c.args.variables c.if-parts-eq0.true c.requires

pub returns-then-grown-eq-ENOUGH : goal.returns-then-grown-eq-ENOUGH
returns-then-grown-eq-ENOUGH c = grid_full 100001 c.loop.grown _ (replicate (c.args.variables - c.loop.counter) c.args.parts) c.if-grown-eq-ENOUGH.true c.loop.invariant.value

pub loop-preserved : goal.loop-preserved
loop-preserved c =
    let next = c.min-grown.ensures ∙ ap (λ p. min (c.loop.grown * (p + 1)) 100001) c.from.ensures in
    record {
      value = grid_more 100001 c.loop.grown c.args.parts c.args.variables c.loop.counter c.min-grown.result _ c.loop-test.true next c.loop.invariant.value;
      small = omega arith;
    }
