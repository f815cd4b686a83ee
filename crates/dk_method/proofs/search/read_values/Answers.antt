use Rattle.std.proofs.Common.{◌∙◌, ◌+◌, ◌-◌, arith}
use Rattle.std.proofs.lemmas.List.{length-set}
use Rattle.dk_method.proofs.ReadValues.{read_more, has_one, one_value}
use Rattle.dk_method.proofs.search.read_values.Goals as goal

pub overflow_add-before : goal.overflow_add-before
overflow_add-before g c = let few = c.requires.few in let within = c.requires.within in let inside = c.loop-place-test.true in omega arith

pub overflow_cast-place : goal.overflow_cast-place
overflow_cast-place g c = let few = c.requires.few in let within = c.requires.within in let inside = c.loop-place-test.true in omega arith

pub overflow_add-before-in-loop-place : goal.overflow_add-before-in-loop-place
overflow_add-before-in-loop-place g c = let few = c.requires.few in let within = c.requires.within in let inside = c.loop-place-test.true in omega arith

pub bounds-values-0 : goal.bounds-values-0
bounds-values-0 g c = let one = has_one (g.R.Rows.rows c.args.rows.now) (c.args.before + 1 + c.loop-place.place - 1) c.values.result.now c.requires.one_each c.values.ensures in omega arith

pub loop-place-preserved : goal.loop-place-preserved
loop-place-preserved g c =
    let rows = g.R.Rows.rows c.args.rows.now in
    let at = c.args.before + 1 + c.loop-place.place - 1 in
    let w = c.values.result.now in
    let v = c.index-values-0.result in
    let one = one_value w v (has_one rows at w c.requires.one_each c.values.ensures) c.index-values-0.is in
    let long = c.loop-place.invariant.long in
    let inside = c.loop-place-test.true in
    let room = c.requires.room in
    record {
      long = length-set c.loop-place.out c.loop-place.place v ∙ long;
      read = read_more rows c.args.before c.loop-place.place at c.loop-place.out w v (omega arith) c.values.ensures one (omega arith) c.loop-place.invariant.read;
    }
