use Rattle.std.proofs.Common.{refl, ◌≡◌, ◌+◌, ◌-◌, ◌∙◌, Some, subst, arith, ℕ}
use Rattle.std.specs.Prelude.{slice_get}
use Rattle.std.proofs.Math.Nat.{le_trans}
use Rattle.std.proofs.lemmas.Grind.{common_steps}
use Rattle.std.proofs.lemmas.List.{with_items_is}
use Rattle.dk_types.specs.Planned.{rest}
use Rattle.dk_types.proofs.Alone.{next_within}
use Rattle.dk_evaluate.proofs.Evaluations.{IsAlong, along_more, along_next, batch_point, batch_room}
use Rattle.dk_evaluate.proofs.Trying.{its_fault_later}
use Rattle.dk_evaluate.proofs.evaluation.evaluate_batch.Goals as goal

pub overflow_add-row-end : goal.overflow_add-row-end
overflow_add-row-end g c =
    let most = c.requires.sound.limit_is in
    let few = c.requires.sound.few_rows in
    let places = c.requires.so_far.places in
    let room = batch_room c.args.study.now c.args.run.now.table.rows.rows (omega arith) in
    let from = c.requires.first in
    let all = c.requires.count in
    grind (arith, common_steps)

pub evaluate_point-requires-clause-left : goal.evaluate_point-requires-clause-left
evaluate_point-requires-clause-left g c =
    let old = c.args.run.now.table.rows.rows in
    let most = c.requires.sound.limit_is in
    let at : slice_get (rest c.args.study.now old) (c.loop-row.row - c.args.first) ≡ Some c.point.new.out
    = batch_point c.args.study.now old (g.P.Planner.batch c.args.planner.now) (g.P.Planner.before c.args.planner.now) c.args.first c.loop-row.row c.point.new.out c.requires.batch c.requires.before c.requires.first c.point.ensures in
    let within = next_within c.args.study.now c.requires.sound c.loop-row.run.table.rows.rows c.point.new.out
    (along_next c.args.study.now old c.loop-row.run.table.rows.rows (c.loop-row.row - c.args.first) c.point.new.out c.point.new.out refl at c.loop-row.invariant.along) in
    omega arith

pub returns-in-Some-clause-ends : goal.returns-in-Some-clause-ends
returns-in-Some-clause-ends g c = λ start bench before was.
    let old = c.args.run.now.table.rows.rows in
    let at : slice_get (rest c.args.study.now old) (c.loop-row.row - c.args.first) ≡ Some c.point.new.out
    = batch_point c.args.study.now old (g.P.Planner.batch c.args.planner.now) (g.P.Planner.before c.args.planner.now) c.args.first c.loop-row.row c.point.new.out c.requires.batch c.requires.before c.requires.first c.point.ensures in
    let written = with_items_is c.loop-row.run.table.point c.point.new.out (c.point.auto.out ∙ c.deref_mut.ensures.len) in
    c.in-Some.ensures.ends start bench before (c.loop-row.invariant.runs start bench before was)
    (along_next c.args.study.now old c.loop-row.run.table.rows.rows (c.loop-row.row - c.args.first) _ c.point.new.out written at c.loop-row.invariant.along)

pub returns-in-Some-clause-cause : goal.returns-in-Some-clause-cause
returns-in-Some-clause-cause g c = λ stop is.
    let faults = g.B.Bench.faults in
    let inv = c.loop-row.invariant in
    its_fault_later c.args.station.now.slot c.loop-row.station.slot (faults c.args.station.now.bench) (faults c.loop-row.station.bench) (faults c.evaluate_point.new.station.bench) stop inv.slot inv.later (c.in-Some.ensures.cause stop is)

pub loop-row-preserved : goal.loop-row-preserved
loop-row-preserved g c =
    let old = c.args.run.now.table.rows.rows in
    let at : slice_get (rest c.args.study.now old) (c.loop-row.row - c.args.first) ≡ Some c.point.new.out
    = batch_point c.args.study.now old (g.P.Planner.batch c.args.planner.now) (g.P.Planner.before c.args.planner.now) c.args.first c.loop-row.row c.point.new.out c.requires.batch c.requires.before c.requires.first c.point.ensures in
    let written = with_items_is c.loop-row.run.table.point c.point.new.out (c.point.auto.out ∙ c.deref_mut.ensures.len) in
    let low = c.loop-row.auto.row in
    let next_place : (c.loop-row.row - c.args.first) + 1 ≡ (c.loop-row.row + 1) - c.args.first = omega arith in
    let comes = along_next c.args.study.now old c.loop-row.run.table.rows.rows (c.loop-row.row - c.args.first) _ c.point.new.out written at c.loop-row.invariant.along in
    record {
      along = subst (λ (k : ℕ). IsAlong c.args.study.now old k c.evaluate_point.new.run.table.rows.rows) next_place
          (along_more c.args.study.now old c.loop-row.run.table.rows.rows c.evaluate_point.new.run.table.rows.rows (c.loop-row.row - c.args.first) _ c.point.new.out written at (c.in_default.ensures.row refl) c.loop-row.invariant.along);
      opened = c.in_default.ensures.opened refl;
      so_far = c.in_default.ensures.so_far refl;
      runs = λ start bench before was. c.in_default.ensures.ends start bench before (c.loop-row.invariant.runs start bench before was) comes;
      task = c.in_default.ensures.task ∙ c.loop-row.invariant.task;
      slot = c.in_default.ensures.slot ∙ c.loop-row.invariant.slot;
      direct = λ is. c.in_default.ensures.direct is ∙ c.loop-row.invariant.direct is;
      after = g.met.B.Bench.after_both c.args.station.now.bench c.loop-row.station.bench c.evaluate_point.new.station.bench c.loop-row.invariant.after c.in_default.ensures.after;
      later = le_trans c.loop-row.invariant.later c.in_default.ensures.later;
    }
