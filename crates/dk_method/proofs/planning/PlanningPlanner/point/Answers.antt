use Rattle.std.proofs.Common.{◌≡◌, ◌∙◌, sym, ap, subst, Some, ◌+◌, ◌-◌}
use Rattle.std.specs.Prelude.{slice_get}
use Rattle.dk_types.specs.Planned.{IsInBatch}
use Rattle.dk_method.specs.Plans.{PlanningState, batch_of}
use Rattle.dk_method.proofs.Batches.{batch_within, batch_point, without_search}
use Rattle.dk_method.proofs.planning.PlanningPlanner.point.Goals as goal

pub put_point-requires-clause-within : goal.put_point-requires-clause-within
put_point-requires-clause-within c =
    let planned : PlanningState = record { study = c.self.inside.study; before = c.self.inside.before; count = c.self.inside.count; search = c.self.inside.search } in
    let known = without_search planned c.in-None.is c.self.invariant.plans in
    batch_within planned c.args.row known.known known.within (subst (λ (p : PlanningState). IsInBatch p.before (batch_of p) c.args.row) (sym c.self.view_is) c.requires.row)

pub returns-in-None : goal.returns-in-None
returns-in-None c =
    let planned : PlanningState = record { study = c.self.inside.study; before = c.self.inside.before; count = c.self.inside.count; search = c.self.inside.search } in
    let known = without_search planned c.in-None.is c.self.invariant.plans in
    subst (λ (p : PlanningState). slice_get (batch_of p) (c.args.row - (p.before + 1)) ≡ Some c.put_point.new.out) c.self.view_is
    (batch_point planned c.args.row known.known (subst (λ (p : PlanningState). IsInBatch p.before (batch_of p) c.args.row) (sym c.self.view_is) c.requires.row)
    ∙ ap Some (sym c.put_point.ensures))
