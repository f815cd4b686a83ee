use Rattle.std.proofs.Common.{◌≡◌, ◌∙◌, ap, sym, subst, refl, ℕ, Some}
use Rattle.dk_types.specs.Points.{size}
use Rattle.dk_types.specs.Planned.{plan}
use Rattle.dk_method.specs.Searching.{IsSearching}
use Rattle.dk_method.specs.Plans.{PlanningState}
use Rattle.dk_method.proofs.Batches.{batch_planned, without_search, plans_search}
use Rattle.dk_method.proofs.planning.PlanningPlanner.next.Goals as goal

pub invariant_of-self : goal.invariant_of-self
invariant_of-self g c =
    let study = c.self.inside.study in
    record {
      plans = plans_search (record { study = study; before = c.count-self-inside.result; count = c.self.inside.count; search = Some c.next.new.self }) c.next.new.self refl
          (subst (λ (n : ℕ). IsSearching study n c.next.new.self) (sym c.count-self-inside.ensures) c.next.ensures.searching);
    }

pub returns-then-self-clause-plan : goal.returns-then-self-clause-plan
returns-then-self-clause-plan g c =
    let inside = c.self.inside in
    let known = without_search (record { study = inside.study; before = inside.before; count = inside.count; search = inside.search }) c.in_default.is c.self.invariant.plans in
    let most : inside.study.limit ≡ size inside.study = rw (sym c.self.view_is) at c.requires.sound.limit_is in
    batch_planned inside.study _ c.count-self-inside.result inside.study.limit known.known c.count-self-inside.ensures most c.if-self.true
    ∙ ap (λ (p : PlanningState). plan p.study (g.R.Rows.rows c.args.rows.now)) c.self.view_is
