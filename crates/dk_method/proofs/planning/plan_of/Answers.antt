use Rattle.std.proofs.Common.{sym, subst}
use Rattle.dk_types.specs.declared.study.Study.{Study}
use Rattle.dk_method.specs.Plans.{IsPlanningState}
use Rattle.dk_method.proofs.Begun.{begun_plans}
use Rattle.dk_method.proofs.planning.plan_of.Goals as goal

pub invariant_of-result : goal.invariant_of-result
invariant_of-result c =
    subst (λ (study : Study). IsPlanningState (record { study = study; before = 0; count = 0; search = c.in_ok-search_of.field-0 })) (sym c.in_ok-copy.ensures)
    (record { plans = begun_plans c.args.study.now c.in_ok-search_of.field-0 c.in_ok-search_of.ensures })
