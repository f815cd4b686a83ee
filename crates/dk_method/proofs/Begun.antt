-- Plans of which no batch is handed out yet.
use Rattle.std.proofs.Common.{◌≡◌, ℕ, Option, Some, refl, sym, subst, arith, ℤ, to_z, of_z}
use mir.Syntax.{w128}
use Rattle.dk_types.specs.declared.study.Study.{Study}
use Rattle.dk_types.specs.declared.study.Method.{Method}
use Rattle.dk_types.specs.declared.study.Method.TheVariants as method
use Rattle.dk_types.specs.Sound.{IsSound}
use Rattle.dk_method.specs.declared.search.Search.{Search}
use Rattle.dk_method.specs.declared.search.Terms.{Terms}
use Rattle.dk_method.specs.Searching.{IsBegun}
use Rattle.dk_method.specs.Plans.{BeginsBy, PlansBy}
use Rattle.dk_method.proofs.Standing.{delta_read, threshold_read}

pub begun_plans : (study : Study) (s : Option Search) → BeginsBy study s study.method → PlansBy (record { study = study; before = 0; count = 0; search = s }) study.method
begun_plans study s begins = at study.method begins
  where
    at : (m : Method) → BeginsBy study s m → PlansBy (record { study = study; before = 0; count = 0; search = s }) m
    at (method.Vector steps way) h = (h, omega arith)
    at (method.List numbers) h = (h, omega arith)
    at (method.Centered step counts) h = (h, omega arith)
    at (method.Multidim partitions) h = (h, omega arith)
    at (method.Compass delta threshold iterations evaluations) h = (h.0, h.1, h.2.searching)

-- the terms of a study, as they are read
pub begins_by : (study : Study) (delta threshold : ℤ) (iterations evaluations : ℕ) (s : Search) → IsSound study → study.method ≡ method.Compass delta threshold iterations evaluations →
    IsBegun study (record { delta = to_z w128 (of_z w128 delta); threshold = to_z w128 (of_z w128 threshold); iterations = iterations; evaluations = evaluations }) s → BeginsBy study (Some s) study.method
begins_by study delta threshold iterations evaluations s sound is begun =
    let terms : Terms = record { delta = delta; threshold = threshold; iterations = iterations; evaluations = evaluations } in
    subst (BeginsBy study (Some s)) (sym is) (
      s,
      refl,
      subst (λ (d : ℤ). IsBegun study (record { delta = d; threshold = threshold; iterations = iterations; evaluations = evaluations }) s) (delta_read study terms sound is)
          (subst (λ (t : ℤ). IsBegun study (record { delta = to_z w128 (of_z w128 delta); threshold = t; iterations = iterations; evaluations = evaluations }) s) (threshold_read study terms sound is) begun),
    )
