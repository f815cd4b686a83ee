use Rattle.std.proofs.Common.{ap, sym, ◌∙◌}
use Rattle.std.specs.Prelude.{ℕ, ◌-◌, option_map}
use Rattle.dk_outside.proofs.Carrying.{same_bytes}
use Rattle.dk_report.proofs.LookedUp.{best_is}
use Rattle.dk_report.proofs.summary.put_best.Goals as goal

pub returns : goal.returns
returns g c =
    let within = rw c.in-Some.is at c.best.ensures.within in
    same_bytes (best_is c.args.study.now (g.R.Rows.rows c.args.rows.now) _ c.in-Some.row c.point.result.now c.values.result.now
    (ap (option_map (λ (row : ℕ). row - 1)) (sym c.in-Some.is) ∙ c.best.ensures.value) within.0 c.point.ensures c.values.ensures) c.put_best_lines.ensures
