use Rattle.std.proofs.Common.{◌∙◌, ap, sym, length, replicate, ℕ}
use Rattle.dk_evaluate.specs.Pools.{RowsState}
use Rattle.dk_evaluate.proofs.SoFar.{so_far_first}
use Rattle.dk_evaluate.proofs.evaluation.prepare.Goals as goal

pub returns : goal.returns
returns g c = record {
  so_far = so_far_first c.args.study.now c.args.ledger.now.book _ _ _ c.requires.variables c.requires.responses c.requires.spare c.requires.room (ap length c.items-variables.ensures) (ap length c.items-responses.ensures)
      c.in_ok-reserve.ensures (c.in_ok-vec.ensures.items_if_clones_equal (λ y e. e) ∙ ap (λ (n : ℕ). replicate n 0) c.places.ensures) (sym c.in_ok-vec-2.field-0.ok.0 ∙ c.in_ok-vec-2.ensures.len) (sym c.in_ok-vec-3.field-0.ok.0 ∙ c.in_ok-vec-3.ensures.len);
  none = ap (λ (r : RowsState). r.rows) c.in_ok-reserve.ensures;
  planned = c.in_ok-plan_of.ensures.plans_study;
}
