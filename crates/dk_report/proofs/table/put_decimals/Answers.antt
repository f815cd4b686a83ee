use Rattle.std.proofs.Common.{◌++◌, drop, ◌+◌, refl}
use Rattle.std.specs.Prelude.{codes}
use Rattle.std.proofs.lemmas.List.{at_drop_all}
use Rattle.dk_num.specs.Decimal.{Decimal}
use Rattle.dk_num.specs.Texts.{table_text}
use Rattle.dk_outside.proofs.Carrying.{then}
use Rattle.dk_types.specs.Texts.{decimals_text}
use Rattle.dk_report.proofs.Parts.{part_none, part_next, part_all, items_step}
use Rattle.dk_report.proofs.table.put_decimals.Goals as goal

pub loop-decimal-init : goal.loop-decimal-init
loop-decimal-init g c = part_none _ _

pub loop-decimal-preserved : goal.loop-decimal-preserved
loop-decimal-preserved g c =
    part_next (codes " " ++ table_text c.decimal-item.result) (decimals_text (drop (c.loop-decimal.decimal-index + 1) c.args.decimals.now)) c.loop-decimal.invariant
    (items_step decimals_text (λ (d : Decimal). codes " " ++ table_text d) _ c.args.decimals.now c.loop-decimal.decimal-index c.decimal-item.result c.loop-decimal-test.true c.decimal-item.is (λ y. refl))
    (then c.put.ensures c.put_decimal.ensures)

pub returns : goal.returns
returns g c = part_all c.loop-decimal.invariant (at_drop_all decimals_text c.args.decimals.now c.loop-decimal.decimal-index c.loop-decimal-test.false)
