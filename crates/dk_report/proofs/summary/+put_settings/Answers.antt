use Rattle.std.proofs.Common.{◌≡◌, ℕ, List, ◌∷◌, ◌++◌, refl}
use Rattle.std.specs.Prelude.{codes}
use Rattle.dk_num.specs.Decimal.{Decimal}
use Rattle.dk_outside.proofs.Carrying.{then, same_bytes}
use Rattle.dk_types.specs.Texts.{setting, settings_after}
use Rattle.dk_report.proofs.summary.+put_settings.Goals as goal

-- the first setting, and then the others
settings_cons : (before : List ℕ) (labels others : List (List ℕ)) (label : List ℕ) (values more : List Decimal) (value : Decimal) →
    labels ≡ label ∷ others → values ≡ value ∷ more → before ++ (setting label value ++ settings_after (codes ", ") others more) ≡ settings_after before labels values
settings_cons before labels others label values more value e f = rw (e, f) refl

pub returns : goal.returns
returns g t c =
    same_bytes (settings_cons c.args.before.now c.args.labels.now _ _ c.args.values.now _ _ c.in-Some.ensures.cases.0 c.in-Some-split_first.ensures.cases.0)
    (then c.put.ensures (then c.put_setting.ensures c.put_settings.ensures))
