use Rattle.std.proofs.Common.{sym, subst}
use Rattle.dk_types.specs.declared.study.Shape.{Shape}
use Rattle.dk_types.specs.Labels.{AreLabels}
use Rattle.dk_runner.proofs.Headers.{header_few}
use Rattle.dk_runner.proofs.over_file.open_ledger.Goals as goal

pub open-requires-clause-limit_from : goal.open-requires-clause-limit_from
open-requires-clause-limit_from g c =
    let is = c.in-Ok.ensures in
    header_few c.in-Ok.shape (subst (λ (s : Shape). AreLabels s.variables) (sym is) c.requires.sound.variables) (subst (λ (s : Shape). AreLabels s.responses) (sym is) c.requires.sound.responses)
