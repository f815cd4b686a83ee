use Rattle.std.proofs.Common.{length, ap, ◌∙◌, arith}
use Rattle.std.specs.Prelude.{codes}
use Rattle.dk_params.proofs.Lines.{fits_numbered}
use Rattle.dk_params.proofs.file.write_asked_line.Goals as goal

pub numbered_line-requires : goal.numbered_line-requires
numbered_line-requires c =
    let label = ap length (c.as_bytes.ensures.value ∙ c.as_str.ensures) in
    fits_numbered c.args.page.now _ (codes "ASV_") c.as_bytes.result.now c.args.number c.requires.room (omega arith) (omega arith) (omega arith) (omega (arith, label, c.requires.short))
