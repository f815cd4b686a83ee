use Rattle.std.proofs.Common.{◌++◌, length, take}
use Rattle.std.specs.Int.{w16, to_le_bytes}
use Rattle.std.specs.List.{flat_map}
use Rattle.dk_record.specs.Payloads.{label_bytes}
use Rattle.dk_record.proofs.Fronts.{on_err, front_kept}
use Rattle.dk_record.proofs.headers.put_labels.Goals as goal

pub returns-in_err-put_label-clause-keeps_front : goal.returns-in_err-put_label-clause-keeps_front
returns-in_err-put_label-clause-keeps_front c =
    let labels = c.args.labels.now in
    on_err c.from_residual-in_err-put_label.result
    (front_kept c.args.out.now.items (to_le_bytes w16 (length labels) ++ flat_map label_bytes (take c.loop-label.label-index labels)) c.loop-label.out.items c.put_label.new.out.items c.loop-label.invariant c.in_err-put_label.ensures.keeps_front)
