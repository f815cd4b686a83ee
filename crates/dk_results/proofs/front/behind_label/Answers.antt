use Rattle.std.proofs.Common.{◌∙◌, sym, ap, drop}
use Rattle.dk_results.specs.Pieces.{pieces}
use Rattle.dk_results.specs.Results.{behind_label}
use Rattle.dk_results.proofs.Fronts.{label_there, no_label_there}
use Rattle.dk_results.proofs.front.behind_label.Goals as goal

pub returns-then-is_label : goal.returns-then-is_label
returns-then-is_label c =
    let rest = c.behind_comments-rest.result.now in
    ap pieces (c.split_at.ensures.back ∙ ap (λ n. drop n rest) c.piece_length.ensures.gives_count)
    ∙ sym (label_there rest c.behind_comments-rest.ensures.begins_piece (sym c.is_label.ensures ∙ c.if-is_label.true))
    ∙ ap behind_label c.behind_comments-rest.ensures.keeps_pieces

pub returns-else-is_label : goal.returns-else-is_label
returns-else-is_label c =
    sym (no_label_there _ c.behind_comments-rest.ensures.begins_piece (sym c.is_label.ensures ∙ c.if-is_label.false))
    ∙ ap behind_label c.behind_comments-rest.ensures.keeps_pieces
