use Rattle.std.proofs.Common.{◌∷◌, ◌∙◌, sym, ap, drop, take, rules}
use Rattle.dk_results.specs.Pieces.{pieces}
use Rattle.dk_results.proofs.Fronts.{piece_there, none_there}
use Rattle.dk_results.proofs.front.next_piece.Goals as goal

pub returns-then-is_empty : goal.returns-then-is_empty
returns-then-is_empty c = sym c.behind_comments-rest.ensures.keeps_pieces ∙ none_there _ (search rules)

pub returns : goal.returns
returns c =
    let rest = c.behind_comments-rest.result.now in
    let count = sym c.piece_length.ensures.gives_count in
    sym c.behind_comments-rest.ensures.keeps_pieces ∙ piece_there rest (search rules) c.behind_comments-rest.ensures.begins_piece
    ∙ ap (λ n. take n rest ∷ pieces (drop n rest)) count
    ∙ ap (λ l. l ∷ pieces (drop c.piece_length.result rest)) (sym c.split_at.ensures.front)
    ∙ ap (λ l. c.split_at.result.0.now ∷ pieces l) (sym c.split_at.ensures.back)
