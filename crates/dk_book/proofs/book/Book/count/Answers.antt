use Rattle.std.proofs.Common.{◌∙◌, sym, ap, length, arith}
use Rattle.dk_book.specs.Books.{BookState}
use Rattle.dk_book.proofs.Placed.{cards_length}
use Rattle.dk_book.proofs.book.Book.count.Goals as goal

pub returns : goal.returns
returns c =
    let enough = c.self.invariant.kept.enough in
    record { gives_count = c.count.ensures.gives_count ∙ sym (cards_length c.self.inside.values.rows c.self.inside.points.rows c.self.inside.marks.items (omega (arith, enough))) ∙ ap (λ (b : BookState). length b.cards) c.self.view_is }
