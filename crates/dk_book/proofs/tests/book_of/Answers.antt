use Rattle.std.proofs.Common.{◌≡◌, ◌∙◌, ℕ, ◌+◌, List, [], ◌∷◌, length, refl, ap, sym, subst, arith}
use Rattle.std.specs.Prelude.{IfSome, slice_get}
use Rattle.dk_types.specs.declared.entry.Said.{Said}
use Rattle.dk_types.specs.declared.entry.Said.TheVariants.{Failed}
use Rattle.dk_types.specs.Cards.{Card}
use Rattle.dk_book.specs.Books.{BookState, IsDue, with_attempt}
use Rattle.dk_book.proofs.Tried.{attempt_length}
use Rattle.dk_book.proofs.tests.book_of.Goals as goal
use Rattle.dk_book.proofs.tests.book_of.Goals.{then-is_made, else-is_made}

-- behind a failure the next attempt is due
due_next : (cards : List Card) (attempt : ℕ) → IfSome (slice_get cards 0) (λ card. IsDue card attempt) →
    IfSome (slice_get (with_attempt cards 0 Failed) 0) (λ card. IsDue card (attempt + 1))
due_next [] attempt due = tt
due_next (card ∷ cards) attempt due = record { none = due.none; next = ap (λ n. n + 1) due.next }

pub loop-made-preserved : goal.loop-made-preserved
loop-made-preserved c = record {
  card = ap length c.add.ensures.adds_attempt ∙ attempt_length c.loop-made.book.cards 0 Failed ∙ c.loop-made.invariant.card;
  due = subst (λ (cards : List Card). IfSome (slice_get cards 0) (λ card. IsDue card (c.loop-made.made + 1 + 1))) (sym c.add.ensures.adds_attempt)
      (due_next c.loop-made.book.cards (c.loop-made.made + 1) c.loop-made.invariant.due);
  room = omega arith;
  responses = c.add.ensures.keeps_width_of_values ∙ c.loop-made.invariant.responses;
}

pub returns : goal.returns
returns c = elim c.if-is_made.branch [
  | then-is_made w ↦ (ap (λ (book : BookState). length book.cards) w.book-is ∙ ap length w.add-then-is_made.ensures.adds_attempt ∙ attempt_length c.loop-made.book.cards 0 _ ∙ c.loop-made.invariant.card)
  | else-is_made w ↦ (ap (λ (book : BookState). length book.cards) w.book-is ∙ c.loop-made.invariant.card)
]
