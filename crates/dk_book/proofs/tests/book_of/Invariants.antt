use Rattle.std.proofs.Common.{◌≡◌, ◌+◌, length}
use Rattle.std.specs.Prelude.{IfSome, slice_get}
use Rattle.dk_book.specs.Books.{IsDue}
use Rattle.dk_book.proofs.tests.book_of.Given as goal

abbrev pub invariant-loop-made : goal.invariant-loop-made
invariant-loop-made l = record {
  card : length l.book.cards ≡ 1;
  due : IfSome (slice_get l.book.cards 0) (λ card. IsDue card (l.made + 1));
  room : l.book.room ≡ 1;
  responses : l.book.responses ≡ 1;
}
