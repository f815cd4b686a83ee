-- How a book keeps its cards: each point beside its mark, which says where its values stand.
use Rattle.std.specs.Prelude.{◌≡◌, ℕ, ◌+◌, ◌<◌, ◌≤◌, List, [], ◌∷◌, All, length, map, drop, Option, Some, None, IfSome, slice_get}
use Rattle.dk_num.specs.Decimal.{Decimal, IsCanonical}
use Rattle.dk_pool.specs.Pool.{PoolState}
use Rattle.dk_pool.specs.declared.pool.RowId.{RowId}
use Rattle.dk_types.specs.Cards.{Card}
use Rattle.dk_book.specs.declared.book.Mark.{Mark}
use Rattle.dk_book.specs.Books.{BookState, IsBook}
use Rattle.dk_book.specs.Hashes.{hash_of}
use Rattle.dk_book.specs.Index.{IsIndex}

-- the values that a mark names
abbrev pub values_at : (values : List (List Decimal)) → Option RowId → Option (List Decimal)
values_at values None = None
values_at values (Some row) = slice_get values row.index

abbrev pub card_by : (values : List (List Decimal)) → List Decimal → Mark → Card
card_by values p mark = record { point = p; failures = mark.failures; values = values_at values mark.values }

-- each point with its mark
abbrev pub cards_by : (values points : List (List Decimal)) → List Mark → List Card
cards_by values [] marks = []
cards_by values (p ∷ points) [] = []
cards_by values (p ∷ points) (mark ∷ marks) = card_by values p mark ∷ cards_by values points marks

abbrev pub book_by : (points values : PoolState) → List Mark → BookState
book_by points values marks = record {
  cards = cards_by values.rows points.rows marks;
  variables = points.width;
  responses = values.width;
  spare = points.spare;
  room = values.spare;
}

-- no attempt was made
abbrev pub unmarked : Mark
unmarked = record { failures = 0; values = None }

-- there is a mark for each point that there is room for, those of points that have no card yet are blank, and the
-- values that are named are there
pub record IsKept (points values : PoolState) (marks : List Mark) : Type 0 where
  pub enough : length marks ≡ length points.rows + points.spare
  pub blank : All (λ mark. mark ≡ unmarked) (drop (length points.rows) marks)
  pub there : All (λ mark. IfSome mark.values (λ row. row.index < length values.rows)) marks
  pub book : IsBook (book_by points values marks)

-- the points' decimals have one pair each, an index finds the points by their hashes, and it has room for as many more
-- as the book has
pub record IsIndexed (points : PoolState) (last : ℕ → Option ℕ) (before : List (Option ℕ)) (left : ℕ) : Type 0 where
  pub canonical : All (All IsCanonical) points.rows
  pub finds : IsIndex (map hash_of points.rows) last before
  pub enough : length before ≡ length points.rows + points.spare
  pub room : points.spare ≤ left

-- the cards are kept, and indexed
pub record IsStored (points values : PoolState) (marks : List Mark) (last : ℕ → Option ℕ) (before : List (Option ℕ)) (left : ℕ) : Type 0 where
  pub kept : IsKept points values marks
  pub indexed : IsIndexed points last before left
