-- What the calls of a book answer, over its cards and over entries.
use Rattle.std.specs.Prelude.{ℕ, List, Option, slice_get, option_map, option_and_then}
use Rattle.dk_types.specs.declared.study.FailRule.{FailRule}
use Rattle.dk_types.specs.declared.entry.Entry.{Entry}
use Rattle.dk_types.specs.declared.entry.Said.{Said}
use Rattle.dk_types.specs.Entries.{AreEntries, said}
use Rattle.dk_types.specs.Answers.{answer, answer_by}
use Rattle.dk_types.specs.Answers.{Answer as AnswerOf, Value as value, Dead as dead, Next as next}
use Rattle.dk_types.specs.Cards.{Card, card_said, SumUp}
use Rattle.dk_book.specs.declared.book.Answer.{Answer}
use Rattle.dk_book.specs.declared.book.Answer.TheVariants.{Value, Dead, Next}
use Rattle.dk_book.specs.Books.{BookState}

-- an answer, with what it lends
abbrev pub told : Answer → AnswerOf
told (Value values) = value values.now
told (Dead attempts) = dead attempts
told (Next attempt) = next attempt

-- the entries are well formed for the widths of the book, and its cards sum them up
pub record StandsFor (book : BookState) (entries : List Entry) : Type 0 where
  pub well_formed : AreEntries book.variables book.responses entries
  pub sum_up : SumUp book.cards entries

-- what an attempt of the card at this place gave
abbrev pub said_at : BookState → (index attempt : ℕ) → Option Said
said_at book index attempt = option_and_then (λ card. card_said card attempt) (slice_get book.cards index)

-- what the attempts of the card at this place come to
abbrev pub answer_at : FailRule → BookState → (index : ℕ) → Option AnswerOf
answer_at rule book index = option_map (λ card. answer_by rule (card_said card)) (slice_get book.cards index)

-- the same, of entries for which the book stands
abbrev pub said_there : BookState → List Entry → (index attempt : ℕ) → Option Said
said_there book entries index attempt = option_and_then (λ card. said entries card.point attempt) (slice_get book.cards index)

abbrev pub answer_there : FailRule → BookState → List Entry → (index : ℕ) → Option AnswerOf
answer_there rule book entries index = option_map (λ card. answer rule entries card.point) (slice_get book.cards index)

-- an attempt of a card, as an entry
abbrev pub entry_of : Card → (attempt : ℕ) → Said → Entry
entry_of card attempt said = record { point = card.point; attempt = attempt; said = said }
