-- What a book of cards holds, and what becomes of its cards.
use Rattle.std.specs.Prelude.{◌≡◌, ℕ, zero, suc, ◌+◌, ◌^◌, ◌<◌, List, [], ◌∷◌, ◌++◌, All, length, Some, None, is_some, if◌then◌else◌}
use Rattle.dk_num.specs.Decimal.{Decimal}
use Rattle.dk_types.specs.declared.entry.Said.{Said}
use Rattle.dk_types.specs.declared.entry.Said.TheVariants.{Values, Failed}
use Rattle.dk_types.specs.Cards.{Card, blank, place_of, AreDistinct}
use Rattle.dk_types.specs.EntryLaws.{IsCard}

-- the cards in the order of their placing, how many decimals a point and the values of an attempt have, how many more
-- points can get a card, and how many more cards can get values
pub record BookState : Type 0 where
  pub cards : List Card
  pub variables : ℕ
  pub responses : ℕ
  pub spare : ℕ
  pub room : ℕ

-- the cards have distinct points, and the widths of the book
pub record IsBook (book : BookState) : Type 0 where
  pub distinct : AreDistinct book.cards
  pub cards : All (IsCard book.variables book.responses) book.cards
  pub few : length book.cards + book.spare < 2 ^ 32

-- the cards with one for this point: as they are where it has one, else with a blank one behind them
abbrev pub with_card : List Card → List Decimal → List Card
with_card cards p = if is_some (place_of cards p) then cards else cards ++ blank p ∷ []

-- the attempt is the next one of this card
pub record IsDue (card : Card) (attempt : ℕ) : Type 0 where
  pub none : card.values ≡ None
  pub next : attempt ≡ card.failures + 1

-- a card whose next attempt gave this
abbrev pub tried : Said → Card → Card
tried (Values values) card = record { point = card.point; failures = card.failures; values = Some values }
tried Failed card = record { point = card.point; failures = card.failures + 1; values = card.values }

-- the cards, where the next attempt of one of them gave this
abbrev pub with_attempt : List Card → (index : ℕ) → Said → List Card
with_attempt [] index said = []
with_attempt (card ∷ cards) zero said = tried said card ∷ cards
with_attempt (card ∷ cards) (suc index) said = card ∷ with_attempt cards index said

-- how many cards get values by an attempt
abbrev pub room_taken : Said → ℕ
room_taken (Values values) = 1
room_taken Failed = 0
