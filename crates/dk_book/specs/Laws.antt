-- What becomes of the cards at their places.
use Rattle.std.specs.Prelude.{◌≡◌, ℕ, ◌<◌, List, length, slice_get, option_map}
use Rattle.dk_num.specs.Decimal.{Decimal}
use Rattle.dk_types.specs.declared.entry.Said.{Said}
use Rattle.dk_types.specs.Cards.{Card}
use Rattle.dk_book.specs.Books.{with_card, tried, with_attempt}

-- an attempt changes the card of its place, and no other
abbrev pub AttemptsChangeOneCard : Type 0
AttemptsChangeOneCard = (cards : List Card) (index : ℕ) (said : Said) →
    (slice_get (with_attempt cards index said) index ≡ option_map (tried said) (slice_get cards index))
    × ((place : ℕ) → ¬ (place ≡ index) → slice_get (with_attempt cards index said) place ≡ slice_get cards place)

-- a card that was there stays as it was and where it was, whichever point is placed
abbrev pub PlacingKeepsCards : Type 0
PlacingKeepsCards = (cards : List Card) (p : List Decimal) (place : ℕ) → place < length cards → slice_get (with_card cards p) place ≡ slice_get cards place
