-- Entries, summed up: one card for a point.
use Rattle.std.specs.Prelude.{◌≡◌, ℕ, ◌+◌, List, [], ◌∷◌, Option, Some, None, option_map, ◌==◌, if◌then◌else◌, nat_lt, position}
use Rattle.std.specs.List.{find}
use Rattle.dk_num.specs.Decimal.{Decimal}
use Rattle.dk_types.specs.declared.entry.Entry.{Entry}
use Rattle.dk_types.specs.declared.entry.Said.{Said}
use Rattle.dk_types.specs.declared.entry.Said.TheVariants.{Values, Failed}
use Rattle.dk_types.specs.Best.{same_point}
use Rattle.dk_types.specs.Entries.{attempts, first_values, failures}

-- a point, how many of its attempts failed, and the values of the attempt behind these, where it was made
pub record Card : Type 0 where
  pub point : List Decimal
  pub failures : ℕ
  pub values : Option (List Decimal)

-- no attempt was made
abbrev pub blank : List Decimal → Card
blank point = record { point = point; failures = 0; values = None }

-- what this attempt gave, by a card
abbrev pub card_said : Card → (attempt : ℕ) → Option Said
card_said card attempt =
    if attempt == 0 then None
    else (if nat_lt card.failures attempt then (if attempt == card.failures + 1 then option_map Values card.values else None)
    else Some Failed)

-- the card that entries give a point
abbrev pub card_in : List Entry → List Decimal → Card
card_in entries p = record { point = p; failures = failures (attempts entries p); values = first_values (attempts entries p) }

-- where the card of a point stands, counted from 0
abbrev pub place_of : List Card → List Decimal → Option ℕ
place_of cards p = position (λ card. same_point card.point p) cards

-- the attempts of a card, as those of a point
abbrev pub card_at : List Decimal → Option Card → Card
card_at p None = blank p
card_at p (Some card) = record { point = p; failures = card.failures; values = card.values }

-- the card of a point among others, and a blank one where none of them is the point's
abbrev pub card_of : List Card → List Decimal → Card
card_of cards p = card_at p (find (λ card. same_point card.point p) cards)

-- no two cards are of one point
abbrev pub AreDistinct : List Card → Type 0
AreDistinct [] = Unit {0}
AreDistinct (card ∷ cards) = (place_of cards card.point ≡ None) × AreDistinct cards

-- the cards sum up the entries: each point has the card that its entries give it
pub record SumUp (cards : List Card) (entries : List Entry) : Type 0 where
  pub each : (p : List Decimal) → card_of cards p ≡ card_in entries p
