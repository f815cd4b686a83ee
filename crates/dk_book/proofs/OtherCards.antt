-- Cards that another card's attempt, or another point, leaves as they were.
use Rattle.std.proofs.Common.{◌≡◌, ℕ, zero, suc, ◌<◌, Bool, true, false, List, [], ◌∷◌, ◌++◌, length, refl, ap, if◌then◌else◌}
use Rattle.std.specs.Prelude.{slice_get, option_map, is_some}
use Rattle.dk_num.specs.Decimal.{Decimal}
use Rattle.dk_types.specs.declared.entry.Said.{Said}
use Rattle.dk_types.specs.Cards.{Card, blank, place_of}
use Rattle.dk_book.specs.Books.{with_card, tried, with_attempt}
use Rattle.dk_book.proofs.Lists.{item_kept}

-- the card of the place
pub tried_there : (cards : List Card) (index : ℕ) (said : Said) → slice_get (with_attempt cards index said) index ≡ option_map (tried said) (slice_get cards index)
tried_there [] index said = refl
tried_there (c ∷ cards) zero said = refl
tried_there (c ∷ cards) (suc index) said = tried_there cards index said

others_kept : (cards : List Card) (index : ℕ) (said : Said) (place : ℕ) → (place ≡ index → ⊥) → slice_get (with_attempt cards index said) place ≡ slice_get cards place
others_kept [] index said place other = refl
others_kept (c ∷ cards) zero said zero other = absurd (other refl)
others_kept (c ∷ cards) zero said (suc place) other = refl
others_kept (c ∷ cards) (suc index) said zero other = refl
others_kept (c ∷ cards) (suc index) said (suc place) other = others_kept cards index said place (λ e. other (ap suc e))

pub one_changed : (cards : List Card) (index : ℕ) (said : Said) →
    (slice_get (with_attempt cards index said) index ≡ option_map (tried said) (slice_get cards index))
    × ((place : ℕ) → (place ≡ index → ⊥) → slice_get (with_attempt cards index said) place ≡ slice_get cards place)
one_changed cards index said = (tried_there cards index said, others_kept cards index said)

pub placed_kept : (cards : List Card) (p : List Decimal) (place : ℕ) → place < length cards → slice_get (with_card cards p) place ≡ slice_get cards place
placed_kept cards p place h = at (is_some (place_of cards p))
  where
    at : (t : Bool) → slice_get (if t then cards else cards ++ blank p ∷ []) place ≡ slice_get cards place
    at true = refl
    at false = item_kept cards (blank p) place h
