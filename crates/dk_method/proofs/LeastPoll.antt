-- The first least one of the values of an iteration's polls.
use Rattle.std.proofs.Common.{◌≡◌, ℕ, zero, suc, ◌<◌, ◌≤◌, Bool, true, false, not, List, [], ◌∷◌, length, get_or, Some, None, refl, sym, ap, ◌∙◌, arith, ◌&&◌, true≢false}
use Rattle.std.specs.List.{list_all, position_or_len}
use Rattle.std.proofs.lemmas.Grind.{common_steps}
use Rattle.std.proofs.lemmas.List.Quantifiers.{position-Some}
use Rattle.std.proofs.lemmas.List.{get_or_default}
use Rattle.std.proofs.lemmas.List.Sums.{fails_before_first, AllPass-from_list_all, list_all-from_AllPass}
use Rattle.dk_num.specs.Decimal.{Decimal}
use Rattle.dk_types.specs.Best.{is_below}
use Rattle.dk_types.specs.Search.{first_least}
use Rattle.dk_types.proofs.Below.{not_below_itself, below_along, not_both_below}

-- each poll has a value
abbrev pub AreSome : List (List Decimal) → Type 0
AreSome values = (j : ℕ) → j < length values → 0 < length (get_or values j [])

-- no other one is below the values at this place
pub record IsLeastOf (values : List (List Decimal)) (i : ℕ) : Type 0 where
  pub within : i < length values
  pub least : (j : ℕ) → j < length values → is_below (get_or values j []) (get_or values i []) ≡ false

-- and those before it aren't least
pub record IsFirstLeastOf (values : List (List Decimal)) (i : ℕ) : Type 0 where
  pub is : IsLeastOf values i
  pub first : (j : ℕ) → j < i → is_below (get_or values i []) (get_or values j []) ≡ true

-- the test for the least one
abbrev is_least_of : List (List Decimal) → List Decimal → Bool
is_least_of values v = list_all (λ other. not (is_below other v)) values

not_true : (b : Bool) → not b ≡ true → b ≡ false
not_true true e = absurd (cc)
not_true false e = refl

least_from : (values : List (List Decimal)) (i : ℕ) → i < length values → is_least_of values (get_or values i []) ≡ true → IsLeastOf values i
least_from values i within e = record {
  within = within;
  least = λ j inside. not_true (is_below (get_or values j []) (get_or values i [])) (AllPass-from_list_all (λ other. not (is_below other (get_or values i []))) values e j [] inside);
}

from_least : (values : List (List Decimal)) (i : ℕ) → IsLeastOf values i → is_least_of values (get_or values i []) ≡ true
from_least values i is = list_all-from_AllPass (λ other. not (is_below other (get_or values i []))) values (λ j d inside. ap not (there j d inside))
  where
    there : (j : ℕ) (d : List Decimal) → j < length values → is_below (get_or values j d) (get_or values i []) ≡ false
    there j d inside = ap (λ v. is_below v (get_or values i [])) (get_or_default values j d [] inside) ∙ is.least j inside

-- one that isn't least has another one below it
record HasBelow (values : List (List Decimal)) (v : List Decimal) : Type 0 where
  place : ℕ
  within : place < length values
  below : is_below (get_or values place []) v ≡ true

has_below : (values : List (List Decimal)) (v : List Decimal) → is_least_of values v ≡ false → HasBelow values v
has_below [] v e = absurd (cc)
has_below (x ∷ values) v e = at (is_below x v) refl e (has_below values v)
  where
    at : (b : Bool) → is_below x v ≡ b → (not b && is_least_of values v) ≡ false → (is_least_of values v ≡ false → HasBelow values v) → HasBelow (x ∷ values) v
    at true b e rest = record { place = 0; within = omega arith; below = b }
    at false b e rest = let k = rest e in record { place = suc k.place; within = (let w = k.within in omega arith); below = k.below }

-- there is a least one
record HasLeast (values : List (List Decimal)) : Type 0 where
  place : ℕ
  is : IsLeastOf values place

has_least : (v : List Decimal) (values : List (List Decimal)) → AreSome (v ∷ values) → HasLeast (v ∷ values)
has_least v [] some = record { place = 0; is = record { within = omega arith; least = only } }
  where
    only : (j : ℕ) → j < 1 → is_below (get_or (v ∷ []) j []) v ≡ false
    only zero l = not_below_itself v
    only (suc j) l = absurd (omega arith)
has_least v (w ∷ values) some = at (has_least w values (λ j l. some (suc j) (omega arith)))
  where
    at : HasLeast (w ∷ values) → HasLeast (v ∷ (w ∷ values))
    at k = by (is_below v (get_or (w ∷ values) k.place [])) refl
      where
        m : List Decimal
        m = get_or (w ∷ values) k.place []

        here : is_below v m ≡ true → (j : ℕ) → j < length (v ∷ (w ∷ values)) → is_below (get_or (v ∷ (w ∷ values)) j []) v ≡ false
        here b zero l = not_below_itself v
        here b (suc j) l =
            let inside : j < length (w ∷ values) = omega arith in
            not_both_below v (get_or (w ∷ values) j []) (below_along v m (get_or (w ∷ values) j []) (some (suc j) l) b (k.is.least j inside))

        there : is_below v m ≡ false → (j : ℕ) → j < length (v ∷ (w ∷ values)) → is_below (get_or (v ∷ (w ∷ values)) j []) m ≡ false
        there b zero l = b
        there b (suc j) l = k.is.least j (omega arith)

        by : (b : Bool) → is_below v m ≡ b → HasLeast (v ∷ (w ∷ values))
        by true b = record { place = 0; is = record { within = omega arith; least = here b } }
        by false b = record { place = suc k.place; is = record { within = (let w = k.is.within in omega arith); least = there b } }

-- where none is found, there are no polls
pub none_least : (values : List (List Decimal)) → AreSome values → first_least values ≡ None → values ≡ []
none_least [] some e = refl
none_least (v ∷ values) some e = absurd (
    let k = has_least v values some in
    let all : length (v ∷ values) ≤ position_or_len (is_least_of (v ∷ values)) (v ∷ values) = grind (arith, common_steps) in
    let within = k.is.within in
    let a : is_least_of (v ∷ values) (get_or (v ∷ values) k.place []) ≡ true = from_least (v ∷ values) k.place k.is in
    let b : is_least_of (v ∷ values) (get_or (v ∷ values) k.place []) ≡ false = fails_before_first (is_least_of (v ∷ values)) (v ∷ values) k.place [] (omega arith) in
    true≢false (sym a ∙ b))

-- the one that is found is the first least one
pub is_first_least : (values : List (List Decimal)) (i : ℕ) → AreSome values → first_least values ≡ Some i → IsFirstLeastOf values i
is_first_least values i some e =
    let found = position-Some (is_least_of values) values i [] e in
    let is : IsLeastOf values i = least_from values i found.0 found.1 in
    record {
      is = is;
      first = λ j l.
          let k = has_below values (get_or values j []) (found.2 j l) in
          onward (get_or values i []) (get_or values j []) (get_or values k.place []) (some i found.0) k.below (is.least k.place k.within);
    }
  where
    -- below another one that isn't below this one
    onward : (v y z : List Decimal) → 0 < length v → is_below z y ≡ true → is_below z v ≡ false → is_below v y ≡ true
    onward v y z some b n = by (is_below v y) refl
      where
        by : (t : Bool) → is_below v y ≡ t → is_below v y ≡ true
        by true e = e
        by false e = absurd (true≢false (sym (below_along z y v some b e) ∙ n))

-- where the least one isn't below these values, none is
pub none_below : (values : List (List Decimal)) (i : ℕ) (v : List Decimal) → AreSome values → IsLeastOf values i → is_below (get_or values i []) v ≡ false →
    (j : ℕ) → j < length values → is_below (get_or values j []) v ≡ false
none_below values i v some is n j inside = by (is_below (get_or values j []) v) refl
  where
    by : (t : Bool) → is_below (get_or values j []) v ≡ t → is_below (get_or values j []) v ≡ false
    by false e = e
    by true e = absurd (true≢false (sym (below_along (get_or values j []) v (get_or values i []) (some i is.within) e n) ∙ is.least j inside))
