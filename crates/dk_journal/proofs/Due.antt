-- Which attempt of a card is the next one, by what the card tells of attempts.
use Rattle.std.proofs.Common.{◌≡◌, ◌⊎◌, inl, inr, ℕ, ◌+◌, ◌-◌, ◌≤◌, Bool, true, false, IsTrue, List, [], ◌∷◌, ◌++◌, length, Option, Some, None, refl, ap, sym, ◌∙◌, arith, if◌then◌else◌}
use Rattle.std.specs.Prelude.{option_map, option_and_then, is_some, slice_get, IfSome}
use Rattle.std.proofs.lemmas.Bool.{cases_lt}
use Rattle.std.proofs.lemmas.List.{length_push}
use Rattle.dk_num.specs.Decimal.{Decimal}
use Rattle.dk_types.specs.declared.entry.Entry.{Entry}
use Rattle.dk_types.specs.declared.entry.Said.{Said}
use Rattle.dk_types.specs.declared.entry.Said.TheVariants.{Values, Failed}
use Rattle.dk_types.specs.Entries.{attempts, first_values, said, next_attempt}
use Rattle.dk_types.specs.Cards.{Card, card_said, card_in, place_of, blank}
use Rattle.dk_types.proofs.Attempts.{all_failed}
use Rattle.dk_types.proofs.SummedUp.{says, card_failed, card_values, card_after, says_as_cards}
use Rattle.dk_book.specs.Books.{BookState, IsBook, IsDue, with_card}
use Rattle.dk_book.specs.Told.{StandsFor}
use Rattle.dk_book.proofs.Read.{said_entries}

-- the attempt before this one failed, if there was one, and this one wasn't made
pub record IsUntried (tells : ℕ → Option Said) (attempt : ℕ) : Type 0 where
  pub numbered : 1 ≤ attempt
  pub none : tells attempt ≡ None
  pub before : (attempt ≡ 1) ⊎ (tells (attempt - 1) ≡ Some Failed)

no_values : (v : Option (List Decimal)) → option_map Values v ≡ None → v ≡ None
no_values None e = refl
no_values (Some v) e = absurd (cc)

no_failure : (v : Option (List Decimal)) → option_map Values v ≡ Some Failed → ⊥
no_failure None e = absurd (cc)
no_failure (Some v) e = absurd (cc)

module _ (k : ℕ) (v : Option (List Decimal)) where
  -- so the attempt isn't past the one behind the failures
  not_past : (a : ℕ) → 1 ≤ a → (a ≡ 1) ⊎ (says k v (a - 1) ≡ Some Failed) → a ≤ k + 1
  not_past a from (inl e) = omega arith
  not_past a from (inr e) = elim (cases_lt (k + 1) (a - 1)) [
    | inl l ↦ absurd (let n = card_after k (a - 1) v l in let no : None ≡ Some Failed = sym n ∙ e in cc)
    | inr l ↦ elim (cases_lt k (a - 1)) [
      | inl m ↦ absurd (let f : a - 1 ≡ k + 1 = omega arith in no_failure v (sym (card_values k v) ∙ ap (says k v) (sym f) ∙ e))
      | inr m ↦ omega arith
    ]
  ]

  -- nor is it one of the failures
  not_failed : (a : ℕ) → 1 ≤ a → says k v a ≡ None → k + 1 ≤ a
  not_failed a from none = elim (cases_lt a (k + 1)) [
    | inl l ↦ absurd (let f = card_failed k a v from (omega arith) in let no : None ≡ Some Failed = sym none ∙ f in cc)
    | inr l ↦ l
  ]

  next_is : (a : ℕ) → 1 ≤ a → says k v a ≡ None → (a ≡ 1) ⊎ (says k v (a - 1) ≡ Some Failed) → a ≡ k + 1
  next_is a from none before = let low = not_failed a from none in let high = not_past a from before in omega arith

pub untried_due : (card : Card) (a : ℕ) → IsUntried (card_said card) a → IsDue card a
untried_due card a u =
    let e = next_is card.failures card.values a u.numbered u.none u.before in
    record { none = no_values card.values (sym (card_values card.failures card.values) ∙ ap (says card.failures card.values) (sym e) ∙ u.none); next = e }

pub due_untried : (card : Card) (a : ℕ) → IsDue card a → IsUntried (card_said card) a
due_untried card a d = record {
  numbered = omega (arith, d.next);
  none = ap (says card.failures card.values) d.next ∙ card_values card.failures card.values ∙ ap (option_map Values) d.none;
  before = elim (cases_lt 0 card.failures) [
    | inl l ↦ inr (card_failed card.failures (a - 1) card.values (omega (arith, d.next)) (omega (arith, d.next)))
    | inr l ↦ inl (omega (arith, d.next))
  ];
}

next_behind : (s : List Said) (a : ℕ) → (if is_some (first_values s) then None else Some (length s + 1)) ≡ Some a → (first_values s ≡ None) × (a ≡ length s + 1)
next_behind s a h = at (first_values s) refl h
  where
    at : (o : Option (List Decimal)) → first_values s ≡ o → (if is_some o then None else Some (length s + 1)) ≡ Some a → (first_values s ≡ None) × (a ≡ length s + 1)
    at None e k = (e, let l : length s + 1 ≡ a = cc in sym l)
    at (Some v) e k = absurd (cc)

-- the next attempt of a point is the next one of the card that the entries give it
next_due : (entries : List Entry) (p : List Decimal) (a : ℕ) → next_attempt entries p ≡ Some a → IsDue (card_in entries p) a
next_due entries p a next =
    let b = next_behind (attempts entries p) a next in
    record { none = b.0; next = b.1 ∙ ap (λ n. n + 1) (sym (all_failed (attempts entries p) b.0)) }

-- the next attempt of a point is the next one of its card in a book that stands for the entries
pub next_is_due : (book : BookState) (entries : List Entry) (index : ℕ) (p : List Decimal) (a : ℕ) → IsBook book → StandsFor book entries →
    option_map (λ (c : Card). c.point) (slice_get book.cards index) ≡ Some p → next_attempt entries p ≡ Some a → IfSome (slice_get book.cards index) (λ c. IsDue c a)
next_is_due book entries index p a is stands point next = at (slice_get book.cards index) point (λ b. said_entries book entries index b is stands)
  where
    at : (o : Option Card) → option_map (λ (c : Card). c.point) o ≡ Some p →
        ((b : ℕ) → option_and_then (λ card. card_said card b) o ≡ option_and_then (λ card. said entries card.point b) o) → IfSome o (λ c. IsDue c a)
    at None e same = tt
    at (Some card) e same =
        let point_is : card.point ≡ p = cc in
        let u = due_untried (card_in entries p) a (next_due entries p a next) in
        let tells : (b : ℕ) → card_said card b ≡ card_said (card_in entries p) b = λ b. same b ∙ ap (λ (q : List Decimal). said entries q b) point_is ∙ (says_as_cards book.variables book.responses entries stands.well_formed).each p b in
        untried_due card a (record {
          numbered = u.numbered;
          none = tells a ∙ u.none;
          before = elim u.before [ inl one ↦ inl one | inr failed ↦ inr (tells (a - 1) ∙ failed) ];
        })

-- a point takes room for one card at most
pub placed_spare : (cards : List Card) (p : List Decimal) (after : List Card) (spare left : ℕ) → after ≡ with_card cards p → length after + left ≡ length cards + spare → spare ≤ left + 1
placed_spare cards p after spare left e takes = omega (arith, ap length e, takes, at (is_some (place_of cards p)))
  where
    at : (t : Bool) → length (if t then cards else cards ++ blank p ∷ []) ≤ length cards + 1
    at true = omega arith
    at false = omega (arith, length_push cards (blank p))

pub not_due : (t : Bool) {P : Type 0} → t ≡ false → (P → IsTrue t) → P → ⊥
not_due true e due p = absurd (cc)
not_due false e due p = absurd (let no_way : false ≡ true = due p in cc)
