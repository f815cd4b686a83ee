-- The entries of cards: each point's attempts, one after the other.
use Rattle.std.proofs.Common.{◌≡◌, ℕ, zero, suc, ◌+◌, Bool, true, false, List, [], ◌∷◌, ◌++◌, length, Option, Some, None, refl, ap, sym, subst, ◌∙◌, arith, cond, nat_lt, if◌then◌else◌, append_assoc}
use Rattle.std.specs.Prelude.{is_some, IfSome, slice_get}
use Rattle.std.specs.List.{All, find, position_or_len}
use Rattle.std.specs.Option.{option_or}
use Rattle.std.proofs.lemmas.Bool.{ltb-false}
use Rattle.std.proofs.lemmas.List.{append-nil}
use Rattle.std.proofs.lemmas.List.Elements.{All-tail}
use Rattle.std.proofs.lemmas.List.Folds.{find_at}
use Rattle.std.proofs.lemmas.Option.{slice_get_past}
use Rattle.dk_num.specs.Decimal.{Decimal}
use Rattle.dk_types.specs.declared.entry.Entry.{Entry}
use Rattle.dk_types.specs.declared.entry.Said.{Said}
use Rattle.dk_types.specs.declared.entry.Said.TheVariants.{Values, Failed}
use Rattle.dk_types.specs.Best.{same_point}
use Rattle.dk_types.specs.Entries.{attempts, first_values, failures, AreNextEntries}
use Rattle.dk_types.specs.Cards.{Card, card_in, card_at, place_of, AreDistinct}
use Rattle.dk_types.specs.EntryLaws.{IsCard, AreOf}
use Rattle.dk_types.proofs.SamePoints.{same_itself}
use Rattle.dk_types.proofs.Attempts.{attempts_first, attempts_alike, attempts_append, attempts_more, first_values_append}

abbrev entry : List Decimal → ℕ → Said → Entry
entry p a x = record { point = p; attempt = a; said = x }

-- the attempts of a point from this one on: so many that failed, and one with values, if any
abbrev tries : (p : List Decimal) (from left : ℕ) → Option (List Decimal) → List Entry
tries p from zero None = []
tries p from zero (Some v) = entry p from (Values v) ∷ []
tries p from (suc left) v = entry p from Failed ∷ tries p (from + 1) left v

abbrev outcomes : (left : ℕ) → Option (List Decimal) → List Said
outcomes zero None = []
outcomes zero (Some v) = Values v ∷ []
outcomes (suc left) v = Failed ∷ outcomes left v

outcomes_failures : (left : ℕ) (v : Option (List Decimal)) → failures (outcomes left v) ≡ left
outcomes_failures zero None = refl
outcomes_failures zero (Some v) = refl
outcomes_failures (suc left) v = let h = outcomes_failures left v in omega arith

outcomes_values : (left : ℕ) (v : Option (List Decimal)) → first_values (outcomes left v) ≡ v
outcomes_values zero None = refl
outcomes_values zero (Some v) = refl
outcomes_values (suc left) v = outcomes_values left v

-- they are attempts of this point
tries_same : (p q : List Decimal) (from left : ℕ) (v : Option (List Decimal)) → same_point p q ≡ true → attempts (tries p from left v) q ≡ outcomes left v
tries_same p q from zero None h = refl
tries_same p q from zero (Some v) h = attempts_first (entry p from (Values v)) [] q ∙ ap (λ t. cond t (Values v ∷ []) []) h
tries_same p q from (suc left) v h =
    attempts_first (entry p from Failed) (tries p (from + 1) left v) q
    ∙ ap (λ t. cond t (Failed ∷ attempts (tries p (from + 1) left v) q) (attempts (tries p (from + 1) left v) q)) h
    ∙ ap (λ s. Failed ∷ s) (tries_same p q (from + 1) left v h)

-- and of no other
tries_apart : (p q : List Decimal) (from left : ℕ) (v : Option (List Decimal)) → same_point p q ≡ false → attempts (tries p from left v) q ≡ []
tries_apart p q from zero None h = refl
tries_apart p q from zero (Some v) h = attempts_first (entry p from (Values v)) [] q ∙ ap (λ t. cond t (Values v ∷ []) []) h
tries_apart p q from (suc left) v h =
    attempts_first (entry p from Failed) (tries p (from + 1) left v) q
    ∙ ap (λ t. cond t (Failed ∷ attempts (tries p (from + 1) left v) q) (attempts (tries p (from + 1) left v) q)) h
    ∙ tries_apart p q (from + 1) left v h

pub is_next : (before : List Entry) (p : List Decimal) (a : ℕ) → first_values (attempts before p) ≡ None → a ≡ length (attempts before p) + 1 →
    (if is_some (first_values (attempts before p)) then None else Some (length (attempts before p) + 1)) ≡ Some a
is_next before p a none number = ap (λ v. if is_some v then None else Some (length (attempts before p) + 1)) none ∙ ap Some (sym number)

tries_next : (n m : ℕ) (p : List Decimal) (before : List Entry) (from left : ℕ) (v : Option (List Decimal)) → length p ≡ n → IfSome v (λ v. length v ≡ m) →
    first_values (attempts before p) ≡ None → from ≡ length (attempts before p) + 1 → AreNextEntries n m before (tries p from left v)
tries_next n m p before from zero None point values none number = tt
tries_next n m p before from zero (Some v) point values none number = (record { point = point; values = values; next = is_next before p from none number }, tt)
tries_next n m p before from (suc left) v point values none number = (
  record { point = point; values = tt; next = is_next before p from none number },
  tries_next n m p (before ++ entry p from Failed ∷ []) (from + 1) left v point values
      (ap first_values more ∙ first_values_append (attempts before p) (Failed ∷ []) ∙ ap (λ o. option_or o None) none)
      (let l : length (attempts (before ++ entry p from Failed ∷ []) p) ≡ length (attempts before p) + 1 = ap length more ∙ longer (attempts before p) in omega arith),
)
  where
    more : attempts (before ++ entry p from Failed ∷ []) p ≡ attempts before p ++ Failed ∷ []
    more = attempts_more before (entry p from Failed) p ∙ ap (λ t. attempts before p ++ cond t (Failed ∷ []) []) (same_itself p)

    longer : (s : List Said) → length (s ++ Failed ∷ []) ≡ length s + 1
    longer [] = refl
    longer (x ∷ s) = let h = longer s in omega arith

pub next_append : (n m : ℕ) (before xs ys : List Entry) → AreNextEntries n m before xs → AreNextEntries n m (before ++ xs) ys → AreNextEntries n m before (xs ++ ys)
next_append n m before [] ys are more = subst (λ b. AreNextEntries n m b ys) (append-nil before) more
next_append n m before (x ∷ xs) ys are more =
    (are.0, next_append n m (before ++ x ∷ []) xs ys are.1 (subst (λ b. AreNextEntries n m b ys) (sym (append_assoc before (x ∷ []) xs)) more))

pub not_found : (cards : List Card) (p : List Decimal) → place_of cards p ≡ None → find (λ (card : Card). same_point card.point p) cards ≡ None
not_found cards p e = find_at test cards ∙ at (nat_lt (position_or_len test cards) (length cards)) refl e
  where
    test : Card → Bool
    test = λ card. same_point card.point p

    at : (t : Bool) → nat_lt (position_or_len test cards) (length cards) ≡ t → (if t then Some (position_or_len test cards) else None) ≡ None → slice_get cards (position_or_len test cards) ≡ None
    at true h e = absurd (cc)
    at false h e = slice_get_past cards (position_or_len test cards) (ltb-false (position_or_len test cards) (length cards) h)

none_at_all : (s : List Said) → first_values s ≡ None → failures s ≡ 0 → s ≡ []
none_at_all [] none few = refl
none_at_all (Values v ∷ s) none few = absurd (cc)
none_at_all (Failed ∷ s) none few = absurd (omega arith)

pub has_entries : (n m : ℕ) (cards : List Card) → AreDistinct cards → All (IsCard n m) cards → AreOf n m cards
has_entries n m [] distinct are = record { entries = []; well_formed = tt; sum_up = record { each = λ p. refl } }
has_entries n m (c ∷ cards) distinct are = with_card (has_entries n m cards distinct.1 (All-tail (IsCard n m) c cards are))
  where
    is : IsCard n m c
    is = are 0 c (omega arith)

    with_card : AreOf n m cards → AreOf n m (c ∷ cards)
    with_card r = record {
      entries = r.entries ++ tries c.point 1 c.failures c.values;
      well_formed = next_append n m [] r.entries (tries c.point 1 c.failures c.values) r.well_formed
          (tries_next n m c.point r.entries 1 c.failures c.values is.point is.values (ap first_values none) (let l : length (attempts r.entries c.point) ≡ 0 = ap length none in omega arith));
      sum_up = record { each = λ p. at p (same_point c.point p) refl };
    }
      where
        by_card : card_at c.point None ≡ card_in r.entries c.point
        by_card = ap (card_at c.point) (sym (not_found cards c.point distinct.0)) ∙ r.sum_up.each c.point

        none : attempts r.entries c.point ≡ []
        none = none_at_all (attempts r.entries c.point) (sym (ap (λ (x : Card). x.values) by_card)) (sym (ap (λ (x : Card). x.failures) by_card))

        summed : (p : List Decimal) (s : List Said) → attempts (r.entries ++ tries c.point 1 c.failures c.values) p ≡ s →
            card_in (r.entries ++ tries c.point 1 c.failures c.values) p ≡ record { point = p; failures = failures s; values = first_values s }
        summed p s e = ap (λ (s : List Said). record { point = p; failures = failures s; values = first_values s }) e

        at : (p : List Decimal) (t : Bool) → same_point c.point p ≡ t → card_at p (cond t (Some c) (find (λ (card : Card). same_point card.point p) cards)) ≡ card_in (r.entries ++ tries c.point 1 c.failures c.values) p
        at p true h =
            let s : attempts (r.entries ++ tries c.point 1 c.failures c.values) p ≡ outcomes c.failures c.values
            = attempts_append r.entries (tries c.point 1 c.failures c.values) p
            ∙ ap (λ s. s ++ attempts (tries c.point 1 c.failures c.values) p) (sym (attempts_alike r.entries c.point p h) ∙ none)
            ∙ tries_same c.point p 1 c.failures c.values h in
            sym (summed p (outcomes c.failures c.values) s
            ∙ ap (λ k. record { point = p; failures = k; values = first_values (outcomes c.failures c.values) }) (outcomes_failures c.failures c.values)
            ∙ ap (λ v. record { point = p; failures = c.failures; values = v }) (outcomes_values c.failures c.values))
        at p false h =
            let s : attempts (r.entries ++ tries c.point 1 c.failures c.values) p ≡ attempts r.entries p
            = attempts_append r.entries (tries c.point 1 c.failures c.values) p
            ∙ ap (λ s. attempts r.entries p ++ s) (tries_apart c.point p 1 c.failures c.values h)
            ∙ append-nil (attempts r.entries p) in
            r.sum_up.each p ∙ sym (summed p (attempts r.entries p) s)
