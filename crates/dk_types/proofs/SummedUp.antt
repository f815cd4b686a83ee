-- Cards, and the entries that they sum up.
use Rattle.std.proofs.Common.{◌≡◌, ◌⊎◌, inl, inr, ℕ, zero, suc, ◌+◌, ◌<◌, ◌≤◌, Bool, true, false, List, [], ◌∷◌, ◌++◌, length, Option, Some, None, refl, ap, sym, subst, ◌∙◌, arith, cond, ◌&&◌, if◌then◌else◌, append_assoc}
use Rattle.std.specs.Prelude.{option_map, is_some, ◌==◌}
use Rattle.std.specs.Option.{option_or}
use Rattle.std.proofs.lemmas.Bool.{lt-ltb, le-ltb, eq-eqb, ne_eqb, cases_lt}
use Rattle.std.proofs.lemmas.List.{append-nil}
use Rattle.dk_num.specs.Decimal.{Decimal}
use Rattle.dk_types.specs.declared.entry.Entry.{Entry}
use Rattle.dk_types.specs.declared.entry.Said.{Said}
use Rattle.dk_types.specs.declared.entry.Said.TheVariants.{Values, Failed}
use Rattle.dk_types.specs.Best.{same_point}
use Rattle.dk_types.specs.Entries.{attempts, first_values, failures, said, IsNextEntry, AreNextEntries, AreEntries}
use Rattle.dk_types.specs.Cards.{Card, card_said, card_in, card_of, SumUp}
use Rattle.dk_types.proofs.Attempts.{attempts_alike, attempts_more, first_values_append, failures_append, all_failed, said_append, said_one}

-- what an attempt gave, where so many failed and these are the values of the one behind them
abbrev pub says : (failures : ℕ) → Option (List Decimal) → (attempt : ℕ) → Option Said
says failures values attempt = card_said (record { point = []; failures = failures; values = values }) attempt

pub card_failed : (k a : ℕ) (v : Option (List Decimal)) → 1 ≤ a → a ≤ k → says k v a ≡ Some Failed
card_failed k a v h l = rw (ne_eqb a 0 (λ e. omega arith), le-ltb k a l) refl

pub card_values : (k : ℕ) (v : Option (List Decimal)) → says k v (k + 1) ≡ option_map Values v
card_values k v = rw (ne_eqb (k + 1) 0 (λ e. omega arith), lt-ltb k (k + 1) (let l : k < k + 1 = omega arith in l), eq-eqb (k + 1) (k + 1) refl) refl

pub card_after : (k a : ℕ) (v : Option (List Decimal)) → k + 1 < a → says k v a ≡ None
card_after k a v h = rw (ne_eqb a 0 (λ e. omega arith), lt-ltb k a (let l : k < a = omega arith in l), ne_eqb a (k + 1) (λ e. omega arith)) refl

-- behind the failures a card without values tells nothing
card_none : (k a : ℕ) → k < a → says k None a ≡ None
card_none k a h = elim (cases_lt (k + 1) a) [ inl l ↦ card_after k a None l | inr l ↦ (let e : a ≡ k + 1 = omega arith in ap (says k None) e ∙ card_values k None) ]

-- entries say of each attempt what the card says that they give
pub record SaysAsCards (entries : List Entry) : Type 0 where
  pub each : (p : List Decimal) (attempt : ℕ) → said entries p attempt ≡ card_said (card_in entries p) attempt

-- no attempts
says_nothing : (a : ℕ) → None ≡ says 0 None a
says_nothing zero = refl
says_nothing (suc a) = sym (card_none 0 (suc a) (omega arith))

-- one attempt more behind failures
one_more : (k : ℕ) (x : Said) (a : ℕ) → option_or (says k None a) (cond (k + 1 == a) (Some x) None) ≡ says (k + failures (x ∷ [])) (first_values (x ∷ [])) a
one_more k x zero = rw (ne_eqb (k + 1) 0 (λ e. omega arith)) refl
one_more k x (suc a) = elim (cases_lt k (suc a)) [
  | inl l ↦ behind x l
  | inr l ↦ failed l
]
  where
    failed : suc a ≤ k → option_or (says k None (suc a)) (cond (k + 1 == suc a) (Some x) None) ≡ says (k + failures (x ∷ [])) (first_values (x ∷ [])) (suc a)
    failed l =
        ap (λ o. option_or o (cond (k + 1 == suc a) (Some x) None)) (card_failed k (suc a) None (omega arith) l)
        ∙ sym (card_failed (k + failures (x ∷ [])) (suc a) (first_values (x ∷ [])) (omega arith) (let m : suc a ≤ k + failures (x ∷ []) = omega arith in m))

    here : (x : Said) → k + 1 ≡ suc a → Some x ≡ says (k + failures (x ∷ [])) (first_values (x ∷ [])) (suc a)
    here (Values v) e = sym (ap (says (k + 0) (Some v)) (let f : suc a ≡ k + 0 + 1 = omega arith in f) ∙ card_values (k + 0) (Some v))
    here Failed e = sym (card_failed (k + 1) (suc a) None (omega arith) (omega arith))

    after : (x : Said) → k + 1 < suc a → None ≡ says (k + failures (x ∷ [])) (first_values (x ∷ [])) (suc a)
    after (Values v) l = sym (card_after (k + 0) (suc a) (Some v) (omega arith))
    after Failed l = sym (card_none (k + 1) (suc a) l)

    behind : (x : Said) → k < suc a → option_or (says k None (suc a)) (cond (k + 1 == suc a) (Some x) None) ≡ says (k + failures (x ∷ [])) (first_values (x ∷ [])) (suc a)
    behind x l = ap (λ o. option_or o (cond (k + 1 == suc a) (Some x) None)) (card_none k (suc a) l) ∙ at (cases_lt (k + 1) (suc a))
      where
        at : (k + 1 < suc a) ⊎ (suc a ≤ k + 1) → cond (k + 1 == suc a) (Some x) None ≡ says (k + failures (x ∷ [])) (first_values (x ∷ [])) (suc a)
        at (inl m) = ap (λ t. cond t (Some x) None) (ne_eqb (k + 1) (suc a) (λ e. omega arith)) ∙ after x m
        at (inr m) = let e : k + 1 ≡ suc a = omega arith in ap (λ t. cond t (Some x) None) (eq-eqb (k + 1) (suc a) e) ∙ here x e

-- what the next attempt says of those before it
next_behind : (s : List Said) (a : ℕ) → (if is_some (first_values s) then None else Some (length s + 1)) ≡ Some a → (first_values s ≡ None) × (a ≡ length s + 1)
next_behind s a h = at (first_values s) refl h
  where
    at : (o : Option (List Decimal)) → first_values s ≡ o → (if is_some o then None else Some (length s + 1)) ≡ Some a → (first_values s ≡ None) × (a ≡ length s + 1)
    at None e k = (e, let l : length s + 1 ≡ a = cc in sym l)
    at (Some v) e k = absurd (cc)

nothing_else : (o : Option Said) → option_or o None ≡ o
nothing_else None = refl
nothing_else (Some x) = refl

says_more : (n m : ℕ) (before : List Entry) (e : Entry) → IsNextEntry n m before e → SaysAsCards before → SaysAsCards (before ++ e ∷ [])
says_more n m before e is was = record {
  each = λ p a. said_append before (e ∷ []) p a ∙ ap (λ s. option_or s (said (e ∷ []) p a)) (was.each p a) ∙ ap (option_or (card_said (card_in before p) a)) (said_one e p a)
      ∙ at p a (same_point e.point p) refl
      ∙ ap (λ s. says (failures s) (first_values s) a) (sym (attempts_more before e p));
}
  where
    same : (p : List Decimal) (a : ℕ) → first_values (attempts before p) ≡ None → e.attempt ≡ length (attempts before p) + 1 →
        option_or (card_said (card_in before p) a) (cond (e.attempt == a) (Some e.said) None) ≡ says (failures (attempts before p ++ e.said ∷ [])) (first_values (attempts before p ++ e.said ∷ [])) a
    same p a none number =
        let k : failures (attempts before p) ≡ length (attempts before p) = all_failed (attempts before p) none in
        ap (λ v. option_or (says (failures (attempts before p)) v a) (cond (e.attempt == a) (Some e.said) None)) none
        ∙ ap (λ b. option_or (says (failures (attempts before p)) None a) (cond (b == a) (Some e.said) None)) (let f : e.attempt ≡ failures (attempts before p) + 1 = omega arith in f)
        ∙ one_more (failures (attempts before p)) e.said a
        ∙ ap (λ j. says j (first_values (e.said ∷ [])) a) (sym (failures_append (attempts before p) (e.said ∷ [])))
        ∙ ap (λ v. says (failures (attempts before p ++ e.said ∷ [])) v a) (sym (first_values_append (attempts before p) (e.said ∷ []) ∙ ap (λ v. option_or v (first_values (e.said ∷ []))) none))

    at : (p : List Decimal) (a : ℕ) (t : Bool) → same_point e.point p ≡ t →
        option_or (card_said (card_in before p) a) (cond (t && (e.attempt == a)) (Some e.said) None) ≡ says (failures (attempts before p ++ cond t (e.said ∷ []) [])) (first_values (attempts before p ++ cond t (e.said ∷ []) [])) a
    at p a false h = nothing_else (card_said (card_in before p) a) ∙ ap (λ s. says (failures s) (first_values s) a) (sym (append-nil (attempts before p)))
    at p a true h =
        let s : attempts before e.point ≡ attempts before p = attempts_alike before e.point p h in
        let b = next_behind (attempts before p) e.attempt (ap (λ s. if is_some (first_values s) then None else Some (length s + 1)) (sym s) ∙ is.next) in
        same p a b.0 b.1

says_all : (n m : ℕ) (before entries : List Entry) → AreNextEntries n m before entries → SaysAsCards before → SaysAsCards (before ++ entries)
says_all n m before [] are was = subst SaysAsCards (sym (append-nil before)) was
says_all n m before (e ∷ entries) are was =
    subst SaysAsCards (append_assoc before (e ∷ []) entries) (says_all n m (before ++ e ∷ []) entries are.1 (says_more n m before e are.0 was))

pub says_as_cards : (n m : ℕ) (entries : List Entry) → AreEntries n m entries → SaysAsCards entries
says_as_cards n m entries are = says_all n m [] entries are (record { each = λ p a. says_nothing a })

pub cards_say : (n m : ℕ) (cards : List Card) (entries : List Entry) (p : List Decimal) (attempt : ℕ) →
    AreEntries n m entries → SumUp cards entries → said entries p attempt ≡ card_said (card_of cards p) attempt
cards_say n m cards entries p attempt are sum = (says_as_cards n m entries are).each p attempt ∙ ap (λ c. card_said c attempt) (sym (sum.each p))
