-- What a card's attempts come to, in one step.
use Rattle.std.proofs.Common.{◌≡◌, inl, inr, ℕ, zero, suc, ◌+◌, ◌<◌, ◌≤◌, Bool, true, false, List, length, Option, Some, None, refl, ap, sym, ◌∙◌, arith, nat_lt, if◌then◌else◌}
use Rattle.std.specs.Prelude.{option_map, is_some}
use Rattle.std.proofs.lemmas.Bool.{lt-ltb, le-ltb, ltb-false, cases_lt}
use Rattle.dk_num.specs.Decimal.{Decimal}
use Rattle.dk_types.specs.declared.entry.Entry.{Entry}
use Rattle.dk_types.specs.declared.entry.Said.TheVariants.{Values}
use Rattle.dk_types.specs.declared.study.FailRule.{FailRule}
use Rattle.dk_types.specs.declared.study.FailRule.TheVariants.{Abort, Retry, Recover}
use Rattle.dk_types.specs.Entries.{attempts, first_values, failures, said, next_attempt, AreEntries}
use Rattle.dk_types.specs.Answers.{Answer, Value, Next, answer, answer_by, answer_from, by_attempt, given_up, retries}
use Rattle.dk_types.specs.Cards.{Card, card_said, card_in}
use Rattle.dk_types.proofs.Attempts.{all_failed}
use Rattle.dk_types.proofs.Growth.{answer_same}
use Rattle.dk_types.proofs.SummedUp.{says, card_failed, card_values, says_as_cards}

-- behind the failures, values or the next attempt
abbrev pub behind_failures : (failures : ℕ) → Option (List Decimal) → Answer
behind_failures k None = Next (k + 1)
behind_failures k (Some v) = Value v

-- the failures take all attempts that a rule allows, or they don't
abbrev pub card_answer : FailRule → Card → Answer
card_answer rule card = if nat_lt (retries rule) card.failures then given_up rule (retries rule + 1) else behind_failures card.failures card.values

at_values : (k : ℕ) (v : Option (List Decimal)) (o : Answer) → by_attempt (k + 1) o (option_map Values v) ≡ behind_failures k v
at_values k None o = refl
at_values k (Some v) o = refl

-- behind the failures, whatever follows
at_last : (k a : ℕ) (v : Option (List Decimal)) (o : Answer) → a ≡ k + 1 → by_attempt a o (says k v a) ≡ behind_failures k v
at_last k a v o e = ap (λ b. by_attempt b o (says k v b)) e ∙ ap (by_attempt (k + 1) o) (card_values k v) ∙ at_values k v o

-- from an attempt on that isn't past the one behind the failures
from_card : (rule : FailRule) (k : ℕ) (v : Option (List Decimal)) (left a : ℕ) → 1 ≤ a → a ≤ k + 1 →
    answer_from rule (says k v) left a ≡ (if nat_lt (a + left) (k + 1) then given_up rule (a + left) else behind_failures k v)
from_card rule k v zero a from to = elim (cases_lt a (k + 1)) [ inl l ↦ failed l | inr l ↦ last l ]
  where
    whole : a + 0 ≡ a
    whole = omega arith

    failed : a < k + 1 → by_attempt a (given_up rule a) (says k v a) ≡ (if nat_lt (a + 0) (k + 1) then given_up rule (a + 0) else behind_failures k v)
    failed l =
        ap (by_attempt a (given_up rule a)) (card_failed k a v from (omega arith))
        ∙ ap (given_up rule) (sym whole)
        ∙ ap (λ t. if t then given_up rule (a + 0) else behind_failures k v) (sym (lt-ltb (a + 0) (k + 1) (omega arith)))

    last : k + 1 ≤ a → by_attempt a (given_up rule a) (says k v a) ≡ (if nat_lt (a + 0) (k + 1) then given_up rule (a + 0) else behind_failures k v)
    last l = at_last k a v (given_up rule a) (omega arith) ∙ ap (λ t. if t then given_up rule (a + 0) else behind_failures k v) (sym (le-ltb (a + 0) (k + 1) (omega arith)))
from_card rule k v (suc left) a from to = elim (cases_lt a (k + 1)) [ inl l ↦ failed l (from_card rule k v left (a + 1) (omega arith) (omega arith)) | inr l ↦ last l ]
  where
    whole : a + 1 + left ≡ a + suc left
    whole = omega arith

    failed : a < k + 1 → answer_from rule (says k v) left (a + 1) ≡ (if nat_lt (a + 1 + left) (k + 1) then given_up rule (a + 1 + left) else behind_failures k v) →
        by_attempt a (answer_from rule (says k v) left (a + 1)) (says k v a) ≡ (if nat_lt (a + suc left) (k + 1) then given_up rule (a + suc left) else behind_failures k v)
    failed l rest =
        ap (by_attempt a (answer_from rule (says k v) left (a + 1))) (card_failed k a v from (omega arith))
        ∙ rest
        ∙ ap (λ b. if nat_lt b (k + 1) then given_up rule b else behind_failures k v) whole

    last : k + 1 ≤ a → by_attempt a (answer_from rule (says k v) left (a + 1)) (says k v a) ≡ (if nat_lt (a + suc left) (k + 1) then given_up rule (a + suc left) else behind_failures k v)
    last l = at_last k a v (answer_from rule (says k v) left (a + 1)) (omega arith)
        ∙ ap (λ t. if t then given_up rule (a + suc left) else behind_failures k v) (sym (le-ltb (a + suc left) (k + 1) (omega arith)))

pub card_answers : (rule : FailRule) (card : Card) → answer_by rule (card_said card) ≡ card_answer rule card
card_answers rule card =
    answer_same rule (card_said card) (says card.failures card.values) (λ b. refl)
    ∙ from_card rule card.failures card.values (retries rule) 1 (omega arith) (omega arith)
    ∙ ap (λ t. if t then given_up rule (1 + retries rule) else behind_failures card.failures card.values) (elim (cases_lt (retries rule) card.failures) [
      | inl l ↦ (lt-ltb (1 + retries rule) (card.failures + 1) (omega arith) ∙ sym (lt-ltb (retries rule) card.failures l))
      | inr l ↦ (le-ltb (1 + retries rule) (card.failures + 1) (omega arith) ∙ sym (le-ltb (retries rule) card.failures l))
    ])
    ∙ ap (λ n. if nat_lt (retries rule) card.failures then given_up rule n else behind_failures card.failures card.values) (let e : 1 + retries rule ≡ retries rule + 1 = omega arith in e)

-- a rule that gives a point up asks for no attempt
never_due : (rule : FailRule) (n a : ℕ) → given_up rule n ≡ Next a → ⊥
never_due rule n a e = at rule e
  where
    at : (rule : FailRule) → given_up rule n ≡ Next a → ⊥
    at Abort e = cc
    at (Retry t) e = cc
    at (Recover w) e = cc

-- a card that asks for an attempt has no values, and asks for the one behind its failures
pub card_due : (rule : FailRule) (card : Card) (a : ℕ) → answer_by rule (card_said card) ≡ Next a → (card.values ≡ None) × (a ≡ card.failures + 1)
card_due rule card a e = at (nat_lt (retries rule) card.failures) (sym (card_answers rule card) ∙ e)
  where
    behind : (v : Option (List Decimal)) → card.values ≡ v → behind_failures card.failures v ≡ Next a → (card.values ≡ None) × (a ≡ card.failures + 1)
    behind None is e = (is, let n : card.failures + 1 ≡ a = cc in sym n)
    behind (Some v) is e = absurd (cc)

    at : (t : Bool) → (if t then given_up rule (retries rule + 1) else behind_failures card.failures card.values) ≡ Next a → (card.values ≡ None) × (a ≡ card.failures + 1)
    at true e = absurd (never_due rule (retries rule + 1) a e)
    at false e = behind card.values refl e

-- and fewer of its attempts failed than the rule allows
pub due_in_time : (rule : FailRule) (card : Card) (a : ℕ) → answer_by rule (card_said card) ≡ Next a → card.failures ≤ retries rule
due_in_time rule card a e = at (nat_lt (retries rule) card.failures) refl (sym (card_answers rule card) ∙ e)
  where
    at : (t : Bool) → nat_lt (retries rule) card.failures ≡ t → (if t then given_up rule (retries rule + 1) else behind_failures card.failures card.values) ≡ Next a → card.failures ≤ retries rule
    at true h e = absurd (never_due rule (retries rule + 1) a e)
    at false h e = ltb-false (retries rule) card.failures h

pub next_due : (n m : ℕ) (rule : FailRule) (entries : List Entry) (p : List Decimal) (a : ℕ) → AreEntries n m entries → answer rule entries p ≡ Next a → next_attempt entries p ≡ Some a
next_due n m rule entries p a are e =
    let s = says_as_cards n m entries are in
    let d = card_due rule (card_in entries p) a (answer_same rule (card_said (card_in entries p)) (said entries p) (λ b. sym (s.each p b)) ∙ e) in
    let none : first_values (attempts entries p) ≡ None = d.0 in
    let all : failures (attempts entries p) ≡ length (attempts entries p) = all_failed (attempts entries p) none in
    ap (λ v. if is_some v then None else Some (length (attempts entries p) + 1)) none
    ∙ ap (λ j. Some (j + 1)) (sym all) ∙ ap Some (sym d.1)
