-- What a study waits for.
use Rattle.std.proofs.Common.{◌≡◌, ℕ, zero, suc, ◌+◌, List, [], ◌∷◌, ◌++◌, Option, Some, None, refl, sym, ap, ◌∙◌, subst}
use Rattle.std.proofs.lemmas.List.{append-nil}
use Rattle.dk_num.specs.Decimal.{Decimal}
use Rattle.dk_types.specs.declared.study.Study.{Study}
use Rattle.dk_types.specs.declared.study.FailRule.{FailRule}
use Rattle.dk_types.specs.declared.study.FailRule.TheVariants.{Abort, Retry, Recover}
use Rattle.dk_types.specs.declared.entry.Entry.{Entry}
use Rattle.dk_types.specs.declared.entry.Said.{Said}
use Rattle.dk_types.specs.declared.entry.Said.TheVariants.{Values, Failed}
use Rattle.dk_types.specs.declared.rows.Row.{Row}
use Rattle.dk_types.specs.Entries.{said}
use Rattle.dk_types.specs.Answers.{Next, answer_from, by_attempt, given_up, retries}
use Rattle.dk_types.specs.Solo.{Alone, waits, goes_on, Outcomes, Open, Seq, with_row}
use Rattle.dk_evaluate.specs.Laws.{DecidedStudiesWaitForNothing, KnownAttemptsAreNotWaitedFor, ChildsAnswersDecideAsTheChild}
use Rattle.dk_evaluate.proofs.Reaching.{undecided}
use Rattle.dk_evaluate.proofs.AsChild.{decided_as_child}

never_due : (rule : FailRule) (n a : ℕ) → given_up rule n ≡ Next a → ⊥
never_due Abort n a e = absurd (cc)
never_due (Retry times) n a e = absurd (cc)
never_due (Recover values) n a e = absurd (cc)

next_is_new : (rule : FailRule) (says : ℕ → Option Said) (left attempt a : ℕ) → answer_from rule says left attempt ≡ Next a → says a ≡ None
next_is_new rule says zero attempt a h = at (says attempt) refl h
  where
    at : (s : Option Said) → says attempt ≡ s → by_attempt attempt (given_up rule attempt) (says attempt) ≡ Next a → says a ≡ None
    at None e k = cc
    at (Some (Values v)) e k = absurd (cc)
    at (Some Failed) e k = absurd (never_due rule attempt a (sym (ap (by_attempt attempt (given_up rule attempt)) e) ∙ k))
next_is_new rule says (suc left) attempt a h = at (next_is_new rule says left (attempt + 1) a) (says attempt) refl h
  where
    at : (answer_from rule says left (attempt + 1) ≡ Next a → says a ≡ None) → (s : Option Said) → says attempt ≡ s →
        by_attempt attempt (answer_from rule says left (attempt + 1)) (says attempt) ≡ Next a → says a ≡ None
    at later None e k = cc
    at later (Some (Values v)) e k = absurd (cc)
    at later (Some Failed) e k = later (sym (ap (by_attempt attempt (answer_from rule says left (attempt + 1))) e) ∙ k)

open_is_new : (study : Study) (outcomes : Outcomes) (rows last : List Row) (p : List Decimal) (a : ℕ) → Alone study outcomes rows last (Open p a) → outcomes p a ≡ None
open_is_new study outcomes _ _ _ _ (waits rows p a next_is is) = next_is_new study.interface.rule (outcomes p) (retries study.interface.rule) 1 a is
open_is_new study outcomes _ _ p a (goes_on rows q v last verdict next_is is alone) = open_is_new study outcomes (with_row rows q v) last p a alone

pub decided_waits_for_nothing : DecidedStudiesWaitForNothing
decided_waits_for_nothing study before [] rows ending decided waited = refl
decided_waits_for_nothing study before (e ∷ added) rows ending decided waited =
    absurd (undecided study before [] waited.0.0 rows e.point e.attempt ending (subst (λ (l : List Entry). Seq study l waited.0.0 (Open e.point e.attempt)) (sym (append-nil before)) waited.0.1) decided)

pub known_is_not_waited_for : KnownAttemptsAreNotWaitedFor
known_is_not_waited_for study before [] waited = tt
known_is_not_waited_for study before (e ∷ added) waited =
    (open_is_new study (said before) [] waited.0.0 e.point e.attempt waited.0.1, known_is_not_waited_for study (before ++ e ∷ []) added waited.1)

pub answers_decide_as_child : ChildsAnswersDecideAsTheChild
answers_decide_as_child study child before added rows ending sound of_child answers waited decided = decided_as_child study child before added rows ending sound of_child answers waited decided
