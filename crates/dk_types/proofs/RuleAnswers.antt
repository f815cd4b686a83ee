-- What an answer says of the attempts at a point, and what they say of it.
use Rattle.std.proofs.Common.{◌≡◌, ◌⊎◌, inl, inr, ℕ, zero, suc, ◌+◌, ◌<◌, ◌≤◌, List, Option, Some, None, refl, ap, sym, subst, ◌∙◌, arith}
use Rattle.std.proofs.lemmas.Bool.{cases_lt}
use Rattle.dk_num.specs.Decimal.{Decimal}
use Rattle.dk_types.specs.declared.study.FailRule.{FailRule}
use Rattle.dk_types.specs.declared.study.FailRule.TheVariants.{Abort, Retry, Recover}
use Rattle.dk_types.specs.declared.entry.Said.{Said}
use Rattle.dk_types.specs.declared.entry.Said.TheVariants.{Values, Failed}
use Rattle.dk_types.specs.Answers.{Answer, Value, Dead, Next, retries, given_up, by_attempt, answer_from, answer_by}
use Rattle.dk_types.specs.Rules.{AllFail, allowed, IsReached, IsDead, IsRecovered, GivesValues, IsDue, AnswersByRule}

-- an attempt from one up to another, before which each failed
record Comes (says : ℕ → Option Said) (from to attempt : ℕ) : Type 0 where
  low : from ≤ attempt
  high : attempt ≤ to
  before : (earlier : ℕ) → from ≤ earlier → earlier < attempt → says earlier ≡ Some Failed

-- an attempt gave values
record Gave (says : ℕ → Option Said) (from to : ℕ) (o : Answer) : Type 0 where
  attempt : ℕ
  values : List Decimal
  comes : Comes says from to attempt
  gave : says attempt ≡ Some (Values values)
  is : o ≡ Value values

-- an attempt wasn't made
record Waited (says : ℕ → Option Said) (from to : ℕ) (o : Answer) : Type 0 where
  attempt : ℕ
  comes : Comes says from to attempt
  not_made : says attempt ≡ None
  is : o ≡ Next attempt

-- each failed
record Spent (rule : FailRule) (says : ℕ → Option Said) (from to : ℕ) (o : Answer) : Type 0 where
  failed : (attempt : ℕ) → from ≤ attempt → attempt ≤ to → says attempt ≡ Some Failed
  is : o ≡ given_up rule to

-- the three ways in which an answer comes about
abbrev Course : (rule : FailRule) (says : ℕ → Option Said) (from to : ℕ) → Answer → Type 0
Course rule says from to o = Gave says from to o ⊎ (Waited says from to o ⊎ Spent rule says from to o)

at_once : (says : ℕ → Option Said) (from left : ℕ) → Comes says from (from + left) from
at_once says from left = record { low = omega arith; high = omega arith; before = λ earlier low below. absurd (omega arith) }

-- an attempt more in front that failed
one_before : (says : ℕ → Option Said) (from left attempt : ℕ) → says from ≡ Some Failed → Comes says (from + 1) (from + 1 + left) attempt → Comes says from (from + suc left) attempt
one_before says from left attempt e c = record {
  low = (let l = c.low in omega arith);
  high = (let h = c.high in omega arith);
  before = λ earlier low below. elim (cases_lt from earlier) [
    | inl l ↦ c.before earlier (omega arith) below
    | inr l ↦ subst (λ n. says n ≡ Some Failed) (let same : from ≡ earlier = omega arith in same) e
  ];
}

course : (rule : FailRule) (says : ℕ → Option Said) (left from : ℕ) → Course rule says from (from + left) (answer_from rule says left from)
course rule says zero from = at (says from) refl
  where
    at : (x : Option Said) → says from ≡ x → Course rule says from (from + 0) (by_attempt from (given_up rule from) x)
    at None e = inr (inl (record { attempt = from; comes = at_once says from 0; not_made = e; is = refl }))
    at (Some (Values values)) e = inl (record { attempt = from; values = values; comes = at_once says from 0; gave = e; is = refl })
    at (Some Failed) e = inr (inr (record {
      failed = λ attempt low high. subst (λ n. says n ≡ Some Failed) (let same : from ≡ attempt = omega arith in same) e;
      is = ap (given_up rule) (let same : from ≡ from + 0 = omega arith in same);
    }))
course rule says (suc left) from = at (says from) refl (course rule says left (from + 1))
  where
    later : says from ≡ Some Failed → (o : Answer) → Course rule says (from + 1) (from + 1 + left) o → Course rule says from (from + suc left) o
    later e o (inl g) = inl (record { attempt = g.attempt; values = g.values; comes = one_before says from left g.attempt e g.comes; gave = g.gave; is = g.is })
    later e o (inr (inl w)) = inr (inl (record { attempt = w.attempt; comes = one_before says from left w.attempt e w.comes; not_made = w.not_made; is = w.is }))
    later e o (inr (inr s)) = inr (inr (record {
      failed = λ attempt low high. elim (cases_lt from attempt) [
        | inl l ↦ s.failed attempt (omega arith) (omega arith)
        | inr l ↦ subst (λ n. says n ≡ Some Failed) (let same : from ≡ attempt = omega arith in same) e
      ];
      is = s.is ∙ ap (given_up rule) (let same : from + 1 + left ≡ from + suc left = omega arith in same);
    }))

    at : (x : Option Said) → says from ≡ x → Course rule says (from + 1) (from + 1 + left) (answer_from rule says left (from + 1)) →
        Course rule says from (from + suc left) (by_attempt from (answer_from rule says left (from + 1)) x)
    at None e rest = inr (inl (record { attempt = from; comes = at_once says from (suc left); not_made = e; is = refl }))
    at (Some (Values values)) e rest = inl (record { attempt = from; values = values; comes = at_once says from (suc left); gave = e; is = refl })
    at (Some Failed) e rest = later e (answer_from rule says left (from + 1)) rest

-- the attempts that a rule allows are one and its retries
all_allowed : (rule : FailRule) → 1 + retries rule ≡ allowed rule
all_allowed Abort = refl
all_allowed (Retry times) = refl
all_allowed (Recover values) = refl

whole_course : (rule : FailRule) (says : ℕ → Option Said) → Course rule says 1 (allowed rule) (answer_by rule says)
whole_course rule says = subst (λ to. Course rule says 1 to (answer_by rule says)) (all_allowed rule) (course rule says (retries rule) 1)

reached : (rule : FailRule) (says : ℕ → Option Said) (attempt : ℕ) → Comes says 1 (allowed rule) attempt → IsReached rule says attempt
reached rule says attempt c = record { from = c.low; within = c.high; before = c.before }

-- of two attempts before which each failed and which didn't fail themselves neither is the earlier one
same_attempt : (says : ℕ → Option Said) (a b : ℕ) → 1 ≤ a → 1 ≤ b → ((earlier : ℕ) → 1 ≤ earlier → earlier < a → says earlier ≡ Some Failed) →
    ((earlier : ℕ) → 1 ≤ earlier → earlier < b → says earlier ≡ Some Failed) → (says a ≡ Some Failed → ⊥) → (says b ≡ Some Failed → ⊥) → a ≡ b
same_attempt says a b from_a from_b before_a before_b a_not b_not = elim (cases_lt a b) [
  | inl l ↦ absurd (a_not (before_b a from_a l))
  | inr l ↦ elim (cases_lt b a) [ inl m ↦ absurd (b_not (before_a b from_b m)) | inr m ↦ (let same : a ≡ b = omega arith in same) ]
]

not_none : (x : Option Said) → x ≡ None → x ≡ Some Failed → ⊥
not_none x e f = cc

not_values : (x : Option Said) (v : List Decimal) → x ≡ Some (Values v) → x ≡ Some Failed → ⊥
not_values x v e f = cc

-- Dead

gave_up_dead : (rule : FailRule) (says : ℕ → Option Said) (attempts : ℕ) → AllFail says (allowed rule) → given_up rule (allowed rule) ≡ Dead attempts → IsDead rule says attempts
gave_up_dead Abort says attempts failed e = let n : 1 ≡ attempts = cc in (sym n, subst (AllFail says) n failed)
gave_up_dead (Retry times) says attempts failed e = let n : 1 + times ≡ attempts = cc in (sym n, subst (AllFail says) n failed)
gave_up_dead (Recover values) says attempts failed e = absurd (cc)

dead_is : (rule : FailRule) (says : ℕ → Option Said) (attempts : ℕ) → Course rule says 1 (allowed rule) (answer_by rule says) → answer_by rule says ≡ Dead attempts → IsDead rule says attempts
dead_is rule says attempts (inl g) e = absurd (let i = g.is in cc)
dead_is rule says attempts (inr (inl w)) e = absurd (let i = w.is in cc)
dead_is rule says attempts (inr (inr s)) e = gave_up_dead rule says attempts s.failed (sym s.is ∙ e)

all_failed_dead : (rule : FailRule) (says : ℕ → Option Said) → AllFail says (allowed rule) → Course rule says 1 (allowed rule) (answer_by rule says) → answer_by rule says ≡ given_up rule (allowed rule)
all_failed_dead rule says failed (inl g) = absurd (not_values (says g.attempt) g.values g.gave (failed g.attempt g.comes.low g.comes.high))
all_failed_dead rule says failed (inr (inl w)) = absurd (not_none (says w.attempt) w.not_made (failed w.attempt w.comes.low w.comes.high))
all_failed_dead rule says failed (inr (inr s)) = s.is

is_dead : (rule : FailRule) (says : ℕ → Option Said) (attempts : ℕ) → IsDead rule says attempts → answer_by rule says ≡ Dead attempts
is_dead Abort says attempts d = all_failed_dead Abort says (subst (AllFail says) d.0 d.1) (whole_course Abort says) ∙ ap Dead (sym d.0)
is_dead (Retry times) says attempts d = all_failed_dead (Retry times) says (subst (AllFail says) d.0 d.1) (whole_course (Retry times) says) ∙ ap Dead (sym d.0)
is_dead (Recover values) says attempts d = absurd d

-- Values

gave_up_value : (rule : FailRule) (says : ℕ → Option Said) (v : List Decimal) → AllFail says (allowed rule) → given_up rule (allowed rule) ≡ Value v → IsRecovered rule says v
gave_up_value Abort says v failed e = absurd (cc)
gave_up_value (Retry times) says v failed e = absurd (cc)
gave_up_value (Recover values) says v failed e = (failed 1 (omega arith) (omega arith), let same : values ≡ v = cc in sym same)

value_is : (rule : FailRule) (says : ℕ → Option Said) (v : List Decimal) → Course rule says 1 (allowed rule) (answer_by rule says) → answer_by rule says ≡ Value v →
    GivesValues rule says v ⊎ IsRecovered rule says v
value_is rule says v (inl g) e =
    let i = g.is in
    let same : g.values ≡ v = cc in
    inl (record { attempt = g.attempt; reached = reached rule says g.attempt g.comes; gave = g.gave ∙ ap (λ w. Some (Values w)) same })
value_is rule says v (inr (inl w)) e = absurd (let i = w.is in cc)
value_is rule says v (inr (inr s)) e = inr (gave_up_value rule says v s.failed (sym s.is ∙ e))

gives_value : (rule : FailRule) (says : ℕ → Option Said) (v : List Decimal) → GivesValues rule says v → Course rule says 1 (allowed rule) (answer_by rule says) → answer_by rule says ≡ Value v
gives_value rule says v given (inl g) =
    let same = same_attempt says given.attempt g.attempt given.reached.from g.comes.low given.reached.before g.comes.before
    (not_values (says given.attempt) v given.gave) (not_values (says g.attempt) g.values g.gave) in
    let both : Some (Values g.values) ≡ Some (Values v) = sym g.gave ∙ ap says (sym same) ∙ given.gave in
    let values : g.values ≡ v = cc in
    g.is ∙ ap Value values
gives_value rule says v given (inr (inl w)) =
    let same = same_attempt says given.attempt w.attempt given.reached.from w.comes.low given.reached.before w.comes.before
    (not_values (says given.attempt) v given.gave) (not_none (says w.attempt) w.not_made) in
    let both : None ≡ Some (Values v) = sym w.not_made ∙ ap says (sym same) ∙ given.gave in
    absurd (cc)
gives_value rule says v given (inr (inr s)) = absurd (not_values (says given.attempt) v given.gave (s.failed given.attempt given.reached.from given.reached.within))

is_recovered : (rule : FailRule) (says : ℕ → Option Said) (v : List Decimal) → IsRecovered rule says v → answer_by rule says ≡ Value v
is_recovered Abort says v r = absurd r
is_recovered (Retry times) says v r = absurd r
is_recovered (Recover values) says v r =
    all_failed_dead (Recover values) says (λ attempt low high. subst (λ n. says n ≡ Some Failed) (let same : 1 ≡ attempt = omega arith in same) r.0) (whole_course (Recover values) says)
    ∙ ap Value (sym r.1)

-- Next

gave_up_due : (rule : FailRule) (says : ℕ → Option Said) (attempt : ℕ) → given_up rule (allowed rule) ≡ Next attempt → IsDue rule says attempt
gave_up_due Abort says attempt e = absurd (cc)
gave_up_due (Retry times) says attempt e = absurd (cc)
gave_up_due (Recover values) says attempt e = absurd (cc)

due_is : (rule : FailRule) (says : ℕ → Option Said) (attempt : ℕ) → Course rule says 1 (allowed rule) (answer_by rule says) → answer_by rule says ≡ Next attempt → IsDue rule says attempt
due_is rule says attempt (inl g) e = absurd (let i = g.is in cc)
due_is rule says attempt (inr (inl w)) e =
    let i = w.is in
    let same : w.attempt ≡ attempt = cc in
    subst (IsDue rule says) same (record { reached = reached rule says w.attempt w.comes; not_made = w.not_made })
due_is rule says attempt (inr (inr s)) e = gave_up_due rule says attempt (sym s.is ∙ e)

is_due : (rule : FailRule) (says : ℕ → Option Said) (attempt : ℕ) → IsDue rule says attempt → Course rule says 1 (allowed rule) (answer_by rule says) → answer_by rule says ≡ Next attempt
is_due rule says attempt d (inl g) =
    let same = same_attempt says attempt g.attempt d.reached.from g.comes.low d.reached.before g.comes.before
    (not_none (says attempt) d.not_made) (not_values (says g.attempt) g.values g.gave) in
    let both : None ≡ Some (Values g.values) = sym d.not_made ∙ ap says same ∙ g.gave in
    absurd (cc)
is_due rule says attempt d (inr (inl w)) =
    let same = same_attempt says attempt w.attempt d.reached.from w.comes.low d.reached.before w.comes.before
    (not_none (says attempt) d.not_made) (not_none (says w.attempt) w.not_made) in
    w.is ∙ ap Next (sym same)
is_due rule says attempt d (inr (inr s)) = absurd (not_none (says attempt) d.not_made (s.failed attempt d.reached.from d.reached.within))

values_back : (rule : FailRule) (says : ℕ → Option Said) (v : List Decimal) → GivesValues rule says v ⊎ IsRecovered rule says v → answer_by rule says ≡ Value v
values_back rule says v (inl g) = gives_value rule says v g (whole_course rule says)
values_back rule says v (inr r) = is_recovered rule says v r

pub answers_by_rule : (rule : FailRule) (says : ℕ → Option Said) → AnswersByRule rule says
answers_by_rule rule says = record {
  dead = λ attempts. (dead_is rule says attempts (whole_course rule says), is_dead rule says attempts);
  value = λ v. (value_is rule says v (whole_course rule says), values_back rule says v);
  due = λ attempt. (due_is rule says attempt (whole_course rule says), λ d. is_due rule says attempt d (whole_course rule says));
}
