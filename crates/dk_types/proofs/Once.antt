-- A study comes to one thing, in one way; where a child answers each attempt, it ends.
use Rattle.std.proofs.Common.{◌≡◌, ℕ, zero, suc, ◌+◌, ◌≤◌, true, false, List, [], ◌∷◌, length, Some, subst, sym, ap, ◌∙◌, refl, arith, length-append}
use Rattle.dk_num.specs.Decimal.{Decimal}
use Rattle.dk_types.specs.declared.study.Study.{Study}
use Rattle.dk_types.specs.declared.study.FailRule.{FailRule}
use Rattle.dk_types.specs.declared.study.FailRule.TheVariants.{Abort, Retry, Recover}
use Rattle.dk_types.specs.declared.study.Ending.{Ending}
use Rattle.dk_types.specs.declared.study.Ending.TheVariants.{Finished, Aborted}
use Rattle.dk_types.specs.declared.study.Why.{Why}
use Rattle.dk_types.specs.declared.entry.Said.{Said}
use Rattle.dk_types.specs.declared.entry.Said.TheVariants.{Values, Failed}
use Rattle.dk_types.specs.declared.rows.Row.{Row}
use Rattle.dk_types.specs.Limits.{limit}
use Rattle.dk_types.specs.Planned as planned
use Rattle.dk_types.specs.Planned.{next, At, Over}
use Rattle.dk_types.specs.Answers.{Answer, Value, Dead, Next, retries, given_up, by_attempt, answer_from}
use Rattle.dk_types.specs.Solo.{Alone, finished, aborted, waits, goes_on, Outcomes, outcomes_of, Child, Verdict, Ended, Open, with_row}
use Rattle.dk_types.specs.Laws.{ComesOnce, EndsOnce, answer_in}
use Rattle.dk_types.specs.EntryLaws.{is_answered}
use Rattle.dk_types.proofs.Following.{IsAhead, is_ahead}

-- what follows where a study comes from these rows to those others and that verdict: by what the next point's attempts
-- come to
abbrev pub TurnsBy : (study : Study) (outcomes : Outcomes) (rows : List Row) → List Decimal → List Row → Verdict → Answer → Type 0
TurnsBy study outcomes rows p others other (Value v) = Alone study outcomes (with_row rows p v) others other
TurnsBy study outcomes rows p others other (Dead attempts) = (others ≡ rows) × (other ≡ Ended (Aborted (length rows + 1) attempts))
TurnsBy study outcomes rows p others other (Next attempt) = (others ≡ rows) × (other ≡ Open p attempt)

-- and by what comes next
abbrev pub Turns : (study : Study) (outcomes : Outcomes) (rows : List Row) → List Row → Verdict → planned.Next → Type 0
Turns study outcomes rows others other (At p) = TurnsBy study outcomes rows p others other (answer_in study outcomes p)
Turns study outcomes rows others other (Over why) = (others ≡ rows) × (other ≡ Ended (Finished why))

-- and it does follow
turns : (study : Study) (outcomes : Outcomes) (rows others : List Row) (other : Verdict) → Alone study outcomes rows others other → Turns study outcomes rows others other (next study rows)
turns study outcomes _ _ _ (finished rows why e) = subst (Turns study outcomes rows rows (Ended (Finished why))) (sym e) (refl, refl)
turns study outcomes _ _ _ (aborted rows p attempts e a) =
    let end = Ended (Aborted (length rows + 1) attempts) in
    subst (Turns study outcomes rows rows end) (sym e) (subst (TurnsBy study outcomes rows p rows end) (sym a) (refl, refl))
turns study outcomes _ _ _ (waits rows p attempt e a) =
    subst (Turns study outcomes rows rows (Open p attempt)) (sym e) (subst (TurnsBy study outcomes rows p rows (Open p attempt)) (sym a) (refl, refl))
turns study outcomes _ _ _ (goes_on rows p v last verdict e a s) =
    subst (Turns study outcomes rows last verdict) (sym e) (subst (TurnsBy study outcomes rows p last verdict) (sym a) s)

-- where no point is left
pub turns_over : (study : Study) (outcomes : Outcomes) (rows others : List Row) (other : Verdict) (why : Why) → next study rows ≡ Over why →
    Alone study outcomes rows others other → (others ≡ rows) × (other ≡ Ended (Finished why))
turns_over study outcomes rows others other why e s = subst (Turns study outcomes rows others other) e (turns study outcomes rows others other s)

-- where one is left, and its attempts come to this
pub turns_by : (study : Study) (outcomes : Outcomes) (rows others : List Row) (other : Verdict) (p : List Decimal) (a : Answer) → next study rows ≡ At p → answer_in study outcomes p ≡ a →
    Alone study outcomes rows others other → TurnsBy study outcomes rows p others other a
turns_by study outcomes rows others other p a e h s =
    subst (TurnsBy study outcomes rows p others other) h (subst (Turns study outcomes rows others other) e (turns study outcomes rows others other s))

-- from any rows on a study comes to one thing only
pub alone_once : (study : Study) (outcomes : Outcomes) (rows last others : List Row) (verdict other : Verdict) →
    Alone study outcomes rows last verdict → Alone study outcomes rows others other → (others ≡ last) × (other ≡ verdict)
alone_once study outcomes _ _ others _ other (finished rows why e) t = turns_over study outcomes rows others other why e t
alone_once study outcomes _ _ others _ other (aborted rows p attempts e a) t = turns_by study outcomes rows others other p (Dead attempts) e a t
alone_once study outcomes _ _ others _ other (waits rows p attempt e a) t = turns_by study outcomes rows others other p (Next attempt) e a t
alone_once study outcomes _ _ others _ other (goes_on rows p v last verdict e a s) t =
    alone_once study outcomes (with_row rows p v) last others verdict other s (turns_by study outcomes rows others other p (Value v) e a t)

pub length_more : (rows : List Row) (p v : List Decimal) → length (with_row rows p v) ≡ length rows + 1
length_more rows p v = length-append rows (record { point = p; values = v } ∷ [])

-- what a study comes to from these rows on
record SomeEnd (study : Study) (outcomes : Outcomes) (rows : List Row) : Type 0 where
  last : List Row
  verdict : Verdict
  comes : Alone study outcomes rows last verdict

-- so many points come at most
some_end : (turns : ℕ) (study : Study) (outcomes : Outcomes) (rows : List Row) → limit study + 1 ≤ length rows + turns → SomeEnd study outcomes rows
some_end zero study outcomes rows h = at (next study rows) refl
  where
    at : (n : planned.Next) → next study rows ≡ n → SomeEnd study outcomes rows
    at (Over why) e = record { last = rows; verdict = Ended (Finished why); comes = finished rows why e }
    at (At p) e = absurd (let k : IsAhead study rows p = is_ahead study rows p e in let r = k.room.all in omega arith)
some_end (suc turns) study outcomes rows h =
    at (next study rows) refl (λ p v. some_end turns study outcomes (with_row rows p v) (let l = length_more rows p v in omega arith))
  where
    answered : (p : List Decimal) (a : Answer) → next study rows ≡ At p → answer_in study outcomes p ≡ a → ((v : List Decimal) → SomeEnd study outcomes (with_row rows p v)) → SomeEnd study outcomes rows
    answered p (Value v) e a rest = let r : SomeEnd study outcomes (with_row rows p v) = rest v in record { last = r.last; verdict = r.verdict; comes = goes_on rows p v r.last r.verdict e a r.comes }
    answered p (Dead attempts) e a rest = record { last = rows; verdict = Ended (Aborted (length rows + 1) attempts); comes = aborted rows p attempts e a }
    answered p (Next attempt) e a rest = record { last = rows; verdict = Open p attempt; comes = waits rows p attempt e a }

    at : (n : planned.Next) → next study rows ≡ n → ((p v : List Decimal) → SomeEnd study outcomes (with_row rows p v)) → SomeEnd study outcomes rows
    at (Over why) e rest = record { last = rows; verdict = Ended (Finished why); comes = finished rows why e }
    at (At p) e rest = answered p (answer_in study outcomes p) e refl (rest p)

pub each_comes_once : (study : Study) (outcomes : Outcomes) → ComesOnce study outcomes
each_comes_once study outcomes =
    let e : SomeEnd study outcomes [] = some_end (limit study + 1) study outcomes [] (omega arith) in
    record { rows = e.last; verdict = e.verdict; comes = e.comes; only = λ others other t. alone_once study outcomes [] e.last others e.verdict other e.comes t }

-- where each attempt gives something, none is to be made next
pub never_next : (rule : FailRule) (says : ℕ → Said) (left attempt : ℕ) → is_answered (answer_from rule (λ k. Some (says k)) left attempt) ≡ true
never_next rule says zero attempt = by (says attempt) (given rule)
  where
    given : (r : FailRule) → is_answered (given_up r attempt) ≡ true
    given Abort = refl
    given (Retry times) = refl
    given (Recover values) = refl

    by : (s : Said) → is_answered (given_up rule attempt) ≡ true → is_answered (by_attempt attempt (given_up rule attempt) (Some s)) ≡ true
    by (Values values) h = refl
    by Failed h = h
never_next rule says (suc left) attempt = by (says attempt) (never_next rule says left (attempt + 1))
  where
    by : (s : Said) → is_answered (answer_from rule (λ k. Some (says k)) left (attempt + 1)) ≡ true →
        is_answered (by_attempt attempt (answer_from rule (λ k. Some (says k)) left (attempt + 1)) (Some s)) ≡ true
    by (Values values) h = refl
    by Failed h = h

-- the verdict is an ending
record IsEnded (verdict : Verdict) : Type 0 where
  ending : Ending
  is : verdict ≡ Ended ending

-- where a child answers each attempt, a study doesn't wait
ends_alone : (study : Study) (child : Child) (rows last : List Row) (verdict : Verdict) → Alone study (outcomes_of child) rows last verdict → IsEnded verdict
ends_alone study child _ _ _ (finished rows why e) = record { ending = Finished why; is = refl }
ends_alone study child _ _ _ (aborted rows p attempts e a) = record { ending = Aborted (length rows + 1) attempts; is = refl }
ends_alone study child _ _ _ (waits rows p attempt e a) =
    let rule = study.interface.rule in absurd (let h : true ≡ false = sym (never_next rule (child p) (retries rule) 1) ∙ ap is_answered a in cc)
ends_alone study child _ _ _ (goes_on rows p v last verdict e a s) = ends_alone study child (with_row rows p v) last verdict s

-- endings are one where their verdicts are
pub same_ending : (one other : Ending) → Ended one ≡ Ended other → one ≡ other
same_ending one other h = cc

pub each_ends_once : (study : Study) (child : Child) → EndsOnce study child
each_ends_once study child =
    let c : ComesOnce study (outcomes_of child) = each_comes_once study (outcomes_of child) in
    let e : IsEnded c.verdict = ends_alone study child [] c.rows c.verdict c.comes in
    record {
      rows = c.rows;
      ending = e.ending;
      ends = subst (Alone study (outcomes_of child) [] c.rows) e.is c.comes;
      only = λ others other t. let k = c.only others (Ended other) t in (k.0, same_ending other e.ending (k.1 ∙ e.is));
    }
