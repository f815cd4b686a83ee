-- What a study comes to where more attempts are made, or others that gave the same.
use Rattle.std.proofs.Common.{◌≡◌, ℕ, zero, suc, ◌+◌, Bool, true, false, List, [], ◌∷◌, ◌++◌, Option, Some, None, option_map, ◌==◌, ◌&&◌, cond, sym, ap, ◌∙◌, refl, append_assoc, append-nil}
use Rattle.std.specs.Option.{option_or}
use Rattle.dk_num.specs.Decimal.{Decimal}
use Rattle.dk_types.specs.declared.study.Study.{Study}
use Rattle.dk_types.specs.declared.study.FailRule.{FailRule}
use Rattle.dk_types.specs.declared.study.Ending.{Ending}
use Rattle.dk_types.specs.declared.entry.Entry.{Entry}
use Rattle.dk_types.specs.declared.entry.Said.{Said}
use Rattle.dk_types.specs.declared.entry.Said.TheVariants.{Values, Failed}
use Rattle.dk_types.specs.declared.rows.Row.{Row}
use Rattle.dk_types.specs.Best.{same_point}
use Rattle.dk_types.specs.Entries.{said}
use Rattle.dk_types.specs.Answers.{Answer, Value, Dead, retries, given_up, by_attempt, answer_from, answer_by, answer}
use Rattle.dk_types.specs.Solo.{Alone, finished, aborted, waits, goes_on, Outcomes, outcomes_of, Child, Verdict, Ended, Solo, Seq, with_row}
use Rattle.dk_types.specs.Laws.{answer_in}
use Rattle.dk_types.specs.EntryLaws.{is_answered, Agree, AreAnswersOf}
use Rattle.dk_types.proofs.Once.{alone_once, turns_by, same_ending}
use Rattle.dk_types.proofs.Attempts.{said_append}

-- One point

by_more : (attempt : ℕ) (failed other : Answer) (x y : Option Said) → ((one : Said) → x ≡ Some one → y ≡ Some one) → (is_answered failed ≡ true → other ≡ failed) →
    is_answered (by_attempt attempt failed x) ≡ true → by_attempt attempt other y ≡ by_attempt attempt failed x
by_more attempt failed other None y more rest h = absurd (cc)
by_more attempt failed other (Some (Values values)) y more rest h = ap (by_attempt attempt other) (more (Values values) refl)
by_more attempt failed other (Some Failed) y more rest h = ap (by_attempt attempt other) (more Failed refl) ∙ rest h

from_more : (rule : FailRule) (f g : ℕ → Option Said) → ((k : ℕ) (one : Said) → f k ≡ Some one → g k ≡ Some one) → (left attempt : ℕ) →
    is_answered (answer_from rule f left attempt) ≡ true → answer_from rule g left attempt ≡ answer_from rule f left attempt
from_more rule f g more zero attempt h = by_more attempt (given_up rule attempt) (given_up rule attempt) (f attempt) (g attempt) (more attempt) (λ _. refl) h
from_more rule f g more (suc left) attempt h =
    by_more attempt (answer_from rule f left (attempt + 1)) (answer_from rule g left (attempt + 1)) (f attempt) (g attempt) (more attempt) (from_more rule f g more left (attempt + 1)) h

-- an answered point stays answered, and so, where more attempts are made
pub answer_stays : (rule : FailRule) (f g : ℕ → Option Said) → ((attempt : ℕ) (one : Said) → f attempt ≡ Some one → g attempt ≡ Some one) →
    is_answered (answer_by rule f) ≡ true → answer_by rule g ≡ answer_by rule f
answer_stays rule f g more h = from_more rule f g more (retries rule) 1 h

from_same : (rule : FailRule) (f g : ℕ → Option Said) → ((k : ℕ) → f k ≡ g k) → (left attempt : ℕ) → answer_from rule f left attempt ≡ answer_from rule g left attempt
from_same rule f g same zero attempt = ap (by_attempt attempt (given_up rule attempt)) (same attempt)
from_same rule f g same (suc left) attempt =
    ap (λ (failed : Answer). by_attempt attempt failed (f attempt)) (from_same rule f g same left (attempt + 1)) ∙ ap (by_attempt attempt (answer_from rule g left (attempt + 1))) (same attempt)

-- attempts that gave the same come to the same
pub answer_same : (rule : FailRule) (f g : ℕ → Option Said) → ((attempt : ℕ) → f attempt ≡ g attempt) → answer_by rule f ≡ answer_by rule g
answer_same rule f g same = from_same rule f g same (retries rule) 1

-- A study

-- what an attempt gave on one side, it gave on the other
abbrev pub Extends : (f g : Outcomes) → Type 0
Extends f g = (p : List Decimal) (attempt : ℕ) (one : Said) → f p attempt ≡ Some one → g p attempt ≡ Some one

-- no attempt gave one thing on one side and another on the other
abbrev pub AnswersAgree : (f g : Outcomes) → Type 0
AnswersAgree f g = (p : List Decimal) (attempt : ℕ) (one other : Said) → f p attempt ≡ Some one → g p attempt ≡ Some other → one ≡ other

-- a point that has its values keeps them
value_stays : (study : Study) (f g : Outcomes) → Extends f g → (p : List Decimal) (a : Answer) → is_answered a ≡ true → answer_in study f p ≡ a → answer_in study g p ≡ a
value_stays study f g more p a h e = answer_stays study.interface.rule (f p) (g p) (more p) (ap is_answered e ∙ h) ∙ e

-- what a study comes to is kept, once it is decided
pub alone_stays : (study : Study) (f g : Outcomes) → Extends f g → (rows last : List Row) (ending : Ending) → Alone study f rows last (Ended ending) → Alone study g rows last (Ended ending)
alone_stays study f g more _ _ _ (finished rows why e) = finished rows why e
alone_stays study f g more _ _ _ (aborted rows p attempts e a) = aborted rows p attempts e (value_stays study f g more p (Dead attempts) refl a)
alone_stays study f g more _ _ ending (goes_on rows p v last verdict e a s) =
    goes_on rows p v last (Ended ending) e (value_stays study f g more p (Value v) refl a) (alone_stays study f g more (with_row rows p v) last ending s)

-- where more attempts are made, a study comes past the rows that it came to
pub alone_leads : (study : Study) (f g : Outcomes) → Extends f g → (rows last others : List Row) (verdict other : Verdict) →
    Alone study f rows last verdict → Alone study g rows others other → Alone study g last others other
alone_leads study f g more _ _ others _ other (finished rows why e) t = t
alone_leads study f g more _ _ others _ other (aborted rows p attempts e a) t = t
alone_leads study f g more _ _ others _ other (waits rows p attempt e a) t = t
alone_leads study f g more _ _ others _ other (goes_on rows p v last verdict e a s) t =
    alone_leads study f g more (with_row rows p v) last others verdict other s
    (turns_by study g rows others other p (Value v) e (value_stays study f g more p (Value v) refl a) t)

-- and what it comes to from there on, it comes to from where it began
pub alone_resumes : (study : Study) (f g : Outcomes) → Extends f g → (rows last others : List Row) (verdict other : Verdict) →
    Alone study f rows last verdict → Alone study g last others other → Alone study g rows others other
alone_resumes study f g more _ _ others _ other (finished rows why e) t = t
alone_resumes study f g more _ _ others _ other (aborted rows p attempts e a) t = t
alone_resumes study f g more _ _ others _ other (waits rows p attempt e a) t = t
alone_resumes study f g more _ _ others _ other (goes_on rows p v last verdict e a s) t =
    goes_on rows p v others other e (value_stays study f g more p (Value v) refl a) (alone_resumes study f g more (with_row rows p v) last others verdict other s t)

-- a study only adds rows
pub alone_grows : (study : Study) (f : Outcomes) (rows last : List Row) (verdict : Verdict) → Alone study f rows last verdict → (behind : List Row) × (last ≡ rows ++ behind)
alone_grows study f _ _ _ (finished rows why e) = ([], sym (append-nil rows))
alone_grows study f _ _ _ (aborted rows p attempts e a) = ([], sym (append-nil rows))
alone_grows study f _ _ _ (waits rows p attempt e a) = ([], sym (append-nil rows))
alone_grows study f _ _ _ (goes_on rows p v last verdict e a s) =
    let row : Row = record { point = p; values = v } in
    let k = alone_grows study f (with_row rows p v) last verdict s in (row ∷ k.0, k.1 ∙ append_assoc rows (row ∷ []) k.0)

-- the rows that a study came to are kept
pub alone_rows_stay : (study : Study) (f g : Outcomes) → Extends f g → (rows last others : List Row) (verdict other : Verdict) →
    Alone study f rows last verdict → Alone study g rows others other → (behind : List Row) × (others ≡ last ++ behind)
alone_rows_stay study f g more rows last others verdict other s t = alone_grows study g last others other (alone_leads study f g more rows last others verdict other s t)

-- attempts that gave the same bring a study to the same
pub alone_same : (study : Study) (f g : Outcomes) → ((p : List Decimal) (attempt : ℕ) → f p attempt ≡ g p attempt) → (rows last : List Row) (verdict : Verdict) →
    Alone study f rows last verdict → Alone study g rows last verdict
alone_same study f g same _ _ _ (finished rows why e) = finished rows why e
alone_same study f g same _ _ _ (aborted rows p attempts e a) = aborted rows p attempts e (sym (answer_same study.interface.rule (f p) (g p) (same p)) ∙ a)
alone_same study f g same _ _ _ (waits rows p attempt e a) = waits rows p attempt e (sym (answer_same study.interface.rule (f p) (g p) (same p)) ∙ a)
alone_same study f g same _ _ _ (goes_on rows p v last verdict e a s) =
    goes_on rows p v last verdict e (sym (answer_same study.interface.rule (f p) (g p) (same p)) ∙ a) (alone_same study f g same (with_row rows p v) last verdict s)

-- the attempts of both sides, the first one's before the other's
abbrev joined : (f g : Outcomes) → Outcomes
joined f g p attempt = option_or (f p attempt) (g p attempt)

joined_first : (f g : Outcomes) → Extends f (joined f g)
joined_first f g p attempt one h = ap (λ (x : Option Said). option_or x (g p attempt)) h

joined_second : (f g : Outcomes) → AnswersAgree f g → Extends g (joined f g)
joined_second f g agree p attempt other h = by (f p attempt) refl
  where
    by : (x : Option Said) → f p attempt ≡ x → option_or x (g p attempt) ≡ Some other
    by None e = h
    by (Some one) e = ap Some (agree p attempt one other e h)

-- attempts that agree decide a study alike: both as all of them together
pub alone_alike : (study : Study) (f g : Outcomes) → AnswersAgree f g → (rows last others : List Row) (ending other : Ending) →
    Alone study f rows last (Ended ending) → Alone study g rows others (Ended other) → (others ≡ last) × (other ≡ ending)
alone_alike study f g agree rows last others ending other s t =
    let k = alone_once study (joined f g) rows last others (Ended ending) (Ended other) (alone_stays study f (joined f g) (joined_first f g) rows last ending s)
    (alone_stays study g (joined f g) (joined_second f g agree) rows others other t) in
    (k.0, same_ending other ending k.1)

-- Entries

or-none : {A : Type 0} (x : Option A) → option_or x None ≡ x
or-none None = refl
or-none (Some a) = refl

-- entries that are added take nothing back
pub said_more : (entries more : List Entry) → Extends (said entries) (said (entries ++ more))
said_more entries more p attempt one h = said_append entries more p attempt ∙ ap (λ (x : Option Said). option_or x (said more p attempt)) h

-- an entry says nothing of another point
pub said_other : (entries : List Entry) (e : Entry) (p : List Decimal) (attempt : ℕ) → same_point e.point p ≡ false → said (entries ++ e ∷ []) p attempt ≡ said entries p attempt
said_other entries e p attempt h =
    said_append entries (e ∷ []) p attempt ∙ ap (λ (b : Bool). option_or (said entries p attempt) (option_map (λ (x : Entry). x.said) (cond (b && (e.attempt == attempt)) (Some e) None))) h ∙
    or-none (said entries p attempt)

-- a child's answers, of which some were given
pub said_alone : (child : Child) (entries : List Entry) → AreAnswersOf child entries → Extends (said entries) (outcomes_of child)
said_alone child entries are p attempt one h = ap Some (sym (are p attempt one h))

-- The laws

pub others_keep : (rule : FailRule) (entries : List Entry) (e : Entry) (p : List Decimal) → same_point e.point p ≡ false → answer rule (entries ++ e ∷ []) p ≡ answer rule entries p
others_keep rule entries e p h = answer_same rule (said (entries ++ e ∷ []) p) (said entries p) (λ attempt. said_other entries e p attempt h)

pub answered_stays : (rule : FailRule) (entries more : List Entry) (p : List Decimal) → is_answered (answer rule entries p) ≡ true → answer rule (entries ++ more) p ≡ answer rule entries p
answered_stays rule entries more p h = answer_stays rule (said entries p) (said (entries ++ more) p) (said_more entries more p) h

pub decided_stays : (study : Study) (entries more : List Entry) (rows : List Row) (ending : Ending) → Seq study entries rows (Ended ending) → Seq study (entries ++ more) rows (Ended ending)
decided_stays study entries more rows ending s = alone_stays study (said entries) (said (entries ++ more)) (said_more entries more) [] rows ending s

pub rows_stay : (study : Study) (entries more : List Entry) (rows others : List Row) (verdict other : Verdict) →
    Seq study entries rows verdict → Seq study (entries ++ more) others other → (behind : List Row) × (others ≡ rows ++ behind)
rows_stay study entries more rows others verdict other s t =
    alone_rows_stay study (said entries) (said (entries ++ more)) (said_more entries more) [] rows others verdict other s t

pub decided_alike : (study : Study) (entries others : List Entry) (rows other_rows : List Row) (ending other : Ending) → Agree entries others →
    Seq study entries rows (Ended ending) → Seq study others other_rows (Ended other) → (other_rows ≡ rows) × (other ≡ ending)
decided_alike study entries others rows other_rows ending other agree s t = alone_alike study (said entries) (said others) agree [] rows other_rows ending other s t

pub decided_as_alone : (study : Study) (child : Child) (entries : List Entry) (rows : List Row) (ending : Ending) → AreAnswersOf child entries →
    Seq study entries rows (Ended ending) → Solo study child [] rows ending
decided_as_alone study child entries rows ending are s = alone_stays study (said entries) (outcomes_of child) (said_alone child entries are) [] rows ending s
