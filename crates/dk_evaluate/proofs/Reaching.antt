-- Rows that the attempts come to one after another.
use Rattle.std.proofs.Common.{◌≡◌, ℕ, ◌+◌, Bool, true, false, List, [], ◌∷◌, ◌++◌, length, sym, ap, ◌∙◌, subst, append_assoc}
use Rattle.std.proofs.lemmas.List.{append-nil}
use Rattle.dk_num.specs.Decimal.{Decimal}
use Rattle.dk_types.specs.declared.study.Study.{Study}
use Rattle.dk_types.specs.declared.study.Why.{Why}
use Rattle.dk_types.specs.declared.study.Ending.{Ending}
use Rattle.dk_types.specs.declared.study.Ending.TheVariants.{Finished, Aborted}
use Rattle.dk_types.specs.declared.entry.Entry.{Entry}
use Rattle.dk_types.specs.declared.rows.Row.{Row}
use Rattle.dk_types.specs.Planned.{next, At, Over}
use Rattle.dk_types.specs.Entries.{said}
use Rattle.dk_types.specs.Answers.{Dead, Next, answer}
use Rattle.dk_types.specs.declared.study.FailRule.{FailRule}
use Rattle.dk_types.specs.EntryLaws.{is_answered}
use Rattle.dk_types.specs.Solo.{Alone, Outcomes, Verdict, Ended, Open, Seq, finished, aborted, waits, goes_on}
use Rattle.dk_types.proofs.Growth.{answered_stays, decided_stays}
use Rattle.dk_types.proofs.Once.{alone_once}
use Rattle.dk_evaluate.specs.Evaluated.{Reaches, start, row, AreAsked, AreWaitedFor}

-- what a study comes to from rows that are reached, it comes to
pub reached_on : (study : Study) (outcomes : Outcomes) (rows last : List Row) (verdict : Verdict) → Reaches study outcomes rows → Alone study outcomes rows last verdict → Alone study outcomes [] last verdict
reached_on study outcomes _ last verdict start alone = alone
reached_on study outcomes _ last verdict (row rows p v before next_is values) alone = reached_on study outcomes rows last verdict before (goes_on rows p v last verdict next_is values alone)

-- rows that are reached stay so, whatever is added
pub reaches_more : (study : Study) (entries more : List Entry) (rows : List Row) → Reaches study (said entries) rows → Reaches study (said (entries ++ more)) rows
reaches_more study entries more _ start = start
reaches_more study entries more _ (row rows p v before next_is values) =
    row rows p v (reaches_more study entries more rows before) next_is (answered_stays study.interface.rule entries more p (ap is_answered values) ∙ values)

pub aborts : (study : Study) (entries : List Entry) (rows : List Row) (p : List Decimal) (attempts : ℕ) → Reaches study (said entries) rows → next study rows ≡ At p →
    answer study.interface.rule entries p ≡ Dead attempts → Seq study entries rows (Ended (Aborted (length rows + 1) attempts))
aborts study entries rows p attempts reached next_is dead =
    reached_on study (said entries) rows rows (Ended (Aborted (length rows + 1) attempts)) reached (aborted rows p attempts next_is dead)

pub finishes : (study : Study) (entries : List Entry) (rows : List Row) (why : Why) → Reaches study (said entries) rows → next study rows ≡ Over why → Seq study entries rows (Ended (Finished why))
finishes study entries rows why reached over = reached_on study (said entries) rows rows (Ended (Finished why)) reached (finished rows why over)

pub opens : (study : Study) (entries : List Entry) (rows : List Row) (p : List Decimal) (attempt : ℕ) → Reaches study (said entries) rows → next study rows ≡ At p →
    answer study.interface.rule entries p ≡ Next attempt → Seq study entries rows (Open p attempt)
opens study entries rows p attempt reached next_is waiting = reached_on study (said entries) rows rows (Open p attempt) reached (waits rows p attempt next_is waiting)

abbrev is_open : Verdict → Bool
is_open (Ended ending) = false
is_open (Open p attempt) = true

-- a study that waits isn't decided, by no part of what it waits behind
pub undecided : (study : Study) (before added : List Entry) (rows others : List Row) (p : List Decimal) (attempt : ℕ) (ending : Ending) →
    Seq study (before ++ added) rows (Open p attempt) → Seq study before others (Ended ending) → ⊥
undecided study before added rows others p attempt ending waiting decided =
    let same = (alone_once study (said (before ++ added)) [] rows others (Open p attempt) (Ended ending) waiting (decided_stays study before added others ending decided)).1 in
    let turned : false ≡ true = ap is_open same in
    absurd (cc)

-- attempts that a rule asked for are waited for where the point comes next
pub asked_waited : (study : Study) (entries added : List Entry) (rows : List Row) (p : List Decimal) → Reaches study (said entries) rows → next study rows ≡ At p →
    AreAsked study.interface.rule p entries added → AreWaitedFor study entries added
asked_waited study entries [] rows p reached next_is asked = tt
asked_waited study entries (e ∷ added) rows p reached next_is asked = (
  (rows, subst (λ (q : List Decimal). Seq study entries rows (Open q e.attempt)) (sym asked.0) (opens study entries rows p e.attempt reached next_is asked.1)),
  asked_waited study (entries ++ e ∷ []) added rows p (reaches_more study entries (e ∷ []) rows reached) next_is asked.2,
)

-- one attempt more that a rule asks for
pub asked_more : (rule : FailRule) (p : List Decimal) (entries added : List Entry) (e : Entry) → AreAsked rule p entries added → e.point ≡ p → answer rule (entries ++ added) p ≡ Next e.attempt →
    AreAsked rule p entries (added ++ e ∷ [])
asked_more rule p entries [] e asked point_is asks = (point_is, subst (λ (l : List Entry). answer rule l p ≡ Next e.attempt) (append-nil entries) asks, tt)
asked_more rule p entries (first ∷ added) e asked point_is asks = (
  asked.0,
  asked.1,
  asked_more rule p (entries ++ first ∷ []) added e asked.2 point_is (subst (λ (l : List Entry). answer rule l p ≡ Next e.attempt) (sym (append_assoc entries (first ∷ []) added)) asks),
)

pub waited_append : (study : Study) (before added more : List Entry) → AreWaitedFor study before added → AreWaitedFor study (before ++ added) more → AreWaitedFor study before (added ++ more)
waited_append study before [] more a b = subst (λ (l : List Entry). AreWaitedFor study l more) (append-nil before) b
waited_append study before (e ∷ added) more a b =
    (a.0, waited_append study (before ++ e ∷ []) added more a.1 (subst (λ (l : List Entry). AreWaitedFor study l more) (sym (append_assoc before (e ∷ []) added)) b))

-- the last one is waited for behind all others
pub waited_last : (study : Study) (before added : List Entry) (e : Entry) → AreWaitedFor study before (added ++ e ∷ []) → (rows : List Row) × Seq study (before ++ added) rows (Open e.point e.attempt)
waited_last study before [] e waited = (waited.0.0, subst (λ (l : List Entry). Seq study l waited.0.0 (Open e.point e.attempt)) (sym (append-nil before)) waited.0.1)
waited_last study before (first ∷ added) e waited =
    let k = waited_last study (before ++ first ∷ []) added e waited.1 in
    (k.0, subst (λ (l : List Entry). Seq study l k.0 (Open e.point e.attempt)) (append_assoc before (first ∷ []) added) k.1)

-- and the others without it
pub waited_front : (study : Study) (before added more : List Entry) → AreWaitedFor study before (added ++ more) → AreWaitedFor study before added
waited_front study before [] more waited = tt
waited_front study before (e ∷ added) more waited = (waited.0, waited_front study (before ++ e ∷ []) added more waited.1)
