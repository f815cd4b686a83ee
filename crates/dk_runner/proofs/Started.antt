-- What a run does on its bench, from what its evaluation says.
use Rattle.std.proofs.Common.{◌≡◌, inl, inr, ℕ, ◌+◌, List, [], ◌∷◌, ◌++◌, length, Option, Some, None, refl, sym, ap, ◌∙◌, subst, arith, append_assoc}
use Rattle.std.specs.List.{All}
use Rattle.std.proofs.lemmas.List.{append-nil}
use Rattle.std.proofs.lemmas.List.Elements.{All-append, All-cons, All-nil, All-head, All-tail}
use Rattle.dk_num.specs.Decimal.{Decimal}
use Rattle.dk_outside.specs.declared.run.Run.{Run}
use Rattle.dk_outside.specs.Benches.{Contents, Leaves}
use Rattle.dk_types.specs.declared.study.Study.{Study}
use Rattle.dk_types.specs.declared.study.Ending.{Ending}
use Rattle.dk_types.specs.declared.study.Driver.{Driver}
use Rattle.dk_types.specs.declared.study.Driver.TheVariants.{Direct, Fork}
use Rattle.dk_types.specs.declared.entry.Entry.{Entry}
use Rattle.dk_types.specs.declared.entry.Said.TheVariants.{Failed}
use Rattle.dk_types.specs.declared.rows.Row.{Row}
use Rattle.dk_types.specs.Entries.{said, AreNextEntries}
use Rattle.dk_types.specs.Answers.{Next, answer}
use Rattle.dk_types.specs.Laws.{AnswersInOrder}
use Rattle.dk_types.specs.Sheets.{IsPlace}
use Rattle.dk_types.specs.Solo.{Seq, Child, Open, Ended, rosenbrock_child}
use Rattle.dk_types.proofs.Alone.{rows_in_order}
use Rattle.dk_types.proofs.Placed.{next_has_place, places_stay}
use Rattle.dk_params.specs.Params.{task_of}
use Rattle.dk_fork.specs.Allowed.{AllowedBy, IsSingleValued}
use Rattle.dk_fork.specs.Runs.{run}
use Rattle.dk_fork.specs.declared.serve.BenchStep.{BenchStep}
use Rattle.dk_fork.specs.declared.serve.BenchStep.TheVariants.{ClearBefore, Lay, Run as AtRun, Fetch, ClearAfter}
use Rattle.dk_evaluate.specs.Making.{IsOwn, Accounts, HaveAllRun, AreMadeBy, AreBrokenBy, MayRun}
use Rattle.dk_evaluate.specs.Evaluated.{AreWaitedFor, IsAnswerOf}
use Rattle.dk_evaluate.proofs.Waiting.{known_is_not_waited_for, decided_waits_for_nothing}
use Rattle.dk_evaluate.proofs.Reaching.{undecided, waited_last}
use Rattle.dk_runner.specs.Started.{Last, is_kept, is_lost, TellsRuns, IsAllowed, AreOpen, IsExtra, AreExtra, HasGained, GainsBy}

-- What the study waits for

-- an attempt for which the study waits is the next one of its point
waits_open : (study : Study) (entries : List Entry) (rows : List Row) (p : List Decimal) (attempt : ℕ) → Seq study entries rows (Open p attempt) → answer study.interface.rule entries p ≡ Next attempt
waits_open study entries rows p attempt waiting =
    let o : AnswersInOrder study (said entries) rows (Open p attempt) = rows_in_order study (said entries) rows (Open p attempt) waiting in o.stands.1

pub open_of : (study : Study) (before made : List Entry) → AreWaitedFor study before made → AreOpen study.interface.rule before made
open_of study before [] waited = tt
open_of study before (e ∷ made) waited = (waits_open study before waited.0.0 e.point e.attempt waited.0.1, open_of study (before ++ e ∷ []) made waited.1)

-- it isn't known
pub waits_new : (study : Study) (entries : List Entry) (rows : List Row) (p : List Decimal) (attempt : ℕ) → Seq study entries rows (Open p attempt) → said entries p attempt ≡ None
waits_new study entries rows p attempt waiting = (known_is_not_waited_for study entries (record { point = p; attempt = attempt; said = Failed } ∷ []) ((rows, waiting), tt)).0

-- Where a study was decided nothing was made

abbrev Settled : Study → List Entry → List Entry → Last → Type 0
Settled study before added last = (rows : List Row) (ending : Ending) → Seq study before rows (Ended ending) → (added ≡ []) × (last ≡ is_kept)

pub settled_kept : (study : Study) (before added : List Entry) → AreWaitedFor study before added → Settled study before added is_kept
settled_kept study before added waited = λ rows ending decided. (decided_waits_for_nothing study before added rows ending decided waited, refl)

nothing_behind : {X : Type 0} (xs : List X) (x : X) → xs ++ x ∷ [] ≡ [] → ⊥
nothing_behind [] x e = absurd (cc)
nothing_behind (y ∷ xs) x e = absurd (cc)

pub settled_unkept : (study : Study) (before added : List Entry) (e : Entry) (last : Last) → AreWaitedFor study before (added ++ e ∷ []) → Settled study before added last
settled_unkept study before added e last waited = λ rows ending decided.
    absurd (nothing_behind added e (decided_waits_for_nothing study before (added ++ e ∷ []) rows ending decided waited))

pub settled_lost : (study : Study) (before added : List Entry) (rows : List Row) (p : List Decimal) (attempt : ℕ) (last : Last) → Seq study (before ++ added) rows (Open p attempt) → Settled study before added last
settled_lost study before added rows p attempt last waiting = λ others ending decided. absurd (undecided study before added rows others p attempt ending waiting decided)

-- Accounts

-- accounts of a list are those of its front and those of the rest
pub record AreSplit (leaves : Leaves) (study : Study) (before added more : List Entry) (runs : List Run) : Type 0 where
  pub front : List Run
  pub rest : List Run
  pub is : runs ≡ front ++ rest
  pub of_front : Accounts leaves study before added front
  pub of_rest : Accounts leaves study (before ++ added) more rest

pub accounts_split : (leaves : Leaves) (study : Study) (before added more : List Entry) (runs : List Run) → Accounts leaves study before (added ++ more) runs → AreSplit leaves study before added more runs
accounts_split leaves study before [] more runs a = record {
  front = [];
  rest = runs;
  is = refl;
  of_front = refl;
  of_rest = subst (λ (l : List Entry). Accounts leaves study l more runs) (sym (append-nil before)) a;
}
accounts_split leaves study before (e ∷ added) more [] a = absurd a
accounts_split leaves study before (e ∷ added) more (ran ∷ runs) a =
    let k = accounts_split leaves study (before ++ e ∷ []) added more runs a.1 in
    record {
      front = ran ∷ k.front;
      rest = k.rest;
      is = ap (λ (l : List Run). ran ∷ l) k.is;
      of_front = (a.0, k.of_front);
      of_rest = subst (λ (l : List Entry). Accounts leaves study l more k.rest) (append_assoc before (e ∷ []) added) k.of_rest;
    }

-- What is allowed

module _ (leaves : Leaves) (study : Study) where
  -- an attempt for which the study waited has its place in the sheet of all entries
  placed : (before more all : List Entry) (rows : List Row) (e : Entry) → before ++ more ≡ all → Seq study before rows (Open e.point e.attempt) → IsPlace study all e.point (length rows + 1)
  placed before more all rows e same waiting =
      subst (λ (l : List Entry). IsPlace study l e.point (length rows + 1)) same
      (places_stay study before more e.point (length rows + 1) (next_has_place study before rows e.point e.attempt waiting))

  allowed_by : (driver : Driver) (before more all : List Entry) (e : Entry) (rows : List Row) → study.interface.driver ≡ driver → before ++ more ≡ all → Seq study before rows (Open e.point e.attempt) →
      AllowedBy driver leaves (task_of study) (length rows + 1) e.point e.attempt e.said → IsAllowed leaves study all e
  allowed_by driver before more all e rows is same waiting allowed = record {
    row = length rows + 1;
    place = placed before more all rows e same waiting;
    allowed = subst (λ (d : Driver). AllowedBy d leaves (task_of study) (length rows + 1) e.point e.attempt e.said) (sym is) allowed;
  }

  own_allowed : (before made all : List Entry) → study.interface.driver ≡ Direct → before ++ made ≡ all → AreWaitedFor study before made → All IsOwn made → All (IsAllowed leaves study all) made
  own_allowed before [] all is same waited own = All-nil (IsAllowed leaves study all)
  own_allowed before (e ∷ made) all is same waited own =
      All-cons (IsAllowed leaves study all) e made
      (allowed_by Direct before (e ∷ made) all e waited.0.0 is same waited.0.1 (All-head IsOwn e made own))
      (own_allowed (before ++ e ∷ []) made all is (append_assoc before (e ∷ []) made ∙ same) waited.1 (All-tail IsOwn e made own))

  accounted_allowed : (words : List (List ℕ)) (before made all : List Entry) (runs : List Run) → study.interface.driver ≡ Fork words → before ++ made ≡ all → Accounts leaves study before made runs → All (IsAllowed leaves study all) made
  accounted_allowed words before [] all runs is same a = All-nil (IsAllowed leaves study all)
  accounted_allowed words before (e ∷ made) all [] is same a = absurd a
  accounted_allowed words before (e ∷ made) all (ran ∷ runs) is same a =
      All-cons (IsAllowed leaves study all) e made
      (allowed_by (Fork words) before (e ∷ made) all e a.0.rows is same a.0.waits a.0.allowed)
      (accounted_allowed words (before ++ e ∷ []) made all runs is (append_assoc before (e ∷ []) made ∙ same) a.1)

  module _ (before added : List Entry) where
    -- the entries that were added
    pub allowed_added : (driver : Driver) (old new : Option Contents) → study.interface.driver ≡ driver → AreWaitedFor study before added → AreMadeBy driver leaves study before added old new → TellsRuns driver old →
        All (IsAllowed leaves study (before ++ added)) added
    allowed_added Direct old new is waited made tells = own_allowed before added (before ++ added) is refl waited made.1
    allowed_added (Fork words) None new is waited made tells = absurd tells
    allowed_added (Fork words) (Some was) new is waited made tells = accounted_allowed words before added (before ++ added) made.is.records is refl made.is.accounts

    -- and one more, which the study waits for behind them
    last_allowed : (driver : Driver) (e : Entry) (rows : List Row) → study.interface.driver ≡ driver → Seq study (before ++ added) rows (Open e.point e.attempt) →
        AllowedBy driver leaves (task_of study) (length rows + 1) e.point e.attempt e.said → All (IsAllowed leaves study (before ++ added)) (e ∷ [])
    last_allowed driver e rows is waiting allowed =
        All-cons (IsAllowed leaves study (before ++ added)) e [] (allowed_by driver (before ++ added) [] (before ++ added) e rows is (append-nil (before ++ added)) waiting allowed) (All-nil (IsAllowed leaves study (before ++ added)))

    of_parts : (words : List (List ℕ)) (e : Entry) (runs : List Run) → study.interface.driver ≡ Fork words → Accounts leaves study before (added ++ e ∷ []) runs → All (IsAllowed leaves study (before ++ added)) (added ++ e ∷ [])
    of_parts words e runs is a =
        let k = accounts_split leaves study before added (e ∷ []) runs a in
        at k.front k.rest k.of_front k.of_rest
      where
        at : (front rest : List Run) → Accounts leaves study before added front → Accounts leaves study (before ++ added) (e ∷ []) rest → All (IsAllowed leaves study (before ++ added)) (added ++ e ∷ [])
        at front [] f r = absurd r
        at front (ran ∷ rest) f r =
            All-append (IsAllowed leaves study (before ++ added)) added (e ∷ []) (accounted_allowed words before added (before ++ added) front is refl f)
            (last_allowed (Fork words) e r.0.rows is r.0.waits r.0.allowed)

    own_front : (xs : List Entry) (e : Entry) → All IsOwn (xs ++ e ∷ []) → All IsOwn xs × IsOwn e
    own_front [] e own = (All-nil IsOwn, All-head IsOwn e [] own)
    own_front (x ∷ xs) e own =
        let k = own_front xs e (All-tail IsOwn x (xs ++ e ∷ []) own) in
        (All-cons IsOwn x xs (All-head IsOwn x (xs ++ e ∷ []) own) k.0, k.1)

    waited_before : (xs : List Entry) (start : List Entry) (e : Entry) → AreWaitedFor study start (xs ++ e ∷ []) → AreWaitedFor study start xs
    waited_before [] start e waited = tt
    waited_before (x ∷ xs) start e waited = (waited.0, waited_before xs (start ++ x ∷ []) e waited.1)

    pub allowed_unkept : (driver : Driver) (e : Entry) (old new : Option Contents) → study.interface.driver ≡ driver → AreWaitedFor study before (added ++ e ∷ []) → AreMadeBy driver leaves study before (added ++ e ∷ []) old new → TellsRuns driver old →
        All (IsAllowed leaves study (before ++ added)) (added ++ e ∷ [])
    allowed_unkept Direct e old new is waited made tells =
        let own = own_front added e made.1 in
        let last = waited_last study before added e waited in
        All-append (IsAllowed leaves study (before ++ added)) added (e ∷ []) (own_allowed before added (before ++ added) is refl (waited_before added before e waited) own.0)
        (last_allowed Direct e last.0 is last.1 own.1)
    allowed_unkept (Fork words) e None new is waited made tells = absurd tells
    allowed_unkept (Fork words) e (Some was) new is waited made tells = of_parts words e made.is.records is made.is.accounts

-- What the bench gained

module _ (leaves : Leaves) (study : Study) (before added : List Entry) where
  extra_of : (rows : List Row) (p : List Decimal) (attempt : ℕ) → Seq study (before ++ added) rows (Open p attempt) → IsExtra study (before ++ added) (run study (length rows + 1) p attempt)
  extra_of rows p attempt waiting = record {
    rows = rows;
    point = p;
    attempt = attempt;
    waits = waiting;
    new = waits_new study (before ++ added) rows p attempt waiting;
    run_is = refl;
  }

  pub gains_kept : (driver : Driver) (old new : Option Contents) → AreMadeBy driver leaves study before added old new → GainsBy driver leaves study before added is_kept old new
  gains_kept Direct old new made = made.0
  gains_kept (Fork words) None new made = tt
  gains_kept (Fork words) (Some was) new made = record {
    now = made.now;
    told = made.told;
    is = record {
      records = made.is.records;
      extra = [];
      accounts = made.is.accounts;
      runs = made.is.runs ∙ ap (λ (l : List Run). was.runs ++ l) (sym (append-nil made.is.records));
      few = refl;
      extras = All-nil (IsExtra study (before ++ added));
    };
  }

  one_unkept : (e : Entry) (last : Last) → AreExtra last 1 → (was now : Contents) → HaveAllRun leaves study before (added ++ e ∷ []) was now → HasGained leaves study before added last was now
  one_unkept e last one was now made =
      let k = accounts_split leaves study before added (e ∷ []) made.records made.accounts in
      at k.front k.rest k.of_front k.of_rest k.is
    where
      at : (front rest : List Run) → Accounts leaves study before added front → Accounts leaves study (before ++ added) (e ∷ []) rest → made.records ≡ front ++ rest → HasGained leaves study before added last was now
      at front [] f r same = absurd r
      at front (ran ∷ rest) f r same =
          let whole : ran ∷ rest ≡ ran ∷ [] = ap (λ (l : List Run). ran ∷ l) r.1 in
          record {
            records = front;
            extra = ran ∷ [];
            accounts = f;
            runs = made.runs ∙ ap (λ (l : List Run). was.runs ++ l) (same ∙ ap (λ (l : List Run). front ++ l) whole);
            few = one;
            extras = All-cons (IsExtra study (before ++ added)) ran []
                (subst (IsExtra study (before ++ added)) (sym r.0.run_is) (extra_of r.0.rows e.point e.attempt r.0.waits)) (All-nil (IsExtra study (before ++ added)));
          }

  pub gains_unkept : (driver : Driver) (e : Entry) (last : Last) → AreExtra last 1 → (old new : Option Contents) → AreMadeBy driver leaves study before (added ++ e ∷ []) old new → GainsBy driver leaves study before added last old new
  gains_unkept Direct e last one old new made = made.0
  gains_unkept (Fork words) e last one None new made = tt
  gains_unkept (Fork words) e last one (Some was) new made = record { now = made.now; told = made.told; is = one_unkept e last one was made.now made.is }

  -- an attempt that was lost
  module _ (rows : List Row) (p : List Decimal) (attempt : ℕ) (waiting : Seq study (before ++ added) rows (Open p attempt)) where
    abbrev gone : BenchStep → Last
    gone step = is_lost (length rows + 1) p attempt step

    none_more : (step : BenchStep) → AreExtra (gone step) 0 → (was now : Contents) (records : List Run) → Accounts leaves study before added records → now.runs ≡ was.runs ++ records → HasGained leaves study before added (gone step) was now
    none_more step none was now records accounts runs = record {
      records = records;
      extra = [];
      accounts = accounts;
      runs = runs ∙ ap (λ (l : List Run). was.runs ++ l) (sym (append-nil records));
      few = none;
      extras = All-nil (IsExtra study (before ++ added));
    }

    one_more : (step : BenchStep) → AreExtra (gone step) 1 → (was now : Contents) (records : List Run) → Accounts leaves study before added records →
        now.runs ≡ (was.runs ++ records) ++ run study (length rows + 1) p attempt ∷ [] → HasGained leaves study before added (gone step) was now
    one_more step one was now records accounts runs = record {
      records = records;
      extra = run study (length rows + 1) p attempt ∷ [];
      accounts = accounts;
      runs = runs ∙ append_assoc was.runs records (run study (length rows + 1) p attempt ∷ []);
      few = one;
      extras = All-cons (IsExtra study (before ++ added)) (run study (length rows + 1) p attempt) [] (extra_of rows p attempt waiting) (All-nil (IsExtra study (before ++ added)));
    }

    by_step : (step : BenchStep) (was now : Contents) (records : List Run) → Accounts leaves study before added records → MayRun step (run study (length rows + 1) p attempt) (was.runs ++ records) now.runs →
        HasGained leaves study before added (gone step) was now
    by_step ClearBefore was now records accounts may = none_more ClearBefore refl was now records accounts may
    by_step Lay was now records accounts may = none_more Lay refl was now records accounts may
    by_step AtRun was now records accounts may = elim may [
      | inl same ↦ none_more AtRun (omega arith) was now records accounts same
      | inr more ↦ one_more AtRun (omega arith) was now records accounts more
    ]
    by_step Fetch was now records accounts may = one_more Fetch refl was now records accounts may
    by_step ClearAfter was now records accounts may = one_more ClearAfter refl was now records accounts may

    pub gains_lost : (driver : Driver) (step : BenchStep) (old new : Option Contents) → AreBrokenBy driver leaves study before added (length rows + 1) p attempt step old new → GainsBy driver leaves study before added (gone step) old new
    gains_lost Direct step old new broke = absurd broke
    gains_lost (Fork words) step None new broke = tt
    gains_lost (Fork words) step (Some was) new broke = record { now = broke.now; told = broke.told; is = by_step step was broke.now broke.is.records broke.is.accounts broke.is.runs }

    -- the entries that were added
    pub allowed_lost : (driver : Driver) (step : BenchStep) (old new : Option Contents) → study.interface.driver ≡ driver → AreBrokenBy driver leaves study before added (length rows + 1) p attempt step old new → TellsRuns driver old →
        All (IsAllowed leaves study (before ++ added)) added
    allowed_lost Direct step old new is broke tells = absurd broke
    allowed_lost (Fork words) step None new is broke tells = absurd tells
    allowed_lost (Fork words) step (Some was) new is broke tells = accounted_allowed leaves study words before added (before ++ added) broke.is.records is refl broke.is.accounts

-- A child with one answer

pub wide_entries : (n m : ℕ) (before added : List Entry) → AreNextEntries n m before added → All (λ (e : Entry). length e.point ≡ n) added
wide_entries n m before [] next = All-nil (λ (e : Entry). length e.point ≡ n)
wide_entries n m before (e ∷ added) next = All-cons (λ (x : Entry). length x.point ≡ n) e added next.0.point (wide_entries n m (before ++ e ∷ []) added next.1)

pub single_answers : (leaves : Leaves) (study : Study) (child : Child) (all added : List Entry) → IsSingleValued leaves study child → All (IsAllowed leaves study all) added →
    All (λ (e : Entry). length e.point ≡ length study.variables.labels) added → All (IsAnswerOf child) added
single_answers leaves study child all [] single allowed wide = All-nil (IsAnswerOf child)
single_answers leaves study child all (e ∷ added) single allowed wide =
    let a = All-head (IsAllowed leaves study all) e added allowed in
    All-cons (IsAnswerOf child) e added
    (single a.row e.point e.attempt e.said (All-head (λ (x : Entry). length x.point ≡ length study.variables.labels) e added wide) a.allowed)
    (single_answers leaves study child all added single (All-tail (IsAllowed leaves study all) e added allowed) (All-tail (λ (x : Entry). length x.point ≡ length study.variables.labels) e added wide))

-- without a driver each attempt gave what the program's own function gives
pub own_answers : (leaves : Leaves) (study : Study) (before added : List Entry) (driver : Driver) (old new : Option Contents) → driver ≡ Direct → AreMadeBy driver leaves study before added old new → All (IsAnswerOf rosenbrock_child) added
own_answers leaves study before added Direct old new is made = made.1
own_answers leaves study before added (Fork words) old new is made = absurd (cc)
