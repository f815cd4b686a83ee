-- Attempts made on a bench, one after another.
use Rattle.std.proofs.Common.{◌≡◌, ◌⊎◌, inl, inr, ℕ, ◌+◌, List, [], ◌∷◌, ◌++◌, length, map, Option, Some, None, refl, sym, ap, ◌∙◌, subst, append_assoc}
use Rattle.std.specs.Prelude.{IfSome}
use Rattle.std.specs.List.{All}
use Rattle.std.proofs.lemmas.List.{append-nil, map-append}
use Rattle.std.proofs.lemmas.List.Elements.{All-append, All-nil, All-head, All-tail}
use Rattle.dk_num.specs.Decimal.{Decimal}
use Rattle.dk_outside.specs.declared.run.Run.{Run}
use Rattle.dk_outside.specs.Benches.{Contents, Leaves}
use Rattle.dk_types.specs.declared.study.Study.{Study}
use Rattle.dk_types.specs.declared.study.Driver.{Driver}
use Rattle.dk_types.specs.declared.study.Driver.TheVariants.{Direct, Fork}
use Rattle.dk_types.specs.declared.entry.Entry.{Entry}
use Rattle.dk_types.specs.declared.rows.Row.{Row}
use Rattle.dk_types.specs.Planned.{next, At}
use Rattle.dk_types.specs.Entries.{said}
use Rattle.dk_types.specs.Solo.{Seq, Open}
use Rattle.dk_params.specs.declared.task.Task.{Task}
use Rattle.dk_params.specs.Params.{task_of}
use Rattle.dk_fork.specs.Allowed.{IsAnswer}
use Rattle.dk_fork.specs.Runs.{run, run_of}
use Rattle.dk_fork.specs.Serving.{Stands}
use Rattle.dk_fork.specs.declared.serve.BenchStep.{BenchStep}
use Rattle.dk_evaluate.specs.Making.{IsOwn, runs_in, HaveRun, MakesBy, MayRun, HaveBroken, BreaksBy, Accounts, HaveAllRun, AreMadeBy, HaveAllBroken, AreBrokenBy}
use Rattle.dk_evaluate.specs.Evaluated.{Reaches, AreAsked}
use Rattle.dk_evaluate.proofs.Reaching.{reaches_more, opens}

module _ (leaves : Leaves) (task : Task) (row : ℕ) where
  pub makes_none : (driver : Driver) (bench : Option Contents) → MakesBy driver leaves task row [] bench bench
  makes_none Direct bench = (refl, All-nil IsOwn)
  makes_none (Fork words) None = tt
  makes_none (Fork words) (Some was) = record { now = was; told = refl; is = record { runs = sym (append-nil was.runs); answers = All-nil (λ (e : Entry). IsAnswer leaves task row e.point e.attempt e.said) } }

  runs_then : (was mid now : List Run) (added more : List Entry) → mid ≡ was ++ runs_in task row added → now ≡ mid ++ runs_in task row more → now ≡ was ++ runs_in task row (added ++ more)
  runs_then was mid now added more a b =
      b ∙ ap (λ (l : List Run). l ++ runs_in task row more) a ∙ append_assoc was (runs_in task row added) (runs_in task row more)
      ∙ ap (λ (l : List Run). was ++ l) (sym (map-append (λ (e : Entry). run_of task row e.point e.attempt) added more))

  have_run_then : (was mid now : Contents) (added more : List Entry) → HaveRun leaves task row added was mid → HaveRun leaves task row more mid now → HaveRun leaves task row (added ++ more) was now
  have_run_then was mid now added more a b = record {
    runs = runs_then was.runs mid.runs now.runs added more a.runs b.runs;
    answers = All-append (λ (e : Entry). IsAnswer leaves task row e.point e.attempt e.said) added more a.answers b.answers;
  }

  pub makes_then : (driver : Driver) (first middle last : Option Contents) (added more : List Entry) → MakesBy driver leaves task row added first middle → MakesBy driver leaves task row more middle last →
      MakesBy driver leaves task row (added ++ more) first last
  makes_then Direct first middle last added more a b = (b.0 ∙ a.0, All-append IsOwn added more a.1 b.1)
  makes_then (Fork words) None middle last added more a b = tt
  makes_then (Fork words) (Some was) middle last added more a b =
      let call = subst (λ (o : Option Contents). IfSome o (λ now. Stands last (HaveRun leaves task row more now))) a.told b in
      record { now = call.now; told = call.told; is = have_run_then was a.now call.now added more a.is call.is }

  broken_then : (was mid now : Contents) (added : List Entry) (p : List Decimal) (attempt : ℕ) (step : BenchStep) → HaveRun leaves task row added was mid → HaveBroken leaves task row [] p attempt step mid now → HaveBroken leaves task row added p attempt step was now
  broken_then was mid now added p attempt step a b = record {
    runs = subst (λ (l : List Run). MayRun step (run_of task row p attempt) l now.runs) (append-nil mid.runs ∙ a.runs) b.runs;
    answers = a.answers;
  }

  pub breaks_then : (driver : Driver) (first middle last : Option Contents) (added : List Entry) (p : List Decimal) (attempt : ℕ) (step : BenchStep) → MakesBy driver leaves task row added first middle →
      BreaksBy driver leaves task row [] p attempt step middle last → BreaksBy driver leaves task row added p attempt step first last
  breaks_then Direct first middle last added p attempt step a b = b
  breaks_then (Fork words) None middle last added p attempt step a b = tt
  breaks_then (Fork words) (Some was) middle last added p attempt step a b =
      let call = subst (λ (o : Option Contents). IfSome o (λ now. Stands last (HaveBroken leaves task row [] p attempt step now))) a.told b in
      record { now = call.now; told = call.told; is = broken_then was a.now call.now added p attempt step a.is call.is }

module _ (leaves : Leaves) (study : Study) where
  -- attempts of the point that comes next, each where the rule asked for it
  accounts_of : (entries more : List Entry) (rows : List Row) (p : List Decimal) → Reaches study (said entries) rows → next study rows ≡ At p → AreAsked study.interface.rule p entries more →
      All (λ (e : Entry). IsAnswer leaves (task_of study) (length rows + 1) e.point e.attempt e.said) more → Accounts leaves study entries more (runs_in (task_of study) (length rows + 1) more)
  accounts_of entries [] rows p reached next_is asked answers = refl
  accounts_of entries (e ∷ more) rows p reached next_is asked answers = (
    record {
      rows = rows;
      waits = subst (λ (q : List Decimal). Seq study entries rows (Open q e.attempt)) (sym asked.0) (opens study entries rows p e.attempt reached next_is asked.1);
      allowed = All-head (λ (x : Entry). IsAnswer leaves (task_of study) (length rows + 1) x.point x.attempt x.said) e more answers;
      run_is = refl;
    },
    accounts_of (entries ++ e ∷ []) more rows p (reaches_more study entries (e ∷ []) rows reached) next_is asked.2
        (All-tail (λ (x : Entry). IsAnswer leaves (task_of study) (length rows + 1) x.point x.attempt x.said) e more answers),
  )

  accounts_append : (before added more : List Entry) (runs others : List Run) → Accounts leaves study before added runs → Accounts leaves study (before ++ added) more others → Accounts leaves study before (added ++ more) (runs ++ others)
  accounts_append before [] more runs others a b =
      subst (λ (l : List Run). Accounts leaves study before more (l ++ others)) (sym a) (subst (λ (l : List Entry). Accounts leaves study l more others) (append-nil before) b)
  accounts_append before (e ∷ added) more [] others a b = absurd a
  accounts_append before (e ∷ added) more (ran ∷ runs) others a b =
      (a.0, accounts_append (before ++ e ∷ []) added more runs others a.1 (subst (λ (l : List Entry). Accounts leaves study l more others) (sym (append_assoc before (e ∷ []) added)) b))

  pub made_none : (driver : Driver) (before : List Entry) (bench : Option Contents) → AreMadeBy driver leaves study before [] bench bench
  made_none Direct before bench = (refl, All-nil IsOwn)
  made_none (Fork words) before None = tt
  made_none (Fork words) before (Some was) = record { now = was; told = refl; is = record { records = []; accounts = refl; runs = sym (append-nil was.runs) } }

  module _ (before added more : List Entry) (rows : List Row) (p : List Decimal) (reached : Reaches study (said (before ++ added)) rows) (next_is : next study rows ≡ At p) (asked : AreAsked study.interface.rule p (before ++ added) more) where
    all_run_then : (was mid now : Contents) → HaveAllRun leaves study before added was mid → HaveRun leaves (task_of study) (length rows + 1) more mid now → HaveAllRun leaves study before (added ++ more) was now
    all_run_then was mid now a b = record {
      records = a.records ++ runs_in (task_of study) (length rows + 1) more;
      accounts = accounts_append before added more a.records (runs_in (task_of study) (length rows + 1) more) a.accounts (accounts_of (before ++ added) more rows p reached next_is asked b.answers);
      runs = b.runs ∙ ap (λ (l : List Run). l ++ runs_in (task_of study) (length rows + 1) more) a.runs ∙ append_assoc was.runs a.records (runs_in (task_of study) (length rows + 1) more);
    }

    pub made_then : (driver : Driver) (first middle last : Option Contents) → AreMadeBy driver leaves study before added first middle → MakesBy driver leaves (task_of study) (length rows + 1) more middle last →
        AreMadeBy driver leaves study before (added ++ more) first last
    made_then Direct first middle last a b = (b.0 ∙ a.0, All-append IsOwn added more a.1 b.1)
    made_then (Fork words) None middle last a b = tt
    made_then (Fork words) (Some was) middle last a b =
        let call = subst (λ (o : Option Contents). IfSome o (λ now. Stands last (HaveRun leaves (task_of study) (length rows + 1) more now))) a.told b in
        record { now = call.now; told = call.told; is = all_run_then was a.now call.now a.is call.is }

    all_broken_then : (was mid now : Contents) (attempt : ℕ) (step : BenchStep) → HaveAllRun leaves study before added was mid → HaveBroken leaves (task_of study) (length rows + 1) more p attempt step mid now →
        HaveAllBroken leaves study before (added ++ more) (length rows + 1) p attempt step was now
    all_broken_then was mid now attempt step a b = record {
      records = a.records ++ runs_in (task_of study) (length rows + 1) more;
      accounts = accounts_append before added more a.records (runs_in (task_of study) (length rows + 1) more) a.accounts (accounts_of (before ++ added) more rows p reached next_is asked b.answers);
      runs = subst (λ (l : List Run). MayRun step (run study (length rows + 1) p attempt) l now.runs)
          (ap (λ (l : List Run). l ++ runs_in (task_of study) (length rows + 1) more) a.runs ∙ append_assoc was.runs a.records (runs_in (task_of study) (length rows + 1) more)) b.runs;
    }

    pub broke_then : (driver : Driver) (first middle last : Option Contents) (attempt : ℕ) (step : BenchStep) → AreMadeBy driver leaves study before added first middle → BreaksBy driver leaves (task_of study) (length rows + 1) more p attempt step middle last →
        AreBrokenBy driver leaves study before (added ++ more) (length rows + 1) p attempt step first last
    broke_then Direct first middle last attempt step a b = b
    broke_then (Fork words) None middle last attempt step a b = tt
    broke_then (Fork words) (Some was) middle last attempt step a b =
        let call = subst (λ (o : Option Contents). IfSome o (λ now. Stands last (HaveBroken leaves (task_of study) (length rows + 1) more p attempt step now))) a.told b in
        record { now = call.now; told = call.told; is = all_broken_then was a.now call.now attempt step a.is call.is }
