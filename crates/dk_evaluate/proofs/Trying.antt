-- One attempt, from what a station and a ledger say of it.
use Rattle.std.proofs.Common.{◌≡◌, inl, inr, ℕ, ◌≤◌, List, [], ◌∷◌, ◌++◌, length, Option, Some, None, refl, sym, ap, ◌∙◌, subst}
use Rattle.std.specs.Prelude.{IfSome, IsOkAnd, Result, Ok, Err}
use Rattle.std.specs.List.{All}
use Rattle.std.proofs.lemmas.List.{append-nil}
use Rattle.std.proofs.lemmas.List.Elements.{All-nil, All-cons}
use Rattle.dk_num.specs.Decimal.{Decimal}
use Rattle.dk_outside.specs.declared.run.Run.{Run}
use Rattle.dk_outside.specs.Benches.{Contents, Leaves}
use Rattle.dk_types.specs.declared.study.Driver.{Driver}
use Rattle.dk_types.specs.declared.study.Driver.TheVariants.{Direct, Fork}
use Rattle.dk_types.specs.declared.entry.Entry.{Entry}
use Rattle.dk_types.specs.declared.entry.Said.{Said}
use Rattle.dk_types.specs.Entries.{values_of}
use Rattle.dk_types.specs.Solo.{rosenbrock_child}
use Rattle.dk_book.specs.Books.{BookState}
use Rattle.dk_journal.specs.Journals.{JournalState}
use Rattle.dk_params.specs.declared.task.Task.{Task}
use Rattle.dk_results.specs.declared.reading.Reading.{Reading}
use Rattle.dk_results.specs.declared.reading.Reading.TheVariants.{Values, Failed}
use Rattle.dk_fork.specs.Allowed.{IsAnswer}
use Rattle.dk_fork.specs.Runs.{run_of}
use Rattle.dk_fork.specs.Attempts.{IsRead, Attempts}
use Rattle.dk_fork.specs.Serving.{Stands, IsBroken}
use Rattle.dk_fork.specs.declared.station.BenchFault.{BenchFault}
use Rattle.dk_fork.specs.declared.serve.BenchStep.{BenchStep}
use Rattle.dk_fork.specs.declared.serve.BenchStep.TheVariants.{ClearBefore, Lay, Run as AtRun, Fetch, ClearAfter}
use Rattle.dk_evaluate.specs.Keeping.{entry_with}
use Rattle.dk_evaluate.specs.Making.{IsOwn, HaveRun, MakesBy, MayRun, HaveBroken, BreaksBy}
use Rattle.dk_evaluate.specs.Attempted.{Attempted, KeptSo, IsItsFault, said_as}
use Rattle.dk_evaluate.proofs.Appends.{rose_later}
use Rattle.dk_evaluate.specs.declared.settle.Stop.{Stop}
use Rattle.dk_evaluate.specs.declared.settle.Stop.TheVariants.{Append, Bench}

-- what was said is as wide as the values that were written
pub wide_as : (reading : Reading) (values : List Decimal) (n : ℕ) → length values ≡ n → IfSome (values_of (said_as reading values)) (λ given. length given ≡ n)
wide_as Values values n long = long
wide_as Failed values n long = tt

module _ (leaves : Leaves) (task : Task) (row : ℕ) (p : List Decimal) (attempt : ℕ) (values : List Decimal) where
  pub made_by : (driver : Driver) (reading : Reading) (old new : Option Contents) → ((words : List (List ℕ)) → driver ≡ Fork words → IfSome old (λ was. Attempts leaves task row p attempt (Ok reading) values was new)) →
      (driver ≡ Direct → (new ≡ old) × IsRead (rosenbrock_child p attempt) reading values) → MakesBy driver leaves task row (entry_with p attempt (said_as reading values) ∷ []) old new
  made_by Direct reading old new child direct =
      let is = direct refl in
      (is.0, All-cons IsOwn (entry_with p attempt (said_as reading values)) [] (sym is.1) (All-nil IsOwn))
  made_by (Fork words) reading None new child direct = tt
  made_by (Fork words) reading (Some was) new child direct =
      let s = child words refl in
      let answers = λ (e : Entry). IsAnswer leaves task row e.point e.attempt e.said in
      record {
        now = s.now;
        told = s.told;
        is = record {
          runs = s.is.runs;
          answers = All-cons answers (entry_with p attempt (said_as reading values)) [] (record { left = s.is.left; may = s.is.may; is = sym s.is.says }) (All-nil answers);
        };
      }

  may_run : (step : BenchStep) (save : _) (was now : Contents) → IsBroken step save (run_of task row p attempt) was now → MayRun step (run_of task row p attempt) was.runs now.runs
  may_run ClearBefore save was now b = b.0
  may_run Lay save was now b = b.0
  may_run AtRun save was now b = b.0
  may_run Fetch save was now b = b.0
  may_run ClearAfter save was now b = b.0

  pub broke_by : (driver : Driver) (fault : BenchFault) (old new : Option Contents) → ((words : List (List ℕ)) → driver ≡ Fork words → IfSome old (λ was. Attempts leaves task row p attempt (Err fault) values was new)) →
      (driver ≡ Direct → ⊥) → BreaksBy driver leaves task row [] p attempt fault.step old new
  broke_by Direct fault old new child direct = direct refl
  broke_by (Fork words) fault None new child direct = tt
  broke_by (Fork words) fault (Some was) new child direct =
      let s = child words refl in
      record {
        now = s.now;
        told = s.told;
        is = record {
          runs = subst (λ (l : List Run). MayRun fault.step (run_of task row p attempt) l s.now.runs) (sym (append-nil was.runs)) (may_run fault.step task.interface.save was s.now s.is);
          answers = All-nil (λ (e : Entry). IsAnswer leaves task row e.point e.attempt e.said);
        };
      }

-- what was made and kept, or not kept
pub attempted_by : (leaves : Leaves) (task : Task) (row index : ℕ) (p : List Decimal) (attempt : ℕ) (said : Said) (old_book book : BookState) (old now : JournalState) (bench later : Option Contents) (result : Result (Unit {0}) Stop) →
    IfSome (values_of said) (λ given. length given ≡ old_book.responses) → MakesBy task.interface.driver leaves task row (entry_with p attempt said ∷ []) bench later → KeptSo said index p attempt old_book book old now result →
    Attempted leaves task row index p attempt old_book book old now bench later result
attempted_by leaves task row index p attempt said old_book book old now bench later (Ok done) wide made kept = record { said = said; wide = wide; made = made; kept = kept }
attempted_by leaves task row index p attempt said old_book book old now bench later (Err (Append fault)) wide made kept = record { said = said; wide = wide; made = made; not_kept = kept }
attempted_by leaves task row index p attempt said old_book book old now bench later (Err (Bench fault)) wide made kept = absurd kept

-- a fault since a later moment is one since an earlier one
pub its_fault_later : (slot here : ℕ) (a b c : ℕ) (stop : Stop) → here ≡ slot → a ≤ b → IsItsFault here b c stop → IsItsFault slot a c stop
its_fault_later slot here a b c (Append fault) same h is = tt
its_fault_later slot here a b c (Bench fault) same h is = (is.0 ∙ same, rose_later a b c h is.1)
