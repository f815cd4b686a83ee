-- An evaluation, row after row.
use Rattle.std.proofs.Common.{◌≡◌, ℕ, ◌+◌, ◌*◌, ◌<◌, ◌≤◌, List, [], ◌∷◌, ◌++◌, length, Option, sym, ap, ◌∙◌, subst, arith, append_assoc, length-append}
use Rattle.std.proofs.Math.Nat.{mul-suc, le_trans, mul-le-mul_left}
use Rattle.std.proofs.lemmas.List.{append-nil}
use Rattle.dk_num.specs.Decimal.{Decimal}
use Rattle.dk_types.specs.declared.study.Study.{Study}
use Rattle.dk_types.specs.declared.study.Why.{Why}
use Rattle.dk_types.specs.declared.study.Ending.TheVariants.{Finished, Aborted}
use Rattle.dk_types.specs.declared.study.Shape.{Shape}
use Rattle.dk_types.specs.declared.entry.Entry.{Entry}
use Rattle.dk_types.specs.declared.rows.Row.{Row}
use Rattle.dk_types.specs.Planned.{next, At, Over}
use Rattle.dk_types.specs.Entries.{said}
use Rattle.dk_types.specs.Answers.{Value, Dead, Next, answer, retries}
use Rattle.dk_types.specs.Solo.{Seq, Ended, with_row}
use Rattle.dk_outside.specs.Benches.{Contents, Leaves}
use Rattle.dk_params.specs.Params.{task_of}
use Rattle.dk_fork.specs.declared.serve.BenchStep.{BenchStep}
use Rattle.dk_evaluate.specs.Making.{AreMade}
use Rattle.dk_evaluate.specs.declared.settle.Stop.{Stop}
use Rattle.dk_evaluate.specs.declared.settle.Stop.TheVariants as stop
use Rattle.dk_evaluate.specs.declared.settle.Settled.TheVariants as settled
use Rattle.dk_evaluate.specs.declared.evaluation.Verdict.TheVariants as verdict
use Rattle.dk_evaluate.specs.Turns.{EndsRun}
use Rattle.dk_evaluate.proofs.Made.{made_none, made_then, broke_then}
use Rattle.dk_types.proofs.Once.{length_more}
use Rattle.dk_book.specs.Books.{BookState}
use Rattle.dk_book.specs.Told.{StandsFor}
use Rattle.dk_journal.specs.declared.fault.AppendFault.{AppendFault}
use Rattle.dk_journal.specs.Journals.{JournalState, ComesNext}
use Rattle.dk_evaluate.specs.Keeping.{Keeps, KeepSome}
use Rattle.dk_evaluate.specs.Evaluated.{Reaches, start, row, ComesTo, StopsAt, BreaksAt, IsOfStudy, IsOpen, AreAsked, AreWaitedFor, Runs, Decides, Halts, Loses, Settles, SettlesBook}
use Rattle.dk_evaluate.proofs.Appends.{none_appended, appended_then, stopped_then}
use Rattle.dk_evaluate.proofs.Reaching.{reaches_more, aborts, finishes, opens, asked_waited, waited_append}

pub runs_start : (leaves : Leaves) (study : Study) (journal : JournalState) (bench : Option Contents) (before : List Entry) (book : BookState) → IsOfStudy study journal → Keeps book journal before → Runs leaves study journal bench before book journal bench []
runs_start leaves study journal bench before book of_study keeps = record {
  added = [];
  running = record {
    of_study = of_study;
    appended = none_appended journal before keeps.holds;
    made = made_none leaves study study.interface.driver before bench;
    stands = subst (StandsFor book) (sym (append-nil before)) keeps.stands;
    reaches = start;
    waited_for = tt;
    few = omega arith;
  };
}

-- a card that was placed is none of its entries
pub runs_placed : (leaves : Leaves) (study : Study) (begin : JournalState) (bench : Option Contents) (before : List Entry) (book placed : BookState) (now : JournalState) (held : Option Contents) (rows : List Row) →
    ((entries : List Entry) → StandsFor book entries → StandsFor placed entries) → Runs leaves study begin bench before book now held rows → Runs leaves study begin bench before placed now held rows
runs_placed leaves study begin bench before book placed now held rows keeps was = record {
  added = was.added;
  running = record {
    of_study = was.running.of_study;
    appended = was.running.appended;
    made = was.running.made;
    stands = keeps (before ++ was.added) was.running.stands;
    reaches = was.running.reaches;
    waited_for = was.running.waited_for;
    few = was.running.few;
  };
}

kept_now : (leaves : Leaves) (study : Study) (begin : JournalState) (bench : Option Contents) (before : List Entry) (book : BookState) (now : JournalState) (held : Option Contents) (rows : List Row) (was : Runs leaves study begin bench before book now held rows) → Keeps book now (before ++ was.added)
kept_now leaves study begin bench before book now held rows was = record { stands = was.running.stands; holds = was.running.appended.holds }

-- the attempts of the next point are waited for
waited_then : (study : Study) (before added more : List Entry) (rows : List Row) (p : List Decimal) → Reaches study (said (before ++ added)) rows → next study rows ≡ At p → AreWaitedFor study before added →
    AreAsked study.interface.rule p (before ++ added) more → AreWaitedFor study before (added ++ more)
waited_then study before added more rows p reached next_is waited asked = waited_append study before added more waited (asked_waited study (before ++ added) more rows p reached next_is asked)

few_more : (a n m rows : ℕ) → n ≤ a * rows → m ≤ a → n + m ≤ a * (rows + 1)
few_more a n m rows h k =
    let e : a * (rows + 1) ≡ a * rows + a = (let s : rows + 1 ≡ Prim.Native.Nat.suc rows = omega arith in ap (λ (r : ℕ). a * r) s) ∙ mul-suc a rows in
    omega (arith, h, k, e)

-- a point came to its values
pub runs_row : (leaves : Leaves) (study : Study) (begin : JournalState) (bench : Option Contents) (before : List Entry) (book after : BookState) (now later : JournalState) (held end : Option Contents) (rows : List Row) (p v : List Decimal) → Runs leaves study begin bench before book now held rows → next study rows ≡ At p →
    ((entries : List Entry) → Keeps book now entries → ComesTo leaves (task_of study) study.interface.rule (length rows + 1) p (Value v) after now later held end entries) → Runs leaves study begin bench before after later end (with_row rows p v)
runs_row leaves study begin bench before book after now later held end rows p v was next_is settles =
    let c = settles (before ++ was.added) (kept_now leaves study begin bench before book now held rows was) in
    let r = was.running in
    let same : (before ++ was.added) ++ c.added ≡ before ++ (was.added ++ c.added) = append_assoc before was.added c.added in
    let reached = subst (λ (l : List Entry). Reaches study (said l) rows) same (reaches_more study (before ++ was.added) c.added rows r.reaches) in
    record {
      added = was.added ++ c.added;
      running = record {
        of_study = r.of_study;
        appended = appended_then begin now later before was.added c.added r.appended c.appended;
        made = made_then leaves study before was.added c.added rows p r.reaches next_is c.asked study.interface.driver bench held end r.made c.made;
        stands = subst (StandsFor after) same c.stands;
        reaches = row rows p v reached next_is (subst (λ (l : List Entry). answer study.interface.rule l p ≡ Value v) same c.is);
        waited_for = waited_then study before was.added c.added rows p r.reaches next_is r.waited_for c.asked;
        few = omega (
          arith,
          length-append was.added c.added,
          few_more (retries study.interface.rule + 1) (length was.added) (length c.added) (length rows) r.few c.few,
          ap (λ (n : ℕ). (retries study.interface.rule + 1) * n) (length_more rows p v),
        );
      };
    }

-- a point came to its end
pub runs_dead : (leaves : Leaves) (study : Study) (begin : JournalState) (bench : Option Contents) (before : List Entry) (book after : BookState) (now later : JournalState) (held end : Option Contents) (rows : List Row) (p : List Decimal) (number attempts : ℕ) → Runs leaves study begin bench before book now held rows → next study rows ≡ At p →
    number ≡ length rows + 1 → ((entries : List Entry) → Keeps book now entries → ComesTo leaves (task_of study) study.interface.rule (length rows + 1) p (Dead attempts) after now later held end entries) → Decides leaves study begin bench before after later end rows (Aborted number attempts)
runs_dead leaves study begin bench before book after now later held end rows p number attempts was next_is number_is settles =
    let c = settles (before ++ was.added) (kept_now leaves study begin bench before book now held rows was) in
    let r = was.running in
    let same : (before ++ was.added) ++ c.added ≡ before ++ (was.added ++ c.added) = append_assoc before was.added c.added in
    let reached = subst (λ (l : List Entry). Reaches study (said l) rows) same (reaches_more study (before ++ was.added) c.added rows r.reaches) in
    let ends = aborts study (before ++ (was.added ++ c.added)) rows p attempts reached next_is (subst (λ (l : List Entry). answer study.interface.rule l p ≡ Dead attempts) same c.is) in
    record {
      added = was.added ++ c.added;
      appended = appended_then begin now later before was.added c.added r.appended c.appended;
      made = made_then leaves study before was.added c.added rows p r.reaches next_is c.asked study.interface.driver bench held end r.made c.made;
      stands = subst (StandsFor after) same c.stands;
      waited_for = waited_then study before was.added c.added rows p r.reaches next_is r.waited_for c.asked;
      decided = subst (λ (n : ℕ). Seq study (before ++ (was.added ++ c.added)) rows (Ended (Aborted n attempts))) (sym number_is) ends;
    }

few_within : (a n m rows limit : ℕ) → n ≤ a * rows → m ≤ a → rows < limit → n + m ≤ a * limit
few_within a n m rows limit h k inside = le_trans (few_more a n m rows h k) (grown a (rows + 1) limit (omega arith))
  where
    grown : (a x y : ℕ) → x ≤ y → a * x ≤ a * y
    grown a x y le = mul-le-mul_left a le

-- an attempt of a point wasn't kept
pub runs_stop : (leaves : Leaves) (study : Study) (begin : JournalState) (bench : Option Contents) (before : List Entry) (book after : BookState) (now later : JournalState) (held end : Option Contents) (rows : List Row) (p : List Decimal) (fault : AppendFault) → Runs leaves study begin bench before book now held rows → next study rows ≡ At p →
    length rows < study.limit → ((entries : List Entry) → Keeps book now entries → StopsAt leaves (task_of study) study.interface.rule (length rows + 1) p fault after now later held end entries) → Halts leaves study begin bench before after later end fault
runs_stop leaves study begin bench before book after now later held end rows p fault was next_is inside settles =
    let c = settles (before ++ was.added) (kept_now leaves study begin bench before book now held rows was) in
    let r = was.running in
    let same : (before ++ was.added) ++ c.added ≡ before ++ (was.added ++ c.added) = append_assoc before was.added c.added in
    record {
      added = was.added ++ c.added;
      e = c.e;
      few = omega (arith, length-append was.added c.added, few_within (retries study.interface.rule + 1) (length was.added) (length c.added + 1) (length rows) study.limit r.few c.few inside);
      stands = subst (StandsFor after) same c.stands;
      waited_for = subst (AreWaitedFor study before) (sym (append_assoc was.added c.added (c.e ∷ []))) (waited_then study before was.added (c.added ++ c.e ∷ []) rows p r.reaches next_is r.waited_for c.asked);
      next = subst (λ (l : List Entry). ComesNext begin.shape l c.e) same (subst (λ (shape : Shape). ComesNext shape ((before ++ was.added) ++ c.added) c.e) r.appended.shape c.next);
      made = subst (λ (l : List Entry). AreMade leaves study before l bench end) (sym (append_assoc was.added c.added (c.e ∷ []))) (made_then leaves study before was.added (c.added ++ c.e ∷ []) rows p r.reaches next_is c.asked study.interface.driver bench held end r.made c.made);
      stopped = stopped_then begin now later before was.added c.added c.e fault r.appended c.stopped;
    }

-- an attempt of a point wasn't made
pub runs_loses : (leaves : Leaves) (study : Study) (begin : JournalState) (bench : Option Contents) (before : List Entry) (book after : BookState) (now later : JournalState) (held end : Option Contents) (rows : List Row) (p : List Decimal) (step : BenchStep) → Runs leaves study begin bench before book now held rows → next study rows ≡ At p →
    length rows < study.limit → ((entries : List Entry) → Keeps book now entries → BreaksAt leaves (task_of study) study.interface.rule (length rows + 1) p step after now later held end entries) → Loses leaves study begin bench before after later end step
runs_loses leaves study begin bench before book after now later held end rows p step was next_is inside settles =
    let c = settles (before ++ was.added) (kept_now leaves study begin bench before book now held rows was) in
    let r = was.running in
    let same : (before ++ was.added) ++ c.added ≡ before ++ (was.added ++ c.added) = append_assoc before was.added c.added in
    let reached = subst (λ (l : List Entry). Reaches study (said l) rows) same (reaches_more study (before ++ was.added) c.added rows r.reaches) in
    record {
      added = was.added ++ c.added;
      rows = rows;
      p = p;
      attempt = c.attempt;
      few = omega (arith, length-append was.added c.added, few_within (retries study.interface.rule + 1) (length was.added) (length c.added + 1) (length rows) study.limit r.few c.few inside);
      appended = appended_then begin now later before was.added c.added r.appended c.appended;
      stands = subst (StandsFor after) same c.stands;
      waited_for = waited_then study before was.added c.added rows p r.reaches next_is r.waited_for c.asked;
      waits = opens study (before ++ (was.added ++ c.added)) rows p c.attempt reached next_is (subst (λ (l : List Entry). answer study.interface.rule l p ≡ Next c.attempt) same c.waits);
      broke = broke_then leaves study before was.added c.added rows p r.reaches next_is c.asked study.interface.driver bench held end c.attempt step r.made c.broke;
    }

-- an attempt of a point isn't in the journal
pub runs_stopped : (leaves : Leaves) (study : Study) (begin : JournalState) (bench : Option Contents) (before : List Entry) (book after : BookState) (now later : JournalState) (held end : Option Contents) (rows reached : List Row) (p values : List Decimal) (why : Stop) → Runs leaves study begin bench before book now held rows → next study rows ≡ At p →
    length rows < study.limit → ((entries : List Entry) → Keeps book now entries → Settles leaves (task_of study) study.interface.rule (length rows + 1) p values after now later held end entries (settled.Stopped why)) →
    EndsRun leaves study begin bench before after later end reached (verdict.Stopped why)
runs_stopped leaves study begin bench before book after now later held end rows reached p values (stop.Append fault) was next_is inside settles =
    runs_stop leaves study begin bench before book after now later held end rows p fault was next_is inside settles
runs_stopped leaves study begin bench before book after now later held end rows reached p values (stop.Bench fault) was next_is inside settles =
    runs_loses leaves study begin bench before book after now later held end rows p fault.step was next_is inside settles

-- no point is left
pub runs_over : (leaves : Leaves) (study : Study) (begin : JournalState) (bench : Option Contents) (before : List Entry) (book : BookState) (now : JournalState) (held : Option Contents) (rows : List Row) (why : Why) → Runs leaves study begin bench before book now held rows → next study rows ≡ Over why →
    Decides leaves study begin bench before book now held rows (Finished why)
runs_over leaves study begin bench before book now held rows why was over = record {
  added = was.added;
  appended = was.running.appended;
  made = was.running.made;
  stands = was.running.stands;
  waited_for = was.running.waited_for;
  decided = finishes study (before ++ was.added) rows why was.running.reaches over;
}

-- Over what was open an evaluation goes on

pub open_after : (leaves : Leaves) (study : Study) (number : ℕ) (p v : List Decimal) (book after : BookState) (now later : JournalState) (held end : Option Contents) → IsOfStudy study now → KeepSome book now → book.variables ≡ length study.variables.labels → book.responses ≡ length study.responses.labels →
    SettlesBook book after → ((entries : List Entry) → Keeps book now entries → ComesTo leaves (task_of study) study.interface.rule number p (Value v) after now later held end entries) → IsOpen study after later
open_after leaves study number p v book after now later held end of_study some variables responses settles comes =
    let c = comes some.entries some.keeps in
    record {
      of_study = record { variables = ap (λ s. s.variables) c.appended.shape ∙ of_study.variables; responses = ap (λ s. s.responses) c.appended.shape ∙ of_study.responses };
      is_book = settles.book;
      variables = settles.variables ∙ variables;
      responses = settles.responses ∙ responses;
      some = record { entries = some.entries ++ c.added; keeps = record { stands = c.stands; holds = c.appended.holds } };
    }
