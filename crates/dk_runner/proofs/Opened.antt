-- What a run makes of its restart file, from what the opening and the evaluation say.
use Rattle.std.proofs.Common.{◌≡◌, ℕ, ◌+◌, ◌<◌, ◌≤◌, List, [], ◌∷◌, ◌++◌, length, Option, Some, None, refl, sym, ap, ◌∙◌, subst, append_assoc}
use Rattle.std.specs.Prelude.{IfSome}
use Rattle.std.specs.List.{All}
use Rattle.std.proofs.Math.Nat.{le_trans}
use Rattle.std.proofs.lemmas.List.{append-nil}
use Rattle.dk_outside.specs.declared.course.Course.{Course}
use Rattle.dk_outside.specs.declared.disk.Mode.{Mode}
use Rattle.dk_types.specs.declared.study.Study.{Study}
use Rattle.dk_types.specs.declared.study.Shape.{Shape}
use Rattle.dk_types.specs.declared.study.Ending.{Ending}
use Rattle.dk_types.specs.declared.entry.Entry.{Entry}
use Rattle.dk_types.specs.declared.rows.Row.{Row}
use Rattle.dk_num.specs.Decimal.{Decimal}
use Rattle.dk_types.specs.Entries.{IsNextEntry, AreEntries}
use Rattle.dk_types.proofs.CardEntries.{next_append}
use Rattle.dk_types.specs.Solo.{Seq, Ended, Open, rosenbrock_child}
use Rattle.dk_types.specs.Sound.{IsSound}
use Rattle.dk_book.specs.Books.{BookState}
use Rattle.dk_book.specs.Told.{StandsFor}
use Rattle.dk_record.specs.Files.{Stands, used}
use Rattle.dk_record.proofs.Once.{stands_same}
use Rattle.dk_journal.specs.declared.fault.AppendFault.TheVariants.{Disk, Full}
use Rattle.dk_journal.specs.Journals.{JournalState, Holds, ComesNext, CoversTold}
use Rattle.dk_journal.specs.Openings.{Opens, OpensOverTold, CanOpen}
use Rattle.dk_journal.specs.Sessions.{shape_of}
use Rattle.dk_journal.proofs.Appending.{covers_told_then}
use Rattle.dk_evaluate.specs.Keeping.{Keeps}
use Rattle.dk_outside.specs.Causes.{Rose}
use Rattle.dk_outside.specs.Benches.{Contents, Leaves}
use Rattle.dk_fork.specs.declared.station.BenchFault.{BenchFault}
use Rattle.dk_evaluate.specs.Evaluated.{AreWaitedFor, LeavesWithin, HasAppended, Decides, Halts, Loses}
use Rattle.dk_evaluate.specs.Making.{AreMade}
use Rattle.dk_evaluate.specs.Laws.{AreNew}
use Rattle.dk_evaluate.proofs.Waiting.{known_is_not_waited_for}
use Rattle.dk_evaluate.proofs.Reaching.{undecided, waited_front, waited_last}
use Rattle.dk_evaluate.proofs.Appends.{rest_within, rose_later}
use Rattle.dk_evaluate.proofs.AsChild.{decided_as_child}
use Rattle.dk_runner.specs.Sessions.{GivesSessions}
use Rattle.dk_runner.proofs.Sessions.{gives_sessions, returns_sessions}
use Rattle.dk_runner.specs.Outsides.{Outside, outside}
use Rattle.dk_runner.specs.Started.{is_kept, is_torn, is_refused, is_lost, IsAllowed, AreOpen}
use Rattle.dk_runner.specs.Restarts.{most_bytes, Continues, IsDecided, IsBroken, IsFull, IsLost}
use Rattle.dk_runner.proofs.Room.{behind}
use Rattle.dk_runner.proofs.Started.{open_of, settled_kept, settled_unkept, settled_lost, allowed_added, allowed_unkept, allowed_lost, gains_kept, gains_unkept, gains_lost, wide_entries, single_answers, own_answers}

-- the opening is covered with nothing appended, where the file stood for these entries
opening_covered : (study : Study) (mode : Mode) (old now : Option Course) (before : List Entry) → IfSome old (λ course. CanOpen mode (shape_of study) most_bytes course.now.bytes before) →
    OpensOverTold (shape_of study) old now → CoversTold (shape_of study) old now before []
opening_covered study mode None now before stood over = over
opening_covered study mode (Some course) now before stood over =
    (over.0, over.1, over.2.covers before (λ others stands. stands_same (shape_of study) course.now.bytes others before stands stood.stands))

-- what was opened keeps the entries
pub opened_keeps : (study : Study) (mode : Mode) (old : Option Course) (journal : JournalState) (book : BookState) (o : Opens mode (shape_of study) most_bytes study.limit old journal book) → Keeps book journal o.entries
opened_keeps study mode old journal book o = record { stands = o.stands_for; holds = o.holds }

covered_on : (study : Study) (old mid now : Option Course) (shape : Shape) (before more : List Entry) → shape ≡ shape_of study → CoversTold (shape_of study) old mid before [] → CoversTold shape mid now before more → CoversTold (shape_of study) old now before more
covered_on study old mid now shape before more same first second =
    covers_told_then (shape_of study) old mid now before [] more first
    (subst (λ (l : List Entry). CoversTold (shape_of study) mid now l more) (sym (append-nil before)) (subst (λ (s : Shape). CoversTold s mid now before more) same second))

-- a file at rest with the entries stands for them
leaves_at_rest : (study : Study) (journal : JournalState) (entries : List Entry) → journal.shape ≡ shape_of study → Holds journal entries → LeavesWithin (shape_of study) journal.told entries []
leaves_at_rest study journal entries same holds =
    subst (λ (s : Shape). LeavesWithin s journal.told entries []) same (rest_within journal.shape journal.end journal.told entries holds.rests)

-- a study that waits isn't decided
undecided_now : (study : Study) (entries : List Entry) (rows others : List Row) (p : List Decimal) (attempt : ℕ) (ending : Ending) → Seq study entries rows (Open p attempt) → Seq study entries others (Ended ending) → ⊥
undecided_now study entries rows others p attempt ending waiting decides =
    undecided study entries [] rows others p attempt ending (subst (λ (l : List Entry). Seq study l rows (Open p attempt)) (sym (append-nil entries)) waiting) decides

-- the bytes stood for what the file was opened over
stood_for : (study : Study) (mode : Mode) (old : Option Course) (before : List Entry) → IfSome old (λ course. CanOpen mode (shape_of study) most_bytes course.now.bytes before) →
    IfSome old (λ course. Stands (shape_of study) course.now.bytes before)
stood_for study mode None before stood = tt
stood_for study mode (Some course) before stood = stood.stands

-- what is said of the bench from its start on: what it did, whose outcomes they are, and that its count doesn't fall
module _ (leaves : Leaves) (study : Study) (sound : IsSound study) (mode : Mode) (old : Option Course) (before_faults : ℕ) (first : JournalState) (first_book : BookState) (o : Opens mode (shape_of study) most_bytes study.limit old first first_book)
    (over : OpensOverTold (shape_of study) old first.told) (later : before_faults ≤ first.faults) (bench : Option Contents) (bench_faults : ℕ) where
  abbrev pub outside_by : JournalState → BookState → Option Contents → ℕ → Outside
  outside_by now book held faults = outside mode old now.told before_faults now.faults (Some book) bench held bench_faults faults

  -- the entries that the book stands for, with the study's widths
  entries_by : (book : BookState) (entries : List Entry) → StandsFor book entries → book.variables ≡ length study.variables.labels → book.responses ≡ length study.responses.labels →
      AreEntries (length study.variables.labels) (length study.responses.labels) entries
  entries_by book entries stands variables responses =
      subst (λ (n : ℕ). AreEntries n (length study.responses.labels) entries) variables (subst (λ (m : ℕ). AreEntries book.variables m entries) responses stands.well_formed)

  covers_by : (now : JournalState) (added : List Entry) → CoversTold first.shape first.told now.told o.entries added → CoversTold (shape_of study) old now.told o.entries added
  covers_by now added covers = covered_on study old first.told now.told first.shape o.entries added o.shape_is (opening_covered study mode old first.told o.entries o.stood over) covers

  sessions_by : (now : JournalState) (added : List Entry) → AreEntries (length study.variables.labels) (length study.responses.labels) (o.entries ++ added) → AreWaitedFor study o.entries added →
      CoversTold first.shape first.told now.told o.entries added → GivesSessions study old now.told o.entries added
  sessions_by now added well_formed waited covers =
      gives_sessions study old now.told o.entries added (stood_for study mode old o.entries o.stood) well_formed waited (covers_by now added covers)

  -- how an entry that comes next stands behind the others
  next_entries : (added : List Entry) (e : Entry) → AreEntries (length study.variables.labels) (length study.responses.labels) (o.entries ++ added) → ComesNext first.shape (o.entries ++ added) e →
      AreEntries (length study.variables.labels) (length study.responses.labels) (o.entries ++ (added ++ e ∷ []))
  next_entries added e well_formed next =
      let n = length study.variables.labels in
      let m = length study.responses.labels in
      let is : IsNextEntry n m (o.entries ++ added) e = subst (λ (shape : Shape). ComesNext shape (o.entries ++ added) e) o.shape_is next in
      subst (AreEntries n m) (append_assoc o.entries added (e ∷ [])) (next_append n m [] (o.entries ++ added) (e ∷ []) well_formed (is, tt))

  module _ (now : JournalState) (book : BookState) (held : Option Contents) (faults : ℕ) (bench_later : bench_faults ≤ faults) (variables : book.variables ≡ length study.variables.labels)
      (responses : book.responses ≡ length study.responses.labels) where
    -- all attempts that were made are kept
    pub continues : (added : List Entry) → HasAppended first now o.entries added → AreMade leaves study o.entries added bench held → StandsFor book (o.entries ++ added) → AreWaitedFor study o.entries added →
        Continues leaves study (outside_by now book held faults) book o.entries added is_kept
    continues added appended made stands waited =
        let nothing : added ++ [] ≡ added = append-nil added in
        let well_formed = entries_by book (o.entries ++ added) stands variables responses in
        record {
          handed = refl;
          stood = record { fresh = o.fresh; told = o.stood };
          stands_for = stands;
          variables = variables;
          responses = responses;
          well_formed = subst (λ (l : List Entry). AreEntries (length study.variables.labels) (length study.responses.labels) (o.entries ++ l)) (sym nothing) well_formed;
          waited_for = subst (AreWaitedFor study o.entries) (sym nothing) waited;
          new = subst (AreNew o.entries) (sym nothing) (known_is_not_waited_for study o.entries added waited);
          unanswered = subst (AreOpen study.interface.rule o.entries) (sym nothing) (open_of study o.entries added waited);
          settled = settled_kept study o.entries added waited;
          allowed = λ tells. subst (All (IsAllowed leaves study (o.entries ++ added))) (sym nothing) (allowed_added leaves study o.entries added study.interface.driver bench held refl waited made tells);
          gains = gains_kept leaves study o.entries added study.interface.driver bench held made;
          cause = tt;
          covers = subst (CoversTold (shape_of study) old now.told o.entries) (sym nothing) (covers_by now added appended.covers);
          within = leaves_at_rest study now (o.entries ++ added) (appended.shape ∙ o.shape_is) appended.holds;
          sessions = subst (GivesSessions study old now.told o.entries) (sym nothing) (sessions_by now added well_formed waited appended.covers);
          later = le_trans later appended.later;
          bench_later = bench_later;
        }

    pub decided : (rows : List Row) (ending : Ending) → Decides leaves study first bench o.entries book now held rows ending → IsDecided leaves study (outside_by now book held faults) rows ending
    decided rows ending d =
        let well_formed = entries_by book (o.entries ++ d.added) d.stands variables responses in
        let wide = wide_entries (length study.variables.labels) (length study.responses.labels) o.entries d.added (behind (length study.variables.labels) (length study.responses.labels) [] o.entries d.added well_formed) in
        record {
          book = book;
          before = o.entries;
          added = d.added;
          continues = continues d.added d.appended d.made d.stands d.waited_for;
          decided = d.decided;
          session = returns_sessions study old now.told o.entries d.added rows ending (stood_for study mode old o.entries o.stood) well_formed d.waited_for
              (covers_by now d.added d.appended.covers) (leaves_at_rest study now (o.entries ++ d.added) (d.appended.shape ∙ o.shape_is) d.appended.holds) d.decided;
          alone = λ child single tells of_child. decided_as_child study child o.entries d.added rows ending sound of_child
              (single_answers leaves study child (o.entries ++ d.added) d.added single (allowed_added leaves study o.entries d.added study.interface.driver bench held refl d.waited_for d.made tells) wide) d.waited_for d.decided;
          own = λ direct of_child. decided_as_child study rosenbrock_child o.entries d.added rows ending sound of_child
              (own_answers leaves study o.entries d.added study.interface.driver bench held direct d.made) d.waited_for d.decided;
        }

    pub broken : (h : Halts leaves study first bench o.entries book now held Disk) → IsBroken leaves study (outside_by now book held faults)
    broken h =
        let well_formed = next_entries h.added h.e (entries_by book (o.entries ++ h.added) h.stands variables responses) h.next in
        record {
          book = book;
          before = o.entries;
          added = h.added;
          e = h.e;
          continues = record {
            handed = refl;
            stood = record { fresh = o.fresh; told = o.stood };
            stands_for = h.stands;
            variables = variables;
            responses = responses;
            well_formed = well_formed;
            waited_for = h.waited_for;
            new = known_is_not_waited_for study o.entries (h.added ++ h.e ∷ []) h.waited_for;
            unanswered = open_of study o.entries (h.added ++ h.e ∷ []) h.waited_for;
            settled = settled_unkept study o.entries h.added h.e (is_torn h.e) h.waited_for;
            allowed = λ tells. allowed_unkept leaves study o.entries h.added study.interface.driver h.e bench held refl h.waited_for h.made tells;
            gains = gains_unkept leaves study o.entries h.added study.interface.driver h.e (is_torn h.e) refl bench held h.made;
            cause = rose_later before_faults first.faults now.faults later h.stopped.rose;
            covers = covers_by now (h.added ++ h.e ∷ []) h.stopped.covers;
            within = subst (λ (s : Shape). LeavesWithin s now.told (o.entries ++ h.added) (h.e ∷ [])) o.shape_is h.stopped.leaves;
            sessions = sessions_by now (h.added ++ h.e ∷ []) well_formed h.waited_for h.stopped.covers;
            later = le_trans later h.stopped.later;
            bench_later = bench_later;
          };
          undecided = λ others ending decides. let k = waited_last study o.entries h.added h.e h.waited_for in undecided_now study (o.entries ++ h.added) k.0 others h.e.point h.e.attempt ending k.1 decides;
        }

    pub filled : (size : ℕ) (h : Halts leaves study first bench o.entries book now held (Full size)) → IsFull leaves study (outside_by now book held faults) size
    filled size h =
        let nothing : h.added ++ [] ≡ h.added = append-nil h.added in
        let front = waited_front study o.entries h.added (h.e ∷ []) h.waited_for in
        let appended = h.stopped.appended in
        let entries = entries_by book (o.entries ++ h.added) h.stands variables responses in
        let same : size ≡ used (shape_of study) ((o.entries ++ h.added) ++ h.e ∷ []) = h.stopped.too_long.0 ∙ ap (λ (s : Shape). used s ((o.entries ++ h.added) ++ h.e ∷ [])) o.shape_is in
        let long = subst (λ (n : ℕ). n < size) o.limit_is h.stopped.too_long.1 in
        record {
          book = book;
          before = o.entries;
          added = h.added;
          e = h.e;
          continues = record {
            handed = refl;
            stood = record { fresh = o.fresh; told = o.stood };
            stands_for = h.stands;
            variables = variables;
            responses = responses;
            well_formed = next_entries h.added h.e entries h.next;
            waited_for = h.waited_for;
            new = known_is_not_waited_for study o.entries (h.added ++ h.e ∷ []) h.waited_for;
            unanswered = open_of study o.entries (h.added ++ h.e ∷ []) h.waited_for;
            settled = settled_unkept study o.entries h.added h.e (is_refused h.e) h.waited_for;
            allowed = λ tells. allowed_unkept leaves study o.entries h.added study.interface.driver h.e bench held refl h.waited_for h.made tells;
            gains = gains_unkept leaves study o.entries h.added study.interface.driver h.e (is_refused h.e) refl bench held h.made;
            cause = subst (λ (n : ℕ). most_bytes < n) same long;
            covers = subst (CoversTold (shape_of study) old now.told o.entries) (sym nothing) (covers_by now h.added appended.covers);
            within = leaves_at_rest study now (o.entries ++ h.added) (appended.shape ∙ o.shape_is) appended.holds;
            sessions = subst (GivesSessions study old now.told o.entries) (sym nothing) (sessions_by now h.added entries front appended.covers);
            later = le_trans later appended.later;
            bench_later = bench_later;
          };
          next = subst (λ (shape : Shape). ComesNext shape (o.entries ++ h.added) h.e) o.shape_is h.next;
          few = h.few;
          size_is = same;
          too_long = long;
          waits = waited_last study o.entries h.added h.e h.waited_for;
          undecided = λ others ending decides. let k = waited_last study o.entries h.added h.e h.waited_for in undecided_now study (o.entries ++ h.added) k.0 others h.e.point h.e.attempt ending k.1 decides;
        }

    pub gone : (fault : BenchFault) → fault.slot ≡ 0 → Rose bench_faults faults → (h : Loses leaves study first bench o.entries book now held fault.step) → IsLost leaves study (outside_by now book held faults) fault
    gone fault slot rose h =
        let nothing : h.added ++ [] ≡ h.added = append-nil h.added in
        let entries = entries_by book (o.entries ++ h.added) h.stands variables responses in
        record {
          book = book;
          before = o.entries;
          added = h.added;
          row = length h.rows + 1;
          point = h.p;
          attempt = h.attempt;
          slot_is = slot;
          rose = rose;
          continues = record {
            handed = refl;
            stood = record { fresh = o.fresh; told = o.stood };
            stands_for = h.stands;
            variables = variables;
            responses = responses;
            well_formed = subst (λ (l : List Entry). AreEntries (length study.variables.labels) (length study.responses.labels) (o.entries ++ l)) (sym nothing) entries;
            waited_for = subst (AreWaitedFor study o.entries) (sym nothing) h.waited_for;
            new = subst (AreNew o.entries) (sym nothing) (known_is_not_waited_for study o.entries h.added h.waited_for);
            unanswered = subst (AreOpen study.interface.rule o.entries) (sym nothing) (open_of study o.entries h.added h.waited_for);
            settled = settled_lost study o.entries h.added h.rows h.p h.attempt (is_lost (length h.rows + 1) h.p h.attempt fault.step) h.waits;
            allowed = λ tells. subst (All (IsAllowed leaves study (o.entries ++ h.added))) (sym nothing)
                (allowed_lost leaves study o.entries h.added h.rows h.p h.attempt h.waits study.interface.driver fault.step bench held refl h.broke tells);
            gains = gains_lost leaves study o.entries h.added h.rows h.p h.attempt h.waits study.interface.driver fault.step bench held h.broke;
            cause = (rose, (h.rows, refl, h.waits));
            covers = subst (CoversTold (shape_of study) old now.told o.entries) (sym nothing) (covers_by now h.added h.appended.covers);
            within = leaves_at_rest study now (o.entries ++ h.added) (h.appended.shape ∙ o.shape_is) h.appended.holds;
            sessions = subst (GivesSessions study old now.told o.entries) (sym nothing) (sessions_by now h.added entries h.waited_for h.appended.covers);
            later = le_trans later h.appended.later;
            bench_later = bench_later;
          };
          undecided = λ others ending decides. undecided_now study (o.entries ++ h.added) h.rows others h.p h.attempt ending h.waits decides;
        }
