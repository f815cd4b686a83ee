-- How the run of an accepted study ends over its restart file.
use Rattle.std.proofs.Common.{◌≡◌, inl, inr, ℕ, ◌≤◌, List, [], length, Option, None, refl, sym, ap, ◌∙◌, subst, arith}
use Rattle.std.proofs.lemmas.List.{append-nil}
use Rattle.dk_outside.specs.declared.course.Course.{Course}
use Rattle.dk_outside.specs.declared.disk.Mode.{Mode}
use Rattle.dk_types.specs.declared.study.Study.{Study}
use Rattle.dk_types.specs.declared.study.Ending.{Ending}
use Rattle.dk_types.specs.declared.rows.Row.{Row}
use Rattle.dk_types.specs.Sound.{IsSound}
use Rattle.dk_book.specs.Books.{BookState}
use Rattle.dk_book.specs.Told.{StandsFor}
use Rattle.dk_journal.specs.declared.fault.AppendFault.{AppendFault}
use Rattle.dk_journal.specs.declared.fault.AppendFault.TheVariants as append
use Rattle.dk_journal.specs.declared.fault.OpenFault.{OpenFault}
use Rattle.dk_journal.specs.declared.fault.OpenFault.TheVariants as opening
use Rattle.dk_journal.specs.Journals.{JournalState}
use Rattle.dk_journal.specs.Openings.{Opens, OpensOverTold}
use Rattle.dk_journal.specs.Sessions.{shape_of}
use Rattle.dk_outside.specs.Benches.{Contents, Leaves}
use Rattle.dk_evaluate.specs.Evaluated.{Halts}
use Rattle.dk_evaluate.specs.Attempted.{IsItsFault}
use Rattle.dk_evaluate.specs.declared.settle.Stop.{Stop}
use Rattle.dk_evaluate.specs.declared.settle.Stop.TheVariants as stop
use Rattle.dk_evaluate.proofs.Made.{made_none}
use Rattle.dk_evaluate.specs.Turns.{EndsRun}
use Rattle.dk_evaluate.proofs.Appends.{none_appended, rose_later}
use Rattle.dk_evaluate.specs.declared.evaluation.Verdict.{Verdict}
use Rattle.dk_evaluate.specs.declared.evaluation.Verdict.TheVariants.{Decided, Stopped}
use Rattle.dk_runner.specs.Outsides.{Outside, outside}
use Rattle.dk_runner.specs.Restarts.{most_bytes, IsDecided, IsNotOpened, LeavesAlone}
use Rattle.dk_runner.specs.Endings.{Scene, EndsStudy, Reports, SaysLine, Tells}
use Rattle.dk_runner.specs.Lines.{status_of_fault, status_of_refused}
use Rattle.dk_runner.specs.declared.status.Status.{Status}
use Rattle.dk_runner.specs.declared.status.Status.TheVariants.{Finished, Aborted, Usage, StudyRefused, SourceFault, RestartRefused, DiskFault, RestartFull, BenchFault, SinkFault, NoMemory}
use Rattle.dk_runner.proofs.Sessions.{alone_in_sessions}
use Rattle.dk_runner.specs.declared.status.Which.TheVariants.{Table, Out}
use Rattle.dk_runner.proofs.Opened.{continues, decided, broken, filled, gone, outside_by}

-- the texts of a decided study were written
reported : (leaves : Leaves) (study : Study) (s : Scene) (o : Outside) (untouched : Type 0) (rows : List Row) (ending : Ending) (status : Status) → IsDecided leaves study o rows ending →
    Reports study rows ending s.table_old s.table_new s.table_before s.table_now s.out_old s.out_new s.out_before s.out_now status → EndsStudy leaves study s o untouched status
reported leaves study s o untouched rows ending Finished d h = (rows, ending, d, h)
reported leaves study s o untouched rows ending Aborted d h = (rows, ending, d, h)
reported leaves study s o untouched rows ending (SinkFault Table) d h = (rows, ending, d, h)
reported leaves study s o untouched rows ending (SinkFault Out) d h = (rows, ending, d, h)
reported leaves study s o untouched rows ending (Usage at) d h = (rows, ending, d, h)
reported leaves study s o untouched rows ending (StudyRefused fault) d h = (rows, ending, d, h)
reported leaves study s o untouched rows ending SourceFault d h = (rows, ending, d, h)
reported leaves study s o untouched rows ending (RestartRefused fault) d h = absurd h.1
reported leaves study s o untouched rows ending DiskFault d h = absurd h.1
reported leaves study s o untouched rows ending (RestartFull size) d h = absurd h.1
reported leaves study s o untouched rows ending (BenchFault fault) d h = absurd h.1
reported leaves study s o untouched rows ending NoMemory d h = absurd h.1

module _ (leaves : Leaves) (study : Study) (sound : IsSound study) (mode : Mode) (old : Option Course) (before_faults : ℕ) (first : JournalState) (first_book : BookState) (o : Opens mode (shape_of study) most_bytes study.limit old first first_book)
    (over : OpensOverTold (shape_of study) old first.told) (later : before_faults ≤ first.faults) (bench : Option Contents) (bench_faults : ℕ) (s : Scene) (untouched : Type 0) where
  module _ (now : JournalState) (book : BookState) (held : Option Contents) (faults : ℕ) (bench_later : bench_faults ≤ faults) (variables : book.variables ≡ length study.variables.labels)
      (responses : book.responses ≡ length study.responses.labels) where
    abbrev then : Outside
    then = outside_by leaves study sound mode old before_faults first first_book o over later bench bench_faults now book held faults

    not_appended : (fault : AppendFault) (status : Status) → Halts leaves study first bench o.entries book now held fault → (status ≡ status_of_refused fault) × untouched × SaysLine s status → EndsStudy leaves study s then untouched status
    not_appended append.Disk status h tells =
        subst (EndsStudy leaves study s then untouched) (sym tells.0) (
          record {
            rose = rose_later before_faults first.faults now.faults later h.stopped.rose;
            left = inr (broken leaves study sound mode old before_faults first first_book o over later bench bench_faults now book held faults bench_later variables responses h);
          },
          tells.1,
          subst (SaysLine s) tells.0 tells.2,
        )
    not_appended (append.Full size) status h tells =
        subst (EndsStudy leaves study s then untouched) (sym tells.0) (
          filled leaves study sound mode old before_faults first first_book o over later bench bench_faults now book held faults bench_later variables responses size h,
          tells.1,
          subst (SaysLine s) tells.0 tells.2,
        )

    pub ended : (verdict : Verdict) (rows : List Row) (status : Status) → EndsRun leaves study first bench o.entries book now held rows verdict → ((stop : Stop) → verdict ≡ Stopped stop → IsItsFault 0 bench_faults faults stop) →
        Tells study s untouched rows verdict status → EndsStudy leaves study s then untouched status
    ended (Decided ending) rows status d fault tells =
        reported leaves study s then untouched rows ending status
        (decided leaves study sound mode old before_faults first first_book o over later bench bench_faults now book held faults bench_later variables responses rows ending d) tells
    ended (Stopped (stop.Append fault)) rows status h cause tells = not_appended fault status h tells
    ended (Stopped (stop.Bench fault)) rows status h cause tells =
        let why = cause (stop.Bench fault) refl in
        subst (EndsStudy leaves study s then untouched) (sym tells.0) (
          gone leaves study sound mode old before_faults first first_book o over later bench bench_faults now book held faults bench_later variables responses fault why.0 why.1 h,
          tells.1,
          subst (SaysLine s) tells.0 tells.2,
        )

  -- memory ran out before the first attempt
  pub unprepared : first_book.variables ≡ length study.variables.labels → first_book.responses ≡ length study.responses.labels → untouched → SaysLine s NoMemory →
      EndsStudy leaves study s (outside_by leaves study sound mode old before_faults first first_book o over later bench bench_faults first first_book bench bench_faults) untouched NoMemory
  unprepared variables responses table line = (
    record {
      left = inr (
        first_book,
        o.entries,
        continues leaves study sound mode old before_faults first first_book o over later bench bench_faults first first_book bench bench_faults (omega arith) variables responses []
            (none_appended first o.entries o.holds) (made_none leaves study study.interface.driver o.entries bench) (subst (StandsFor first_book) (sym (append-nil o.entries)) o.stands_for) tt,
      );
    },
    table,
    line,
  )

alone : (study : Study) (mode : Mode) (old new : Option Course) (before now : ℕ) (bench : Option Contents) (faults : ℕ) → OpensOverTold (shape_of study) old new → before ≤ now → LeavesAlone study (outside mode old new before now None bench bench faults faults)
alone study mode old new before now bench faults over later = record {
  handed = refl;
  over = over;
  sessions = λ entries stood. alone_in_sessions study old new entries over stood;
  later = later;
  rests = refl;
}

-- the file wasn't opened
pub unopened : (leaves : Leaves) (study : Study) (mode : Mode) (old new : Option Course) (before now : ℕ) (bench : Option Contents) (faults : ℕ) (fault : OpenFault) (s : Scene) (untouched : Type 0) → IsNotOpened study mode old new before now fault →
    OpensOverTold (shape_of study) old new → before ≤ now → untouched → SaysLine s (status_of_fault fault) → EndsStudy leaves study s (outside mode old new before now None bench bench faults faults) untouched (status_of_fault fault)
unopened leaves study mode old new before now bench faults opening.Disk s untouched why over later table line = (record { rose = why; left = inl (alone study mode old new before now bench faults over later) }, table, line)
unopened leaves study mode old new before now bench faults opening.NoMemory s untouched why over later table line = (record { left = inl (alone study mode old new before now bench faults over later) }, table, line)
unopened leaves study mode old new before now bench faults (opening.NotEmpty size) s untouched why over later table line = (record { alone = alone study mode old new before now bench faults over later; refuses = why }, table, line)
unopened leaves study mode old new before now bench faults opening.NotARestart s untouched why over later table line = (record { alone = alone study mode old new before now bench faults over later; refuses = why }, table, line)
unopened leaves study mode old new before now bench faults (opening.OtherShape stored wanted) s untouched why over later table line = (record { alone = alone study mode old new before now bench faults over later; refuses = why }, table, line)
unopened leaves study mode old new before now bench faults (opening.Damaged offset) s untouched why over later table line = (record { alone = alone study mode old new before now bench faults over later; refuses = why }, table, line)
unopened leaves study mode old new before now bench faults (opening.TooLarge size) s untouched why over later table line = (record { alone = alone study mode old new before now bench faults over later; refuses = why }, table, line)

-- two outsides with the same parts
pub same_outside : (mode : Mode) (old new told : Option Course) (before now faults : ℕ) (book handed : Option BookState) (bench held later told_later : Option Contents) (first counted last counted_last : ℕ) → told ≡ new → faults ≡ now → handed ≡ book →
    held ≡ bench → told_later ≡ later → counted ≡ first → counted_last ≡ last → outside mode old new before now book bench later first last ≡ outside mode old told before faults handed held told_later counted counted_last
same_outside mode old new told before now faults book handed bench held later told_later first counted last counted_last t n b h l f c =
    ap (λ x. outside mode old x before now book bench later first last) (sym t) ∙ ap (λ x. outside mode old told before x book bench later first last) (sym n)
    ∙ ap (λ x. outside mode old told before faults x bench later first last) (sym b) ∙ ap (λ x. outside mode old told before faults handed x later first last) (sym h)
    ∙ ap (λ x. outside mode old told before faults handed held x first last) (sym l) ∙ ap (λ x. outside mode old told before faults handed held told_later x last) (sym f)
    ∙ ap (λ x. outside mode old told before faults handed held told_later counted x) (sym c)
