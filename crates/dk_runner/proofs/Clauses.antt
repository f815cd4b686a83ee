-- The clauses of the top call, each from how a run ends.
use Rattle.std.proofs.Common.{◌≡◌, inl, inr, ℕ, ◌≤◌, List, [], ◌++◌, length, Option, Some, None, refl, sym, subst, arith}
use Rattle.std.specs.Prelude.{IfSome, IsTrue}
use Rattle.dk_outside.specs.declared.course.Course.{Course}
use Rattle.dk_outside.specs.Causes.{Rose}
use Rattle.dk_types.specs.declared.study.Study.{Study}
use Rattle.dk_types.specs.declared.study.Shape.{Shape}
use Rattle.dk_types.specs.declared.entry.Entry.{Entry}
use Rattle.dk_types.specs.Entries.{AreEntries}
use Rattle.dk_record.specs.Payloads.{IsShape}
use Rattle.dk_record.specs.Files.{Stands}
use Rattle.dk_record.proofs.Once.{stands_same}
use Rattle.dk_journal.specs.declared.fault.OpenFault.{OpenFault}
use Rattle.dk_journal.specs.Openings.{OpensOverTold, CanOpen, Refuses}
use Rattle.dk_journal.specs.Sessions.{shape_of}
use Rattle.dk_journal.proofs.Covering.{covers_start}
use Rattle.dk_journal.proofs.Refusals.{refused_files_are_not_opened}
use Rattle.dk_outside.specs.declared.disk.Mode.{Mode}
use Rattle.dk_words.specs.Words.{IsFor, RunsIn}
use Rattle.dk_words.specs.declared.purpose.Purpose.TheVariants.{Run}
use Rattle.dk_runner.specs.Accepted.{Accepts}
use Rattle.dk_outside.specs.Benches.{Leaves}
use Rattle.dk_runner.specs.Outsides.{Outside}
use Rattle.dk_runner.specs.Started.{is_kept, is_torn, is_refused, is_lost}
use Rattle.dk_runner.specs.Restarts.{Stood, IsDecided, IsRefusedFile, IsDiskFault, IsFull, IsOutOfMemory, LeavesAlone, LeavesFile, KeepsAll, HasRoom, most_bytes}
use Rattle.dk_runner.specs.Headline.{Written, BreaksTable, BreaksSummary, StopsOver, TellsOver, CanRun, EndsDecided, InMode}
use Rattle.dk_runner.specs.Endings.{Scene, EndsSo}
use Rattle.dk_runner.specs.Lines.{is_decided}
use Rattle.dk_runner.specs.declared.status.Status.{Status}
use Rattle.dk_runner.specs.declared.status.Status.TheVariants.{Finished, Aborted, Usage, StudyRefused, SourceFault, RestartRefused, DiskFault, RestartFull, BenchFault, SinkFault, NoMemory}
use Rattle.dk_runner.specs.declared.status.Which.TheVariants.{Table, Out}
use Rattle.dk_runner.proofs.Sessions.{alone_in_sessions}
use Rattle.dk_runner.proofs.Accepts.{one_accepted, not_both, reads_sound}
use Rattle.dk_runner.proofs.Texts.{told, always, not_misused}
use Rattle.dk_runner.proofs.Room.{has_room}

module _ (leaves : Leaves) (s : Scene) (o : Outside) (untouched uncalled : Type 0) where
  pub decided_of : (status : Status) → EndsSo leaves s o untouched uncalled status → IsTrue (is_decided status) → IfSome s.left (λ text. Written leaves text o status s.table_old s.table_new s.out_old s.out_new)
  decided_of Finished h is = h.1
  decided_of Aborted h is = h.1
  decided_of (Usage at) h is = absurd (cc)
  decided_of (StudyRefused fault) h is = absurd (cc)
  decided_of SourceFault h is = absurd (cc)
  decided_of (RestartRefused fault) h is = absurd (cc)
  decided_of DiskFault h is = absurd (cc)
  decided_of (RestartFull size) h is = absurd (cc)
  decided_of (BenchFault fault) h is = absurd (cc)
  decided_of (SinkFault which) h is = absurd (cc)
  decided_of NoMemory h is = absurd (cc)

  pub table_front_of : (status : Status) → EndsSo leaves s o untouched uncalled status → status ≡ SinkFault Table → IfSome s.left (λ text. BreaksTable leaves text o s.table_old s.table_new)
  table_front_of status h is = (subst (EndsSo leaves s o untouched uncalled) is h).2

  pub summary_front_of : (status : Status) → EndsSo leaves s o untouched uncalled status → status ≡ SinkFault Out → IfSome s.left (λ text. BreaksSummary leaves text o s.table_old s.table_new s.out_old s.out_new)
  summary_front_of status h is = (subst (EndsSo leaves s o untouched uncalled) is h).2

  pub stops_of : (status : Status) → EndsSo leaves s o untouched uncalled status → IfSome s.left (λ text. StopsOver leaves text o status)
  stops_of (RestartRefused fault) h = h.3
  stops_of DiskFault h = h.3
  stops_of (RestartFull size) h = h.3
  stops_of (BenchFault fault) h = h.3
  stops_of Finished h = always s.left (λ text. tt)
  stops_of Aborted h = always s.left (λ text. tt)
  stops_of (Usage at) h = always s.left (λ text. tt)
  stops_of (StudyRefused fault) h = always s.left (λ text. tt)
  stops_of SourceFault h = always s.left (λ text. tt)
  stops_of (SinkFault which) h = always s.left (λ text. tt)
  stops_of NoMemory h = always s.left (λ text. tt)

-- a file that wasn't called is left as it was
uncalled_over : (shape : Shape) (told : Option Course) → OpensOverTold shape told told
uncalled_over shape None = refl
uncalled_over shape (Some course) = (
  course,
  refl,
  record {
    covers = λ entries only. covers_start (Stands shape) course entries [];
    same = λ entries stands. stands;
    untouched = λ born. inl refl;
  },
)

module _ (leaves : Leaves) (s : Scene) (o : Outside) (untouched uncalled : Type 0) (same : uncalled → (o.new ≡ o.old) × (o.before ≤ o.now) × (o.bench_new ≡ o.bench_old)) where
  left_alone : (study : Study) → uncalled → o.book ≡ None → LeavesFile leaves study o
  left_alone study file book =
      let over = subst (OpensOverTold (shape_of study) o.old) (sym (same file).0) (uncalled_over (shape_of study) o.old) in
      inl (record { handed = book; over = over; sessions = λ before stood. alone_in_sessions study o.old o.new before over stood; later = (same file).1; rests = (same file).2 })

  of_decided : (text : List ℕ) (study other : Study) (P : Study → Type 0) → Accepts text study → Accepts text other → (P study → LeavesFile leaves study o) → P study → LeavesFile leaves other o
  of_decided text study other P a b file h = subst (λ (t : Study). LeavesFile leaves t o) (one_accepted text study other a b) (file h)

  by_written : (study : Study) → ((rows : _) × (ending : _) × IsDecided leaves study o rows ending) → LeavesFile leaves study o
  by_written study d = inr (d.2.book, d.2.before, d.2.added, is_kept, d.2.continues)

  by_fault : (study : Study) → IsDiskFault leaves study o → LeavesFile leaves study o
  by_fault study f = elim f.left [ inl alone ↦ inl alone | inr b ↦ inr (b.book, b.before, b.added, is_torn b.e, b.continues) ]

  by_memory : (study : Study) → IsOutOfMemory leaves study o → LeavesFile leaves study o
  by_memory study m = elim m.left [ inl alone ↦ inl alone | inr b ↦ inr (b.0, b.1, [], is_kept, b.2) ]

  file_text : (status : Status) → EndsSo leaves s o untouched uncalled status → IfSome s.left (λ text. (study : Study) → Accepts text study → LeavesFile leaves study o)
  file_text Finished h = told s.left (λ text w other b. of_decided text w.study other (λ t. (rows : _) × (ending : _) × IsDecided leaves t o rows ending) w.evaluates.accepts b (by_written w.study) (w.rows, w.ending, w.evaluates.is_decided)) h.1
  file_text Aborted h = told s.left (λ text w other b. of_decided text w.study other (λ t. (rows : _) × (ending : _) × IsDecided leaves t o rows ending) w.evaluates.accepts b (by_written w.study) (w.rows, w.ending, w.evaluates.is_decided)) h.1
  file_text (SinkFault Table) h = told s.left (λ text w other b. of_decided text w.study other (λ t. (rows : _) × (ending : _) × IsDecided leaves t o rows ending) w.evaluates.accepts b (by_written w.study) (w.rows, w.ending, w.evaluates.is_decided)) h.2
  file_text (SinkFault Out) h = told s.left (λ text w other b. of_decided text w.study other (λ t. (rows : _) × (ending : _) × IsDecided leaves t o rows ending) w.evaluates.accepts b (by_written w.study) (w.rows, w.ending, w.evaluates.is_decided)) h.2
  file_text (RestartRefused fault) h = told s.left (λ text t other b. of_decided text t.study other (λ x. LeavesAlone x o) t.accepts b (λ a. inl a) t.is.alone) h.3
  file_text DiskFault h = told s.left (λ text t other b. of_decided text t.study other (λ x. IsDiskFault leaves x o) t.accepts b (by_fault t.study) t.is) h.3
  file_text (RestartFull size) h = told s.left (λ text t other b. of_decided text t.study other (λ x. LeavesFile leaves x o) t.accepts b (λ l. l) (inr (t.is.book, t.is.before, t.is.added, is_refused t.is.e, t.is.continues))) h.3
  file_text (BenchFault fault) h = told s.left (λ text t other b. of_decided text t.study other (λ x. LeavesFile leaves x o) t.accepts b (λ l. l) (inr (t.is.book, t.is.before, t.is.added, is_lost t.is.row t.is.point t.is.attempt fault.step, t.is.continues))) h.3
  file_text (Usage at) h = always s.left (λ text other b. left_alone other h.1 h.2)
  file_text (StudyRefused fault) h = always s.left (λ text other b. left_alone other h.1 h.2)
  file_text SourceFault h = always s.left (λ text other b. left_alone other h.1 h.2)
  file_text NoMemory h = elim h [
    | inl early ↦ always s.left (λ text other b. left_alone other early.1 early.2)
    | inr late ↦ told s.left (λ text t other b. of_decided text t.study other (λ x. IsOutOfMemory leaves x o) t.accepts b (by_memory t.study) t.is) late.3
  ]

  pub file_of : (status : Status) → EndsSo leaves s o untouched uncalled status → IfSome s.left (λ text. (study : Study) → Accepts text study → LeavesFile leaves study o)
  file_of = file_text

-- Where nothing fails and there is room, all that was made is kept

abbrev pub NotRisen : (before now : ℕ) → Type 0
NotRisen before now = Rose before now → ⊥

module _ (leaves : Leaves) (s : Scene) (o : Outside) (untouched uncalled : Type 0) (same : uncalled → (o.new ≡ o.old) × (o.before ≤ o.now) × (o.bench_new ≡ o.bench_old)) where
  keeps_alone : (study : Study) → uncalled → o.book ≡ None → KeepsAll leaves study o
  keeps_alone study file book =
      let over = subst (OpensOverTold (shape_of study) o.old) (sym (same file).0) (uncalled_over (shape_of study) o.old) in
      inl (record { handed = book; over = over; sessions = λ before stood. alone_in_sessions study o.old o.new before over stood; later = (same file).1; rests = (same file).2 })

  all_of : (text : List ℕ) (study other : Study) → Accepts text study → Accepts text other → KeepsAll leaves study o → KeepsAll leaves other o
  all_of text study other a b h = subst (λ (t : Study). KeepsAll leaves t o) (one_accepted text study other a b) h

  all_decided : (study : Study) (rows : _) (ending : _) → IsDecided leaves study o rows ending → KeepsAll leaves study o
  all_decided study rows ending d = inr (d.book, d.before, d.added, d.continues)

  all_memory : (study : Study) → IsOutOfMemory leaves study o → KeepsAll leaves study o
  all_memory study m = elim m.left [ inl alone ↦ inl alone | inr b ↦ inr (b.0, b.1, [], b.2) ]

  pub keeps_of : (status : Status) → EndsSo leaves s o untouched uncalled status → NotRisen o.before o.now → NotRisen o.bench_before o.bench_now → ((size : ℕ) → status ≡ RestartFull size → ⊥) →
      IfSome s.left (λ text. (study : Study) → Accepts text study → KeepsAll leaves study o)
  keeps_of Finished h disk bench full = told s.left (λ text w other b. all_of text w.study other w.evaluates.accepts b (all_decided w.study w.rows w.ending w.evaluates.is_decided)) h.1
  keeps_of Aborted h disk bench full = told s.left (λ text w other b. all_of text w.study other w.evaluates.accepts b (all_decided w.study w.rows w.ending w.evaluates.is_decided)) h.1
  keeps_of (SinkFault Table) h disk bench full = told s.left (λ text w other b. all_of text w.study other w.evaluates.accepts b (all_decided w.study w.rows w.ending w.evaluates.is_decided)) h.2
  keeps_of (SinkFault Out) h disk bench full = told s.left (λ text w other b. all_of text w.study other w.evaluates.accepts b (all_decided w.study w.rows w.ending w.evaluates.is_decided)) h.2
  keeps_of (RestartRefused fault) h disk bench full = told s.left (λ text t other b. all_of text t.study other t.accepts b (inl t.is.alone)) h.3
  keeps_of DiskFault h disk bench full = told s.left (λ text t other b. absurd (disk t.is.rose)) h.3
  keeps_of (RestartFull size) h disk bench full = absurd (full size refl)
  keeps_of (BenchFault fault) h disk bench full = told s.left (λ text t other b. absurd (bench t.is.rose)) h.3
  keeps_of (Usage at) h disk bench full = always s.left (λ text other b. keeps_alone other h.1 h.2)
  keeps_of (StudyRefused fault) h disk bench full = always s.left (λ text other b. keeps_alone other h.1 h.2)
  keeps_of SourceFault h disk bench full = always s.left (λ text other b. keeps_alone other h.1 h.2)
  keeps_of NoMemory h disk bench full = elim h [
    | inl early ↦ always s.left (λ text other b. keeps_alone other early.1 early.2)
    | inr late ↦ told s.left (λ text t other b. all_of text t.study other t.accepts b (all_memory t.study t.is)) late.3
  ]

-- Where nothing fails, a study that can be run to its end is decided

module _ (leaves : Leaves) (text : List ℕ) (o : Outside) (can : CanRun text o) where
  -- the entries of before are those for which the file stood
  one_before : (before : List Entry) → Stood can.study o before → before ≡ can.before
  one_before before stood =
      let there : CanOpen o.mode (shape_of can.study) most_bytes can.course.now.bytes before
      = subst (λ (c : Option Course). IfSome c (λ course. CanOpen o.mode (shape_of can.study) most_bytes course.now.bytes before)) can.tells stood.told in
      stands_same (shape_of can.study) can.course.now.bytes before can.before there.stands can.can_open.stands

  not_refused : {X : Type 0} (fault : OpenFault) → TellsOver text (λ study. IsRefusedFile study o fault) → X
  not_refused fault t =
      let is = subst (λ (study : Study). IsRefusedFile study o fault) (one_accepted text t.study can.study t.accepts can.accepts) t.is in
      let refuses : Refuses o.mode (shape_of can.study) most_bytes can.course.now.bytes fault
      = subst (λ (c : Option Course). IfSome c (λ course. Refuses o.mode (shape_of can.study) most_bytes course.now.bytes fault)) can.tells is.refuses.refuses in
      absurd (refused_files_are_not_opened o.mode (shape_of can.study) most_bytes can.course.now.bytes fault can.before (is_shape can.study can.accepts) refuses can.can_open)
    where
      is_shape : (study : Study) → Accepts text study → IsShape (shape_of study)
      is_shape study accepts = let sound = reads_sound text study accepts.reads in record { variables = sound.variables; responses = sound.responses }

  not_full : {X : Type 0} (size : ℕ) → TellsOver text (λ study. IsFull leaves study o size) → X
  not_full size t =
      let is = subst (λ (study : Study). IsFull leaves study o size) (one_accepted text t.study can.study t.accepts can.accepts) t.is in
      let room = subst (HasRoom can.study) (sym (one_before is.before is.continues.stood)) can.has_room in
      let are = subst (λ (n : ℕ). AreEntries n (length can.study.responses.labels) (is.before ++ is.added)) is.continues.variables
      (subst (λ (m : ℕ). AreEntries is.book.variables m (is.before ++ is.added)) is.continues.responses is.continues.stands_for.well_formed) in
      let fits = has_room can.study is.before is.added is.e room are is.next is.few in
      let long = is.too_long in
      let same = is.size_is in
      absurd (omega (arith, fits, long, same))

module _ (leaves : Leaves) (s : Scene) (o : Outside) (untouched uncalled : Type 0) where
  pub complete_of : (status : Status) → EndsSo leaves s o untouched uncalled status → IsFor Run s.words → NotRisen s.source_before s.source_now → NotRisen o.before o.now → NotRisen o.bench_before o.bench_now →
      NotRisen s.table_before s.table_now → NotRisen s.out_before s.out_now → IfSome s.left (λ text. CanRun text o → EndsDecided status)
  complete_of Finished h run source disk bench table out = always s.left (λ text can. inl refl)
  complete_of Aborted h run source disk bench table out = always s.left (λ text can. inl refl)
  complete_of (Usage at) h run source disk bench table out = not_misused Run s.words at run h.0.0
  complete_of (StudyRefused fault) h run source disk bench table out = told s.left (λ text refused can. absurd (not_both text can.study fault can.accepts refused)) h.0.0.1
  complete_of SourceFault h run source disk bench table out = absurd (source h.0.0.1)
  complete_of (RestartRefused fault) h run source disk bench table out = told s.left (λ text t can. not_refused leaves text o can fault t) h.3
  complete_of DiskFault h run source disk bench table out = told s.left (λ text t can. absurd (disk t.is.rose)) h.3
  complete_of (RestartFull size) h run source disk bench table out = told s.left (λ text t can. not_full leaves text o can size t) h.3
  complete_of (BenchFault fault) h run source disk bench table out = told s.left (λ text t can. absurd (bench t.is.rose)) h.3
  complete_of (SinkFault Table) h run source disk bench table out = absurd (table h.1)
  complete_of (SinkFault Out) h run source disk bench table out = absurd (out h.1)
  complete_of NoMemory h run source disk bench table out = always s.left (λ text can. inr refl)

-- a statement of the mode that was found is one of the mode in which the words open the file
pub in_mode : (P : Mode → Type 0) (words : List (List ℕ)) (found : Mode) → ((mode : Mode) → RunsIn words mode → found ≡ mode) → P found → InMode words P
in_mode P words found only is = λ mode runs. subst P (only mode runs) is
