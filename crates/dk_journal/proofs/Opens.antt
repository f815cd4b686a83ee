-- What an opening comes to, by what was read and what was found in it.
use Rattle.std.proofs.Common.{◌≡◌, ◌⊎◌, inl, inr, ⊎_elim, ℕ, ◌+◌, ◌≤◌, true, List, [], ◌∷◌, ◌++◌, length, Option, Some, None, option_map, IfSome, refl, sym, ◌∙◌, ap, subst, arith}
use Rattle.std.proofs.Math.Nat.{eq-zero-or-pos}
use Rattle.dk_outside.specs.Causes.{Rose}
use Rattle.dk_outside.specs.declared.course.Course.{Course}
use Rattle.dk_outside.specs.Disks.{IsImage, settled, all_synced}
use Rattle.dk_types.specs.declared.study.Shape.{Shape}
use Rattle.dk_types.specs.declared.entry.Entry.{Entry}
use Rattle.dk_book.specs.Books.{BookState}
use Rattle.dk_record.specs.Payloads.{IsShape}
use Rattle.dk_record.specs.Files.{IsUnborn, Stands, unborn, used}
use Rattle.dk_record.proofs.Once.{stands_same}
use Rattle.dk_outside.specs.declared.disk.Mode.{Mode}
use Rattle.dk_outside.specs.declared.disk.Mode.TheVariants.{Fresh, Resume}
use Rattle.dk_journal.specs.declared.fault.OpenFault.{OpenFault}
use Rattle.dk_journal.specs.declared.fault.OpenFault.TheVariants.{NotEmpty, NotARestart, OtherShape, Damaged, TooLarge, Disk, NoMemory}
use Rattle.dk_journal.specs.Covers.{StandsWithin, Covers}
use Rattle.dk_journal.specs.Journals.{JournalState, CoversTold}
use Rattle.dk_journal.specs.Rests.{IsAtRest}
use Rattle.dk_journal.specs.Openings.{Refuses, not_a_restart, other_shape, damaged, CanOpen, IsOnly, OpensOver, OpensOverTold, Opens, RefusesTold, IsRefused, IsUnlessFailed}
use Rattle.dk_journal.specs.Judging.{IsUntouchedTold, IsRead, IsFound, IsMissed, GoesOn, GoesOnTold}
use Rattle.dk_journal.proofs.Refusals.{refusals_are_one, refused_files_are_not_opened}
use Rattle.dk_journal.proofs.Covering.{covers_start, covers_more, covers_then, covered_now, now_is}
use Rattle.dk_journal.proofs.Safe.{settled_image, safe_fewer}

-- a sync is covered, as what reads give is one of the images
synced_covers : (shape : Shape) (course : Course) (entries : List Entry) → IsImage course.now course.now.bytes → Covers (Stands shape) course (all_synced course) entries []
synced_covers shape course entries shown =
    let fewer : (c : List ℕ) → IsImage (settled course.now.bytes) c → IsImage course.now c = λ c image. subst (λ b. IsImage course.now b) (sym (settled_image course.now.bytes c image)) shown in
    covers_more (Stands shape) course course (settled course.now.bytes) entries [] (covers_start (Stands shape) course entries [])
    (λ c image. inl (fewer c image)) (safe_fewer (Stands shape) (stands_same shape) course.now (settled course.now.bytes) fewer)

over_same : (shape : Shape) (course : Course) → OpensOver shape course course
over_same shape course = record {
  covers = λ entries is. covers_start (Stands shape) course entries [];
  same = λ entries stands. stands;
  untouched = λ lives. inl refl;
}

over_synced : (shape : Shape) (course : Course) → IsImage course.now course.now.bytes → OpensOver shape course (all_synced course)
over_synced shape course shown = record {
  covers = λ entries is. synced_covers shape course entries shown;
  same = λ entries stands. stands;
  untouched = λ lives. inr refl;
}

-- an opening that wrote nothing
pub over_untouched : (shape : Shape) (old new : Option Course) → IfSome old (λ course. IsImage course.now course.now.bytes) → IsUntouchedTold old new → OpensOverTold shape old new
over_untouched shape None new shown (inl same) = same
over_untouched shape None new shown (inr synced) = synced
over_untouched shape (Some course) new shown (inl same) = (course, same, over_same shape course)
over_untouched shape (Some course) new shown (inr synced) = (all_synced course, synced, over_synced shape course shown)

-- the images of a file that was begun stand for no entries
begun_stands : (shape : Shape) (bytes : List ℕ) (mid new : Course) → IsUnborn bytes → mid.now ≡ settled bytes → Covers (Stands shape) mid new [] [] → IsImage new.now new.now.bytes → Stands shape new.now.bytes []
begun_stands shape bytes mid new is rests covers shown =
    ⊎_elim
    (λ was. subst (λ b. Stands shape b []) (sym (settled_image bytes new.now.bytes (subst (λ s. IsImage s new.now.bytes) rests was))) (unborn is))
    (λ within. no_more within)
    (covered_now (Stands shape) mid.now [] [] covers.since covers.each new.now.bytes (subst (λ s. IsImage s new.now.bytes) (now_is (Stands shape) mid new covers.since covers.grown) shown))
  where
    front_none : (front rest : List Entry) → [] ≡ front ++ rest → Stands shape new.now.bytes front → Stands shape new.now.bytes []
    front_none [] rest e stands = stands
    front_none (e ∷ front) rest same stands = absurd (let no : 0 ≡ length ((e ∷ front) ++ rest) = ap length same in omega arith)

    no_more : StandsWithin (Stands shape) [] [] new.now.bytes → Stands shape new.now.bytes []
    no_more within = front_none within.front within.rest within.split within.stands_for

-- only no entries are those of an unborn file
only_none : (shape : Shape) (bytes : List ℕ) (entries : List Entry) → IsUnborn bytes → IsOnly shape bytes entries → [] ≡ entries
only_none shape bytes entries is only = only [] (unborn is)

over_begun : (shape : Shape) (course new : Course) → IsImage course.now course.now.bytes → IsImage new.now new.now.bytes → IsUnborn course.now.bytes → Covers (Stands shape) (all_synced course) new [] [] → OpensOver shape course new
over_begun shape course new shown shows is covers = record {
  covers = λ entries only.
      let none = only_none shape course.now.bytes entries is only in
      subst (λ l. Covers (Stands shape) course new l []) none (covers_then (Stands shape) course (all_synced course) new [] [] [] (synced_covers shape course [] shown) covers);
  same = λ entries stands.
      let none : [] ≡ entries = stands_same shape course.now.bytes [] entries (unborn is) stands in
      subst (λ l. Stands shape new.now.bytes l) none (begun_stands shape course.now.bytes (all_synced course) new is refl covers shows);
  untouched = λ lives. absurd (lives is);
}

unborn_or_not : (bytes : List ℕ) → IsUnborn bytes ⊎ (IsUnborn bytes → ⊥)
unborn_or_not [] = inl tt
unborn_or_not (gate ∷ []) = inl tt
unborn_or_not (gate ∷ byte ∷ bytes) = elim (eq-zero-or-pos gate) [
  | inl closed ↦ inl closed
  | inr is_open ↦ inr (λ (e : gate ≡ 0). omega (arith, is_open, e))
]

over_going : (shape : Shape) (course new : Course) → IsImage course.now course.now.bytes → IsImage new.now new.now.bytes → GoesOn shape course.now.bytes (all_synced course) new → OpensOver shape course new
over_going shape course new shown shows goes = ⊎_elim
    (λ is. over_begun shape course new shown shows is (goes.covers is))
    (λ lives. subst (λ c. OpensOver shape course c) (sym (goes.untouched lives)) (over_synced shape course shown))
    (unborn_or_not course.now.bytes)

-- an opening that judged what it had read
pub over_judged : (shape : Shape) (bytes : List ℕ) (old mid new : Option Course) → IfSome old (λ course. IsImage course.now course.now.bytes) → IfSome new (λ course. IsImage course.now course.now.bytes) →
    mid ≡ option_map all_synced old → IfSome old (λ course. bytes ≡ course.now.bytes) → GoesOnTold shape bytes mid new → OpensOverTold shape old new
over_judged shape bytes None mid new shown shows synced are goes = subst (λ m. GoesOnTold shape bytes m new) synced goes
over_judged shape bytes (Some course) mid new shown shows synced are goes =
    let then = subst (λ m. GoesOnTold shape bytes m new) synced goes in
    (then.0, then.1, over_going shape course then.0 shown (subst (λ t. IfSome t (λ c. IsImage c.now c.now.bytes)) then.1 shows) (subst (λ b. GoesOn shape b (all_synced course) then.0) are then.2))

-- what reads give rests once it was synced
pub rests_read : (old mid : Option Course) (bytes : List ℕ) → mid ≡ option_map all_synced old → IfSome old (λ course. bytes ≡ course.now.bytes) → IfSome mid (λ course. course.now ≡ settled bytes)
rests_read None mid bytes synced are = subst (λ t. IfSome t (λ course. course.now ≡ settled bytes)) (sym synced) tt
rests_read (Some course) mid bytes synced are = subst (λ t. IfSome t (λ c. c.now ≡ settled bytes)) (sym synced) (ap settled (sym are))

told_bytes : (P : List ℕ → Type 0) (old : Option Course) (bytes : List ℕ) → IfSome old (λ course. bytes ≡ course.now.bytes) → P bytes → IfSome old (λ course. P course.now.bytes)
told_bytes P None bytes are is = tt
told_bytes P (Some course) bytes are is = subst P are is

pub opens_found : (mode : Mode) (shape : Shape) (limit cards : ℕ) (old mid : Option Course) (bytes : List ℕ) (journal : JournalState) (book : BookState) → IsRead mode limit old mid bytes →
    IsFound shape cards bytes journal.told book journal.entries journal.end → journal.shape ≡ shape → journal.limit ≡ limit → journal.whole ≡ true → Opens mode shape limit cards old journal book
opens_found mode shape limit cards old mid bytes journal book read found shape_is limit_is whole = record {
  entries = found.entries;
  stood = told_bytes (λ b. CanOpen mode shape limit b found.entries) old bytes read.are (record { fits = read.fits; fresh = read.fresh; stands = found.stands });
  fresh = λ is. stands_same shape [] found.entries [] (subst (λ b. Stands shape b found.entries) (read.fresh is) found.stands) (unborn tt);
  holds = record {
    whole = whole;
    rests = subst (λ s. IfSome journal.told (λ course. IsAtRest s journal.end found.entries course.now)) (sym shape_is) found.rests;
    count = found.count_is;
    place = subst (λ (s : Shape). journal.end + 1 ≡ used s found.entries) (sym shape_is) found.place;
  };
  stands_for = found.stands_for;
  shape_is = shape_is;
  limit_is = limit_is;
  variables = found.variables;
  responses = found.responses;
  spare = found.spare;
  room = found.room;
}

resumes : (mode : Mode) (bytes : List ℕ) → (mode ≡ Fresh → bytes ≡ []) → (IsUnborn bytes → ⊥) → mode ≡ Resume
resumes Fresh bytes fresh lives = absurd (lives (subst IsUnborn (sym (fresh refl)) tt))
resumes Resume bytes fresh lives = refl

rose_before : (before middle now : ℕ) → before ≤ middle → Rose middle now → Rose before now
rose_before before middle now le rose = omega (arith, le, rose)

refuses_told : (mode : Mode) (shape : Shape) (limit : ℕ) (old mid new : Option Course) (bytes : List ℕ) (fault : OpenFault) → IsRead mode limit old mid bytes → new ≡ mid → Refuses mode shape limit bytes fault → RefusesTold mode shape limit old new fault
refuses_told mode shape limit old mid new bytes fault read same refuses = record {
  refuses = told_bytes (λ b. Refuses mode shape limit b fault) old bytes read.are refuses;
  unwritten = same ∙ read.synced;
}

pub refused_missed : (mode : Mode) (shape : Shape) (limit : ℕ) (old mid new : Option Course) (bytes : List ℕ) (before middle now : ℕ) (fault : OpenFault) → IsRead mode limit old mid bytes → before ≤ middle →
    IsMissed shape bytes mid new middle now fault → IsRefused mode shape limit old new before now fault
refused_missed mode shape limit old mid new bytes before middle now (NotEmpty size) read le missed = absurd missed
refused_missed mode shape limit old mid new bytes before middle now (TooLarge size) read le missed = absurd missed
refused_missed mode shape limit old mid new bytes before middle now Disk read le missed = rose_before before middle now le missed
refused_missed mode shape limit old mid new bytes before middle now NoMemory read le missed = missed ∙ read.synced
refused_missed mode shape limit old mid new bytes before middle now NotARestart read le missed =
    refuses_told mode shape limit old mid new bytes NotARestart read missed.0 (not_a_restart (resumes mode bytes read.fresh missed.1) read.fits missed.1 missed.2)
refused_missed mode shape limit old mid new bytes before middle now (OtherShape stored wanted) read le missed =
    refuses_told mode shape limit old mid new bytes (OtherShape stored wanted) read missed.0
    (subst (λ w. Refuses mode shape limit bytes (OtherShape stored w)) (sym missed.2.0) (other_shape stored (resumes mode bytes read.fresh missed.1) read.fits missed.1 missed.2.1 missed.2.2))
refused_missed mode shape limit old mid new bytes before middle now (Damaged offset) read le missed =
    refuses_told mode shape limit old mid new bytes (Damaged offset) read missed.0 (damaged offset (resumes mode bytes read.fresh missed.1) read.fits missed.1 missed.2.0 missed.2.1)

-- a file that was opened is one of which no test fails
pub opened_exact : (mode : Mode) (shape : Shape) (limit cards : ℕ) (old : Option Course) (journal : JournalState) (book : BookState) → IsShape shape → Opens mode shape limit cards old journal book →
    IfSome old (λ course. (fault : OpenFault) → Refuses mode shape limit course.now.bytes fault → ⊥)
opened_exact mode shape limit cards None journal book is opens = tt
opened_exact mode shape limit cards (Some course) journal book is opens = λ fault refuses. refused_files_are_not_opened mode shape limit course.now.bytes fault opens.entries is refuses opens.stood

told_exact : (mode : Mode) (shape : Shape) (limit : ℕ) (old new : Option Course) (told : OpenFault) → RefusesTold mode shape limit old new told →
    IfSome old (λ course. (fault : OpenFault) → Refuses mode shape limit course.now.bytes fault → IsUnlessFailed fault told)
told_exact mode shape limit None new told is = tt
told_exact mode shape limit (Some course) new told is = λ fault refuses. inl (refusals_are_one mode shape limit course.now.bytes told fault is.refuses refuses)

failed_exact : (P : List ℕ → OpenFault → Type 0) (told : OpenFault) (old : Option Course) → ((fault : OpenFault) → IsUnlessFailed fault told) → IfSome old (λ course. (fault : OpenFault) → P course.now.bytes fault → IsUnlessFailed fault told)
failed_exact P told None is = tt
failed_exact P told (Some course) is = λ fault refuses. is fault

-- the test that is told is the one that fails
pub refused_exact : (mode : Mode) (shape : Shape) (limit : ℕ) (old new : Option Course) (before now : ℕ) (told : OpenFault) → IsRefused mode shape limit old new before now told →
    IfSome old (λ course. (fault : OpenFault) → Refuses mode shape limit course.now.bytes fault → IsUnlessFailed fault told)
refused_exact mode shape limit old new before now Disk is = failed_exact (Refuses mode shape limit) Disk old (λ fault. inr (inl refl))
refused_exact mode shape limit old new before now NoMemory is = failed_exact (Refuses mode shape limit) NoMemory old (λ fault. inr (inr refl))
refused_exact mode shape limit old new before now (NotEmpty size) is = told_exact mode shape limit old new (NotEmpty size) is
refused_exact mode shape limit old new before now NotARestart is = told_exact mode shape limit old new NotARestart is
refused_exact mode shape limit old new before now (OtherShape stored wanted) is = told_exact mode shape limit old new (OtherShape stored wanted) is
refused_exact mode shape limit old new before now (Damaged offset) is = told_exact mode shape limit old new (Damaged offset) is
refused_exact mode shape limit old new before now (TooLarge size) is = told_exact mode shape limit old new (TooLarge size) is

-- where the bytes stand for these entries, whatever an opening answers is covered with nothing appended to them
pub over_covers : (shape : Shape) (old new : Option Course) (entries : List Entry) → IfSome old (λ course. Stands shape course.now.bytes entries) → OpensOverTold shape old new → CoversTold shape old new entries []
over_covers shape None new entries stands over = over
over_covers shape (Some course) new entries stands over = (over.0, over.1, over.2.covers entries (λ others stood. stands_same shape course.now.bytes others entries stood stands))

-- so an opening is covered with nothing appended to the entries that it found
pub opened_covers : (mode : Mode) (shape : Shape) (limit cards : ℕ) (old : Option Course) (journal : JournalState) (book : BookState) → (opens : Opens mode shape limit cards old journal book) →
    OpensOverTold shape old journal.told → CoversTold shape old journal.told opens.entries []
opened_covers mode shape limit cards old journal book opens over = over_covers shape old journal.told opens.entries (stood old opens.stood) over
  where
    stood : (told : Option Course) → IfSome told (λ course. CanOpen mode shape limit course.now.bytes opens.entries) → IfSome told (λ course. Stands shape course.now.bytes opens.entries)
    stood None can = tt
    stood (Some course) can = can.stands
