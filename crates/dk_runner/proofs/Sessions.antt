-- A call that is covered gives sessions.
use Rattle.std.proofs.Common.{◌≡◌, ℕ, List, [], ◌∷◌, ◌++◌, length, take, Option, Some, None, refl, sym, ap, ◌∙◌, subst, append_assoc}
use Rattle.std.specs.Prelude.{IfSome}
use Rattle.std.proofs.lemmas.List.{append-nil, append_cancel_right}
use Rattle.dk_outside.specs.declared.course.Standing.{Standing}
use Rattle.dk_outside.specs.declared.course.Course.{Course}
use Rattle.dk_outside.specs.Disks.{IsImage, moments}
use Rattle.dk_types.specs.declared.study.Study.{Study}
use Rattle.dk_types.specs.declared.study.Ending.{Ending}
use Rattle.dk_types.specs.declared.entry.Entry.{Entry}
use Rattle.dk_types.specs.declared.rows.Row.{Row}
use Rattle.dk_types.specs.Entries.{AreEntries}
use Rattle.dk_types.specs.Solo.{Seq, Ended}
use Rattle.dk_record.specs.Files.{Stands, unborn, born}
use Rattle.dk_record.proofs.Once.{stands_same}
use Rattle.dk_journal.specs.Covers.{IsSafe, latest, AreCovered, Covers}
use Rattle.dk_journal.specs.Crashes.{AreSafe}
use Rattle.dk_journal.specs.Journals.{CoversTold}
use Rattle.dk_journal.specs.Openings.{OpensOverTold}
use Rattle.dk_journal.specs.Sessions.{Told, IsDecided, shape_of}
use Rattle.dk_journal.proofs.Covering.{now_is}
use Rattle.dk_journal.proofs.Leaving.{crashes_leave_fronts}
use Rattle.dk_evaluate.specs.Evaluated.{AreWaitedFor, LeavesWithin}
use Rattle.dk_evaluate.proofs.Waiting.{decided_waits_for_nothing}
use Rattle.dk_runner.specs.Sessions.{IsUpTo, HasOneImage, EndsInSessions, GivesSessions, ReturnsSessions}

-- Parts of covered calls

module _ (stands : List ℕ → List Entry → Type 0) where
  covered_back : (start : Standing) (before added : List Entry) (xs ys : List Standing) → AreCovered stands start before added (xs ++ ys) → AreCovered stands start before added ys
  covered_back start before added [] ys each = each
  covered_back start before added (s ∷ xs) ys each = covered_back start before added xs ys each.2

  safe_on : (start : Standing) (before added entries : List Entry) (later since : List Standing) → AreCovered stands start before added (later ++ since) →
      IsSafe stands entries (latest start since) → IsSafe stands entries (latest start (later ++ since))
  safe_on start before added entries [] since each safe = safe
  safe_on start before added entries (s ∷ later) since each safe = each.1 entries (safe_on start before added entries later since each.2 safe)

  module _ (start part last : Course) (before added : List Entry) (up : IsUpTo start part last) (covers : Covers stands start last before added) where
    -- the moments since the start are those up to the end of the part, and those behind
    parts : covers.since ≡ up.left ++ up.since
    parts = append_cancel_right covers.since (up.left ++ up.since) (moments start)
        (sym covers.grown ∙ up.on ∙ ap (λ (l : List Standing). up.left ++ l) up.from ∙ sym (append_assoc up.left up.since (moments start)))

    each_moment : AreCovered stands start.now before added (up.left ++ up.since)
    each_moment = subst (AreCovered stands start.now before added) parts covers.each

    -- a part of a covered call is covered
    part_covered : Covers stands start part before added
    part_covered = record { since = up.since; grown = up.from; each = covered_back start.now before added up.left up.since each_moment }

    -- what was safe at its end is safe at the end of the call
    safe_later : (entries : List Entry) → IsSafe stands entries part.now → IsSafe stands entries last.now
    safe_later entries safe =
        let at_part = subst (IsSafe stands entries) (now_is stands start part up.since up.from) safe in
        let at_last = safe_on start.now before added entries up.left up.since each_moment at_part in
        subst (IsSafe stands entries) (sym (now_is stands start last covers.since covers.grown)) (subst (λ l. IsSafe stands entries (latest start.now l)) (sym parts) at_last)

-- what is told where a session ends
abbrev Tells : Study → List ℕ → Option Told → Type 0
Tells study left told = IfSome told (λ (t : Told). (entries : List Entry) × Stands (shape_of study) left entries × IsDecided study entries t)

ends_in_sessions : (study : Study) (start part : Course) (before added : List Entry) (told : Option Told) → Stands (shape_of study) start.now.bytes before →
    AreEntries (length study.variables.labels) (length study.responses.labels) (before ++ added) → AreWaitedFor study before added →
    Covers (Stands (shape_of study)) start part before added → HasOneImage start.now → ((left : List ℕ) → IsImage part.now left → Tells study left told) → EndsInSessions study start part before added told
ends_in_sessions study start part before added told stood well_formed waited covers one tells early safe left up are image =
    let here : AreSafe (shape_of study) before added safe part.now = (are.0, safe_later (Stands (shape_of study)) start early part before added up covers (before ++ take safe added) are.1) in
    let front = crashes_leave_fronts (shape_of study) start part before added safe left covers one stood here image in
    record {
      starts = stood;
      well_formed = well_formed;
      leaves = record { front = front.front; rest = front.rest; split = front.split; safe = front.long; stands = front.stands };
      decided = λ t decides. decided_waits_for_nothing study before added t.rows t.ending decides waited;
      told = tells left image;
    }

covers_of : (study : Study) (start last : Course) (before added : List Entry) → CoversTold (shape_of study) (Some start) (Some last) before added → Covers (Stands (shape_of study)) start last before added
covers_of study start last before added covers =
    let same : covers.0 ≡ last = (let told = covers.1 in cc) in
    subst (λ (c : Course). Covers (Stands (shape_of study)) start c before added) same covers.2

abbrev StoodFor : Study → Option Course → List Entry → Type 0
StoodFor study old before = IfSome old (λ course. Stands (shape_of study) course.now.bytes before)

pub gives_sessions : (study : Study) (old new : Option Course) (before added : List Entry) → StoodFor study old before → AreEntries (length study.variables.labels) (length study.responses.labels) (before ++ added) →
    AreWaitedFor study before added → CoversTold (shape_of study) old new before added → GivesSessions study old new before added
gives_sessions study None new before added stood well_formed waited covers = tt
gives_sessions study (Some start) None before added stood well_formed waited covers = tt
gives_sessions study (Some start) (Some last) before added stood well_formed waited covers = λ one part up.
    ends_in_sessions study start part before added None stood well_formed waited (part_covered (Stands (shape_of study)) start part last before added up (covers_of study start last before added covers)) one (λ left image. tt)

none_in_front : (xs ys : List Entry) → [] ≡ xs ++ ys → xs ≡ []
none_in_front [] ys e = refl
none_in_front (x ∷ xs) ys e = absurd (cc)

pub returns_sessions : (study : Study) (old new : Option Course) (before added : List Entry) (rows : List Row) (ending : Ending) → StoodFor study old before →
    AreEntries (length study.variables.labels) (length study.responses.labels) (before ++ added) → AreWaitedFor study before added → CoversTold (shape_of study) old new before added →
    LeavesWithin (shape_of study) new (before ++ added) [] → Seq study (before ++ added) rows (Ended ending) → ReturnsSessions study old new before added (record { rows = rows; ending = ending })
returns_sessions study None new before added rows ending stood well_formed waited covers leaves decided = tt
returns_sessions study (Some start) None before added rows ending stood well_formed waited covers leaves decided = tt
returns_sessions study (Some start) (Some last) before added rows ending stood well_formed waited covers leaves decided = λ one.
    ends_in_sessions study start last before added (Some (record { rows = rows; ending = ending })) stood well_formed waited (covers_of study start last before added covers) one (λ left image.
    let within = leaves left image in
    let whole : (before ++ added) ++ within.front ≡ before ++ added = ap (λ (l : List Entry). (before ++ added) ++ l) (none_in_front within.front within.rest within.split) ∙ append-nil (before ++ added) in
    (before ++ added, subst (Stands (shape_of study) left) whole within.stands_for, decided))

entries_of : (study : Study) (bytes : List ℕ) (entries : List Entry) → Stands (shape_of study) bytes entries → AreEntries (length study.variables.labels) (length study.responses.labels) entries
entries_of study bytes _ (unborn is) = tt
entries_of study bytes _ (born entries is) = is.kept.well_formed

-- a file that wasn't opened
pub alone_in_sessions : (study : Study) (old new : Option Course) (before : List Entry) → OpensOverTold (shape_of study) old new → StoodFor study old before → GivesSessions study old new before []
alone_in_sessions study None new before over stood = tt
alone_in_sessions study (Some start) new before over stood =
    gives_sessions study (Some start) new before [] stood (subst (AreEntries (length study.variables.labels) (length study.responses.labels)) (sym (append-nil before)) (entries_of study start.now.bytes before stood)) tt
    (over.0, over.1, over.2.covers before (λ others stands. stands_same (shape_of study) start.now.bytes others before stands stood))
