-- What later sessions find of earlier ones.
use Rattle.std.proofs.Common.{◌≡◌, ◌⊎◌, inl, inr, ℕ, ◌≤◌, List, [], ◌∷◌, ◌++◌, length, take, drop, Some, IfSome, sym, ◌∙◌, ap, subst, append_assoc, take-append-drop}
use Rattle.std.proofs.lemmas.List.{take-append-le}
use Rattle.dk_types.specs.declared.study.Study.{Study}
use Rattle.dk_types.specs.declared.entry.Entry.{Entry}
use Rattle.dk_types.specs.Solo.{Ended}
use Rattle.dk_types.specs.Entries.{said}
use Rattle.dk_types.proofs.Growth.{decided_stays}
use Rattle.dk_types.proofs.Once.{each_comes_once}
use Rattle.dk_record.specs.Files.{Stands}
use Rattle.dk_record.proofs.Once.{stands_same}
use Rattle.dk_journal.specs.Sessions.{Told, Record, shape_of, IsDecided, Leaves, IsSession, Follow, Keeps, Repeats, ChainsKeepEntries, ChainsKeepResults}

-- a chain's part from one session on
suffix : (study : Study) (start : List ℕ) (earlier : List Record) (one : Record) (records : List Record) → Follow study start (earlier ++ one ∷ records) → (from : List ℕ) × Follow study from (one ∷ records)
suffix study start [] one records follow = (start, follow)
suffix study start (r ∷ earlier) one records follow = suffix study r.left earlier one records follow.3

-- the book that a session finds is the one that the session before it left
found : (study : Study) (one next : Record) (left : Leaves one) → one.study ≡ study → next.study ≡ study → next.start ≡ one.left → Stands (shape_of next.study) next.start next.before → next.before ≡ one.before ++ left.front
found study one next left is same start stands =
    stands_same (shape_of one.study) one.left next.before (one.before ++ left.front)
    (subst (λ (s : Study). Stands (shape_of s) one.left next.before) (same ∙ sym is) (subst (λ (b : List ℕ). Stands (shape_of next.study) b next.before) start stands)) left.stands

safe_front : (added front rest : List Entry) (safe : ℕ) → added ≡ front ++ rest → safe ≤ length front → front ≡ take safe added ++ drop safe front
safe_front added front rest safe split le = sym (take-append-drop safe front) ∙ ap (λ (l : List Entry). l ++ drop safe front) (sym (take-append-le safe front rest le) ∙ ap (take safe) (sym split))

keeps_next : (study : Study) (one next : Record) (left : Leaves one) → next.before ≡ one.before ++ left.front → Keeps one next
keeps_next study one next left is = record {
  rest = drop one.safe left.front;
  kept = is ∙ ap (λ (l : List Entry). one.before ++ l) (safe_front one.added left.front left.rest one.safe left.split left.safe) ∙ sym (append_assoc one.before (take one.safe one.added) (drop one.safe left.front));
}

keeps_then : (one next last : Record) → Keeps one next → Keeps next last → Keeps one last
keeps_then one next last first second = record {
  rest = first.rest ++ (take next.safe next.added ++ second.rest);
  kept =
      second.kept ∙ append_assoc next.before (take next.safe next.added) second.rest
      ∙ ap (λ (l : List Entry). l ++ (take next.safe next.added ++ second.rest)) first.kept
      ∙ append_assoc (one.before ++ take one.safe one.added) first.rest (take next.safe next.added ++ second.rest);
}

keeps_from : (study : Study) (start : List ℕ) (one : Record) (between : List Record) (last : Record) (more : List Record) → Follow study start (one ∷ (between ++ last ∷ more)) → Keeps one last
keeps_from study start one [] last more follow =
    let next = follow.3 in
    keeps_next study one last follow.0.leaves (found study one last follow.0.leaves follow.1 next.1 next.2 next.0.starts)
keeps_from study start one (r ∷ between) last more follow =
    let next = follow.3 in
    keeps_then one r last (keeps_next study one r follow.0.leaves (found study one r follow.0.leaves follow.1 next.1 next.2 next.0.starts)) (keeps_from study one.left r between last more next)

pub chains_keep_entries : ChainsKeepEntries
chains_keep_entries study earlier one between last more chain =
    let part = suffix study [] earlier one (between ++ last ∷ more) chain in
    keeps_from study part.0 one between last more part.1

told_is : (one other : Told) → one.rows ≡ other.rows → one.ending ≡ other.ending → one ≡ other
told_is one other r e = λ i. record { rows = r i; ending = e i }

-- a study is decided in one way
decided_once : (study : Study) (entries : List Entry) (one other : Told) → IsDecided study entries one → IsDecided study entries other → one ≡ other
decided_once study entries one other first second =
    let once = each_comes_once study (said entries) in
    let a = once.only one.rows (Ended one.ending) first in
    let b = once.only other.rows (Ended other.ending) second in
    let verdict : Ended one.ending ≡ Ended other.ending = a.1 ∙ sym b.1 in
    told_is one other (a.0 ∙ sym b.0) (cc (verdict))

more_decided : (study : Study) (entries more : List Entry) (told : Told) → IsDecided study entries told → IsDecided study (entries ++ more) told
more_decided study entries more told decided = decided_stays study entries more told.rows told.ending decided

-- what a session leaves is decided where it told so, or where what it found was decided
left_decided : (study : Study) (one : Record) (told : Told) → IsSession one → one.study ≡ study → (left : Leaves one) → (one.told ≡ Some told) ⊎ IsDecided study one.before told → IsDecided study (one.before ++ left.front) told
left_decided study one told session is left (inl said_so) =
    let ended : (entries : List Entry) × Stands (shape_of one.study) one.left entries × IsDecided one.study entries told =
    subst (λ t. IfSome t (λ u. (entries : List Entry) × Stands (shape_of one.study) one.left entries × IsDecided one.study entries u)) said_so session.told in
    let same = stands_same (shape_of one.study) one.left ended.0 (one.before ++ left.front) ended.1 left.stands in
    subst (λ l. IsDecided study l told) same (subst (λ s. IsDecided s ended.0 told) is ended.2)
left_decided study one told session is left (inr decided) = more_decided study one.before left.front told decided

repeats : (study : Study) (one last : Record) (told : Told) → IsSession last → last.study ≡ study → IsDecided study last.before told → Repeats one last told
repeats study one last told session is decided =
    let here : IsDecided last.study last.before told = subst (λ s. IsDecided s last.before told) (sym is) decided in
    let left = session.leaves in
    record {
      decided = here;
      nothing = session.decided told here;
      same = λ other said_so. decided_once study (last.before ++ left.front) other told (left_decided study last other session is left (inl said_so)) (more_decided study last.before left.front told decided);
    }

results_from : (study : Study) (start : List ℕ) (one : Record) (between : List Record) (last : Record) (more : List Record) (told : Told) →
    Follow study start (one ∷ (between ++ last ∷ more)) → (one.told ≡ Some told) ⊎ IsDecided study one.before told → IsDecided study last.before told × IsSession last × (last.study ≡ study)
results_from study start one [] last more told follow so =
    let next = follow.3 in
    let is = found study one last follow.0.leaves follow.1 next.1 next.2 next.0.starts in
    (subst (λ l. IsDecided study l told) (sym is) (left_decided study one told follow.0 follow.1 follow.0.leaves so), next.0, next.1)
results_from study start one (r ∷ between) last more told follow so =
    let next = follow.3 in
    let is = found study one r follow.0.leaves follow.1 next.1 next.2 next.0.starts in
    results_from study one.left r between last more told next (inr (subst (λ l. IsDecided study l told) (sym is) (left_decided study one told follow.0 follow.1 follow.0.leaves so)))

pub chains_keep_results : ChainsKeepResults
chains_keep_results study earlier one between last more told chain so =
    let part = suffix study [] earlier one (between ++ last ∷ more) chain in
    let end = results_from study part.0 one between last more told part.1 so in
    repeats study one last told end.1 end.2 end.0
