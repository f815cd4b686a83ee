-- A bench, one call after another.
use Rattle.std.proofs.Common.{◌≡◌, ◌≢◌, ◌⊎◌, inl, inr, ℕ, Bool, true, false, List, [], ◌∷◌, ◌++◌, Option, Some, None, refl, sym, ap, ◌∙◌, subst}
use Rattle.std.specs.Prelude.{Result, Ok, Err, IfSome, IsSome}
use Rattle.dk_outside.specs.declared.Failed.{Failed}
use Rattle.dk_outside.specs.declared.bench.Fetched.{Fetched}
use Rattle.dk_outside.specs.Benches.{Contents, Leaves, Sets, Starts, IsLeft, IsFetched, Stays}
use Rattle.dk_outside.specs.declared.run.Run.{Run}
use Rattle.dk_fork.specs.declared.serve.BenchStep.TheVariants.{ClearBefore, Lay, Run as AtRun, Fetch, ClearAfter}
use Rattle.dk_fork.specs.Serving.{Stands, KeepsOthers, one_more, IsServed, IsBroken, AreCleared, ClearsBoth}

-- a call on a bench that stands so
pub then : (first middle last : Option Contents) (P : Contents → Contents → Type 0) (C : Contents → Option Contents → Type 0) (Q : Contents → Contents → Type 0) →
    ((old now : Contents) → P old now → C now last → Stands last (Q old)) → IfSome first (λ old. Stands middle (P old)) → IfSome middle (λ now. C now last) → IfSome first (λ old. Stands last (Q old))
then None middle last P C Q step was call = tt
then (Some old) middle last P C Q step was call = step old was.now was.is (subst (λ (h : Option Contents). IfSome h (λ now. C now last)) was.told call)

-- the same for a call whose outcome comes in more than one form
pub begins : (first last : Option Contents) (C : Contents → Option Contents → Type 0) (Q : Contents → Contents → Type 0) → ((old : Contents) → C old last → Stands last (Q old)) → IfSome first (λ old. C old last) → IfSome first (λ old. Stands last (Q old))
begins None last C Q step call = tt
begins (Some old) last C Q step call = step old call

-- what a bench that stands so has, where it tells
pub reached : (first middle : Option Contents) (P : Contents → Contents → Type 0) (R : Contents → Type 0) → (first ≡ None → middle ≡ None) → ((old now : Contents) → P old now → R now) →
    IfSome first (λ old. Stands middle (P old)) → IfSome middle R
reached None middle P R silent step was = subst (λ (h : Option Contents). IfSome h R) (sym (silent refl)) tt
reached (Some old) middle P R silent step was = subst (λ (h : Option Contents). IfSome h R) (sym was.told) (step old was.now was.is)

-- The results file is cleared
pub record IsCleared (run : Run) (old now : Contents) : Type 0 where
  pub runs : now.runs ≡ old.runs
  pub gone : now.file run.results ≡ None
  pub others : (other : List ℕ) → other ≢ run.results → now.file other ≡ old.file other

-- and the parameters file laid
pub record IsLaid (run : Run) (old now : Contents) : Type 0 where
  pub runs : now.runs ≡ old.runs
  pub laid : now.file run.parameters ≡ Some run.bytes
  pub gone : now.file run.results ≡ None
  pub others : KeepsOthers run old now

-- and the child ran
pub record HasRun (leaves : Leaves) (run : Run) (old now : Contents) : Type 0 where
  pub runs : now.runs ≡ one_more old run
  pub laid : now.file run.parameters ≡ Some run.bytes
  pub may : leaves run.bytes run.attempt (now.file run.results)
  pub others : KeepsOthers run old now

-- and what it left was fetched
pub record HasFetched (leaves : Leaves) (run : Run) (fetched : Fetched) (buffer : List ℕ) (old now : Contents) : Type 0 where
  pub ran : HasRun leaves run old now
  pub fetched_is : IsFetched (now.file run.results) fetched buffer

abbrev pub Clears : Run → Result (Unit {0}) Failed → Contents → Option Contents → Type 0
Clears run result now last = Sets now last run.results None result

abbrev pub Lays : Run → Result (Unit {0}) Failed → Contents → Option Contents → Type 0
Lays run result now last = Sets now last run.parameters (Some run.bytes) result

abbrev pub StartsOn : Leaves → Run → Result (Unit {0}) Failed → Contents → Option Contents → Type 0
StartsOn leaves run result now last = (bytes : List ℕ) → now.file run.parameters ≡ Some bytes → Starts leaves now last (record run { bytes = bytes }) result

pub cleared : (run : Run) (done : Unit {0}) (last : Option Contents) (old : Contents) → Clears run (Ok done) old last → Stands last (IsCleared run old)
cleared run done last old s = record { now = s.now; told = s.told; is = record { runs = s.runs; gone = s.file; others = s.others } }

pub not_cleared : (save : Bool) (run : Run) (failed : Failed) (last : Option Contents) (old : Contents) → Clears run (Err failed) old last → Stands last (IsBroken ClearBefore save run old)
not_cleared save run failed last old s = record { now = s.now; told = s.told; is = (s.runs, s.others) }

pub laid : (run : Run) (done : Unit {0}) (last : Option Contents) → run.parameters ≢ run.results → (old now : Contents) → IsCleared run old now → Lays run (Ok done) now last → Stands last (IsLaid run old)
laid run done last apart old now was s = record {
  now = s.now;
  told = s.told;
  is = record {
    runs = s.runs ∙ was.runs;
    laid = s.file;
    gone = s.others run.results (λ e. apart (sym e)) ∙ was.gone;
    others = λ other a b. s.others other a ∙ was.others other b;
  };
}

pub not_laid : (save : Bool) (run : Run) (failed : Failed) (last : Option Contents) → run.parameters ≢ run.results → (old now : Contents) → IsCleared run old now → Lays run (Err failed) now last → Stands last (IsBroken Lay save run old)
not_laid save run failed last apart old now was s = record {
  now = s.now;
  told = s.told;
  is = (s.runs ∙ was.runs, s.others run.results (λ e. apart (sym e)) ∙ was.gone, λ other a b. s.others other a ∙ was.others other b);
}

left_there : (leaves : Leaves) (run : Run) (before after : Option (List ℕ)) → before ≡ None → IsLeft leaves run before after → leaves run.bytes run.attempt after
left_there leaves run before after gone (inl may) = may
left_there leaves run before after gone (inr stays) = absurd (let h = subst IsSome gone stays.0 in cc)

pub ran : (leaves : Leaves) (run : Run) (done : Unit {0}) (last : Option Contents) → run.parameters ≢ run.results → (old now : Contents) → IsLaid run old now → StartsOn leaves run (Ok done) now last → Stands last (HasRun leaves run old)
ran leaves run done last apart old now was starts =
    let s = starts run.bytes was.laid in
    record {
      now = s.now;
      told = s.told;
      is = record {
        runs = s.runs ∙ ap (λ (l : List Run). l ++ run ∷ []) was.runs;
        laid = s.others run.parameters apart ∙ was.laid;
        may = left_there leaves run (now.file run.results) (s.now.file run.results) was.gone s.left;
        others = λ other a b. s.others other b ∙ was.others other a b;
      };
    }

grown : (run : Run) (old now new : List Run) → now ≡ old → (new ≡ now) ⊎ (new ≡ now ++ run ∷ []) → (new ≡ old) ⊎ (new ≡ old ++ run ∷ [])
grown run old now new e (inl h) = inl (h ∙ e)
grown run old now new e (inr h) = inr (h ∙ ap (λ (l : List Run). l ++ run ∷ []) e)

pub not_run : (leaves : Leaves) (save : Bool) (run : Run) (failed : Failed) (last : Option Contents) → run.parameters ≢ run.results → (old now : Contents) → IsLaid run old now → StartsOn leaves run (Err failed) now last →
    Stands last (IsBroken AtRun save run old)
not_run leaves save run failed last apart old now was starts =
    let s = starts run.bytes was.laid in
    record { now = s.now; told = s.told; is = (grown run old.runs now.runs s.now.runs was.runs s.runs, s.others run.parameters apart ∙ was.laid, λ other a b. s.others other b ∙ was.others other a b) }

-- a fetch changes nothing, and tells the file
pub record Fetches (run : Run) (fetched : Fetched) (buffer : List ℕ) (now : Contents) (last : Option Contents) : Type 0 where
  pub keeps : last ≡ Some now
  pub file : IsFetched (now.file run.results) fetched buffer

pub fetched_so : (run : Run) (fetched : Fetched) (buffer : List ℕ) (held last : Option Contents) → Stays held last → IfSome held (λ now. IsFetched (now.file run.results) fetched buffer) → IfSome held (λ now. Fetches run fetched buffer now last)
fetched_so run fetched buffer None last keeps file = tt
fetched_so run fetched buffer (Some now) last keeps file = record { keeps = keeps; file = file }

pub has_fetched : (leaves : Leaves) (run : Run) (fetched : Fetched) (buffer : List ℕ) (last : Option Contents) (old now : Contents) → HasRun leaves run old now → Fetches run fetched buffer now last → Stands last (HasFetched leaves run fetched buffer old)
has_fetched leaves run fetched buffer last old now was f = record { now = now; told = f.keeps; is = record { ran = was; fetched_is = f.file } }

pub not_fetched : (leaves : Leaves) (save : Bool) (run : Run) (last : Option Contents) (old now : Contents) → HasRun leaves run old now → last ≡ Some now → Stands last (IsBroken Fetch save run old)
not_fetched leaves save run last old now was keeps = record { now = now; told = keeps; is = (was.runs, was.laid, was.others) }

pub saved : (leaves : Leaves) (run : Run) (fetched : Fetched) (buffer : List ℕ) (old now : Contents) → HasFetched leaves run fetched buffer old now → IsServed leaves true run fetched buffer old now
saved leaves run fetched buffer old now was = record {
  runs = was.ran.runs;
  left = now.file run.results;
  may = was.ran.may;
  fetched_is = was.fetched_is;
  files = (was.ran.laid, refl);
  others = was.ran.others;
}

pub tidied : (leaves : Leaves) (run : Run) (fetched : Fetched) (buffer : List ℕ) (done : Unit {0}) (last : Option Contents) (old now : Contents) → HasFetched leaves run fetched buffer old now →
    ClearsBoth {E = Failed} run.parameters run.results (Ok done) now last → Stands last (IsServed leaves false run fetched buffer old)
tidied leaves run fetched buffer done last old now was s = record {
  now = s.now;
  told = s.told;
  is = record {
    runs = s.is.runs ∙ was.ran.runs;
    left = now.file run.results;
    may = was.ran.may;
    fetched_is = was.fetched_is;
    files = s.is.gone;
    others = λ other a b. s.is.others other a b ∙ was.ran.others other a b;
  };
}

pub not_tidied : (leaves : Leaves) (run : Run) (fetched : Fetched) (buffer : List ℕ) (failed : Failed) (last : Option Contents) (old now : Contents) → HasFetched leaves run fetched buffer old now →
    ClearsBoth {E = Failed} run.parameters run.results (Err failed) now last → Stands last (IsBroken ClearAfter false run old)
not_tidied leaves run fetched buffer failed last old now was s =
    record { now = s.now; told = s.told; is = (s.is.runs ∙ was.ran.runs, refl, λ other a b. s.is.others other a b ∙ was.ran.others other a b) }

-- Both files, one after the other
pub clears_first : (parameters results : List ℕ) (failed : Failed) (last : Option Contents) (old : Contents) → Sets {E = Failed} old last results None (Err failed) → Stands last (AreCleared {E = Failed} parameters results (Err failed) old)
clears_first parameters results failed last old s = record { now = s.now; told = s.told; is = record { runs = s.runs; others = λ other a b. s.others other b; gone = tt } }

-- the first is gone
pub record FirstIsGone (results : List ℕ) (old now : Contents) : Type 0 where
  pub runs : now.runs ≡ old.runs
  pub others : (other : List ℕ) → other ≢ results → now.file other ≡ old.file other
  pub gone : now.file results ≡ None

pub first_gone : (results : List ℕ) (done : Unit {0}) (last : Option Contents) (old : Contents) → Sets {E = Failed} old last results None (Ok done) → Stands last (FirstIsGone results old)
first_gone results done last old s = record { now = s.now; told = s.told; is = record { runs = s.runs; others = s.others; gone = s.file } }

pub clears_second : (parameters results : List ℕ) (result : Result (Unit {0}) Failed) (last : Option Contents) → parameters ≢ results → (old now : Contents) → FirstIsGone results old now → Sets now last parameters None result →
    Stands last (AreCleared parameters results result old)
clears_second parameters results (Ok done) last apart old now was s = record {
  now = s.now;
  told = s.told;
  is = record {
    runs = s.runs ∙ was.runs;
    others = λ other a b. s.others other a ∙ was.others other b;
    gone = (s.file, s.others results (λ e. apart (sym e)) ∙ was.gone);
  };
}
clears_second parameters results (Err failed) last apart old now was s =
    record { now = s.now; told = s.told; is = record { runs = s.runs ∙ was.runs; others = λ other a b. s.others other a ∙ was.others other b; gone = tt } }

-- Where a bench stands after each of the calls, whatever it told at first

pub laid_state : (run : Run) (first second third : Option Contents) (a b : Unit {0}) → run.parameters ≢ run.results → IfSome first (λ old. Clears run (Ok a) old second) → IfSome second (λ now. Lays run (Ok b) now third) →
    IfSome first (λ old. Stands third (IsLaid run old))
laid_state run first second third a b apart clears lays =
    then first second third (IsCleared run) (Lays run (Ok b)) (IsLaid run) (laid run b third apart) (begins first second (Clears run (Ok a)) (IsCleared run) (cleared run a second) clears) lays

pub ran_state : (leaves : Leaves) (run : Run) (first third fourth : Option Contents) (c : Unit {0}) → run.parameters ≢ run.results → IfSome first (λ old. Stands third (IsLaid run old)) →
    IfSome third (λ now. StartsOn leaves run (Ok c) now fourth) → IfSome first (λ old. Stands fourth (HasRun leaves run old))
ran_state leaves run first third fourth c apart was starts = then first third fourth (IsLaid run) (StartsOn leaves run (Ok c)) (HasRun leaves run) (ran leaves run c fourth apart) was starts

pub not_run_state : (leaves : Leaves) (save : Bool) (run : Run) (first third fourth : Option Contents) (failed : Failed) → run.parameters ≢ run.results → IfSome first (λ old. Stands third (IsLaid run old)) →
    IfSome third (λ now. StartsOn leaves run (Err failed) now fourth) → IfSome first (λ old. Stands fourth (IsBroken AtRun save run old))
not_run_state leaves save run first third fourth failed apart was starts =
    then first third fourth (IsLaid run) (StartsOn leaves run (Err failed)) (IsBroken AtRun save run) (not_run leaves save run failed fourth apart) was starts

pub fetched_state : (leaves : Leaves) (run : Run) (fetched : Fetched) (buffer : List ℕ) (first fourth fifth : Option Contents) → IfSome first (λ old. Stands fourth (HasRun leaves run old)) →
    Stays fourth fifth → IfSome fourth (λ now. IsFetched (now.file run.results) fetched buffer) → IfSome first (λ old. Stands fifth (HasFetched leaves run fetched buffer old))
fetched_state leaves run fetched buffer first fourth fifth was keeps file =
    then first fourth fifth (HasRun leaves run) (Fetches run fetched buffer) (HasFetched leaves run fetched buffer) (has_fetched leaves run fetched buffer fifth) was (fetched_so run fetched buffer fourth fifth keeps file)

pub not_fetched_state : (leaves : Leaves) (save : Bool) (run : Run) (first fourth fifth : Option Contents) → IfSome first (λ old. Stands fourth (HasRun leaves run old)) → Stays fourth fifth →
    IfSome first (λ old. Stands fifth (IsBroken Fetch save run old))
not_fetched_state leaves save run first fourth fifth was keeps =
    then first fourth fifth (HasRun leaves run) (λ now last. last ≡ Some now) (IsBroken Fetch save run) (not_fetched leaves save run fifth) was keeps

pub saved_state : (leaves : Leaves) (save : Bool) (run : Run) (fetched : Fetched) (buffer : List ℕ) (first fifth : Option Contents) → save ≡ true → IfSome first (λ old. Stands fifth (HasFetched leaves run fetched buffer old)) →
    IfSome first (λ old. Stands fifth (IsServed leaves save run fetched buffer old))
saved_state leaves save run fetched buffer None fifth on was = tt
saved_state leaves save run fetched buffer (Some old) fifth on was =
    record { now = was.now; told = was.told; is = subst (λ (b : Bool). IsServed leaves b run fetched buffer old was.now) (sym on) (saved leaves run fetched buffer old was.now was.is) }

pub tidied_state : (leaves : Leaves) (save : Bool) (run : Run) (fetched : Fetched) (buffer : List ℕ) (done : Unit {0}) (first fifth last : Option Contents) → save ≡ false → IfSome first (λ old. Stands fifth (HasFetched leaves run fetched buffer old)) →
    IfSome fifth (λ now. ClearsBoth {E = Failed} run.parameters run.results (Ok done) now last) → IfSome first (λ old. Stands last (IsServed leaves save run fetched buffer old))
tidied_state leaves save run fetched buffer done first fifth last off was clears =
    subst (λ (b : Bool). IfSome first (λ old. Stands last (IsServed leaves b run fetched buffer old))) (sym off)
    (then first fifth last (HasFetched leaves run fetched buffer) (ClearsBoth {E = Failed} run.parameters run.results (Ok done)) (IsServed leaves false run fetched buffer) (tidied leaves run fetched buffer done last) was clears)

pub not_tidied_state : (leaves : Leaves) (save : Bool) (run : Run) (fetched : Fetched) (buffer : List ℕ) (failed : Failed) (first fifth last : Option Contents) → save ≡ false → IfSome first (λ old. Stands fifth (HasFetched leaves run fetched buffer old)) →
    IfSome fifth (λ now. ClearsBoth {E = Failed} run.parameters run.results (Err failed) now last) → IfSome first (λ old. Stands last (IsBroken ClearAfter save run old))
not_tidied_state leaves save run fetched buffer failed first fifth last off was clears =
    subst (λ (b : Bool). IfSome first (λ old. Stands last (IsBroken ClearAfter b run old))) (sym off)
    (then first fifth last (HasFetched leaves run fetched buffer) (ClearsBoth {E = Failed} run.parameters run.results (Err failed)) (IsBroken ClearAfter false run) (not_tidied leaves run fetched buffer failed last) was clears)
