-- What a run was given beside its texts, and what it left of it: the restart file, and the benches, of which it uses the first.
use Rattle.std.specs.Prelude.{ℕ, List, [], ◌∷◌, Option, None}
use Rattle.dk_outside.specs.declared.course.Course.{Course}
use Rattle.dk_outside.specs.declared.disk.Mode.{Mode}
use Rattle.dk_outside.specs.Benches.{Contents}
use Rattle.dk_book.specs.Books.{BookState}

-- How the restart file is opened; what its disk tells and how often it failed, at the start and at the end; the book that is
-- handed back, where the file was opened; and what the first bench tells and how often it failed.
pub record Outside : Type 0 where
  pub mode : Mode
  pub old : Option Course
  pub new : Option Course
  pub before : ℕ
  pub now : ℕ
  pub book : Option BookState
  pub bench_old : Option Contents
  pub bench_new : Option Contents
  pub bench_before : ℕ
  pub bench_now : ℕ

-- what the first of some benches tells, and how often it failed
abbrev pub first_held : {B : Type 0} → (held : B → Option Contents) → List B → Option Contents
first_held held [] = None
first_held held (bench ∷ more) = held bench

abbrev pub first_faults : {B : Type 0} → (faults : B → ℕ) → List B → ℕ
first_faults faults [] = 0
first_faults faults (bench ∷ more) = faults bench

abbrev pub outside : Mode → (old new : Option Course) → (before now : ℕ) → Option BookState → (bench_old bench_new : Option Contents) → (bench_before bench_now : ℕ) → Outside
outside mode old new before now book bench_old bench_new bench_before bench_now = record {
  mode = mode;
  old = old;
  new = new;
  before = before;
  now = now;
  book = book;
  bench_old = bench_old;
  bench_new = bench_new;
  bench_before = bench_before;
  bench_now = bench_now;
}

-- what a call makes of its disk and its benches, with the book that it hands back
abbrev pub outside_of : {K B : Type 0} → (told : K → Option Course) → (disk_faults : K → ℕ) → (held : B → Option Contents) → (bench_faults : B → ℕ) → Mode → (old new : K) → Option BookState → (benches_old benches_new : List B) → Outside
outside_of told disk_faults held bench_faults mode old new book benches_old benches_new =
    outside mode (told old) (told new) (disk_faults old) (disk_faults new) book (first_held held benches_old) (first_held held benches_new) (first_faults bench_faults benches_old) (first_faults bench_faults benches_new)

-- all names of a parameters file and a results file go together on a bench
abbrev pub AllGoTogether : (together : List ℕ → List ℕ → Type 0) → Type 0
AllGoTogether together = (parameters results : List ℕ) → together parameters results

-- each bench of a list can have become that of the other one by calls
abbrev pub AreAfter : {B : Type 0} → (after : B → B → Type 0) → (old new : List B) → Type 0
AreAfter after [] [] = Unit {0}
AreAfter after (old ∷ olds) (new ∷ news) = after old new × AreAfter after olds news
AreAfter after _ _ = ⊥
