-- How a check of a study ends, status by status. The clauses of `check` follow from it.
use Rattle.std.specs.Prelude.{◌≡◌, ◌⊎◌, ℕ, List, ◌++◌, length, codes, decimal, Option, IfSome}
use Rattle.dk_outside.specs.Causes.{Rose}
use Rattle.dk_outside.specs.Sinks.{Held, Grows, GrowsByFront}
use Rattle.dk_types.specs.declared.study.Study.{Study}
use Rattle.dk_words.specs.Words.{IsFor}
use Rattle.dk_runner.specs.Accepted.{Accepts}
use Rattle.dk_runner.specs.Causes.{IsCause}
use Rattle.dk_runner.specs.Lines.{line}
use Rattle.dk_runner.specs.Headline.{Says}
use Rattle.dk_words.specs.declared.purpose.Purpose.TheVariants.{Check}
use Rattle.dk_runner.specs.declared.status.Status.{Status}
use Rattle.dk_runner.specs.declared.status.Status.TheVariants.{Finished, SinkFault, NoMemory}
use Rattle.dk_runner.specs.declared.status.Which.TheVariants.{Out}

-- the line that tells an accepted study
abbrev pub accepted_line : Study → List ℕ
accepted_line study =
    codes "study accepted: variables " ++ (decimal (length study.variables.labels) ++ (codes ", responses " ++ (decimal (length study.responses.labels) ++ (codes ", evaluations at most " ++ (decimal study.limit ++ codes "\n")))))

-- the text is a study's, and the sink has taken its line
pub record TellsAccepted (text : List ℕ) (old new : Option Held) : Type 0 where
  pub study : Study
  pub accepts : Accepts text study
  pub grew : Grows old new (accepted_line study)

-- the text is a study's, and the sink has taken a front of its line
pub record BreaksAccepted (text : List ℕ) (old new : Option Held) : Type 0 where
  pub study : Study
  pub accepts : Accepts text study
  pub grew : GrowsByFront old new (accepted_line study)

-- where the text is a study's the status says so, unless memory ran out
abbrev pub EndsAccepted : List ℕ → Status → Type 0
EndsAccepted text status = (study : Study) → Accepts text study → (status ≡ Finished) ⊎ (status ≡ NoMemory)

-- how the line of an accepted study was written
abbrev pub TellsStudy : Study → (old new : Option Held) (before now : ℕ) → Status → Type 0
TellsStudy study old new before now Finished = Grows old new (accepted_line study)
TellsStudy study old new before now (SinkFault Out) = Rose before now × GrowsByFront old new (accepted_line study)
TellsStudy study old new before now _ = ⊥

-- the words, and what the source and the sink hold and count before and after
pub record Stage : Type 0 where
  pub words : List (List ℕ)
  pub left : Option (List ℕ)
  pub source_before : ℕ
  pub source_now : ℕ
  pub out_old : Option Held
  pub out_new : Option Held
  pub out_before : ℕ
  pub out_now : ℕ

abbrev pub stage : List (List ℕ) → Option (List ℕ) → ℕ → ℕ → Option Held → Option Held → ℕ → ℕ → Stage
stage words left source_before source_now out_old out_new out_before out_now = record {
  words = words;
  left = left;
  source_before = source_before;
  source_now = source_now;
  out_old = out_old;
  out_new = out_new;
  out_before = out_before;
  out_now = out_now;
}

abbrev pub ChecksSo : Stage → Status → Type 0
ChecksSo s Finished = IsFor Check s.words × IfSome s.left (λ text. TellsAccepted text s.out_old s.out_new)
ChecksSo s (SinkFault Out) = IsFor Check s.words × Rose s.out_before s.out_now × IfSome s.left (λ text. BreaksAccepted text s.out_old s.out_new)
ChecksSo s status = IsCause Check s.words s.left s.source_before s.source_now status × Says s.out_old s.out_new s.out_before s.out_now (line status)
