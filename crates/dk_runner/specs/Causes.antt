-- Why words and a source give no study.
use Rattle.std.specs.Prelude.{ℕ, List, Option, Result, Ok, Err, IfSome}
use Rattle.dk_outside.specs.Causes.{Rose}
use Rattle.dk_types.specs.declared.study.Study.{Study}
use Rattle.dk_words.specs.Words.{IsFor, Misused}
use Rattle.dk_runner.specs.Accepted.{Accepts, Refused}
use Rattle.dk_words.specs.declared.purpose.Purpose.{Purpose}
use Rattle.dk_runner.specs.declared.status.Status.{Status}
use Rattle.dk_runner.specs.declared.status.Status.TheVariants.{Usage, StudyRefused, SourceFault, NoMemory}

-- the study that a text gives, or why it gives none
abbrev pub IsVerdict : List ℕ → Result Study Status → Type 0
IsVerdict text (Ok study) = Accepts text study
IsVerdict text (Err (StudyRefused fault)) = Refused text fault
IsVerdict text (Err NoMemory) = Unit {0}
IsVerdict text (Err _) = ⊥

-- why no study is accepted
abbrev pub IsCause : Purpose → (words : List (List ℕ)) (left : Option (List ℕ)) (before now : ℕ) → Status → Type 0
IsCause purpose words left before now (Usage at) = Misused purpose words at
IsCause purpose words left before now (StudyRefused fault) = IsFor purpose words × IfSome left (λ text. Refused text fault)
IsCause purpose words left before now SourceFault = IsFor purpose words × Rose before now
IsCause purpose words left before now NoMemory = IsFor purpose words
IsCause purpose words left before now _ = ⊥

-- the words are for this purpose and the text is a study's, or the cause why not
abbrev pub IsReason : Purpose → (words : List (List ℕ)) (left : Option (List ℕ)) (before now : ℕ) → Result Study Status → Type 0
IsReason purpose words left before now (Ok study) = IsFor purpose words × IfSome left (λ text. Accepts text study)
IsReason purpose words left before now (Err status) = IsCause purpose words left before now status
