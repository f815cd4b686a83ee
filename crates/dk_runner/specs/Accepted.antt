-- Which study a text gives, or why none: a run and a check accept the same texts.
use Rattle.std.specs.Prelude.{ℕ, ◌<◌, ◌≤◌, List, length}
use Rattle.dk_types.specs.declared.study.Study.{Study}
use Rattle.dk_reader.specs.Reading.{Reads, HasFault}
use Rattle.dk_reader.specs.declared.fault.StudyFault.{StudyFault}
use Rattle.dk_reader.specs.declared.fault.StudyKind.{StudyKind}
use Rattle.dk_reader.specs.declared.fault.StudyKind.TheVariants.{TooLong}

-- the text has at most 1,048,576 bytes and says this study
pub record Accepts (text : List ℕ) (study : Study) : Type 0 where
  pub short : length text ≤ 1048576
  pub reads : Reads text study

-- a fault with an empty span, at the text's beginning
abbrev pub at_beginning : StudyKind → StudyFault
at_beginning kind = record { kind = kind; span = record { from = 0; to = 0 } }

-- why a text gives no study: it has too many bytes; or it has no more than it may, and this is its first fault
pub data Refused (text : List ℕ) : StudyFault → Type 0 where
  too_long : 1048576 < length text → Refused text (at_beginning TooLong)
  faulty : (fault : StudyFault) → length text ≤ 1048576 → HasFault text fault → Refused text fault
