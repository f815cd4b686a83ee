-- What follows where each attempt was appended as the study waited for it.
use Rattle.std.specs.Prelude.{◌≡◌, List, [], ◌∷◌, ◌++◌, None}
use Rattle.std.specs.List.{All}
use Rattle.dk_types.specs.declared.study.Study.{Study}
use Rattle.dk_types.specs.declared.study.Ending.{Ending}
use Rattle.dk_types.specs.declared.entry.Entry.{Entry}
use Rattle.dk_types.specs.declared.rows.Row.{Row}
use Rattle.dk_types.specs.Entries.{said}
use Rattle.dk_types.specs.EntryLaws.{AreAnswersOf}
use Rattle.dk_types.specs.Solo.{Child, Ended, Seq, Solo}
use Rattle.dk_types.specs.Sound.{IsSound}
use Rattle.dk_evaluate.specs.Evaluated.{IsAnswerOf, AreWaitedFor}

-- a study that is decided by what was known waits for nothing
abbrev pub DecidedStudiesWaitForNothing : Type 0
DecidedStudiesWaitForNothing = (study : Study) (before added : List Entry) (rows : List Row) (ending : Ending) → Seq study before rows (Ended ending) → AreWaitedFor study before added → added ≡ []

-- nothing was known of each of these attempts before it
abbrev pub AreNew : (before added : List Entry) → Type 0
AreNew before [] = Unit {0}
AreNew before (e ∷ added) = (said before e.point e.attempt ≡ None) × AreNew (before ++ e ∷ []) added

-- an attempt that is known is never waited for again
abbrev pub KnownAttemptsAreNotWaitedFor : Type 0
KnownAttemptsAreNotWaitedFor = (study : Study) (before added : List Entry) → AreWaitedFor study before added → AreNew before added

-- where all that was known are the child's answers, a study that is decided is so as over the child alone
abbrev pub ChildsAnswersDecideAsTheChild : Type 0
ChildsAnswersDecideAsTheChild = (study : Study) (child : Child) (before added : List Entry) (rows : List Row) (ending : Ending) → IsSound study → AreAnswersOf child before → All (IsAnswerOf child) added →
    AreWaitedFor study before added → Seq study (before ++ added) rows (Ended ending) → Solo study child [] rows ending
