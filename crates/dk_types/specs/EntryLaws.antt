-- What entries say, whatever is added to them, and what of it cards say.
use Rattle.std.specs.Prelude.{◌≡◌, ℕ, Bool, true, false, List, [], ◌∷◌, ◌++◌, length, Some, IfSome}
use Rattle.std.specs.List.{All}
use Rattle.dk_num.specs.Decimal.{Decimal}
use Rattle.dk_types.specs.declared.study.Study.{Study}
use Rattle.dk_types.specs.declared.study.FailRule.{FailRule}
use Rattle.dk_types.specs.declared.study.Ending.{Ending}
use Rattle.dk_types.specs.declared.entry.Entry.{Entry}
use Rattle.dk_types.specs.declared.entry.Said.{Said}
use Rattle.dk_types.specs.declared.rows.Row.{Row}
use Rattle.dk_types.specs.Best.{same_point}
use Rattle.dk_types.specs.Entries.{AreEntries, next_attempt, said}
use Rattle.dk_types.specs.Answers.{Answer, Value, Dead, Next, answer}
use Rattle.dk_types.specs.Cards.{Card, card_said, card_of, AreDistinct, SumUp}
use Rattle.dk_types.specs.Solo.{Child, Verdict, Ended, Seq, Solo}

-- no further attempt is to be made
abbrev pub is_answered : Answer → Bool
is_answered (Value values) = true
is_answered (Dead attempts) = true
is_answered (Next attempt) = false

-- an entry of one point changes no other point's answer
abbrev pub OthersKeepTheirAnswer : Type 0
OthersKeepTheirAnswer = (rule : FailRule) (entries : List Entry) (e : Entry) (p : List Decimal) → same_point e.point p ≡ false →
    answer rule (entries ++ e ∷ []) p ≡ answer rule entries p

-- under each rule an answered point stays answered, and so, whatever is added
abbrev pub AnsweredStays : Type 0
AnsweredStays = (rule : FailRule) (entries more : List Entry) (p : List Decimal) → is_answered (answer rule entries p) ≡ true →
    answer rule (entries ++ more) p ≡ answer rule entries p

-- what is to be made next of a point under any rule is its next attempt
abbrev pub NextIsTheNextAttempt : Type 0
NextIsTheNextAttempt = (variables responses : ℕ) (rule : FailRule) (entries : List Entry) (p : List Decimal) (attempt : ℕ) →
    AreEntries variables responses entries → answer rule entries p ≡ Next attempt → next_attempt entries p ≡ Some attempt

-- cards that sum up entries say of each attempt what these say
abbrev pub CardsSayTheSame : Type 0
CardsSayTheSame = (variables responses : ℕ) (cards : List Card) (entries : List Entry) (p : List Decimal) (attempt : ℕ) →
    AreEntries variables responses entries → SumUp cards entries → said entries p attempt ≡ card_said (card_of cards p) attempt

-- a card of a book of these widths
pub record IsCard (variables responses : ℕ) (card : Card) : Type 0 where
  pub point : length card.point ≡ variables
  pub values : IfSome card.values (λ values. length values ≡ responses)

-- entries that cards sum up
pub record AreOf (variables responses : ℕ) (cards : List Card) : Type 0 where
  pub entries : List Entry
  pub well_formed : AreEntries variables responses entries
  pub sum_up : SumUp cards entries

-- cards of distinct points sum up a well-formed list of entries
abbrev pub EachCardsHaveEntries : Type 0
EachCardsHaveEntries = (variables responses : ℕ) (cards : List Card) → AreDistinct cards → All (IsCard variables responses) cards → AreOf variables responses cards

-- what a study comes to is kept whatever is added, once it is decided
abbrev pub DecidedStays : Type 0
DecidedStays = (study : Study) (entries more : List Entry) (rows : List Row) (ending : Ending) →
    Seq study entries rows (Ended ending) → Seq study (entries ++ more) rows (Ended ending)

-- and in any case its rows are kept
abbrev pub RowsStay : Type 0
RowsStay = (study : Study) (entries more : List Entry) (rows others : List Row) (verdict other : Verdict) →
    Seq study entries rows verdict → Seq study (entries ++ more) others other → (behind : List Row) × (others ≡ rows ++ behind)

-- no attempt gave one thing here and another there
abbrev pub Agree : (entries others : List Entry) → Type 0
Agree entries others = (p : List Decimal) (attempt : ℕ) (one other : Said) → said entries p attempt ≡ Some one → said others p attempt ≡ Some other → one ≡ other

-- entries that agree decide a study alike
abbrev pub DecidedAlike : Type 0
DecidedAlike = (study : Study) (entries others : List Entry) (rows other_rows : List Row) (ending other : Ending) → Agree entries others →
    Seq study entries rows (Ended ending) → Seq study others other_rows (Ended other) → (other_rows ≡ rows) × (other ≡ ending)

-- each attempt gave what the child gives
abbrev pub AreAnswersOf : Child → List Entry → Type 0
AreAnswersOf child entries = (p : List Decimal) (attempt : ℕ) (one : Said) → said entries p attempt ≡ Some one → one ≡ child p attempt

-- entries that are a child's answers decide a study as the child does
abbrev pub DecidedAsAlone : Type 0
DecidedAsAlone = (study : Study) (child : Child) (entries : List Entry) (rows : List Row) (ending : Ending) → AreAnswersOf child entries →
    Seq study entries rows (Ended ending) → Solo study child [] rows ending
