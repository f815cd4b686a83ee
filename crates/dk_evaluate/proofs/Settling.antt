-- The attempts of one point, which a book and a journal keep.
use Rattle.std.proofs.Common.{◌≡◌, ℕ, zero, suc, ◌+◌, ◌-◌, ◌<◌, ◌≤◌, List, [], ◌∷◌, ◌++◌, length, Option, Some, None, refl, ap, sym, subst, ◌∙◌, arith, append_assoc, length-append}
use Rattle.std.specs.Prelude.{slice_get, option_map, IfSome, Err}
use Rattle.std.proofs.lemmas.List.{append-nil}
use Rattle.dk_num.specs.Decimal.{Decimal}
use Rattle.dk_types.specs.declared.study.Shape.{Shape}
use Rattle.dk_types.specs.declared.entry.Entry.{Entry}
use Rattle.dk_types.specs.declared.entry.Said.{Said}
use Rattle.dk_types.specs.declared.entry.Said.TheVariants.{Values, Failed}
use Rattle.dk_types.specs.declared.study.FailRule.{FailRule}
use Rattle.dk_types.specs.declared.study.FailRule.TheVariants.{Abort, Retry, Recover}
use Rattle.dk_types.specs.Entries.{values_of, next_attempt}
use Rattle.dk_types.specs.Answers.{Answer, Next, answer, answer_by, retries}
use Rattle.dk_types.specs.Cards.{Card, card_said}
use Rattle.dk_types.specs.Sound.{IsSoundRule}
use Rattle.dk_types.proofs.CardAnswers.{due_in_time, next_due}
use Rattle.dk_book.specs.Books.{BookState, IsBook, IsDue, tried, with_attempt, room_taken}
use Rattle.dk_book.specs.Told.{StandsFor, answer_at, answer_there}
use Rattle.dk_book.proofs.Tried.{attempt_at, tried_point}
use Rattle.dk_journal.specs.declared.fault.AppendFault.{AppendFault}
use Rattle.dk_journal.specs.declared.fault.AppendFault.TheVariants as append
use Rattle.dk_journal.specs.Journals.{JournalState, ComesNext}
use Rattle.dk_outside.specs.Causes.{Rose}
use Rattle.dk_outside.specs.Benches.{Contents, Leaves}
use Rattle.dk_params.specs.declared.task.Task.{Task}
use Rattle.dk_fork.specs.declared.serve.BenchStep.{BenchStep}
use Rattle.dk_evaluate.specs.Making.{Makes}
use Rattle.dk_evaluate.specs.Attempted.{IsKept, IsNotKept, IsNotMade, Attempted}
use Rattle.dk_evaluate.specs.declared.settle.Stop.{Stop}
use Rattle.dk_evaluate.specs.declared.settle.Stop.TheVariants as stop
use Rattle.dk_evaluate.specs.declared.settle.Settled.TheVariants as settled
use Rattle.dk_evaluate.proofs.Made.{makes_none, makes_then, breaks_then}
use Rattle.dk_evaluate.specs.Keeping.{Keeps, KeepSome, AreAlike, WaitsFor, entry_with}
use Rattle.dk_evaluate.specs.Evaluated.{AreAsked, HasAppended, HasBroken, HasFilled, HasStopped, ComesTo, StopsAt, BreaksAt, Settles, SettlesBook, points_of}
use Rattle.dk_evaluate.proofs.Reaching.{asked_more}
use Rattle.dk_evaluate.proofs.Appends.{none_appended, appended_then, next_appended, broken_then, filled_then, not_kept}

pub few_retries : (responses : ℕ) (rule : FailRule) → IsSoundRule responses rule → retries rule ≤ 1000
few_retries responses Abort s = omega arith
few_retries responses (Retry times) s = s.1
few_retries responses (Recover values) s = omega arith

points_tried : (cards : List Card) (i : ℕ) (x : Said) → points_of (with_attempt cards i x) ≡ points_of cards
points_tried [] i x = refl
points_tried (c ∷ cards) zero x = ap (λ p. p ∷ points_of cards) (tried_point x c)
points_tried (c ∷ cards) (suc i) x = ap (λ l. c.point ∷ l) (points_tried cards i x)

-- How many attempts a card has left under a rule

abbrev pub left_by : FailRule → (failures : ℕ) → Option (List Decimal) → ℕ
left_by rule failures None = retries rule + 1 - failures
left_by rule failures (Some v) = 0

abbrev pub left_of : FailRule → Option Card → ℕ
left_of rule None = 0
left_of rule (Some card) = left_by rule card.failures card.values

few_left : (rule : FailRule) (card : Card) → left_by rule card.failures card.values ≤ retries rule + 1
few_left rule card = by card.values
  where
    by : (values : Option (List Decimal)) → left_by rule card.failures values ≤ retries rule + 1
    by None = omega arith
    by (Some v) = omega arith

-- with one attempt more it has one fewer left
fewer_left : (rule : FailRule) (card : Card) (attempt : ℕ) (x : Said) → answer_by rule (card_said card) ≡ Next attempt → IsDue card attempt → left_of rule (Some (tried x card)) + 1 ≤ left_of rule (Some card)
fewer_left rule card attempt x asks due =
    let soon = due_in_time rule card attempt asks in
    let before : left_of rule (Some card) ≡ retries rule + 1 - card.failures = ap (left_by rule card.failures) due.none in
    by x before soon due.none
  where
    by : (x : Said) → left_of rule (Some card) ≡ retries rule + 1 - card.failures → card.failures ≤ retries rule → card.values ≡ None → left_of rule (Some (tried x card)) + 1 ≤ left_of rule (Some card)
    by (Values v) before soon none = omega (arith, before, soon)
    by Failed before soon none =
        let after : left_of rule (Some (tried Failed card)) ≡ retries rule + 1 - (card.failures + 1) = ap (left_by rule (card.failures + 1)) none in
        omega (arith, before, after, soon)

pub fewer_there : (rule : FailRule) (book after : BookState) (index attempt : ℕ) (card : Card) (x : Said) → slice_get book.cards index ≡ Some card → answer_by rule (card_said card) ≡ Next attempt → IsDue card attempt →
    after.cards ≡ with_attempt book.cards index x → left_of rule (slice_get after.cards index) < left_of rule (slice_get book.cards index)
fewer_there rule book after index attempt card x there asks due cards =
    let less = fewer_left rule card attempt x asks due in
    let before = ap (left_of rule) there in
    let behind = ap (λ l. left_of rule (slice_get l index)) cards ∙ ap (left_of rule) (attempt_at book.cards index x card there) in
    omega (arith, less, before, behind)

-- Attempt after attempt

-- the point's attempts that were made and appended behind these entries, so far
pub record HasTried (leaves : Leaves) (task : Task) (row : ℕ) (rule : FailRule) (p : List Decimal) (card : Card) (book : BookState) (old now : JournalState) (bench later : Option Contents) (entries : List Entry) : Type 0 where
  pub added : List Entry
  pub appended : HasAppended old now entries added
  pub made : Makes leaves task row added bench later
  pub stands : StandsFor book (entries ++ added)
  pub few : length added + left_of rule (Some card) ≤ retries rule + 1
  pub asked : AreAsked rule p entries added

pub record IsSettling (leaves : Leaves) (task : Task) (row : ℕ) (rule : FailRule) (p : List Decimal) (old_book book : BookState) (old now : JournalState) (bench later : Option Contents) (index : ℕ) : Type 0 where
  pub card : Card
  pub there : slice_get book.cards index ≡ Some card
  pub point_is : card.point ≡ p
  pub settles : SettlesBook old_book book
  pub room : card.values ≡ None → old_book.room ≤ book.room
  pub alike : AreAlike book now
  pub some : KeepSome old_book old
  pub each : (entries : List Entry) → Keeps old_book old entries → HasTried leaves task row rule p card book old now bench later entries

-- what the card's attempts come to
pub answer_here : (rule : FailRule) (book : BookState) (index : ℕ) (card : Card) (a : Answer) → slice_get book.cards index ≡ Some card → Some a ≡ answer_at rule book index → answer_by rule (card_said card) ≡ a
answer_here rule book index card a there is =
    let e : Some a ≡ Some (answer_by rule (card_said card)) = is ∙ ap (option_map (λ (c : Card). answer_by rule (card_said c))) there in
    (let s : a ≡ answer_by rule (card_said card) = cc in sym s)

-- what the point's entries come to
pub answer_of : (rule : FailRule) (book : BookState) (entries : List Entry) (index : ℕ) (card : Card) (p : List Decimal) (a : Answer) → slice_get book.cards index ≡ Some card → card.point ≡ p →
    Some a ≡ answer_there rule book entries index → answer rule entries p ≡ a
answer_of rule book entries index card p a there point is =
    let e : Some a ≡ Some (answer rule entries card.point) = is ∙ ap (option_map (λ (c : Card). answer rule entries c.point)) there in
    let s : a ≡ answer rule entries card.point = cc in
    ap (answer rule entries) (sym point) ∙ sym s

pub due_here : (book : BookState) (index attempt : ℕ) (card : Card) → slice_get book.cards index ≡ Some card → IfSome (slice_get book.cards index) (λ c. IsDue c attempt) → IsDue card attempt
due_here book index attempt card there due = subst (λ (o : Option Card). IfSome o (λ c. IsDue c attempt)) there due

-- what is told of entries for which the book stands
abbrev pub TellsOf : FailRule → BookState → (index : ℕ) → Answer → Type 0
TellsOf rule book index a = (entries : List Entry) → StandsFor book entries → Some a ≡ answer_there rule book entries index

module _ (leaves : Leaves) (task : Task) (row : ℕ) (rule : FailRule) (p : List Decimal) where
  pub settling_first : (book : BookState) (journal : JournalState) (bench : Option Contents) (index : ℕ) → IsBook book → KeepSome book journal → AreAlike book journal →
      option_map (λ (c : Card). c.point) (slice_get book.cards index) ≡ Some p → IsSettling leaves task row rule p book book journal journal bench bench index
  settling_first book journal bench index is some alike h = at (slice_get book.cards index) refl h
    where
      at : (o : Option Card) → slice_get book.cards index ≡ o → option_map (λ (c : Card). c.point) o ≡ Some p → IsSettling leaves task row rule p book book journal journal bench bench index
      at None e h = absurd (cc)
      at (Some c) e h = record {
        card = c;
        there = e;
        point_is = cc;
        settles = record { book = is; points = refl; spare = refl; room = omega arith; variables = refl; responses = refl };
        room = λ n. omega arith;
        alike = alike;
        some = some;
        each = λ entries keeps. record {
          added = [];
          appended = none_appended journal entries keeps.holds;
          made = makes_none leaves task row task.interface.driver bench;
          stands = subst (StandsFor book) (sym (append-nil entries)) keeps.stands;
          few = omega (arith, few_left rule c);
          asked = tt;
        };
      }

  module _ (old_book book : BookState) (old now : JournalState) (bench later : Option Contents) (index : ℕ) (was : IsSettling leaves task row rule p old_book book old now bench later index) where
    pub comes_to : (a : Answer) → TellsOf rule book index a → (entries : List Entry) → Keeps old_book old entries → ComesTo leaves task rule row p a book old now bench later entries
    comes_to a tells entries keeps =
        let h = was.each entries keeps in
        let few = h.few in
        record {
          added = h.added;
          few = omega arith;
          asked = h.asked;
          appended = h.appended;
          made = h.made;
          stands = h.stands;
          is = answer_of rule book (entries ++ h.added) index was.card p a was.there was.point_is (tells (entries ++ h.added) h.stands);
        }

    module _ (attempt : ℕ) (tells : TellsOf rule book index (Next attempt)) (width : length p ≡ old_book.variables) where
      -- what the next attempt waits behind
      asks_now : (entries : List Entry) (h : HasTried leaves task row rule p was.card book old now bench later entries) → answer rule (entries ++ h.added) p ≡ Next attempt
      asks_now entries h = answer_of rule book (entries ++ h.added) index was.card p (Next attempt) was.there was.point_is (tells (entries ++ h.added) h.stands)

      -- the next attempt, behind the entries and those that were tried
      waiting : (entries : List Entry) (h : HasTried leaves task row rule p was.card book old now bench later entries) → next_attempt (entries ++ h.added) p ≡ Some attempt
      waiting entries h = next_due book.variables book.responses rule (entries ++ h.added) p attempt h.stands.well_formed (asks_now entries h)

      pub waits_for : WaitsFor now p attempt
      waits_for =
          let h = was.each was.some.entries was.some.keeps in
          record {
            entries = was.some.entries ++ h.added;
            holds = h.appended.holds;
            width = width ∙ sym was.settles.variables ∙ was.alike.variables;
            next = waiting was.some.entries h;
          }

      comes_next : (said : Said) → IfSome (values_of said) (λ given. length given ≡ book.responses) → (entries : List Entry) (h : HasTried leaves task row rule p was.card book old now bench later entries) →
          ComesNext now.shape (entries ++ h.added) (entry_with p attempt said)
      comes_next said wide entries h = record {
        point = width ∙ sym was.settles.variables ∙ was.alike.variables;
        values = subst (λ (n : ℕ). IfSome (values_of said) (λ given. length given ≡ n)) was.alike.responses wide;
        next = waiting entries h;
      }

      -- the attempts that were tried, and the next one
      asked_now : (said : Said) (entries : List Entry) (h : HasTried leaves task row rule p was.card book old now bench later entries) → AreAsked rule p entries (h.added ++ entry_with p attempt said ∷ [])
      asked_now said entries h = asked_more rule p entries h.added (entry_with p attempt said) h.asked refl (asks_now entries h)

      module _ (after : BookState) (end : JournalState) (last : Option Contents) (asks : Some (Next attempt) ≡ answer_at rule book index) (due : IfSome (slice_get book.cards index) (λ c. IsDue c attempt)) where
        d : IsDue was.card attempt
        d = due_here book index attempt was.card was.there due

        least : (x : Said) → after.room + room_taken x ≡ book.room → old_book.room ≤ book.room → old_book.room ≤ after.room + 1
        least (Values v) t e = omega arith
        least Failed t e = omega arith

        none : (x : Said) → after.room + room_taken x ≡ book.room → old_book.room ≤ book.room → (tried x was.card).values ≡ None → old_book.room ≤ after.room
        none (Values v) t e h = absurd (cc)
        none Failed t e h = omega arith

        more : (k : IsKept leaves task row index p attempt book after now end later last) → (entries : List Entry) → Keeps old_book old entries → HasTried leaves task row rule p (tried k.said was.card) after old end bench last entries
        more k entries keeps =
            let h = was.each entries keeps in
            let e = entry_with p attempt k.said in
            let kept = k.kept.keeps (entries ++ h.added) (record { stands = h.stands; holds = h.appended.holds }) (comes_next k.said k.wide entries h) in
            let left = fewer_left rule was.card attempt k.said (answer_here rule book index was.card (Next attempt) was.there asks) d in
            let few = h.few in
            record {
              added = h.added ++ e ∷ [];
              appended = appended_then old now end entries h.added (e ∷ []) h.appended (next_appended after now end (entries ++ h.added) e kept k.kept.shape k.kept.limit k.kept.later);
              made = makes_then leaves task row task.interface.driver bench later last h.added (e ∷ []) h.made k.made;
              stands = subst (StandsFor after) (append_assoc entries h.added (e ∷ [])) kept.keeps.stands;
              few = omega (arith, left, few, length-append h.added (e ∷ []));
              asked = asked_now k.said entries h;
            }

        -- one attempt more was kept
        pub settling_more : IsKept leaves task row index p attempt book after now end later last → IsSettling leaves task row rule p old_book after old end bench last index
        settling_more k =
            let enough = was.room d.none in
            record {
              card = tried k.said was.card;
              there = ap (λ l. slice_get l index) k.kept.cards ∙ attempt_at book.cards index k.said was.card was.there;
              point_is = tried_point k.said was.card ∙ was.point_is;
              settles = record {
                book = k.kept.is_book;
                points = ap points_of k.kept.cards ∙ points_tried book.cards index k.said ∙ was.settles.points;
                spare = k.kept.spare ∙ was.settles.spare;
                room = least k.said k.kept.room enough;
                variables = k.kept.variables ∙ was.settles.variables;
                responses = k.kept.responses ∙ was.settles.responses;
              };
              room = none k.said k.kept.room enough;
              alike = record {
                variables = k.kept.variables ∙ was.alike.variables ∙ ap (λ s. length s.variables) (sym k.kept.shape);
                responses = k.kept.responses ∙ was.alike.responses ∙ ap (λ s. length s.responses) (sym k.kept.shape);
              };
              some = was.some;
              each = more k;
            }

        left_now : (x : Said) → left_of rule (Some (tried x was.card)) + 1 ≤ left_of rule (Some was.card)
        left_now x = fewer_left rule was.card attempt x (answer_here rule book index was.card (Next attempt) was.there asks) d

        stopped_by : (fault : AppendFault) (e : Entry) (entries added : List Entry) → HasAppended old now entries added → HasStopped now end (entries ++ added) [] e fault → HasStopped old end entries added e fault
        stopped_by append.Disk e entries added h g = subst (λ (l : List Entry). HasBroken old end entries l e) (append-nil added) (broken_then old now end entries added [] e h g)
        stopped_by (append.Full size) e entries added h g = subst (λ (l : List Entry). HasFilled old end entries l e size) (append-nil added) (filled_then old now end entries added [] e size h g)

        -- an attempt that was made and not kept
        pub stops_at : (fault : AppendFault) → IsNotKept leaves task row p attempt fault book after now end later last → (entries : List Entry) → Keeps old_book old entries → StopsAt leaves task rule row p fault after old end bench last entries
        stops_at fault k entries keeps =
            let h = was.each entries keeps in
            let e = entry_with p attempt k.said in
            let left = left_now k.said in
            let few = h.few in
            let next = comes_next k.said k.wide entries h in
            let here : Keeps book now (entries ++ h.added) = record { stands = h.stands; holds = h.appended.holds } in
            record {
              added = h.added;
              e = e;
              few = omega (arith, left, few);
              asked = asked_now k.said entries h;
              stands = subst (λ (b : BookState). StandsFor b (entries ++ h.added)) (sym k.not_kept.same) h.stands;
              next = subst (λ (shape : Shape). ComesNext shape (entries ++ h.added) e) h.appended.shape next;
              made = makes_then leaves task row task.interface.driver bench later last h.added (e ∷ []) h.made k.made;
              stopped = stopped_by fault e entries h.added h.appended
                  (not_kept book after now end (entries ++ h.added) e fault h.appended.holds (k.not_kept.keeps_not (entries ++ h.added) here next) k.not_kept.shape k.not_kept.later k.not_kept.rose);
            }

        -- an attempt that wasn't made
        pub breaks_at : (step : BenchStep) → IsNotMade leaves task row p attempt step book after now end later last → (entries : List Entry) → Keeps old_book old entries → BreaksAt leaves task rule row p step after old end bench last entries
        breaks_at step k entries keeps =
            let h = was.each entries keeps in
            let left = left_now Failed in
            let few = h.few in
            record {
              added = h.added;
              attempt = attempt;
              few = omega (arith, left, few);
              asked = h.asked;
              waits = asks_now entries h;
              appended = subst (λ (j : JournalState). HasAppended old j entries h.added) (sym k.same_journal) h.appended;
              stands = subst (λ (b : BookState). StandsFor b (entries ++ h.added)) (sym k.same_book) h.stands;
              broke = breaks_then leaves task row task.interface.driver bench later last h.added p attempt step h.made k.broke;
            }

        -- an attempt that isn't in the journal
        pub stopped_at : (why : Stop) (values : List Decimal) → Attempted leaves task row index p attempt book after now end later last (Err why) → (entries : List Entry) → Keeps old_book old entries →
            Settles leaves task rule row p values after old end bench last entries (settled.Stopped why)
        stopped_at (stop.Append fault) values k entries keeps = stops_at fault k entries keeps
        stopped_at (stop.Bench fault) values k entries keeps = breaks_at fault.step k entries keeps
