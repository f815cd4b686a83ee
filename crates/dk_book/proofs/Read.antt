-- What is read of a card: the mark beside its point, and what this says of entries.
use Rattle.std.proofs.Common.{◌≡◌, ℕ, zero, suc, ◌+◌, ◌<◌, ◌≤◌, Bool, true, false, List, [], ◌∷◌, length, Option, Some, None, refl, ap, sym, subst, ◌∙◌, arith, cond, get_or, nat_lt, if◌then◌else◌}
use Rattle.std.specs.Prelude.{IfSome, option_and_then, option_map, slice_get}
use Rattle.std.specs.List.{find}
use Rattle.std.proofs.lemmas.Bool.{lt-ltb, le-ltb}
use Rattle.std.proofs.lemmas.List.Elements.{All-get_or}
use Rattle.dk_num.specs.Decimal.{Decimal}
use Rattle.dk_pool.specs.Pool.{PoolState}
use Rattle.dk_pool.specs.declared.pool.RowId.{RowId}
use Rattle.dk_types.specs.declared.entry.Entry.{Entry}
use Rattle.dk_types.specs.declared.entry.Said.{Said}
use Rattle.dk_types.specs.declared.entry.Said.TheVariants.{Values, Failed}
use Rattle.dk_types.specs.declared.study.FailRule.{FailRule}
use Rattle.dk_types.specs.Best.{same_point}
use Rattle.dk_types.specs.Entries.{said}
use Rattle.dk_types.specs.Answers.{Answer, Next, answer, answer_by, given_up, retries}
use Rattle.dk_types.specs.Cards.{Card, card_said, card_of, card_at, AreDistinct}
use Rattle.dk_types.proofs.SamePoints.{same_itself, apart_turned}
use Rattle.dk_types.proofs.SummedUp.{says, card_failed, card_values, card_after, cards_say}
use Rattle.dk_types.proofs.CardAnswers.{card_answers, card_due, behind_failures}
use Rattle.dk_types.proofs.CardEntries.{not_found}
use Rattle.dk_types.proofs.Growth.{answer_same}
use Rattle.dk_book.specs.declared.book.Mark.{Mark}
use Rattle.dk_book.specs.Books.{BookState, IsBook, IsDue}
use Rattle.dk_book.specs.Kept.{IsKept, book_by, cards_by, card_by, values_at}
use Rattle.dk_book.proofs.Placed.{cards_length, card_there}
use Rattle.dk_book.specs.Told.{StandsFor, said_at, answer_at, said_there, answer_there}

-- The card at a place

-- a book whose card at this place has this mark
pub record IsRead (book : BookState) (values : PoolState) (i : ℕ) (mark : Mark) : Type 0 where
  pub is_book : IsBook book
  pub point : List Decimal
  pub card : slice_get book.cards i ≡ Some (card_by values.rows point mark)
  pub there : IfSome mark.values (λ row. row.index < length values.rows)

-- so it is where the mark was read out of a book's fields
pub is_read : (points values : PoolState) (marks : List Mark) (book : BookState) (i : ℕ) (mark : Mark) → IsKept points values marks → book_by points values marks ≡ book →
    i < length book.cards → mark ≡ get_or marks i mark → IsRead book values i mark
is_read points values marks book i mark kept view h is = subst (λ b. i < length b.cards → IsRead b values i mark) view here h
  where
    is_there : Mark → Type 0
    is_there m = IfSome m.values (λ row. row.index < length values.rows)

    here : i < length (cards_by values.rows points.rows marks) → IsRead (book_by points values marks) values i mark
    here h =
        let enough = kept.enough in
        let long = cards_length values.rows points.rows marks (omega arith) in
        record {
          is_book = kept.book;
          point = get_or points.rows i [];
          card = card_there values.rows points.rows marks i [] mark (omega arith) (omega arith) ∙ ap (λ m. Some (card_by values.rows (get_or points.rows i []) m)) (sym is);
          there = subst is_there (sym is) (All-get_or is_there marks i mark (omega arith) kept.there);
        }

-- the row that the mark names is there
pub row_there : (book : BookState) (values : PoolState) (i : ℕ) (mark : Mark) (row : RowId) → IsRead book values i mark → mark.values ≡ Some row → row.index < length values.rows
row_there book values i mark row r is = subst (λ (o : Option RowId). IfSome o (λ row. row.index < length values.rows)) is r.there

-- the values of a mark that names this row
pub values_there : (values : List (List Decimal)) (o : Option RowId) (row : RowId) (v : List Decimal) → o ≡ Some row → slice_get values row.index ≡ Some v → values_at values o ≡ Some v
values_there values o row v is there = ap (values_at values) is ∙ there

-- a mark that names no row has no values
pub none_there : (values : List (List Decimal)) (o : Option RowId) → o ≡ None → values_at values o ≡ None
none_there values o is = ap (values_at values) is

-- What the card says

-- what an attempt gave, by the mark
said_here : (book : BookState) (values : PoolState) (i : ℕ) (mark : Mark) (attempt : ℕ) (o : Option Said) → IsRead book values i mark →
    says mark.failures (values_at values.rows mark.values) attempt ≡ o → o ≡ said_at book i attempt
said_here book values i mark attempt o r is = sym (ap (λ (c : Option Card). option_and_then (λ card. card_said card attempt) c) r.card ∙ is)

-- no attempt is the 0th
pub said_before : (book : BookState) (values : PoolState) (i : ℕ) (mark : Mark) (attempt : ℕ) → IsRead book values i mark → attempt ≡ 0 → None ≡ said_at book i attempt
said_before book values i mark attempt r is =
    said_here book values i mark attempt None r (ap (says mark.failures (values_at values.rows mark.values)) is)

-- attempts up to the failures failed
pub said_failed : (book : BookState) (values : PoolState) (i : ℕ) (mark : Mark) (attempt : ℕ) → IsRead book values i mark → 1 ≤ attempt → attempt ≤ mark.failures →
    Some Failed ≡ said_at book i attempt
said_failed book values i mark attempt r from to =
    said_here book values i mark attempt (Some Failed) r (card_failed mark.failures attempt (values_at values.rows mark.values) from to)

-- the attempt behind the failures gave these values, or wasn't made
pub said_behind : (book : BookState) (values : PoolState) (i : ℕ) (mark : Mark) (attempt : ℕ) (v : Option (List Decimal)) → IsRead book values i mark → attempt ≡ mark.failures + 1 →
    values_at values.rows mark.values ≡ v → option_map Values v ≡ said_at book i attempt
said_behind book values i mark attempt v r at is =
    said_here book values i mark attempt (option_map Values v) r
    (ap (says mark.failures (values_at values.rows mark.values)) at
    ∙ card_values mark.failures (values_at values.rows mark.values)
    ∙ ap (λ (v : Option (List Decimal)). option_map Values v) is)

-- no attempt was made past the one behind the failures
pub said_past : (book : BookState) (values : PoolState) (i : ℕ) (mark : Mark) (attempt : ℕ) → IsRead book values i mark → mark.failures + 1 < attempt → None ≡ said_at book i attempt
said_past book values i mark attempt r past =
    said_here book values i mark attempt None r (card_after mark.failures attempt (values_at values.rows mark.values) past)

-- what the attempts come to, by the mark
answer_here : (book : BookState) (values : PoolState) (i : ℕ) (mark : Mark) (rule : FailRule) (a : Answer) → IsRead book values i mark →
    (if nat_lt (retries rule) mark.failures then given_up rule (retries rule + 1) else behind_failures mark.failures (values_at values.rows mark.values)) ≡ a →
    Some a ≡ answer_at rule book i
answer_here book values i mark rule a r is =
    sym (ap (λ (c : Option Card). option_map (λ card. answer_by rule (card_said card)) c) r.card ∙ ap Some (card_answers rule (card_by values.rows r.point mark) ∙ is))

-- where the failures take all attempts that the rule allows
pub answer_given_up : (book : BookState) (values : PoolState) (i : ℕ) (mark : Mark) (rule : FailRule) → IsRead book values i mark → retries rule < mark.failures →
    Some (given_up rule (retries rule + 1)) ≡ answer_at rule book i
answer_given_up book values i mark rule r l =
    answer_here book values i mark rule (given_up rule (retries rule + 1)) r
    (ap (λ t. if t then given_up rule (retries rule + 1) else behind_failures mark.failures (values_at values.rows mark.values)) (lt-ltb (retries rule) mark.failures l))

-- where they don't, and these are the values of the mark
pub answer_behind : (book : BookState) (values : PoolState) (i : ℕ) (mark : Mark) (rule : FailRule) (v : Option (List Decimal)) → IsRead book values i mark → mark.failures ≤ retries rule →
    values_at values.rows mark.values ≡ v → Some (behind_failures mark.failures v) ≡ answer_at rule book i
answer_behind book values i mark rule v r l is =
    answer_here book values i mark rule (behind_failures mark.failures v) r
    (ap (λ t. if t then given_up rule (retries rule + 1) else behind_failures mark.failures (values_at values.rows mark.values)) (le-ltb (retries rule) mark.failures l)
    ∙ ap (behind_failures mark.failures) is)

-- a card that asks for an attempt asks for its next one
pub asks_due : (book : BookState) (i : ℕ) (rule : FailRule) (a : Answer) → Some a ≡ answer_at rule book i → (attempt : ℕ) → a ≡ Next attempt →
    IfSome (slice_get book.cards i) (λ card. IsDue card attempt)
asks_due book i rule a is attempt asks = at (slice_get book.cards i) (sym is ∙ ap Some asks)
  where
    at : (o : Option Card) → option_map (λ card. answer_by rule (card_said card)) o ≡ Some (Next attempt) → IfSome o (λ card. IsDue card attempt)
    at None e = tt
    at (Some card) e = let d = card_due rule card attempt (let same : answer_by rule (card_said card) ≡ Next attempt = cc in same) in record { none = d.0; next = d.1 }

-- What entries say

-- a card that isn't found isn't at any place
pub not_there : (cards : List Card) (p : List Decimal) (i : ℕ) (card : Card) → find (λ (c : Card). same_point c.point p) cards ≡ None → slice_get cards i ≡ Some card → same_point card.point p ≡ false
not_there [] p i card none is = absurd (cc)
not_there (c ∷ cards) p zero card none is = at (same_point c.point p) refl none
  where
    at : (t : Bool) → same_point c.point p ≡ t → cond t (Some c) (find (λ (c : Card). same_point c.point p) cards) ≡ None → same_point card.point p ≡ false
    at true e none = absurd (cc)
    at false e none = let same : c ≡ card = cc in subst (λ (c : Card). same_point c.point p ≡ false) same e
not_there (c ∷ cards) p (suc i) card none is = not_there cards p i card (at (same_point c.point p) none) is
  where
    at : (t : Bool) → cond t (Some c) (find (λ (c : Card). same_point c.point p) cards) ≡ None → find (λ (c : Card). same_point c.point p) cards ≡ None
    at true none = absurd (cc)
    at false none = none

-- the card of a point among distinct ones is the one that has it
card_of_there : (cards : List Card) (i : ℕ) (card : Card) → AreDistinct cards → slice_get cards i ≡ Some card → card_of cards card.point ≡ card
card_of_there cards i card distinct is = ap (card_at card.point) (found cards i distinct is)
  where
    found : (cards : List Card) (i : ℕ) → AreDistinct cards → slice_get cards i ≡ Some card → find (λ (c : Card). same_point c.point card.point) cards ≡ Some card
    found [] i distinct is = absurd (cc)
    found (c ∷ cards) zero distinct is =
        let same : c ≡ card = cc in
        ap (λ t. cond t (Some c) (find (λ (c : Card). same_point c.point card.point) cards)) (ap (λ (x : Card). same_point x.point card.point) same ∙ same_itself card.point) ∙ ap Some same
    found (c ∷ cards) (suc i) distinct is =
        ap (λ t. cond t (Some c) (find (λ (c : Card). same_point c.point card.point) cards))
        (apart_turned card.point c.point (not_there cards c.point i card (not_found cards c.point distinct.0) is))
        ∙ found cards i distinct.1 is

-- entries for which the book stands say of a card's point what the card says
card_says : (book : BookState) (entries : List Entry) (i : ℕ) (card : Card) → IsBook book → StandsFor book entries → slice_get book.cards i ≡ Some card →
    (attempt : ℕ) → card_said card attempt ≡ said entries card.point attempt
card_says book entries i card is stands there attempt =
    ap (λ (c : Card). card_said c attempt) (sym (card_of_there book.cards i card is.distinct there))
    ∙ sym (cards_say book.variables book.responses book.cards entries card.point attempt stands.well_formed stands.sum_up)

-- and so an attempt gave by the entries what it gave by the card
pub said_entries : (book : BookState) (entries : List Entry) (i attempt : ℕ) → IsBook book → StandsFor book entries → said_at book i attempt ≡ said_there book entries i attempt
said_entries book entries i attempt is stands = at (slice_get book.cards i) refl
  where
    at : (o : Option Card) → slice_get book.cards i ≡ o → option_and_then (λ card. card_said card attempt) o ≡ option_and_then (λ card. said entries card.point attempt) o
    at None e = refl
    at (Some card) e = card_says book entries i card is stands e attempt

-- and the attempts come to the same
pub answer_entries : (book : BookState) (entries : List Entry) (i : ℕ) (rule : FailRule) → IsBook book → StandsFor book entries → answer_at rule book i ≡ answer_there rule book entries i
answer_entries book entries i rule is stands = at (slice_get book.cards i) refl
  where
    at : (o : Option Card) → slice_get book.cards i ≡ o → option_map (λ card. answer_by rule (card_said card)) o ≡ option_map (λ card. answer rule entries card.point) o
    at None e = refl
    at (Some card) e = ap Some (answer_same rule (card_said card) (said entries card.point) (card_says book entries i card is stands e))
