-- Cards, one of which gets its next attempt.
use Rattle.std.proofs.Common.{◌≡◌, ℕ, zero, suc, ◌+◌, ◌<◌, ◌≤◌, Bool, true, false, List, [], ◌∷◌, ◌++◌, length, get_or, set, Option, Some, None, refl, ap, sym, subst, ◌∙◌, arith, cond}
use Rattle.std.specs.Prelude.{option_map, slice_get, IfSome}
use Rattle.std.specs.List.{All, find}
use Rattle.std.specs.Option.{option_or}
use Rattle.std.proofs.lemmas.List.{append-nil, length-set, drop-set-lt, length_push, get_or_append_left, get_or_push}
use Rattle.std.proofs.lemmas.List.Elements.{All-head, All-tail, All-cons, All-set, All-weaker}
use Rattle.std.proofs.lemmas.Option.{get_or_from_slice_get, slice_get-get_or, slice_get_within, IfSome_then}
use Rattle.dk_num.specs.Decimal.{Decimal}
use Rattle.dk_pool.specs.Pool.{PoolState}
use Rattle.dk_pool.specs.declared.pool.RowId.{RowId}
use Rattle.dk_types.specs.declared.entry.Entry.{Entry}
use Rattle.dk_types.specs.declared.entry.Said.{Said}
use Rattle.dk_types.specs.declared.entry.Said.TheVariants.{Values, Failed}
use Rattle.dk_types.specs.Best.{same_point}
use Rattle.dk_types.specs.Entries.{attempts, first_values, failures, values_of, AreEntries}
use Rattle.dk_types.specs.Cards.{Card, card_in, card_at, place_of, AreDistinct, SumUp}
use Rattle.dk_types.specs.EntryLaws.{IsCard}
use Rattle.dk_types.proofs.SamePoints.{same_itself, same_alike}
use Rattle.dk_types.proofs.Attempts.{attempts_more, first_values_append, failures_append, all_failed}
use Rattle.dk_types.proofs.CardEntries.{not_found, is_next, next_append}
use Rattle.dk_book.proofs.OtherCards.{tried_there}
use Rattle.dk_book.specs.declared.book.Mark.{Mark}
use Rattle.dk_book.specs.Books.{BookState, IsBook, IsDue, tried, with_attempt}
use Rattle.dk_book.specs.Told.{StandsFor, entry_of}
use Rattle.dk_book.specs.Kept.{card_by, cards_by, values_at, unmarked, IsKept}
use Rattle.dk_book.proofs.Placed.{is_of, not_placed, card_there}

-- What an attempt leaves as it was

pub tried_point : (x : Said) (card : Card) → (tried x card).point ≡ card.point
tried_point (Values v) card = refl
tried_point Failed card = refl

pub attempt_length : (cards : List Card) (i : ℕ) (x : Said) → length (with_attempt cards i x) ≡ length cards
attempt_length [] i x = refl
attempt_length (card ∷ cards) zero x = refl
attempt_length (card ∷ cards) (suc i) x = ap suc (attempt_length cards i x)

-- the card that gets it
pub attempt_at : (cards : List Card) (i : ℕ) (x : Said) (c : Card) → slice_get cards i ≡ Some c → slice_get (with_attempt cards i x) i ≡ Some (tried x c)
attempt_at cards i x c e = tried_there cards i x ∙ ap (option_map (tried x)) e

-- a point without a card stays without one
attempt_apart : (cards : List Card) (i : ℕ) (x : Said) (p : List Decimal) → find (is_of p) cards ≡ None → find (is_of p) (with_attempt cards i x) ≡ None
attempt_apart [] i x p e = refl
attempt_apart (card ∷ cards) zero x p e = ap (λ q. cond (same_point q p) (Some (tried x card)) (find (is_of p) cards)) (tried_point x card) ∙ at (same_point card.point p) e
  where
    at : (t : Bool) → cond t (Some card) (find (is_of p) cards) ≡ None → cond t (Some (tried x card)) (find (is_of p) cards) ≡ None
    at true e = absurd (cc)
    at false e = e
attempt_apart (card ∷ cards) (suc i) x p e = at (same_point card.point p) e (attempt_apart cards i x p)
  where
    at : (t : Bool) → cond t (Some card) (find (is_of p) cards) ≡ None → (find (is_of p) cards ≡ None → find (is_of p) (with_attempt cards i x) ≡ None) →
        cond t (Some card) (find (is_of p) (with_attempt cards i x)) ≡ None
    at true e rest = absurd (cc)
    at false e rest = rest e

-- another point keeps its card
attempt_other : (cards : List Card) (i : ℕ) (x : Said) (c : Card) (p : List Decimal) → slice_get cards i ≡ Some c → same_point c.point p ≡ false →
    find (is_of p) (with_attempt cards i x) ≡ find (is_of p) cards
attempt_other [] i x c p e apart = refl
attempt_other (card ∷ cards) zero x c p e apart =
    let same : card ≡ c = cc in
    let h : same_point card.point p ≡ false = ap (λ (c : Card). same_point c.point p) same ∙ apart in
    ap (λ q. cond (same_point q p) (Some (tried x card)) (find (is_of p) cards)) (tried_point x card)
    ∙ ap (λ t. cond t (Some (tried x card)) (find (is_of p) cards)) h
    ∙ sym (ap (λ t. cond t (Some card) (find (is_of p) cards)) h)
attempt_other (card ∷ cards) (suc i) x c p e apart = ap (cond (same_point card.point p) (Some card)) (attempt_other cards i x c p e apart)

-- points stay distinct
attempt_distinct : (cards : List Card) (i : ℕ) (x : Said) → AreDistinct cards → AreDistinct (with_attempt cards i x)
attempt_distinct [] i x distinct = tt
attempt_distinct (card ∷ cards) zero x distinct = (ap (place_of cards) (tried_point x card) ∙ distinct.0, distinct.1)
attempt_distinct (card ∷ cards) (suc i) x distinct = (
  not_placed (with_attempt cards i x) card.point (attempt_apart cards i x card.point (not_found cards card.point distinct.0)),
  attempt_distinct cards i x distinct.1,
)

-- and cards of the widths
attempt_all : (n m : ℕ) (cards : List Card) (i : ℕ) (x : Said) → All (IsCard n m) cards → IfSome (values_of x) (λ v. length v ≡ m) → All (IsCard n m) (with_attempt cards i x)
attempt_all n m [] i x are wide = are
attempt_all n m (card ∷ cards) zero x are wide = All-cons (IsCard n m) (tried x card) cards (at x wide (All-head (IsCard n m) card cards are)) (All-tail (IsCard n m) card cards are)
  where
    at : (x : Said) → IfSome (values_of x) (λ v. length v ≡ m) → IsCard n m card → IsCard n m (tried x card)
    at (Values v) wide is = record { point = is.point; values = wide }
    at Failed wide is = record { point = is.point; values = is.values }
attempt_all n m (card ∷ cards) (suc i) x are wide =
    All-cons (IsCard n m) card (with_attempt cards i x) (All-head (IsCard n m) card cards are) (attempt_all n m cards i x (All-tail (IsCard n m) card cards are) wide)

-- What the cards sum up

-- of cards of distinct points, the one at a place is the one that is found
found_at : (cards : List Card) (i : ℕ) (c : Card) (p : List Decimal) → AreDistinct cards → slice_get cards i ≡ Some c → same_point c.point p ≡ true → find (is_of p) cards ≡ Some c
found_at [] i c p distinct e same = absurd (cc)
found_at (card ∷ cards) zero c p distinct e same =
    let is : card ≡ c = cc in
    ap (λ (c : Card). cond (same_point c.point p) (Some c) (find (is_of p) cards)) is ∙ ap (λ t. cond t (Some c) (find (is_of p) cards)) same
found_at (card ∷ cards) (suc i) c p distinct e same = at (same_point card.point p) refl (λ q. found_at cards i c q distinct.1 e)
  where
    at : (t : Bool) → same_point card.point p ≡ t → ((q : List Decimal) → same_point c.point q ≡ true → find (is_of q) cards ≡ Some c) → cond t (Some card) (find (is_of p) cards) ≡ Some c
    at false h rest = rest p same
    at true h rest =
        let twice : same_point c.point card.point ≡ true = same_alike c.point card.point p h ∙ same in
        let there = rest card.point twice in
        let none = not_found cards card.point distinct.0 in
        absurd (cc)

-- entries give the point of a card what the card tells
summed_at : (cards : List Card) (entries : List Entry) (i : ℕ) (c : Card) (p : List Decimal) → AreDistinct cards → SumUp cards entries → slice_get cards i ≡ Some c → same_point c.point p ≡ true →
    card_at p (Some c) ≡ card_in entries p
summed_at cards entries i c p distinct sum e same = ap (card_at p) (sym (found_at cards i c p distinct e same)) ∙ sum.each p

-- the cards sum up the entries with this attempt behind them
sum_up_tried : (cards : List Card) (entries : List Entry) (i attempt : ℕ) (c : Card) (x : Said) → AreDistinct cards → SumUp cards entries → slice_get cards i ≡ Some c → c.values ≡ None →
    SumUp (with_attempt cards i x) (entries ++ entry_of c attempt x ∷ [])
sum_up_tried cards entries i attempt c x distinct sum e none = record { each = λ p. at p (same_point c.point p) refl }
  where
    by : List Decimal → List Said → Card
    by p s = record { point = p; failures = failures s; values = first_values s }

    gave : (p : List Decimal) (x : Said) → card_at p (Some (tried x c)) ≡ record { point = p; failures = c.failures + failures (x ∷ []); values = first_values (x ∷ []) }
    gave p (Values v) = ap (λ k. record { point = p; failures = k; values = Some v }) (let h : c.failures ≡ c.failures + 0 = omega arith in h)
    gave p Failed = ap (λ v. record { point = p; failures = c.failures + 1; values = v }) none

    at : (p : List Decimal) (t : Bool) → same_point c.point p ≡ t → card_at p (find (is_of p) (with_attempt cards i x)) ≡ card_in (entries ++ entry_of c attempt x ∷ []) p
    at p false apart =
        ap (card_at p) (attempt_other cards i x c p e apart)
        ∙ sum.each p
        ∙ ap (by p) (sym (attempts_more entries (entry_of c attempt x) p ∙ ap (λ t. attempts entries p ++ cond t (x ∷ []) []) apart ∙ append-nil (attempts entries p)))
    at p true same =
        let was = summed_at cards entries i c p distinct sum e same in
        ap (card_at p) (found_at (with_attempt cards i x) i (tried x c) p (attempt_distinct cards i x distinct) (attempt_at cards i x c e) (ap (λ q. same_point q p) (tried_point x c) ∙ same))
        ∙ gave p x
        ∙ ap (λ k. record { point = p; failures = k + failures (x ∷ []); values = first_values (x ∷ []) }) (ap (λ (c : Card). c.failures) was)
        ∙ ap (λ k. record { point = p; failures = k; values = first_values (x ∷ []) }) (sym (failures_append (attempts entries p) (x ∷ [])))
        ∙ ap (λ v. record { point = p; failures = failures (attempts entries p ++ x ∷ []); values = v })
        (sym (first_values_append (attempts entries p) (x ∷ []) ∙ ap (λ v. option_or v (first_values (x ∷ []))) (sym (ap (λ (c : Card). c.values) was) ∙ none)))
        ∙ ap (by p) (sym (attempts_more entries (entry_of c attempt x) p ∙ ap (λ t. attempts entries p ++ cond t (x ∷ []) []) same))

-- which are well formed
entries_tried : (n m : ℕ) (cards : List Card) (entries : List Entry) (i attempt : ℕ) (c : Card) (x : Said) → AreDistinct cards → AreEntries n m entries → SumUp cards entries →
    slice_get cards i ≡ Some c → IsDue c attempt → length c.point ≡ n → IfSome (values_of x) (λ v. length v ≡ m) → AreEntries n m (entries ++ entry_of c attempt x ∷ [])
entries_tried n m cards entries i attempt c x distinct are sum e due point wide =
    next_append n m [] entries (entry_of c attempt x ∷ []) are (record { point = point; values = wide; next = is_next entries c.point attempt none number }, tt)
  where
    was : card_at c.point (Some c) ≡ card_in entries c.point
    was = summed_at cards entries i c c.point distinct sum e (same_itself c.point)

    none : first_values (attempts entries c.point) ≡ None
    none = sym (ap (λ (c : Card). c.values) was) ∙ due.none

    number : attempt ≡ length (attempts entries c.point) + 1
    number = omega (arith, due.next, ap (λ (c : Card). c.failures) was, all_failed (attempts entries c.point) none)

-- a book stands for its entries with the next attempt of a card behind them, once the card has it
pub stands_tried : (book after : BookState) (i attempt : ℕ) (x : Said) → IsBook book → IfSome (slice_get book.cards i) (λ c. IsDue c attempt) → IfSome (values_of x) (λ v. length v ≡ book.responses) →
    after.cards ≡ with_attempt book.cards i x → after.variables ≡ book.variables → after.responses ≡ book.responses → (entries : List Entry) → StandsFor book entries →
    IfSome (slice_get book.cards i) (λ c. StandsFor after (entries ++ entry_of c attempt x ∷ []))
stands_tried book after i attempt x is due wide cards variables responses entries stands = at (slice_get book.cards i) refl due
  where
    at : (o : Option Card) → slice_get book.cards i ≡ o → IfSome o (λ c. IsDue c attempt) → IfSome o (λ c. StandsFor after (entries ++ entry_of c attempt x ∷ []))
    at None e due = tt
    at (Some c) e due =
        let card = subst (IsCard book.variables book.responses) (get_or_from_slice_get book.cards i c c e) (is.cards i c (slice_get_within book.cards i c e)) in
        record {
          well_formed = subst (λ n. AreEntries n after.responses (entries ++ entry_of c attempt x ∷ [])) (sym variables)
              (subst (λ m. AreEntries book.variables m (entries ++ entry_of c attempt x ∷ [])) (sym responses)
              (entries_tried book.variables book.responses book.cards entries i attempt c x is.distinct stands.well_formed stands.sum_up e due card.point wide));
          sum_up = subst (λ cards. SumUp cards (entries ++ entry_of c attempt x ∷ [])) (sym cards) (sum_up_tried book.cards entries i attempt c x is.distinct stands.sum_up e due.none);
        }

-- A mark that is written

-- a mark that says of its card what the attempt makes of it
cards_set : (values points : List (List Decimal)) (marks : List Mark) (i : ℕ) (d mark : Mark) (x : Said) → length points ≤ length marks →
    ((p : List Decimal) → card_by values p mark ≡ tried x (card_by values p (get_or marks i d))) → cards_by values points (set marks i mark) ≡ with_attempt (cards_by values points marks) i x
cards_set values [] marks i d mark x h e = refl
cards_set values (p ∷ points) [] i d mark x h e = absurd (omega arith)
cards_set values (p ∷ points) (m ∷ marks) zero d mark x h e = ap (λ c. c ∷ cards_by values points marks) (e p)
cards_set values (p ∷ points) (m ∷ marks) (suc i) d mark x h e = ap (λ cards. card_by values p m ∷ cards) (cards_set values points marks i d mark x (omega arith) e)

-- values behind those that marks name change no card
values_kept : (values : List (List Decimal)) (v : List Decimal) (row : Option RowId) → IfSome row (λ row. row.index < length values) → values_at (values ++ v ∷ []) row ≡ values_at values row
values_kept values v None l = refl
values_kept values v (Some row) l =
    slice_get-get_or (values ++ v ∷ []) row.index v (omega (arith, length_push values v))
    ∙ ap Some (get_or_append_left values (v ∷ []) v row.index l)
    ∙ sym (slice_get-get_or values row.index v l)

cards_kept : (values points : List (List Decimal)) (marks : List Mark) (v : List Decimal) → All (λ mark. IfSome mark.values (λ row. row.index < length values)) marks →
    cards_by (values ++ v ∷ []) points marks ≡ cards_by values points marks
cards_kept values [] marks v there = refl
cards_kept values (p ∷ points) [] v there = refl
cards_kept values (p ∷ points) (mark ∷ marks) v there =
    ap (λ o. record { point = p; failures = mark.failures; values = o } ∷ cards_by (values ++ v ∷ []) points marks) (values_kept values v mark.values (there 0 mark (omega arith)))
    ∙ ap (λ cards. card_by values p mark ∷ cards) (cards_kept values points marks v (All-tail (λ mark. IfSome mark.values (λ row. row.index < length values)) mark marks there))

-- the mark of an attempt that failed
pub cards_failed : (points values : PoolState) (marks : List Mark) (i attempt : ℕ) (was : Mark) → IsKept points values marks → i < length points.rows → was ≡ get_or marks i was →
    IfSome (slice_get (cards_by values.rows points.rows marks) i) (λ c. IsDue c attempt) →
    cards_by values.rows points.rows (set marks i (record { failures = attempt; values = was.values })) ≡ with_attempt (cards_by values.rows points.rows marks) i Failed
cards_failed points values marks i attempt was kept l read due =
    let enough = kept.enough in
    let is : IsDue (card_by values.rows (get_or points.rows i []) (get_or marks i was)) attempt
    = subst (λ o. IfSome o (λ c. IsDue c attempt)) (card_there values.rows points.rows marks i [] was (omega arith) l) due in
    cards_set values.rows points.rows marks i was (record { failures = attempt; values = was.values }) Failed (omega arith) (λ p.
    ap (λ k. record { point = p; failures = k; values = values_at values.rows was.values }) is.next
    ∙ ap (λ (m : Mark). record { point = p; failures = (get_or marks i was).failures + 1; values = values_at values.rows m.values }) read)

-- the mark of one that gave values
pub cards_gave : (points values more : PoolState) (marks : List Mark) (i : ℕ) (was : Mark) (row : RowId) (v : List Decimal) → IsKept points values marks → i < length points.rows →
    was ≡ get_or marks i was → more.rows ≡ values.rows ++ v ∷ [] → row.index ≡ length values.rows →
    cards_by more.rows points.rows (set marks i (record { failures = was.failures; values = Some row })) ≡ with_attempt (cards_by values.rows points.rows marks) i (Values v)
cards_gave points values more marks i was row v kept l read rows id =
    let enough = kept.enough in
    ap (λ rows. cards_by rows points.rows (set marks i (record { failures = was.failures; values = Some row }))) rows
    ∙ cards_set (values.rows ++ v ∷ []) points.rows marks i was (record { failures = was.failures; values = Some row }) (Values v) (omega arith) (λ p.
    ap (λ (m : Mark). record { point = p; failures = m.failures; values = slice_get (values.rows ++ v ∷ []) row.index }) read
    ∙ ap (λ o. record { point = p; failures = (get_or marks i was).failures; values = o })
    (slice_get-get_or (values.rows ++ v ∷ []) row.index v (omega (arith, length_push values.rows v)) ∙ ap Some (get_or_push values.rows v v row.index (sym id))))
    ∙ ap (λ cards. with_attempt cards i (Values v)) (cards_kept values.rows points.rows marks v kept.there)

-- a mark that gives its card the next attempt
pub kept_tried : (points values more : PoolState) (marks : List Mark) (i : ℕ) (mark : Mark) (x : Said) → IsKept points values marks → i < length points.rows →
    cards_by more.rows points.rows (set marks i mark) ≡ with_attempt (cards_by values.rows points.rows marks) i x → IfSome (values_of x) (λ v. length v ≡ values.width) →
    more.width ≡ values.width → length values.rows ≤ length more.rows → IfSome mark.values (λ row. row.index < length more.rows) → IsKept points more (set marks i mark)
kept_tried points values more marks i mark x kept l cards wide width longer there = record {
  enough = length-set marks i mark ∙ kept.enough;
  blank = subst (All (λ mark. mark ≡ unmarked)) (sym (drop-set-lt (length points.rows) marks i mark l)) kept.blank;
  there = All-set (λ mark. IfSome mark.values (λ row. row.index < length more.rows)) marks i mark there
      (All-weaker (λ mark. IfSome mark.values (λ row. row.index < length values.rows)) (λ mark. IfSome mark.values (λ row. row.index < length more.rows))
      (λ mark named. IfSome_then mark.values named (λ row near. omega arith)) marks kept.there);
  book = record {
    distinct = subst AreDistinct (sym cards) (attempt_distinct was i x kept.book.distinct);
    cards = subst (All (IsCard points.width more.width)) (sym cards)
        (subst (λ m. All (IsCard points.width m) (with_attempt was i x)) (sym width) (attempt_all points.width values.width was i x kept.book.cards wide));
    few = omega (arith, kept.book.few, ap length cards, attempt_length was i x);
  };
}
  where
    was : List Card
    was = cards_by values.rows points.rows marks
