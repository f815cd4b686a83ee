-- An evaluation over a book, point after point.
use Rattle.std.proofs.Common.{◌≡◌, ◌⊎◌, inl, inr, ℕ, zero, suc, ◌+◌, ◌-◌, ◌<◌, ◌≤◌, Bool, true, false, not, List, [], ◌∷◌, ◌++◌, length, get_or, replicate, Option, Some, None, refl, ap, sym, subst, ◌∙◌, arith, cond, nat_lt, length-append}
use Rattle.std.specs.Prelude.{position, slice_get, slice_set, option_map, is_some, if◌then◌else◌, ◌==◌}
use Rattle.std.specs.List.{position_or_len}
use Rattle.std.proofs.lemmas.Bool.{eq-eqb, ne_eqb, cases_lt, cases_eq}
use Rattle.std.proofs.lemmas.List.{length-map, length-replicate, map-append}
use Rattle.std.proofs.lemmas.List.Elements.{All-append, All-cons, All-nil}
use Rattle.std.proofs.lemmas.List.Quantifiers.{position-Some}
use Rattle.std.proofs.lemmas.Option.{slice_get_within, slice_get_past, get_or_from_slice_get}
use Rattle.dk_num.specs.Decimal.{Decimal}
use Rattle.dk_types.specs.declared.study.Study.{Study}
use Rattle.dk_types.specs.declared.rows.Row.{Row}
use Rattle.dk_types.specs.Best.{same_point}
use Rattle.dk_types.specs.Cards.{Card, blank, place_of, AreDistinct}
use Rattle.dk_types.proofs.SamePoints.{same_itself, same_alike, apart_turned}
use Rattle.dk_types.proofs.CardEntries.{not_found}
use Rattle.dk_book.specs.Books.{BookState, with_card}
use Rattle.dk_book.proofs.Read.{not_there}
use Rattle.dk_evaluate.specs.Pools.{RowsState}
use Rattle.dk_evaluate.specs.Evaluated.{points_of, row_with, number_of, first_row_of, TakesNumber, SettlesBook}
use Rattle.dk_evaluate.specs.Turns.{IsSoFar}
use Rattle.dk_types.specs.Widths.{HasWidths, HaveWidths}
use Rattle.dk_evaluate.specs.declared.evaluation.Table.{Table}
use Rattle.dk_book.proofs.Lists.{item_kept, place_kept, behind_none}
use Rattle.dk_evaluate.proofs.Pooled.{long_set}

-- Where points stand

-- a card's place is that of its point
first_in : (cards : List Card) (q : List Decimal) → position_or_len (λ (c : Card). same_point c.point q) cards ≡ position_or_len (λ (p : List Decimal). same_point p q) (points_of cards)
first_in [] q = refl
first_in (c ∷ cards) q = ap (λ n. cond (not (same_point c.point q)) (1 + n) 0) (first_in cards q)

place_by_points : (cards : List Card) (q : List Decimal) → place_of cards q ≡ position (λ (p : List Decimal). same_point p q) (points_of cards)
place_by_points cards q =
    ap (λ n. cond (nat_lt n (length cards)) (Some n) None) (first_in cards q)
    ∙ ap (λ l. cond (nat_lt (position_or_len (λ (p : List Decimal). same_point p q) (points_of cards)) l) (Some (position_or_len (λ (p : List Decimal). same_point p q) (points_of cards))) None)
    (sym (length-map cards (λ (c : Card). c.point)))

same_places : (cards others : List Card) (q : List Decimal) → points_of cards ≡ points_of others → place_of cards q ≡ place_of others q
same_places cards others q e = place_by_points cards q ∙ ap (position (λ (p : List Decimal). same_point p q)) e ∙ sym (place_by_points others q)

-- points that are one stand at one place
first_alike : (cards : List Card) (p q : List Decimal) → same_point p q ≡ true →
    position_or_len (λ (c : Card). same_point c.point p) cards ≡ position_or_len (λ (c : Card). same_point c.point q) cards
first_alike [] p q h = refl
first_alike (c ∷ cards) p q h =
    ap (λ t. cond (not t) (1 + position_or_len (λ (c : Card). same_point c.point p) cards) 0) (same_alike c.point p q h)
    ∙ ap (λ n. cond (not (same_point c.point q)) (1 + n) 0) (first_alike cards p q h)

place_within : (cards : List Card) (q : List Decimal) (i : ℕ) → place_of cards q ≡ Some i → i < length cards
place_within cards q i e = (position-Some (λ (c : Card). same_point c.point q) cards i (blank q) e).0

place_alike : (cards : List Card) (p q : List Decimal) → same_point p q ≡ true → place_of cards p ≡ place_of cards q
place_alike cards p q h = ap (λ n. cond (nat_lt n (length cards)) (Some n) None) (first_alike cards p q h)

-- the card of a point
record IsCardWith (cards : List Card) (k : ℕ) (q : List Decimal) : Type 0 where
  card : Card
  there : slice_get cards k ≡ Some card
  point_is : card.point ≡ q

card_with : (cards : List Card) (k : ℕ) (q : List Decimal) → slice_get (points_of cards) k ≡ Some q → IsCardWith cards k q
card_with [] k q h = absurd (let w = slice_get_within [] k q h in omega arith)
card_with (c ∷ cards) zero q h = record { card = c; there = refl; point_is = cc }
card_with (c ∷ cards) (suc k) q h = let r = card_with cards k q h in record { card = r.card; there = r.there; point_is = r.point_is }

-- cards at two places have two points
apart_at : (cards : List Card) (i j : ℕ) (c d : Card) → AreDistinct cards → slice_get cards i ≡ Some c → slice_get cards j ≡ Some d → (i ≡ j → ⊥) → same_point c.point d.point ≡ false
apart_at [] i j c d distinct h g other = absurd (let w = slice_get_within [] i c h in omega arith)
apart_at (x ∷ cards) zero zero c d distinct h g other = absurd (other refl)
apart_at (x ∷ cards) zero (suc j) c d distinct h g other =
    let e : x ≡ c = cc in
    ap (λ (y : Card). same_point y.point d.point) (sym e) ∙ apart_turned d.point x.point (not_there cards x.point j d (not_found cards x.point distinct.0) g)
apart_at (x ∷ cards) (suc i) zero c d distinct h g other =
    let e : x ≡ d = cc in
    ap (λ (y : Card). same_point c.point y.point) (sym e) ∙ not_there cards x.point i c (not_found cards x.point distinct.0) h
apart_at (x ∷ cards) (suc i) (suc j) c d distinct h g other = apart_at cards i j c d distinct.1 h g (λ e. other (ap suc e))

-- The points of cards, one of which was placed

pub record IsPlaced (cards placed : List Card) (p : List Decimal) (index : ℕ) : Type 0 where
  pub cards_are : placed ≡ with_card cards p
  pub at : place_of placed p ≡ Some index
  pub point : option_map (λ (c : Card). c.point) (slice_get placed index) ≡ Some p

pub is_placed : (cards placed : List Card) (p q : List Decimal) (index : ℕ) → p ≡ q → placed ≡ with_card cards p → place_of placed p ≡ Some index →
    option_map (λ (c : Card). c.point) (slice_get placed index) ≡ Some p → IsPlaced cards placed q index
is_placed cards placed p q index e cards_are at point = subst (λ x. IsPlaced cards placed x index) e (record { cards_are = cards_are; at = at; point = point })

-- the card was there, or it is a new one behind the others
data Placing (cards placed : List Card) (p : List Decimal) (index : ℕ) : Type 0 where
  old : points_of placed ≡ points_of cards → place_of cards p ≡ Some index → Placing cards placed p index
  new : points_of placed ≡ points_of cards ++ p ∷ [] → place_of cards p ≡ None → index ≡ length (points_of cards) → Placing cards placed p index

placing : (cards placed : List Card) (p : List Decimal) (index : ℕ) → IsPlaced cards placed p index → Placing cards placed p index
placing cards placed p index is = go (place_of cards p) refl
  where
    go : (o : Option ℕ) → place_of cards p ≡ o → Placing cards placed p index
    go (Some k) e =
        let same : placed ≡ cards = is.cards_are ∙ ap (λ o. if is_some o then cards else cards ++ blank p ∷ []) e in
        old (ap points_of same) (sym (ap (λ l. place_of l p) same) ∙ is.at)
    go None e =
        let more : placed ≡ cards ++ blank p ∷ [] = is.cards_are ∙ ap (λ o. if is_some o then cards else cards ++ blank p ∷ []) e in
        let here : place_of (cards ++ blank p ∷ []) p ≡ Some (length cards) = behind_none (λ (c : Card). same_point c.point p) cards (blank p) true (same_itself p) e in
        let same : Some index ≡ Some (length cards) = sym is.at ∙ ap (λ l. place_of l p) more ∙ here in
        new (ap points_of more ∙ map-append (λ (c : Card). c.point) cards (blank p ∷ [])) e ((let i : index ≡ length cards = cc in i) ∙ sym (length-map cards (λ (c : Card). c.point)))

-- all other points stand where they stood
other_points : (points more : List (List Decimal)) (p : List Decimal) (k : ℕ) → more ≡ points ++ p ∷ [] → (length points ≡ k → ⊥) → slice_get more k ≡ slice_get points k
other_points points more p k e other = ap (λ l. slice_get l k) e ∙ go (cases_lt k (length points))
  where
    go : (k < length points) ⊎ (length points ≤ k) → slice_get (points ++ p ∷ []) k ≡ slice_get points k
    go (inl l) = item_kept points p k l
    go (inr l) =
        let long = length-append points (p ∷ []) in
        slice_get_past (points ++ p ∷ []) k (omega (arith, other)) ∙ sym (slice_get_past points k l)

point_of_item : (cards : List Card) (k : ℕ) → slice_get (points_of cards) k ≡ option_map (λ (c : Card). c.point) (slice_get cards k)
point_of_item [] k = refl
point_of_item (c ∷ cards) zero = refl
point_of_item (c ∷ cards) (suc k) = point_of_item cards k

-- What was known of the first rows of the cards' points

abbrev AreFirsts : (rows : List Row) (points : List (List Decimal)) (firsts : List ℕ) → Type 0
AreFirsts rows points firsts = (k : ℕ) → k < length firsts → slice_get firsts k ≡ Some (first_row_of rows (slice_get points k))

abbrev row : List Decimal → List Decimal → Row
row p v = record { point = p; values = v }

-- a row of another point changes nothing
row_kept : (rows : List Row) (p v q : List Decimal) → same_point p q ≡ false → row_with (rows ++ row p v ∷ []) q ≡ row_with rows q
row_kept rows p v q apart = go (row_with rows q) refl
  where
    go : (o : Option ℕ) → row_with rows q ≡ o → row_with (rows ++ row p v ∷ []) q ≡ row_with rows q
    go None e = behind_none (λ (r : Row). same_point r.point q) rows (row p v) false apart e ∙ sym e
    go (Some k) e = place_kept (λ (r : Row). same_point r.point q) rows (row p v) k e ∙ sym e

-- the number that is known of the point that was placed
known : (rows : List Row) (cards placed : List Card) (firsts : List ℕ) (p : List Decimal) (index : ℕ) → IsPlaced cards placed p index → AreFirsts rows (points_of cards) firsts → index < length firsts →
    (place_of cards p ≡ None → row_with rows p ≡ None) → slice_get firsts index ≡ Some (number_of (row_with rows p))
known rows cards placed firsts p index is firsts_are within new_point = at (placing cards placed p index is)
  where
    there : slice_get (points_of placed) index ≡ Some p
    there = point_of_item placed index ∙ is.point

    at : Placing cards placed p index → slice_get firsts index ≡ Some (number_of (row_with rows p))
    at (old same e) = firsts_are index within ∙ ap (λ o. Some (first_row_of rows o)) (ap (λ l. slice_get l index) (sym same) ∙ there)
    at (new more none last) =
        firsts_are index within
        ∙ ap (λ o. Some (first_row_of rows o)) (slice_get_past (points_of cards) index (omega arith))
        ∙ ap (λ o. Some (number_of o)) (sym (new_point none))

-- the number of the first row with a point that gets this row
pub record IsTaken (rows : List Row) (p v : List Decimal) (taken : ℕ) : Type 0 where
  pub from : 1 ≤ taken
  pub first : position (λ (r : Row). same_point r.point p) (rows ++ record { point = p; values = v } ∷ []) ≡ Some (taken - 1)

is_taken : (rows : List Row) (p v : List Decimal) (known number taken : ℕ) → known ≡ number_of (row_with rows p) → number ≡ length rows + 1 →
    taken ≡ (if known == 0 then number else known) → IsTaken rows p v taken
is_taken rows p v known number taken k n t = go (row_with rows p) refl k
  where
    go : (o : Option ℕ) → row_with rows p ≡ o → known ≡ number_of o → IsTaken rows p v taken
    go None e k =
        let is : taken ≡ number = t ∙ ap (λ b. if b then number else known) (eq-eqb known 0 k) in
        record {
          from = omega arith;
          first = behind_none (λ (r : Row). same_point r.point p) rows (row p v) true (same_itself p) e ∙ ap Some (let m : length rows ≡ taken - 1 = omega arith in m);
        }
    go (Some j) e k =
        let is : taken ≡ known = t ∙ ap (λ b. if b then number else known) (ne_eqb known 0 (λ z. omega arith)) in
        record {
          from = omega arith;
          first = place_kept (λ (r : Row). same_point r.point p) rows (row p v) j e ∙ ap Some (let m : j ≡ taken - 1 = omega arith in m);
        }

pub taken_there : (rows : List Row) (cards placed : List Card) (firsts more : List ℕ) (p v : List Decimal) (index number taken : ℕ) → IsPlaced cards placed p index → AreFirsts rows (points_of cards) firsts →
    index < length firsts → (place_of cards p ≡ None → row_with rows p ≡ None) → number ≡ length rows + 1 → TakesNumber firsts more index number taken → IsTaken rows p v taken
taken_there rows cards placed firsts more p v index number taken is firsts_are within new_point n takes =
    is_taken rows p v (get_or firsts index 0) number taken
    (get_or_from_slice_get firsts index (number_of (row_with rows p)) 0 (known rows cards placed firsts p index is firsts_are within new_point)) n takes.taken_is

set_there : (xs : List ℕ) (i y : ℕ) → i < length xs → slice_get (slice_set xs i y) i ≡ Some y
set_there [] i y h = absurd (omega arith)
set_there (x ∷ xs) zero y h = refl
set_there (x ∷ xs) (suc i) y h = set_there xs i y (omega arith)

set_other : (xs : List ℕ) (i k y : ℕ) → (i ≡ k → ⊥) → slice_get (slice_set xs i y) k ≡ slice_get xs k
set_other [] i k y other = refl
set_other (x ∷ xs) zero zero y other = absurd (other refl)
set_other (x ∷ xs) zero (suc k) y other = refl
set_other (x ∷ xs) (suc i) zero y other = refl
set_other (x ∷ xs) (suc i) (suc k) y other = set_other xs i k y (λ e. other (ap suc e))

-- with the row, and with cards of the same points as those with the placed one
firsts_more : (rows : List Row) (cards placed after : List Card) (firsts : List ℕ) (p v : List Decimal) (index taken : ℕ) → IsPlaced cards placed p index → AreDistinct after → points_of after ≡ points_of placed →
    IsTaken rows p v taken → AreFirsts rows (points_of cards) firsts → AreFirsts (rows ++ row p v ∷ []) (points_of after) (slice_set firsts index taken)
firsts_more rows cards placed after firsts p v index taken is distinct same is_first firsts_are k within = go (cases_eq index k)
  where
    inside : k < length firsts
    inside = let l = long_set firsts index taken in omega arith

    there : slice_get (points_of after) index ≡ Some p
    there = ap (λ l. slice_get l index) same ∙ point_of_item placed index ∙ is.point

    -- the other points are where they were
    others : (index ≡ k → ⊥) → slice_get (points_of after) k ≡ slice_get (points_of cards) k
    others other = ap (λ l. slice_get l k) same ∙ by (placing cards placed p index is)
      where
        by : Placing cards placed p index → slice_get (points_of placed) k ≡ slice_get (points_of cards) k
        by (old e at) = ap (λ l. slice_get l k) e
        by (new e none last) = other_points (points_of cards) (points_of placed) p k e (λ m. other (last ∙ m))

    number : (index ≡ k → ⊥) → (o : Option (List Decimal)) → slice_get (points_of after) k ≡ o → first_row_of rows o ≡ first_row_of (rows ++ row p v ∷ []) o
    number other None e = refl
    number other (Some q) e =
        let c = card_with after index p there in
        let d = card_with after k q e in
        let apart : same_point p q ≡ false
        = ap (λ x. same_point x q) (sym c.point_is) ∙ ap (same_point c.card.point) (sym d.point_is) ∙ apart_at after index k c.card d.card distinct c.there d.there other in
        ap number_of (sym (row_kept rows p v q apart))

    go : (index ≡ k) ⊎ (index ≡ k → ⊥) → slice_get (slice_set firsts index taken) k ≡ Some (first_row_of (rows ++ row p v ∷ []) (slice_get (points_of after) k))
    go (inl e) =
        let from = is_first.from in
        let near = inside in
        subst (λ i. slice_get (slice_set firsts index taken) i ≡ Some (first_row_of (rows ++ row p v ∷ []) (slice_get (points_of after) i))) e
        (set_there firsts index taken (omega arith)
        ∙ ap Some ((let n : taken ≡ taken - 1 + 1 = omega arith in n) ∙ sym (ap (first_row_of (rows ++ row p v ∷ [])) there ∙ ap number_of is_first.first)))
    go (inr other) =
        set_other firsts index k taken other
        ∙ firsts_are k inside
        ∙ ap (λ o. Some (first_row_of rows o)) (sym (others other))
        ∙ ap Some (number other (slice_get (points_of after) k) refl)

-- a point that has no card has no row
carded_more : (rows : List Row) (cards placed after : List Card) (p v : List Decimal) (index : ℕ) → IsPlaced cards placed p index → points_of after ≡ points_of placed →
    ((q : List Decimal) → place_of cards q ≡ None → row_with rows q ≡ None) → (q : List Decimal) → place_of after q ≡ None → row_with (rows ++ row p v ∷ []) q ≡ None
carded_more rows cards placed after p v index is same carded q none = go (same_point p q) refl
  where
    none_placed : place_of placed q ≡ None
    none_placed = sym (same_places after placed q same) ∙ none

    none_before : Placing cards placed p index → place_of cards q ≡ None
    none_before (old e at) = sym (same_places placed cards q e) ∙ none_placed
    none_before (new e none_p last) = place_by_points cards q ∙ by (position f (points_of cards)) refl
      where
        f : List Decimal → Bool
        f = λ x. same_point x q

        by : (o : Option ℕ) → position f (points_of cards) ≡ o → position f (points_of cards) ≡ None
        by None h = h
        by (Some k) h = absurd (
            let a : position f (points_of placed) ≡ Some k = ap (position f) e ∙ place_kept f (points_of cards) p k h in
            let b : position f (points_of placed) ≡ None = sym (place_by_points placed q) ∙ none_placed in
            cc
            )

    go : (t : Bool) → same_point p q ≡ t → row_with (rows ++ row p v ∷ []) q ≡ None
    go true e = absurd (let a : Some index ≡ None = sym is.at ∙ place_alike placed p q e ∙ none_placed in cc)
    go false e = row_kept rows p v q e ∙ carded q (none_before (placing cards placed p index is))

-- An evaluation that begins

zeros : (n k : ℕ) → k < n → slice_get {X = ℕ} (replicate n 0) k ≡ Some 0
zeros zero k h = absurd (omega arith)
zeros (suc n) zero h = refl
zeros (suc n) (suc k) h = zeros n k (omega arith)

none_first : (o : Option (List Decimal)) → first_row_of [] o ≡ 0
none_first None = refl
none_first (Some p) = refl

-- without rows, with room for all rows
pub so_far_first : (study : Study) (book : BookState) (table : Table) (variables responses : ℕ) → book.variables ≡ length study.variables.labels → book.responses ≡ length study.responses.labels →
    study.limit ≤ book.spare → study.limit ≤ book.room → variables ≡ length study.variables.labels → responses ≡ length study.responses.labels →
    table.rows ≡ record { rows = []; variables = variables; responses = responses; spare = study.limit } →
    table.firsts.items ≡ replicate (length book.cards + book.spare) 0 → length table.point.items ≡ variables → length table.values.items ≡ responses → IsSoFar study book table
so_far_first study book table variables responses book_variables book_responses spare room n m rows firsts point values = record {
  variables = book_variables;
  responses = book_responses;
  spare = omega arith;
  room = omega arith;
  row_variables = ap (λ (r : RowsState). r.variables) rows ∙ n;
  row_responses = ap (λ (r : RowsState). r.responses) rows ∙ m;
  places = (let a = ap (λ (r : RowsState). r.spare) rows in let b = ap (λ (r : RowsState). length r.rows) rows in omega arith);
  widths = subst (λ (r : RowsState). HaveWidths study r.rows) (sym rows) (All-nil (HasWidths study));
  carded = subst (λ (r : RowsState). (p : List Decimal) → place_of book.cards p ≡ None → row_with r.rows p ≡ None) (sym rows) (λ p none. refl);
  long = (let c = ap length firsts ∙ length-replicate (length book.cards + book.spare) 0 in omega arith);
  firsts = λ k within.
      ap (λ l. slice_get l k) firsts
      ∙ zeros (length book.cards + book.spare) k (let c = ap length firsts ∙ length-replicate (length book.cards + book.spare) 0 in omega arith)
      ∙ ap Some (sym (none_first (slice_get (points_of book.cards) k)) ∙ sym (ap (λ (r : RowsState). first_row_of r.rows (slice_get (points_of book.cards) k)) rows));
  point = point ∙ n;
  values = values ∙ m;
}

-- The next point of an evaluation

pub index_within : (study : Study) (book : BookState) (table : Table) (placed : BookState) (p : List Decimal) (index : ℕ) → IsPlaced book.cards placed.cards p index → IsSoFar study book table →
    length placed.cards + placed.spare ≡ length book.cards + book.spare → index < length table.firsts.items
index_within study book table placed p index is was spare = let l = was.long in let n = place_within placed.cards p index is.at in omega arith

pub so_far_more : (study : Study) (book : BookState) (table : Table) (new_book : BookState) (after : Table) (placed : BookState) (p v : List Decimal) (index number taken : ℕ) → IsSoFar study book table →
    IsPlaced book.cards placed.cards p index → length placed.cards + placed.spare ≡ length book.cards + book.spare → placed.room ≡ book.room →
    placed.variables ≡ book.variables → placed.responses ≡ book.responses → SettlesBook placed new_book →
    number ≡ length table.rows.rows + 1 → TakesNumber table.firsts.items after.firsts.items index number taken →
    after.rows.rows ≡ table.rows.rows ++ record { point = p; values = v } ∷ [] → after.rows.spare + 1 ≡ table.rows.spare → after.rows.variables ≡ table.rows.variables → after.rows.responses ≡ table.rows.responses →
    length p ≡ length study.variables.labels → length v ≡ length study.responses.labels →
    length after.point.items ≡ length study.variables.labels → length after.values.items ≡ length study.responses.labels → IsSoFar study new_book after
so_far_more study book table new_book after placed p v index number taken was is spare room variables responses settles number_is takes rows row_spare row_variables row_responses wide few point values = record {
  variables = settles.variables ∙ variables ∙ was.variables;
  responses = settles.responses ∙ responses ∙ was.responses;
  spare = (let a = was.spare in let b = settles.spare in let c = at_most_one in let l = longer in omega arith);
  room = (let a = was.room in let b = settles.room in let l = longer in omega arith);
  row_variables = row_variables ∙ was.row_variables;
  row_responses = row_responses ∙ was.row_responses;
  places = (let a = was.places in let l = longer in omega arith);
  widths = subst (HaveWidths study) (sym rows) (All-append (HasWidths study) table.rows.rows (row p v ∷ []) was.widths (All-cons (HasWidths study) (row p v) [] (record { point = wide; values = few }) (All-nil (HasWidths study))));
  carded = subst (λ l. (q : List Decimal) → place_of new_book.cards q ≡ None → row_with l q ≡ None) (sym rows)
      (carded_more table.rows.rows book.cards placed.cards new_book.cards p v index is settles.points was.carded);
  long = (let a = was.long in let b = settles.spare in let c = same_length in let d = ap length takes.new_is in let e = long_set table.firsts.items index taken in omega arith);
  firsts = subst (λ l. AreFirsts l (points_of new_book.cards) after.firsts.items) (sym rows) (subst (AreFirsts (table.rows.rows ++ row p v ∷ []) (points_of new_book.cards)) (sym takes.new_is)
      (firsts_more table.rows.rows book.cards placed.cards new_book.cards table.firsts.items p v index taken is settles.book.distinct settles.points
      (taken_there table.rows.rows book.cards placed.cards table.firsts.items after.firsts.items p v index number taken is was.firsts within (was.carded p) number_is takes) was.firsts));
  point = point;
  values = values;
}
  where
    longer : length after.rows.rows ≡ length table.rows.rows + 1
    longer = ap length rows ∙ length-append table.rows.rows (row p v ∷ [])

    same_length : length new_book.cards ≡ length placed.cards
    same_length = sym (length-map new_book.cards (λ (c : Card). c.point)) ∙ ap length settles.points ∙ length-map placed.cards (λ (c : Card). c.point)

    at_most_one : length placed.cards ≤ length book.cards + 1
    at_most_one = by (placing book.cards placed.cards p index is)
      where
        a : length (points_of placed.cards) ≡ length placed.cards
        a = length-map placed.cards (λ (c : Card). c.point)

        b : length (points_of book.cards) ≡ length book.cards
        b = length-map book.cards (λ (c : Card). c.point)

        by : Placing book.cards placed.cards p index → length placed.cards ≤ length book.cards + 1
        by (old e at) = let l = ap length e in let long = a in let was_long = b in omega arith
        by (new e none last) = let long = a in let was_long = b in let l = ap length e ∙ length-append (points_of book.cards) (p ∷ []) in omega arith

    within : index < length table.firsts.items
    within = index_within study book table placed p index is was spare
