-- What holds of the rows of a compass search that its iterations so far have used, and one iteration more.
use Rattle.std.proofs.Common.{◌≡◌, ◌⊎◌, inl, inr, ℕ, zero, suc, ◌+◌, ◌-◌, ◌*◌, ◌<◌, ◌≤◌, Bool, true, false, List, [], ◌∷◌, length, get_or, Option, Some, None, option_map, refl, sym, ap, subst, ◌∙◌, arith, ℤ, pos, nat_lt, if◌then◌else◌}
use Rattle.std.specs.Prelude.{int_lt, int_div, slice_get, IsTrue}
use Rattle.std.proofs.lemmas.Bool.{cases_lt}
use Rattle.std.proofs.lemmas.Grind.{common_steps}
use Rattle.std.proofs.lemmas.List.{length-map, length-set, get_or-take, get_or-drop}
use Rattle.std.proofs.lemmas.List.Quantifiers.{position-Some}
use Rattle.std.proofs.lemmas.Option.{slice_get-get_or, slice_get-map, get_or_from_slice_get}
use Rattle.dk_num.specs.Decimal.{Decimal}
use Rattle.dk_types.specs.declared.study.Study.{Study}
use Rattle.dk_types.specs.declared.rows.Row.{Row}
use Rattle.dk_types.specs.Best.{is_below}
use Rattle.dk_types.specs.Search.{poll_at, keeps_bounds, polls, Iterate, contracted, first_least, moved_or_contracted, iterated}
use Rattle.dk_types.specs.Planned.{values_in}
use Rattle.dk_types.proofs.Below.{not_below_itself, below_along, not_both_below}
use Rattle.dk_method.specs.Searches.{decimals, halved, IsDirection, IsPoll}
use Rattle.dk_method.proofs.LeastPoll.{AreSome, IsFirstLeastOf, none_least, is_first_least, none_below}
use Rattle.dk_method.proofs.Polled.{IsIn, IsPollOf, poll_of, poll_in}
use Rattle.dk_method.proofs.Turning.{batch, batch_long}

-- each row has a value
abbrev pub HaveSome : List Row → Type 0
HaveSome rows = (i : ℕ) (row : Row) → slice_get rows i ≡ Some row → 0 < length row.values

-- the row of the iterate
pub record IsHere (study : Study) (rows : List Row) (count : ℕ) (at : Iterate) : Type 0 where
  pub place : ℕ
  pub before : place < count
  pub from : Row
  pub stands : slice_get rows place ≡ Some from
  pub point_is : from.point ≡ decimals study at.x
  pub values_are : from.values ≡ at.values

-- so many rows are polls one behind the other
pub record AreSteps (study : Study) (delta : ℤ) (rows : List Row) (count : ℕ) (at : Iterate) : Type 0 where
  pub halvings : ℕ → ℕ
  pub never_less : (i j : ℕ) → i ≤ j → halvings i ≤ halvings j
  pub now : ℕ
  pub later : (i : ℕ) → count ≤ i → halvings i ≡ now
  pub step : at.delta ≡ halved now delta
  pub each : (i : ℕ) (row : Row) → 1 ≤ i → i < count → slice_get rows i ≡ Some row → IsPoll study rows (halved (halvings i) delta) i row

-- this point has a row, whose values aren't below these
pub record IsAround (study : Study) (rows : List Row) (values : List Decimal) (q : List ℤ) : Type 0 where
  pub place : ℕ
  pub row : Row
  pub stands : slice_get rows place ≡ Some row
  pub is : row.point ≡ decimals study q
  pub not_below : is_below row.values values ≡ false

-- the last iteration contracted: no poll was below the iterate
pub record HasContracted (study : Study) (threshold : ℤ) (rows : List Row) (at : Iterate) : Type 0 where
  pub step : ℤ
  pub half : at.delta ≡ int_div step (pos 2)
  pub long : int_lt step threshold ≡ false
  pub around : (direction : ℕ) → IsDirection study direction → IsTrue (keeps_bounds study.variables (poll_at at.x step direction)) →
      IsAround study rows at.values (poll_at at.x step direction)

-- how the last iteration ended: there was none; it moved, by a step that is long enough; or it contracted
abbrev pub Last : Study → (delta threshold : ℤ) → List Row → ℕ → Iterate → Type 0
Last study delta threshold rows count at = ((at.delta ≡ delta) × (count ≡ 1)) ⊎ ((int_lt at.delta threshold ≡ false) ⊎ HasContracted study threshold rows at)

-- the iterate is the first least one of so many rows
pub record IsBestSoFar (study : Study) (delta threshold : ℤ) (rows : List Row) (count : ℕ) (at : Iterate) (place : ℕ) : Type 0 where
  pub least : (k : ℕ) (row : Row) → k < count → slice_get rows k ≡ Some row → is_below row.values at.values ≡ false
  pub first : (k : ℕ) (row : Row) → k < place → slice_get rows k ≡ Some row → is_below at.values row.values ≡ true
  pub last : Last study delta threshold rows count at

pub record Trail (study : Study) (delta threshold : ℤ) (rows : List Row) (count : ℕ) (at : Iterate) : Type 0 where
  pub some : 1 ≤ count
  pub within : count ≤ length rows
  pub long : length at.x ≡ length study.variables.labels
  pub here : IsHere study rows count at
  pub steps : AreSteps study delta rows count at
  pub best : HaveSome rows → IsBestSoFar study delta threshold rows count at here.place

-- Rows

pub record HasRow (rows : List Row) (i : ℕ) : Type 0 where
  pub row : Row
  pub stands : slice_get rows i ≡ Some row

pub has_row : (rows : List Row) (i : ℕ) → i < length rows → HasRow rows i
has_row rows i within = let none : Row = record { point = []; values = [] } in record { row = get_or rows i none; stands = slice_get-get_or rows i none within }

-- rows before a count, or behind it
abbrev Before : ℕ → ℕ → Type 0
Before count i = (i < count) ⊎ ((j : ℕ) × (i ≡ count + j))

before_or : (count i : ℕ) → Before count i
before_or count i = elim (cases_lt i count) [ inl l ↦ inl l | inr l ↦ inr (i - count, (let e : i ≡ count + (i - count) = omega arith in e)) ]

-- numbers up to a place, and one number from there on
abbrev until : (ℕ → ℕ) → (place from_there i : ℕ) → ℕ
until numbers place from_there i = if nat_lt i place then numbers i else from_there

until_before : (numbers : ℕ → ℕ) (place from_there i : ℕ) → i < place → until numbers place from_there i ≡ numbers i
until_before numbers place from_there i l = let t : nat_lt i place ≡ true = grind (arith, common_steps) in ap (λ (b : Bool). if b then numbers i else from_there) t

until_behind : (numbers : ℕ → ℕ) (place from_there i : ℕ) → place ≤ i → until numbers place from_there i ≡ from_there
until_behind numbers place from_there i l = let t : nat_lt i place ≡ false = grind (arith, common_steps) in ap (λ (b : Bool). if b then numbers i else from_there) t

-- the first row
pub trail_first : (study : Study) (delta threshold : ℤ) (row : Row) (others : List Row) → row.point ≡ decimals study study.variables.initial →
    length study.variables.initial ≡ length study.variables.labels →
    Trail study delta threshold (row ∷ others) 1 (record { x = study.variables.initial; values = row.values; delta = delta })
trail_first study delta threshold row others at long = record {
  some = omega arith;
  within = omega arith;
  long = long;
  here = record { place = 0; before = omega arith; from = row; stands = refl; point_is = at; values_are = refl };
  steps = record {
    halvings = λ i. 0;
    never_less = λ i j l. omega arith;
    now = 0;
    later = λ i l. refl;
    step = refl;
    each = λ i other some few h. absurd (omega arith);
  };
  best = λ have. record {
    least = alone;
    first = λ k other l h. absurd (omega arith);
    last = inl (refl, refl);
  };
}
  where
    alone : (k : ℕ) (other : Row) → k < 1 → slice_get (row ∷ others) k ≡ Some other → is_below other.values row.values ≡ false
    alone zero other l h = let same : row ≡ other = cc in ap (λ (r : Row). is_below r.values row.values) (sym same) ∙ not_below_itself row.values
    alone (suc k) other l h = absurd (omega arith)

module _ (study : Study) (delta threshold : ℤ) (rows : List Row) (count : ℕ) (at : Iterate) (was : Trail study delta threshold rows count at) where
  -- the rows behind those so far are the iteration's polls, as far as they go
  abbrev pub ArePolled : Type 0
  ArePolled = (j : ℕ) (row : Row) → j < length (polls study.variables at.x at.delta) → slice_get rows (count + j) ≡ Some row → row.point ≡ decimals study (get_or (polls study.variables at.x at.delta) j [])

  module _ (polled : ArePolled) where
    poll_row : (j : ℕ) (row : Row) → j < length (polls study.variables at.x at.delta) → slice_get rows (count + j) ≡ Some row →
        IsPoll study rows (halved (was.steps.halvings (count + j)) delta) (count + j) row
    poll_row j row inside h =
        let k : IsPollOf study.variables at.x at.delta (get_or (polls study.variables at.x at.delta) j []) = poll_of study.variables at.x at.delta j inside in
        let step : at.delta ≡ halved (was.steps.halvings (count + j)) delta = was.steps.step ∙ ap (λ n. halved n delta) (sym (was.steps.later (count + j) (omega arith))) in
        let one : IsPoll study rows at.delta (count + j) row = record {
          earlier = was.here.place;
          before = (let b = was.here.before in omega arith);
          from = was.here.from;
          stands = was.here.stands;
          x = at.x;
          from_is = was.here.point_is;
          direction = k.direction;
          among = subst (λ (n : ℕ). k.direction < 2 * n) was.long k.among;
          is = polled j row inside h ∙ ap (decimals study) k.is;
          keeps = k.keeps;
        } in
        subst (λ (d : ℤ). IsPoll study rows d (count + j) row) step one

    -- so they are steps too
    pub steps_more : (i : ℕ) (row : Row) → 1 ≤ i → i < count + length (polls study.variables at.x at.delta) → slice_get rows i ≡ Some row →
        IsPoll study rows (halved (was.steps.halvings i) delta) i row
    steps_more i row some inside h = by (before_or count i)
      where
        by : Before count i → IsPoll study rows (halved (was.steps.halvings i) delta) i row
        by (inl l) = was.steps.each i row some l h
        by (inr l) =
            let is = l.1 in
            subst (λ (n : ℕ). IsPoll study rows (halved (was.steps.halvings n) delta) n row) (sym is)
            (poll_row l.0 row (omega arith) (ap (slice_get rows) (sym is) ∙ h))

    module _ (within : count + length (polls study.variables at.x at.delta) ≤ length rows) (high : int_lt at.delta threshold ≡ false) where
      abbrev news : List (List Decimal)
      news = batch (values_in rows) count (length (polls study.variables at.x at.delta))

      news_long : length news ≡ length (polls study.variables at.x at.delta)
      news_long = let l = length-map rows (λ (r : Row). r.values) in batch_long (values_in rows) count (length (polls study.variables at.x at.delta)) (omega arith)

      news_at : (j : ℕ) (row : Row) → j < length (polls study.variables at.x at.delta) → slice_get rows (count + j) ≡ Some row → get_or news j [] ≡ row.values
      news_at j row inside h =
          get_or-take (length (polls study.variables at.x at.delta)) _ j [] inside
          ∙ get_or-drop count (values_in rows) j []
          ∙ get_or_from_slice_get (values_in rows) (count + j) row.values [] (slice_get-map (λ (r : Row). r.values) rows (count + j) ∙ ap (option_map (λ (r : Row). r.values)) h)

      news_some : HaveSome rows → AreSome news
      news_some have j inside =
          let l = news_long in
          let k = has_row rows (count + j) (omega arith) in
          let e = ap length (news_at j k.row (omega arith) k.stands) in
          let some = have (count + j) k.row k.stands in
          omega arith

      -- no poll is below the iterate
      abbrev NoneBelow : Type 0
      NoneBelow = (j : ℕ) → j < length news → is_below (get_or news j []) at.values ≡ false

      contracted_around : NoneBelow → HasContracted study threshold rows (contracted at)
      contracted_around none = record { step = at.delta; half = refl; long = high; around = around }
        where
          around : (direction : ℕ) → IsDirection study direction → IsTrue (keeps_bounds study.variables (poll_at at.x at.delta direction)) →
              IsAround study rows at.values (poll_at at.x at.delta direction)
          around direction among keeps =
              let long = was.long in
              let k : IsIn (polls study.variables at.x at.delta) [] (poll_at at.x at.delta direction) = poll_in study.variables at.x at.delta direction (omega arith) keeps in
              let inside = k.within in
              let n = news_long in
              let r = has_row rows (count + k.place) (omega arith) in
              record {
                place = count + k.place;
                row = r.row;
                stands = r.stands;
                is = polled k.place r.row k.within r.stands ∙ ap (decimals study) k.is;
                not_below = ap (λ (v : List Decimal). is_below v at.values) (sym (news_at k.place r.row k.within r.stands)) ∙ none k.place (omega arith);
              }

      -- an iteration that contracts
      trail_contracted : (HaveSome rows → NoneBelow) → Trail study delta threshold rows (count + length (polls study.variables at.x at.delta)) (contracted at)
      trail_contracted none = record {
        some = (let s = was.some in omega arith);
        within = within;
        long = was.long;
        here = record {
          place = was.here.place;
          before = (let b = was.here.before in omega arith);
          from = was.here.from;
          stands = was.here.stands;
          point_is = was.here.point_is;
          values_are = was.here.values_are;
        };
        steps = record {
          halvings = halvings;
          never_less = never_less;
          now = suc was.steps.now;
          later = behind;
          step = ap (λ (d : ℤ). int_div d (pos 2)) was.steps.step;
          each = λ i row some inside h. subst (λ (n : ℕ). IsPoll study rows (halved n delta) i row) (sym (so_far i inside)) (steps_more i row some inside h);
        };
        best = λ have. record {
          least = λ k row inside h. least have k row h (before_or count k) inside;
          first = (was.best have).first;
          last = inr (inr (contracted_around (none have)));
        };
      }
        where
          halvings : ℕ → ℕ
          halvings i = until was.steps.halvings (count + length (polls study.variables at.x at.delta)) (suc was.steps.now) i

          so_far : (i : ℕ) → i < count + length (polls study.variables at.x at.delta) → halvings i ≡ was.steps.halvings i
          so_far i l = until_before was.steps.halvings (count + length (polls study.variables at.x at.delta)) (suc was.steps.now) i l

          behind : (i : ℕ) → count + length (polls study.variables at.x at.delta) ≤ i → halvings i ≡ suc was.steps.now
          behind i l = until_behind was.steps.halvings (count + length (polls study.variables at.x at.delta)) (suc was.steps.now) i l

          never_less : (i j : ℕ) → i ≤ j → halvings i ≤ halvings j
          never_less i j l = by (cases_lt i (count + length (polls study.variables at.x at.delta))) (cases_lt j (count + length (polls study.variables at.x at.delta)))
            where
              by : (i < count + length (polls study.variables at.x at.delta)) ⊎ (count + length (polls study.variables at.x at.delta) ≤ i) →
                  (j < count + length (polls study.variables at.x at.delta)) ⊎ (count + length (polls study.variables at.x at.delta) ≤ j) → halvings i ≤ halvings j
              by (inl a) (inl b) = let e = so_far i a in let f = so_far j b in let m = was.steps.never_less i j l in omega arith
              by (inl a) (inr b) =
                  let e = so_far i a in let f = behind j b in let m = was.steps.never_less i (i + count) (omega arith) in let n = was.steps.later (i + count) (omega arith) in omega arith
              by (inr a) (inl b) = absurd (omega arith)
              by (inr a) (inr b) = let e = behind i a in let f = behind j b in omega arith

          least : HaveSome rows → (k : ℕ) (row : Row) → slice_get rows k ≡ Some row → Before count k → k < count + length (polls study.variables at.x at.delta) → is_below row.values at.values ≡ false
          least have k row h (inl l) inside = (was.best have).least k row l h
          least have k row h (inr l) inside =
              let is = l.1 in
              let n = news_long in
              ap (λ (v : List Decimal). is_below v at.values) (sym (news_at l.0 row (omega arith) (ap (slice_get rows) (sym is) ∙ h)))
              ∙ none have l.0 (omega arith)

      -- an iteration that moves to the poll at this place
      trail_moved : (i : ℕ) → i < length news → is_below (get_or news i []) at.values ≡ true → (AreSome news → IsFirstLeastOf news i) →
          Trail study delta threshold rows (count + length (polls study.variables at.x at.delta)) (record { x = get_or (polls study.variables at.x at.delta) i []; values = get_or news i []; delta = at.delta })
      trail_moved i inside below chosen =
          let n = news_long in
          let i_made : i < length (polls study.variables at.x at.delta) = omega arith in
          let r : HasRow rows (count + i) = has_row rows (count + i) (omega arith) in
          let k : IsPollOf study.variables at.x at.delta (get_or (polls study.variables at.x at.delta) i []) = poll_of study.variables at.x at.delta i i_made in
          record {
            some = (let s = was.some in omega arith);
            within = within;
            long = ap length k.is ∙ length-set at.x _ _ ∙ was.long;
            here = record {
              place = count + i;
              before = omega arith;
              from = r.row;
              stands = r.stands;
              point_is = polled i r.row i_made r.stands;
              values_are = sym (news_at i r.row i_made r.stands);
            };
            steps = record {
              halvings = was.steps.halvings;
              never_less = was.steps.never_less;
              now = was.steps.now;
              later = λ j l. was.steps.later j (omega arith);
              step = was.steps.step;
              each = steps_more;
            };
            best = λ have. record {
              least = λ j row l h. least have j row h (before_or count j) l;
              first = λ j row l h. first have j row h (before_or count j) l;
              last = inr (inl high);
            };
          }
        where
          -- a row before is above the new iterate
          above : HaveSome rows → (j : ℕ) (row : Row) → j < count → slice_get rows j ≡ Some row → is_below (get_or news i []) row.values ≡ true
          above have j row l h = below_along (get_or news i []) at.values row.values (have j row h) below ((was.best have).least j row l h)

          least : HaveSome rows → (j : ℕ) (row : Row) → slice_get rows j ≡ Some row → Before count j → j < count + length (polls study.variables at.x at.delta) → is_below row.values (get_or news i []) ≡ false
          least have j row h (inl l) within_made = not_both_below (get_or news i []) row.values (above have j row l h)
          least have j row h (inr l) within_made =
              let is = l.1 in
              let n = news_long in
              ap (λ (v : List Decimal). is_below v (get_or news i [])) (sym (news_at l.0 row (omega arith) (ap (slice_get rows) (sym is) ∙ h)))
              ∙ (chosen (news_some have)).is.least l.0 (omega arith)

          first : HaveSome rows → (j : ℕ) (row : Row) → slice_get rows j ≡ Some row → Before count j → j < count + i → is_below (get_or news i []) row.values ≡ true
          first have j row h (inl l) before = above have j row l h
          first have j row h (inr l) before =
              let is = l.1 in
              let n = news_long in
              ap (is_below (get_or news i [])) (sym (news_at l.0 row (omega arith) (ap (slice_get rows) (sym is) ∙ h)))
              ∙ (chosen (news_some have)).first l.0 (omega arith)

      -- an iteration more
      pub trail_more : Trail study delta threshold rows (count + length (polls study.variables at.x at.delta)) (iterated at (polls study.variables at.x at.delta) news)
      trail_more = by (first_least news) refl
        where
          turned : (i : ℕ) → first_least news ≡ Some i → (b : Bool) → is_below (get_or news i []) at.values ≡ b →
              Trail study delta threshold rows (count + length (polls study.variables at.x at.delta))
              (if b then record { x = get_or (polls study.variables at.x at.delta) i []; values = get_or news i []; delta = at.delta } else contracted at)
          turned i e true below = trail_moved i (position-Some _ news i [] e).0 below (λ some. is_first_least news i some e)
          turned i e false below = trail_contracted (λ have. none_below news i at.values (news_some have) (is_first_least news i (news_some have) e).is below)

          by : (o : Option ℕ) → first_least news ≡ o → Trail study delta threshold rows (count + length (polls study.variables at.x at.delta)) (moved_or_contracted at (polls study.variables at.x at.delta) news o)
          by None e = trail_contracted (λ have j inside. absurd (let none = ap length (none_least news (news_some have) e) in omega arith))
          by (Some i) e = turned i e (is_below (get_or news i []) at.values) refl
