-- Which variable of a centered study is moved, and the point that it gives.
use Rattle.std.proofs.Common.{◌≡◌, ◌≢◌, inl, inr, ℕ, zero, suc, ◌+◌, ◌-◌, ◌*◌, ◌==◌, ◌<◌, ◌≤◌, Bool, true, false, List, [], ◌∷◌, length, map, zip, drop, replicate, get_or, set, ap, sym, ◌∙◌, refl, arith, nat_lt, if◌then◌else◌, ℤ, pos, ◌+ℤ◌, ◌*ℤ◌, ◌^◌, unsigned_abs, to_z, of_z}
use Rattle.std.specs.Prelude.{sum}
use Rattle.std.specs.List.{fold}
use Rattle.std.proofs.lemmas.Bool.{cases_lt}
use Rattle.std.proofs.lemmas.Grind.{common_steps}
use Rattle.std.proofs.lemmas.Grind.{get_or-set_at}
use Rattle.std.proofs.lemmas.Int.{ints}
use Rattle.std.proofs.Math.IntN.{zero-*ℤ}
use Rattle.std.proofs.lemmas.List.{get_or-map, length-map, length-set, drop_more, get_or-drop, get_or-set_other, ext_get_or, drop_all, drop-drop}
use Rattle.std.proofs.lemmas.Slice.Zip.{get_or-zip}
use mir.Syntax.{w128}
use Rattle.std.specs.List.{All}
use Rattle.dk_types.specs.Sound.{IsNumber}
use Rattle.dk_method.proofs.Quantities.{small_read, number_read}
use Rattle.dk_types.specs.Points.{around, moves, offset, offsets}
use Rattle.dk_method.specs.Moves.{IsMove}
use Rattle.dk_method.specs.declared.centered.Move.{Move}
use Rattle.dk_method.proofs.Formulas.{zip_long, zip_within}

-- no variable before this one is moved, and from it on the moves are those of what is left of the number
pub record IsLeft (counts : List ℕ) (k variable left : ℕ) : Type 0 where
  pub within : left < 2 * sum (drop variable counts)
  pub before : (j : ℕ) → j < variable → get_or (offsets counts k) j (pos 0) ≡ pos 0
  pub behind : drop variable (offsets counts k) ≡ offsets (drop variable counts) left

pub left_first : (counts : List ℕ) (k : ℕ) → k < 2 * sum counts → IsLeft counts k 0 k
left_first counts k within = record { within = within; before = λ j h. absurd (omega arith); behind = refl }

pub skipped : (count k : ℕ) (counts : List ℕ) → 2 * count ≤ k → offsets (count ∷ counts) k ≡ pos 0 ∷ offsets counts (k - 2 * count)
skipped count k counts past = let t : nat_lt k (2 * count) ≡ false = grind (arith, common_steps) in rw t refl

pub found : (count k : ℕ) (counts : List ℕ) → k < 2 * count → offsets (count ∷ counts) k ≡ offset count k ∷ replicate (length counts) (pos 0)
found count k counts within = let t : nat_lt k (2 * count) ≡ true = grind (arith, common_steps) in rw t refl

-- the number that stands at a place, and those behind it
at_place : (xs ys : List ℤ) (place : ℕ) (x : ℤ) → drop place xs ≡ x ∷ ys → (j : ℕ) → get_or xs (place + j) (pos 0) ≡ get_or (x ∷ ys) j (pos 0)
at_place xs ys place x e j = sym (get_or-drop place xs j (pos 0)) ∙ ap (λ l. get_or l j (pos 0)) e

drop_next : (xs ys : List ℤ) (place : ℕ) (x : ℤ) → drop place xs ≡ x ∷ ys → drop (place + 1) xs ≡ ys
drop_next xs ys place x e = sym (drop-drop 1 place xs) ∙ ap (drop 1) e

-- the first of some numbers is part of their sum
sum_from : (a : ℕ) (ns : List ℕ) → fold ◌+◌ a ns ≡ a + sum ns
sum_from a [] = omega arith
sum_from a (n ∷ ns) = let x = sum_from (a + n) ns in let y = sum_from (0 + n) ns in omega arith

pub sum_first : (n : ℕ) (ns : List ℕ) → sum (n ∷ ns) ≡ n + sum ns
sum_first n ns = let x = sum_from (0 + n) ns in omega arith

pub left_more : (counts : List ℕ) (k variable left : ℕ) → variable < length counts → 2 * get_or counts variable 0 ≤ left → IsLeft counts k variable left →
    IsLeft counts k (variable + 1) (left - 2 * get_or counts variable 0)
left_more counts k variable left inside past was =
    let count : ℕ = get_or counts variable 0 in
    let d : drop variable counts ≡ count ∷ drop (variable + 1) counts = drop_more counts variable 0 inside in
    let s : sum (drop variable counts) ≡ count + sum (drop (variable + 1) counts) = ap sum d ∙ sum_first count (drop (variable + 1) counts) in
    let b : drop variable (offsets counts k) ≡ pos 0 ∷ offsets (drop (variable + 1) counts) (left - 2 * count)
    = was.behind ∙ ap (λ l. offsets l left) d ∙ skipped count left (drop (variable + 1) counts) past in
    let w = was.within in
    record {
      within = omega arith;
      before = λ j h. elim (cases_lt j variable) [
        | inl l ↦ was.before j l
        | inr l ↦ (let e : j ≡ variable + 0 = omega arith in ap (λ n. get_or (offsets counts k) n (pos 0)) e ∙ at_place (offsets counts k) _ variable (pos 0) b 0)
      ];
      behind = drop_next (offsets counts k) _ variable (pos 0) b;
    }

pub none_left : (counts : List ℕ) (k variable left : ℕ) → length counts ≤ variable → IsLeft counts k variable left → ⊥
none_left counts k variable left all was =
    let d : drop variable counts ≡ [] = drop_all variable counts all in
    let s : sum (drop variable counts) ≡ 0 = ap sum d in
    let w = was.within in
    omega arith

pub no_move : (n j : ℕ) → get_or (replicate n (pos 0)) j (pos 0) ≡ pos 0
no_move zero j = refl
no_move (suc n) zero = refl
no_move (suc n) (suc j) = no_move n j

pub moved_here : (counts : List ℕ) (k variable left : ℕ) (move : Move) → variable < length counts → left < 2 * get_or counts variable 0 → IsLeft counts k variable left →
    move.variable ≡ variable → move.offset ≡ offset (get_or counts variable 0) left → unsigned_abs move.offset ≤ 10000 → IsMove counts k move
moved_here counts k variable left move inside within was variable_is offset_is few =
    let count : ℕ = get_or counts variable 0 in
    let d : drop variable counts ≡ count ∷ drop (variable + 1) counts = drop_more counts variable 0 inside in
    let b : drop variable (offsets counts k) ≡ offset count left ∷ replicate (length (drop (variable + 1) counts)) (pos 0)
    = was.behind ∙ ap (λ l. offsets l left) d ∙ found count left (drop (variable + 1) counts) within in
    record {
      variable = rw variable_is inside;
      few = few;
      alone = λ j h. elim (cases_lt j variable) [
        | inl l ↦ (let t : (j == move.variable) ≡ false = grind (arith, common_steps) in rw t (was.before j l))
        | inr l ↦ from j (j - variable) (omega arith) b
      ];
    }
  where
    from : (j n : ℕ) → j ≡ variable + n → drop variable (offsets counts k) ≡ offset (get_or counts variable 0) left ∷ replicate (length (drop (variable + 1) counts)) (pos 0) →
        get_or (offsets counts k) j (pos 0) ≡ (if j == move.variable then move.offset else pos 0)
    from j zero e b =
        let t : (j == move.variable) ≡ true = grind (arith, common_steps) in
        rw t (ap (λ m. get_or (offsets counts k) m (pos 0)) e ∙ at_place (offsets counts k) _ variable (offset (get_or counts variable 0) left) b 0 ∙ sym offset_is)
    from j (suc n) e b =
        let t : (j == move.variable) ≡ false = grind (arith, common_steps) in
        rw t (ap (λ m. get_or (offsets counts k) m (pos 0)) e ∙ at_place (offsets counts k) _ variable (offset (get_or counts variable 0) left) b (suc n) ∙ no_move (length (drop (variable + 1) counts)) n)

pub zeros_long : (n : ℕ) → length (replicate n (pos 0)) ≡ n
zeros_long zero = refl
zeros_long (suc n) = ap suc (zeros_long n)

offsets_long : (counts : List ℕ) (k : ℕ) → length (offsets counts k) ≡ length counts
offsets_long [] k = refl
offsets_long (count ∷ counts) k = at (nat_lt k (2 * count)) (ap suc (offsets_long counts (k - 2 * count)))
  where
    at : (b : Bool) → length (pos 0 ∷ offsets counts (k - 2 * count)) ≡ suc (length counts) →
        length (if b then offset count k ∷ replicate (length counts) (pos 0) else pos 0 ∷ offsets counts (k - 2 * count)) ≡ suc (length counts)
    at true e = ap suc (zeros_long (length counts))
    at false e = e

-- the numbers of a point, where the moves are known
abbrev pub moved_to : (centre step moved : List ℤ) → List ℤ
moved_to centre step moved = map (λ c. c.0 +ℤ (c.1.0 *ℤ c.1.1)) (zip centre (zip moved step))

moved_at : (centre step moved : List ℤ) (j : ℕ) → j < length centre → length step ≡ length centre → length moved ≡ length centre →
    get_or (moved_to centre step moved) j (pos 0) ≡ get_or centre j (pos 0) +ℤ (get_or moved j (pos 0) *ℤ get_or step j (pos 0))
moved_at centre step moved j inside along counted =
    let z = zip_long moved step (along ∙ sym counted) in
    get_or-map (λ c. c.0 +ℤ (c.1.0 *ℤ c.1.1)) (zip centre (zip moved step)) j (pos 0, (pos 0, pos 0)) (pos 0) (zip_within centre (zip moved step) j (z ∙ counted) inside)
    ∙ ap (λ c. c.0 +ℤ (c.1.0 *ℤ c.1.1)) (get_or-zip centre (zip moved step) j (pos 0, (pos 0, pos 0)) inside (omega arith)
    ∙ ap (λ p. (get_or centre j (pos 0), p)) (get_or-zip moved step j (pos 0, pos 0) (omega arith) (omega arith)))

moved_long : (centre step moved : List ℤ) → length step ≡ length centre → length moved ≡ length centre → length (moved_to centre step moved) ≡ length centre
moved_long centre step moved along counted =
    let z = zip_long moved step (along ∙ sym counted) in
    length-map (zip centre (zip moved step)) (λ c. c.0 +ℤ (c.1.0 *ℤ c.1.1)) ∙ zip_long centre (zip moved step) (z ∙ counted)

unmoved : (a m s : ℤ) → m ≡ pos 0 → a +ℤ (m *ℤ s) ≡ a
unmoved a m s none = rw none (let z : pos 0 *ℤ s ≡ pos 0 = zero-*ℤ s in omega (arith, ints))

pub around_centre : (i : ℕ) (centre step : List ℤ) (counts : List ℕ) → i ≡ 0 → length step ≡ length centre → length counts ≡ length centre → centre ≡ around i centre step counts
around_centre i centre step counts first along counted =
    let none : List ℤ = replicate (length counts) (pos 0) in
    let m : moves counts i ≡ none = rw first refl in
    let l : length none ≡ length centre = zeros_long (length counts) ∙ counted in
    ext_get_or (pos 0) centre (moved_to centre step none) (sym (moved_long centre step none along l))
    (λ j h. sym (moved_at centre step none j h along l ∙ unmoved (get_or centre j (pos 0)) _ (get_or step j (pos 0)) (no_move (length counts) j)))
    ∙ sym (ap (moved_to centre step) m)

pub around_moved : (i : ℕ) (centre step : List ℤ) (counts : List ℕ) (move : Move) → 0 < i → IsMove counts (i - 1) move → length step ≡ length centre → length counts ≡ length centre →
    set centre move.variable (get_or centre move.variable (pos 0) +ℤ (move.offset *ℤ get_or step move.variable (pos 0))) ≡ around i centre step counts
around_moved i centre step counts move some is along counted =
    let v : ℕ = move.variable in
    let new : ℤ = get_or centre v (pos 0) +ℤ (move.offset *ℤ get_or step v (pos 0)) in
    let m : moves counts i ≡ offsets counts (i - 1) = (let t : (i == 0) ≡ false = grind (arith, common_steps) in rw t refl) in
    let l : length (offsets counts (i - 1)) ≡ length centre = offsets_long counts (i - 1) ∙ counted in
    let inside = is.variable in
    ext_get_or (pos 0) (set centre v new) (moved_to centre step (offsets counts (i - 1))) (length-set centre v new ∙ sym (moved_long centre step (offsets counts (i - 1)) along l))
    (λ j h.
    let long = length-set centre v new in
    let within : j < length centre = omega arith in
    at j within (moved_at centre step (offsets counts (i - 1)) j within along l) (is.alone j (omega arith)) (j == v) refl (omega arith))
    ∙ sym (ap (moved_to centre step) m)
  where
    at : (j : ℕ) → j < length centre → get_or (moved_to centre step (offsets counts (i - 1))) j (pos 0) ≡ get_or centre j (pos 0) +ℤ (get_or (offsets counts (i - 1)) j (pos 0) *ℤ get_or step j (pos 0)) →
        get_or (offsets counts (i - 1)) j (pos 0) ≡ (if j == move.variable then move.offset else pos 0) →
        (b : Bool) → (j == move.variable) ≡ b → move.variable < length centre →
        get_or (set centre move.variable (get_or centre move.variable (pos 0) +ℤ (move.offset *ℤ get_or step move.variable (pos 0)))) j (pos 0) ≡ get_or (moved_to centre step (offsets counts (i - 1))) j (pos 0)
    at j within moved alone true e inside =
        let same : j ≡ move.variable = grind (arith, common_steps) in
        let o : get_or (offsets counts (i - 1)) j (pos 0) ≡ move.offset = alone ∙ rw e refl in
        get_or-set_at centre move.variable j _ (pos 0) same inside
        ∙ ap (λ n. get_or centre n (pos 0) +ℤ (move.offset *ℤ get_or step n (pos 0))) (sym same)
        ∙ ap (λ z. get_or centre j (pos 0) +ℤ (z *ℤ get_or step j (pos 0))) (sym o)
        ∙ sym moved
    at j within moved alone false e inside =
        let other : j ≢ move.variable = (λ h. let t : (j == move.variable) ≡ true = grind (arith, common_steps) in cc) in
        let o : get_or (offsets counts (i - 1)) j (pos 0) ≡ pos 0 = alone ∙ rw e refl in
        get_or-set_other centre move.variable j _ (pos 0) other
        ∙ sym (unmoved (get_or centre j (pos 0)) _ (get_or step j (pos 0)) o)
        ∙ sym moved

-- a number that was computed of the centre and the step at the moved variable's place
pub move_made : (e : ℤ) (centre step : List ℤ) (v : ℕ) (offset r : ℤ) → All (IsNumber e) centre → All (IsNumber e) step → v < length centre → length step ≡ length centre →
    unsigned_abs offset ≤ 10000 → unsigned_abs r < 10 ^ 34 →
    r ≡ to_z w128 (of_z w128 (get_or centre v (pos 0))) +ℤ (to_z w128 (of_z w128 offset) *ℤ to_z w128 (of_z w128 (get_or step v (pos 0)))) →
    to_z w128 (of_z w128 r) ≡ get_or centre v (pos 0) +ℤ (offset *ℤ get_or step v (pos 0))
move_made e centre step v offset r are_centre are_step within along few small is =
    small_read r (omega arith) ∙ is
    ∙ rw (number_read e centre v are_centre within, number_read e step v are_step (omega arith), small_read offset (omega arith)) refl
