-- Turns of a compass search.
use Rattle.std.proofs.Common.{◌≡◌, ◌⊎◌, inl, inr, ℕ, zero, suc, ◌+◌, ◌-◌, ◌≤◌, Bool, true, false, List, [], ◌∷◌, ◌++◌, length, take, drop, refl, sym, ap, ◌∙◌, arith, ℤ, nat_lt, if◌then◌else◌, length-append}
use Rattle.std.specs.Prelude.{int_lt}
use Rattle.std.proofs.lemmas.Grind.{common_steps}
use Rattle.std.proofs.lemmas.List.{length-drop}
use Rattle.dk_num.specs.Decimal.{Decimal}
use Rattle.dk_types.specs.declared.study.Variables.{Variables}
use Rattle.dk_types.specs.declared.study.Why.TheVariants.{Threshold, Iterations, Evaluations}
use Rattle.dk_types.specs.Search.{polls, Iterate, iterated, Found, Poll, Ends, unless_polls_wait, search_from, search}

-- one turn, by its tests, the polls that have no values, and what comes behind the iteration
abbrev turn : (low full : Bool) → (waiting : List (List ℤ)) → (next : Found) → Found
turn low full waiting next = if low then Ends Threshold else if full then Ends Evaluations else unless_polls_wait waiting next

-- a turn that finds a poll
record IsPollTurn (low full : Bool) (waiting : List (List ℤ)) (next : Found) (p : List ℤ) (behind : List (List ℤ)) : Type 0 where
  high : low ≡ false
  room : full ≡ false
  which : (waiting ≡ p ∷ behind) ⊎ ((waiting ≡ []) × (next ≡ Poll p behind))

poll_turn : (low full : Bool) (waiting : List (List ℤ)) (next : Found) (p : List ℤ) (behind : List (List ℤ)) → turn low full waiting next ≡ Poll p behind → IsPollTurn low full waiting next p behind
poll_turn true full waiting next p behind h = absurd (cc)
poll_turn false true waiting next p behind h = absurd (cc)
poll_turn false false [] next p behind h = record { high = refl; room = refl; which = inr (refl, h) }
poll_turn false false (q ∷ waiting) next p behind h = record { high = refl; room = refl; which = inl (let a : q ≡ p = cc in let b : waiting ≡ behind = cc in ap (λ (x : List ℤ). x ∷ waiting) a ∙ ap (λ l. p ∷ l) b) }

-- Lists

-- one value more behind at least so many
pub take_before : {A : Type 0} (k : ℕ) (xs : List A) (x : A) → k ≤ length xs → take k (xs ++ x ∷ []) ≡ take k xs
take_before zero xs x h = refl
take_before (suc k) [] x h = absurd (let n : suc k ≤ zero = h in omega arith)
take_before (suc k) (y ∷ xs) x h = ap (λ l. y ∷ l) (take_before k xs x (omega arith))

drop_before : {A : Type 0} (k : ℕ) (xs : List A) (x : A) → k ≤ length xs → drop k (xs ++ x ∷ []) ≡ drop k xs ++ x ∷ []
drop_before zero xs x h = refl
drop_before (suc k) [] x h = absurd (let n : suc k ≤ zero = h in omega arith)
drop_before (suc k) (y ∷ xs) x h = drop_before k xs x (omega arith)

drop_next : {A : Type 0} (k : ℕ) (xs : List A) (x : A) (rest : List A) → drop k xs ≡ x ∷ rest → drop (suc k) xs ≡ rest
drop_next zero [] x rest h = absurd (cc)
drop_next zero (y ∷ xs) x rest h = cc
drop_next (suc k) [] x rest h = absurd (cc)
drop_next (suc k) (y ∷ xs) x rest h = drop_next k xs x rest h

drop_done : {A : Type 0} (k : ℕ) (xs : List A) → drop k xs ≡ [] → length xs ≤ k
drop_done zero [] h = omega arith
drop_done zero (y ∷ xs) h = absurd (cc)
drop_done (suc k) [] h = omega arith
drop_done (suc k) (y ∷ xs) h = let l = drop_done k xs h in omega arith

drop_none : {A : Type 0} (k : ℕ) (xs : List A) → length xs ≤ k → drop k xs ≡ []
drop_none zero [] h = refl
drop_none zero (y ∷ xs) h = absurd (let n : suc (length xs) ≤ zero = h in omega arith)
drop_none (suc k) [] h = refl
drop_none (suc k) (y ∷ xs) h = drop_none k xs (omega arith)

-- A value more

-- what comes behind an iteration whose polls have their values
abbrev behind_iteration : Variables → (threshold : ℤ) → (evaluations left rows : ℕ) → Iterate → (polls : List (List ℤ)) → List (List Decimal) → Found
behind_iteration variables threshold evaluations left rows at points values =
    search_from variables threshold evaluations left (rows + length points) (iterated at points (take (length points) values)) (drop (length points) values)

-- behind a poll's value comes the next poll of the iteration
pub found_more : (variables : Variables) (threshold : ℤ) (evaluations left rows : ℕ) (at : Iterate) (values : List (List Decimal)) (v : List Decimal) (p q : List ℤ) (behind : List (List ℤ)) →
    search_from variables threshold evaluations left rows at values ≡ Poll p (q ∷ behind) →
    search_from variables threshold evaluations left rows at (values ++ v ∷ []) ≡ Poll q behind
found_more variables threshold evaluations zero rows at values v p q behind h = never (int_lt at.delta threshold) h
  where
    never : (low : Bool) → (if low then Ends Threshold else Ends Iterations) ≡ Poll p (q ∷ behind) → (if low then Ends Threshold else Ends Iterations) ≡ Poll q behind
    never true e = absurd (cc)
    never false e = absurd (cc)
found_more variables threshold evaluations (suc left) rows at values v p q behind h =
    elim t.which [ inl e ↦ waits e | inr e ↦ goes e.0 (found_more variables threshold evaluations left (rows + length points) (iterated at points (take (length points) values)) (drop (length points) values) v p q behind e.1) ]
  where
    points : List (List ℤ)
    points = polls variables at.x at.delta

    t : IsPollTurn (int_lt at.delta threshold) (nat_lt evaluations (rows + length points)) (drop (length values) points) (behind_iteration variables threshold evaluations left rows at points values) p (q ∷ behind)
    t = poll_turn (int_lt at.delta threshold) (nat_lt evaluations (rows + length points)) (drop (length values) points) (behind_iteration variables threshold evaluations left rows at points values) p (q ∷ behind) h

    by : (waiting : List (List ℤ)) → drop (length (values ++ v ∷ [])) points ≡ waiting →
        search_from variables threshold evaluations (suc left) rows at (values ++ v ∷ []) ≡ unless_polls_wait waiting (behind_iteration variables threshold evaluations left rows at points (values ++ v ∷ []))
    by waiting e =
        ap (λ (b : Bool). turn b (nat_lt evaluations (rows + length points)) (drop (length (values ++ v ∷ [])) points) (behind_iteration variables threshold evaluations left rows at points (values ++ v ∷ []))) t.high
        ∙ ap (λ (b : Bool). turn false b (drop (length (values ++ v ∷ [])) points) (behind_iteration variables threshold evaluations left rows at points (values ++ v ∷ []))) t.room
        ∙ ap (λ (l : List (List ℤ)). unless_polls_wait l (behind_iteration variables threshold evaluations left rows at points (values ++ v ∷ []))) e

    waits : drop (length values) points ≡ p ∷ (q ∷ behind) → search_from variables threshold evaluations (suc left) rows at (values ++ v ∷ []) ≡ Poll q behind
    waits e = by (q ∷ behind) (ap (λ (n : ℕ). drop n points) (length-append values (v ∷ []) ∙ (let n : length values + 1 ≡ suc (length values) = omega arith in n)) ∙ drop_next (length values) points p (q ∷ behind) e)

    goes : drop (length values) points ≡ [] →
        search_from variables threshold evaluations left (rows + length points) (iterated at points (take (length points) values)) (drop (length points) values ++ v ∷ []) ≡ Poll q behind →
        search_from variables threshold evaluations (suc left) rows at (values ++ v ∷ []) ≡ Poll q behind
    goes e k =
        let all : length points ≤ length values = drop_done (length values) points e in
        let long = length-append values (v ∷ []) in
        by [] (drop_none (length (values ++ v ∷ [])) points (omega arith))
        ∙ ap (λ (l : List (List Decimal)). search_from variables threshold evaluations left (rows + length points) (iterated at points l) (drop (length points) (values ++ v ∷ []))) (take_before (length points) values v all)
        ∙ ap (λ (l : List (List Decimal)). search_from variables threshold evaluations left (rows + length points) (iterated at points (take (length points) values)) l) (drop_before (length points) values v all)
        ∙ k

-- rows and polls together are within the evaluations
pub found_within : (variables : Variables) (threshold : ℤ) (evaluations left rows : ℕ) (at : Iterate) (values : List (List Decimal)) (p : List ℤ) (behind : List (List ℤ)) →
    search_from variables threshold evaluations left rows at values ≡ Poll p behind → rows + length values + length (p ∷ behind) ≤ evaluations
found_within variables threshold evaluations zero rows at values p behind h = never (int_lt at.delta threshold) h
  where
    never : (low : Bool) → (if low then Ends Threshold else Ends Iterations) ≡ Poll p behind → rows + length values + length (p ∷ behind) ≤ evaluations
    never true e = absurd (cc)
    never false e = absurd (cc)
found_within variables threshold evaluations (suc left) rows at values p behind h =
    elim t.which [ inl e ↦ waits e | inr e ↦ goes e.0 (found_within variables threshold evaluations left (rows + length points) (iterated at points (take (length points) values)) (drop (length points) values) p behind e.1) ]
  where
    points : List (List ℤ)
    points = polls variables at.x at.delta

    t : IsPollTurn (int_lt at.delta threshold) (nat_lt evaluations (rows + length points)) (drop (length values) points) (behind_iteration variables threshold evaluations left rows at points values) p behind
    t = poll_turn (int_lt at.delta threshold) (nat_lt evaluations (rows + length points)) (drop (length values) points) (behind_iteration variables threshold evaluations left rows at points values) p behind h

    room : rows + length points ≤ evaluations
    room = let r = t.room in grind (arith, common_steps)

    waits : drop (length values) points ≡ p ∷ behind → rows + length values + length (p ∷ behind) ≤ evaluations
    waits e =
        let some : length points - length values ≡ length (p ∷ behind) = sym (length-drop (length values) points) ∙ ap length e in
        let r = room in
        omega arith

    goes : drop (length values) points ≡ [] → (rows + length points) + length (drop (length points) values) + length (p ∷ behind) ≤ evaluations → rows + length values + length (p ∷ behind) ≤ evaluations
    goes e k =
        let all : length points ≤ length values = drop_done (length values) points e in
        let long : length (drop (length points) values) ≡ length values - length points = length-drop (length points) values in
        omega arith

-- The search from its first row on

pub search_more : (variables : Variables) (delta threshold : ℤ) (iterations evaluations : ℕ) (values : List (List Decimal)) (v : List Decimal) (p q : List ℤ) (behind : List (List ℤ)) →
    search variables delta threshold iterations evaluations values ≡ Poll p (q ∷ behind) →
    search variables delta threshold iterations evaluations (values ++ v ∷ []) ≡ Poll q behind
search_more variables delta threshold iterations evaluations [] v p q behind h = absurd (cc)
search_more variables delta threshold iterations evaluations (first ∷ values) v p q behind h =
    found_more variables threshold evaluations iterations 1 (record { x = variables.initial; values = first; delta = delta }) values v p q behind h

-- rows and polls together are within the evaluations, but that the first row is made in any case
pub search_within : (variables : Variables) (delta threshold : ℤ) (iterations evaluations : ℕ) (values : List (List Decimal)) (p : List ℤ) (behind : List (List ℤ)) →
    search variables delta threshold iterations evaluations values ≡ Poll p behind →
    (length values + length (p ∷ behind) ≤ evaluations) ⊎ (length values + length (p ∷ behind) ≡ 1)
search_within variables delta threshold iterations evaluations [] p behind h = inr (let n : [] ≡ behind = cc in let e : length behind ≡ 0 = ap length (sym n) in omega arith)
search_within variables delta threshold iterations evaluations (first ∷ values) p behind h =
    let k = found_within variables threshold evaluations iterations 1 (record { x = variables.initial; values = first; delta = delta }) values p behind h in
    inl (omega arith)
