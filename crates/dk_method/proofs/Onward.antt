-- How a compass search goes on behind an iteration, and what comes next where it stands.
use Rattle.std.proofs.Common.{◌≡◌, ℕ, zero, suc, ◌+◌, ◌-◌, ◌<◌, ◌≤◌, Bool, true, false, List, [], ◌∷◌, ◌++◌, length, take, drop, Option, Some, None, refl, sym, ap, ◌∙◌, arith, ℤ, nat_lt, if◌then◌else◌, append_assoc, append-nil, length-append}
use Rattle.std.specs.Prelude.{int_lt, nat_le}
use Rattle.std.proofs.Math.Seq.{take-append_seam, drop-append_seam}
use Rattle.std.proofs.Math.ListN.{drop_of_length-le}
use Rattle.std.proofs.lemmas.Grind.{common_steps}
use Rattle.std.proofs.lemmas.List.{map-append, length-map}
use Rattle.dk_num.specs.Decimal.{Decimal}
use Rattle.dk_types.specs.declared.study.Study.{Study}
use Rattle.dk_types.specs.declared.study.Variables.{Variables}
use Rattle.dk_types.specs.declared.study.Why.{Why}
use Rattle.dk_types.specs.declared.study.Why.TheVariants.{Threshold, Iterations, Evaluations}
use Rattle.dk_types.specs.declared.study.Method.TheVariants as method
use Rattle.dk_types.specs.declared.planner.Plan.{Plan}
use Rattle.dk_types.specs.declared.planner.Plan.TheVariants.{Batch, Finished}
use Rattle.dk_types.specs.declared.rows.Row.{Row}
use Rattle.dk_types.specs.Search.{polls, Iterate, iterated, Found, Poll, Ends, unless_polls_wait, search_from, search}
use Rattle.dk_types.specs.Planned.{next, next_by, next_found, rest, rest_by, rest_found, plan, plan_by, values_in}
use Rattle.dk_method.specs.declared.search.Terms.{Terms}
use Rattle.dk_method.specs.Searching.{GoesOnFrom, as_decimals}

-- An iteration

-- one turn of a search, by its tests
abbrev pub turn : (low full : Bool) → (waiting : List (List ℤ)) → (next : Found) → Found
turn low full waiting next = if low then Ends Threshold else if full then Ends Evaluations else unless_polls_wait waiting next

-- where nothing ends the search before an iteration, it goes on behind it, once all polls have values
pub onward : (variables : Variables) (threshold : ℤ) (evaluations left rows : ℕ) (at : Iterate) (values more : List (List Decimal)) → int_lt at.delta threshold ≡ false →
    rows + length (polls variables at.x at.delta) ≤ evaluations → length values ≡ length (polls variables at.x at.delta) →
    search_from variables threshold evaluations (suc left) rows at (values ++ more)
    ≡ search_from variables threshold evaluations left (rows + length (polls variables at.x at.delta)) (iterated at (polls variables at.x at.delta) values) more
onward variables threshold evaluations left rows at values more high room all =
    ap (λ (b : Bool). turn b (nat_lt evaluations (rows + length points)) (drop (length (values ++ more)) points) behind) high
    ∙ ap (λ (b : Bool). turn false b (drop (length (values ++ more)) points) behind) full
    ∙ ap (λ (l : List (List ℤ)). unless_polls_wait l behind) none
    ∙ ap (λ (n : ℕ). search_from variables threshold evaluations left (rows + length points) (iterated at points (take n (values ++ more))) (drop n (values ++ more))) (sym all)
    ∙ ap (λ (l : List (List Decimal)). search_from variables threshold evaluations left (rows + length points) (iterated at points l) (drop (length values) (values ++ more))) (take-append_seam values more)
    ∙ ap (λ (l : List (List Decimal)). search_from variables threshold evaluations left (rows + length points) (iterated at points values) l) (drop-append_seam values more)
  where
    points : List (List ℤ)
    points = polls variables at.x at.delta

    behind : Found
    behind = search_from variables threshold evaluations left (rows + length points) (iterated at points (take (length points) (values ++ more))) (drop (length points) (values ++ more))

    full : nat_lt evaluations (rows + length points) ≡ false
    full = grind (arith, common_steps)

    none : drop (length (values ++ more)) points ≡ []
    none = let l = length-append values more in drop_of_length-le points (omega arith)

-- The values of rows

-- the first value
pub led_first : (study : Study) (terms : Terms) (rows : List Row) (x : List ℤ) (delta : ℤ) (done : ℕ) (v : Decimal) → x ≡ study.variables.initial → delta ≡ terms.delta → done ≡ 0 →
    values_in rows ≡ (v ∷ []) ∷ [] → GoesOnFrom study terms done (Some (record { x = x; values = v ∷ []; delta = delta })) rows
led_first study terms rows x delta done v at step none values = λ more.
    let one : length rows ≡ 1 = sym (length-map rows (λ (r : Row). r.values)) ∙ ap length values in
    ap (λ (l : List (List Decimal)). search study.variables terms.delta terms.threshold terms.iterations terms.evaluations (l ++ more)) values
    ∙ ap (λ (k : List ℤ). search_from study.variables terms.threshold terms.evaluations terms.iterations 1 (record { x = k; values = v ∷ []; delta = terms.delta }) more) (sym at)
    ∙ ap (λ (d : ℤ). search_from study.variables terms.threshold terms.evaluations terms.iterations 1 (record { x = x; values = v ∷ []; delta = d }) more) (sym step)
    ∙ ap (λ (n : ℕ). search_from study.variables terms.threshold terms.evaluations n 1 (record { x = x; values = v ∷ []; delta = delta }) more) (let n : terms.iterations ≡ terms.iterations - done = omega arith in n)
    ∙ ap (λ (n : ℕ). search_from study.variables terms.threshold terms.evaluations (terms.iterations - done) n (record { x = x; values = v ∷ []; delta = delta }) more) (sym one)

-- those of the polls of an iteration
pub led_on : (study : Study) (terms : Terms) (given behind : List Row) (done : ℕ) (at : Iterate) → GoesOnFrom study terms done (Some at) given → int_lt at.delta terms.threshold ≡ false →
    done < terms.iterations → length given + length (polls study.variables at.x at.delta) ≤ terms.evaluations → length behind ≡ length (polls study.variables at.x at.delta) →
    GoesOnFrom study terms (done + 1) (Some (iterated at (polls study.variables at.x at.delta) (values_in behind))) (given ++ behind)
led_on study terms given behind done at led high left room all = λ more.
    let values = map-append (λ (r : Row). r.values) given behind in
    let count : terms.iterations - done ≡ suc (terms.iterations - (done + 1)) = omega arith in
    let long : length (values_in behind) ≡ length behind = length-map behind (λ (r : Row). r.values) in
    let rows = length-append given behind in
    let total : length given + length (polls study.variables at.x at.delta) ≡ length (given ++ behind) = omega arith in
    ap (λ (l : List (List Decimal)). search study.variables terms.delta terms.threshold terms.iterations terms.evaluations (l ++ more)) values
    ∙ ap (search study.variables terms.delta terms.threshold terms.iterations terms.evaluations) (append_assoc (values_in given) (values_in behind) more)
    ∙ led (values_in behind ++ more)
    ∙ ap (λ (n : ℕ). search_from study.variables terms.threshold terms.evaluations n (length given) at (values_in behind ++ more)) count
    ∙ onward study.variables terms.threshold terms.evaluations (terms.iterations - (done + 1)) (length given) at (values_in behind) more high room (long ∙ all)
    ∙ ap (λ (n : ℕ). search_from study.variables terms.threshold terms.evaluations (terms.iterations - (done + 1)) n (iterated at (polls study.variables at.x at.delta) (values_in behind)) more) total

-- What comes next

-- the tests before an iteration
abbrev pub end_of : (low done full : Bool) → Option Why
end_of low done full = if low then Some Threshold else if done then Some Iterations else if full then Some Evaluations else None

-- what the search finds where it stands: the end that the tests tell, or the polls of the iteration
abbrev found_by : Option Why → (points : List (List ℤ)) → (next : Found) → Found
found_by (Some why) points next = Ends why
found_by None points next = unless_polls_wait points next

-- the full test, by the room that is left
full_test : (evaluations rows made : ℕ) → rows ≤ evaluations → nat_lt evaluations (rows + made) ≡ nat_lt (evaluations - rows) made
full_test evaluations rows made h = at (nat_lt evaluations (rows + made)) (nat_lt (evaluations - rows) made) refl refl
  where
    at : (a b : Bool) → nat_lt evaluations (rows + made) ≡ a → nat_lt (evaluations - rows) made ≡ b → nat_lt evaluations (rows + made) ≡ nat_lt (evaluations - rows) made
    at true true e f = e ∙ sym f
    at false false e f = e ∙ sym f
    at true false e f = absurd (let a : evaluations < rows + made = grind (arith, common_steps) in let b : made ≤ evaluations - rows = grind (arith, common_steps) in omega arith)
    at false true e f = absurd (let a : rows + made ≤ evaluations = grind (arith, common_steps) in let b : evaluations - rows < made = grind (arith, common_steps) in omega arith)

-- what comes behind the iteration, where it is made and has no values yet; no iteration is left where all are done
abbrev after_none : Variables → (threshold : ℤ) → (evaluations left rows : ℕ) → Iterate → Found
after_none variables threshold evaluations zero rows at = Ends Iterations
after_none variables threshold evaluations (suc left) rows at =
    search_from variables threshold evaluations left (rows + length (polls variables at.x at.delta)) (iterated at (polls variables at.x at.delta) (take (length (polls variables at.x at.delta)) [])) (drop (length (polls variables at.x at.delta)) [])

standing : (variables : Variables) (threshold : ℤ) (evaluations left rows : ℕ) (at : Iterate) (iterations done : ℕ) → left ≡ iterations - done → rows ≤ evaluations →
    search_from variables threshold evaluations left rows at []
    ≡ found_by (end_of (int_lt at.delta threshold) (nat_le iterations done) (nat_lt (evaluations - rows) (length (polls variables at.x at.delta)))) (polls variables at.x at.delta) (after_none variables threshold evaluations left rows at)
standing variables threshold evaluations zero rows at iterations done is within = by (int_lt at.delta threshold) (nat_lt (evaluations - rows) (length (polls variables at.x at.delta)))
  where
    all : nat_le iterations done ≡ true
    all = grind (arith, common_steps)

    by : (low full : Bool) → (if low then Ends Threshold else Ends Iterations) ≡ found_by (end_of low (nat_le iterations done) full) (polls variables at.x at.delta) (Ends Iterations)
    by true full = refl
    by false full = ap (λ (b : Bool). found_by (end_of false b full) (polls variables at.x at.delta) (Ends Iterations)) (sym all)
standing variables threshold evaluations (suc left) rows at iterations done is within =
    ap (λ (b : Bool). turn (int_lt at.delta threshold) b points (after_none variables threshold evaluations (suc left) rows at)) (full_test evaluations rows (length points) within)
    ∙ by (int_lt at.delta threshold) (nat_lt (evaluations - rows) (length points))
  where
    points : List (List ℤ)
    points = polls variables at.x at.delta

    some : nat_le iterations done ≡ false
    some = grind (arith, common_steps)

    by : (low full : Bool) → turn low full points (after_none variables threshold evaluations (suc left) rows at) ≡ found_by (end_of low (nat_le iterations done) full) points (after_none variables threshold evaluations (suc left) rows at)
    by true full = refl
    by false true = ap (λ (b : Bool). found_by (end_of false b true) points (after_none variables threshold evaluations (suc left) rows at)) (sym some)
    by false false = ap (λ (b : Bool). found_by (end_of false b false) points (after_none variables threshold evaluations (suc left) rows at)) (sym some)

-- the search by the values of the rows, where it stands
found_at : (study : Study) (terms : Terms) (rows : List Row) (done : ℕ) (at : Iterate) → GoesOnFrom study terms done (Some at) rows → length rows ≤ terms.evaluations →
    search study.variables terms.delta terms.threshold terms.iterations terms.evaluations (values_in rows)
    ≡ found_by (end_of (int_lt at.delta terms.threshold) (nat_le terms.iterations done) (nat_lt (terms.evaluations - length rows) (length (polls study.variables at.x at.delta)))) (polls study.variables at.x at.delta)
    (after_none study.variables terms.threshold terms.evaluations (terms.iterations - done) (length rows) at)
found_at study terms rows done at led within =
    ap (search study.variables terms.delta terms.threshold terms.iterations terms.evaluations) (sym (append-nil (values_in rows)))
    ∙ led []
    ∙ standing study.variables terms.threshold terms.evaluations (terms.iterations - done) (length rows) at terms.iterations done refl within

-- what a study plans by what its search finds
record IsPlannedBy (study : Study) (rows : List Row) (found : Found) : Type 0 where
  next_is : next study rows ≡ next_found study.unit.exponent found
  rest_is : rest study rows ≡ rest_found study.unit.exponent found

planned_by : (study : Study) (terms : Terms) (rows : List Row) (found : Found) → study.method ≡ method.Compass terms.delta terms.threshold terms.iterations terms.evaluations →
    search study.variables terms.delta terms.threshold terms.iterations terms.evaluations (values_in rows) ≡ found → IsPlannedBy study rows found
planned_by study terms rows found is h = record {
  next_is = ap (next_by study rows) is ∙ ap (next_found study.unit.exponent) h;
  rest_is = ap (rest_by study rows) is ∙ ap (rest_found study.unit.exponent) h;
}

-- the points that are handed out, and the answer
pub record IsPlannedSo (study : Study) (rows : List Row) (points : List (List Decimal)) (answer : Plan) : Type 0 where
  pub batch : points ≡ rest study rows
  pub answer_is : answer ≡ plan study rows

-- before the first value: the initial point
pub planned_first : (study : Study) (terms : Terms) (rows : List Row) → study.method ≡ method.Compass terms.delta terms.threshold terms.iterations terms.evaluations → rows ≡ [] →
    IsPlannedSo study rows (as_decimals study (study.variables.initial ∷ [])) (Batch 1 1)
planned_first study terms rows is none =
    let k = planned_by study terms rows (Poll study.variables.initial []) is (ap (λ (l : List Row). search study.variables terms.delta terms.threshold terms.iterations terms.evaluations (values_in l)) none) in
    record {
      batch = sym k.rest_is;
      answer_is = ap (λ (n : ℕ). Batch (n + 1) 1) (sym (ap length none))
          ∙ sym (ap (λ (l : List (List Decimal)). plan_by (length rows) l (next study rows)) k.rest_is ∙ ap (plan_by (length rows) (as_decimals study (study.variables.initial ∷ []))) k.next_is);
    }

-- the end
pub planned_end : (study : Study) (terms : Terms) (rows : List Row) (done : ℕ) (at : Iterate) (why : Why) → study.method ≡ method.Compass terms.delta terms.threshold terms.iterations terms.evaluations →
    GoesOnFrom study terms done (Some at) rows → length rows ≤ terms.evaluations →
    end_of (int_lt at.delta terms.threshold) (nat_le terms.iterations done) (nat_lt (terms.evaluations - length rows) (length (polls study.variables at.x at.delta))) ≡ Some why →
    IsPlannedSo study rows [] (Finished why)
planned_end study terms rows done at why is led within e =
    let found = found_at study terms rows done at led within
    ∙ ap (λ (o : Option Why). found_by o (polls study.variables at.x at.delta) (after_none study.variables terms.threshold terms.evaluations (terms.iterations - done) (length rows) at)) e in
    let k = planned_by study terms rows (Ends why) is found in
    record {
      batch = sym k.rest_is;
      answer_is = sym (ap (plan_by (length rows) (rest study rows)) k.next_is);
    }

-- the polls of the iteration, where there are some
pub planned_polls : (study : Study) (terms : Terms) (rows : List Row) (done : ℕ) (at : Iterate) → study.method ≡ method.Compass terms.delta terms.threshold terms.iterations terms.evaluations →
    GoesOnFrom study terms done (Some at) rows → length rows ≤ terms.evaluations →
    end_of (int_lt at.delta terms.threshold) (nat_le terms.iterations done) (nat_lt (terms.evaluations - length rows) (length (polls study.variables at.x at.delta))) ≡ None →
    0 < length (polls study.variables at.x at.delta) →
    IsPlannedSo study rows (as_decimals study (polls study.variables at.x at.delta)) (Batch (length rows + 1) (length (polls study.variables at.x at.delta)))
planned_polls study terms rows done at is led within e some = by (polls study.variables at.x at.delta) refl some
  where
    found : search study.variables terms.delta terms.threshold terms.iterations terms.evaluations (values_in rows)
        ≡ unless_polls_wait (polls study.variables at.x at.delta) (after_none study.variables terms.threshold terms.evaluations (terms.iterations - done) (length rows) at)
    found = found_at study terms rows done at led within
        ∙ ap (λ (o : Option Why). found_by o (polls study.variables at.x at.delta) (after_none study.variables terms.threshold terms.evaluations (terms.iterations - done) (length rows) at)) e

    by : (points : List (List ℤ)) → polls study.variables at.x at.delta ≡ points → 0 < length points → IsPlannedSo study rows (as_decimals study points) (Batch (length rows + 1) (length points))
    by [] h l = absurd (omega arith)
    by (p ∷ behind) h l =
        let k = planned_by study terms rows (Poll p behind) is (found ∙ ap (λ (l : List (List ℤ)). unless_polls_wait l (after_none study.variables terms.threshold terms.evaluations (terms.iterations - done) (length rows) at)) h) in
        let long : length (as_decimals study (p ∷ behind)) ≡ length (p ∷ behind) = length-map (p ∷ behind) _ in
        record {
          batch = sym k.rest_is;
          answer_is = ap (Batch (length rows + 1)) (sym long)
              ∙ sym (ap (λ (l : List (List Decimal)). plan_by (length rows) l (next study rows)) k.rest_is ∙ ap (plan_by (length rows) (as_decimals study (p ∷ behind))) k.next_is);
        }
