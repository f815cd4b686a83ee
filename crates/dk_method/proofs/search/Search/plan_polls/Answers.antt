use Rattle.std.proofs.Common.{◌≡◌, ◌∙◌, ◌+◌, ◌-◌, ◌<◌, ◌≤◌, List, [], ◌++◌, length, Option, Some, None, sym, ap, subst, refl, arith, nat_lt, append-nil, ℕ, ℤ, to_z, of_z}
use Rattle.std.specs.Prelude.{int_lt, nat_le}
use Rattle.std.proofs.lemmas.Grind.{common_steps}
use Rattle.dk_num.specs.Decimal.{Decimal}
use Rattle.dk_types.specs.declared.planner.Plan.TheVariants.{Batch}
use Rattle.dk_types.specs.declared.study.Why.{Why}
use Rattle.dk_types.specs.Search.{polls}
use Rattle.dk_types.specs.declared.study.Study.{Study}
use Rattle.dk_types.specs.declared.study.Method.TheVariants as method
use Rattle.dk_types.specs.Sound.{IsSound}
use Rattle.dk_compass.specs.declared.iterate.State.{State}
use mir.Syntax.{w128}
use Rattle.dk_method.specs.declared.search.Terms.{Terms}
use Rattle.dk_method.specs.Searching.{GoesOnFrom, as_decimals}
use Rattle.dk_method.proofs.Onward.{end_of, planned_end, planned_polls}
use Rattle.dk_method.proofs.Standing.{search_state, threshold_read, has_iterate, iterate_with, led_at, led_stepped, has_stepped, no_points, none_ends, handed_none, handed_polls, polls_long}
use Rattle.dk_method.proofs.search.Search.plan_polls.Goals as goal

pub polls-made-requires-clause-is_search_state : goal.polls-made-requires-clause-is_search_state
polls-made-requires-clause-is_search_state c =
    let s = c.loop-why.self in
    search_state c.args.study.now s.terms s.state c.requires.sound c.loop-why.invariant.searching.terms c.loop-why.invariant.searching.standing

-- what the tests tell, as they are read
tells : (study : Study) (terms : Terms) (state : State) (count made : ℕ) → IsSound study → study.method ≡ method.Compass terms.delta terms.threshold terms.iterations terms.evaluations → (result : Option Why) →
    result ≡ end_of (int_lt state.delta (to_z w128 (of_z w128 terms.threshold))) (nat_le terms.iterations state.iteration) (nat_lt (terms.evaluations - count) made) →
    end_of (int_lt state.delta terms.threshold) (nat_le terms.iterations state.iteration) (nat_lt (terms.evaluations - count) made) ≡ result
tells study terms state count made sound of result is =
    ap (λ (z : ℤ). end_of (int_lt state.delta z) (nat_le terms.iterations state.iteration) (nat_lt (terms.evaluations - count) made)) (sym (threshold_read study terms sound of)) ∙ sym is

pub returns-in-Some-clause-searching : goal.returns-in-Some-clause-searching
returns-in-Some-clause-searching c =
    let s = c.loop-why.self in
    let was = c.loop-why.invariant.searching in
    let long = polls_long c.args.study.now c.polls-made.new.out.rows s.polls.rows (polls c.args.study.now.variables s.state.x s.state.delta) c.polls-made.result c.polls-made.new.out.spare s.polls.spare c.polls-made.ensures.adds_polls c.polls-made.ensures.counts_polls c.polls-made.ensures.takes_room c.loop-why.invariant.none in
    let room = was.spare in
    let back = c.truncate.ensures.gives_room_back in
    record {
      terms = was.terms;
      standing = was.standing;
      within = was.within;
      width = c.truncate.ensures.keeps_width ∙ c.polls-made.ensures.keeps_width ∙ was.width;
      spare = omega arith;
      values = was.values;
      handed_out = handed_none c.args.study.now c.args.count (record { terms = s.terms; state = s.state; polls = c.truncate.new.self; values = s.values }) c.truncate.ensures.keeps_first_rows c.loop-why.invariant.has_value;
    }

pub returns-in-Some-clause-plans : goal.returns-in-Some-clause-plans
returns-in-Some-clause-plans c = λ rows count given.
    let s = c.loop-why.self in
    let terms = s.terms in
    let inv = c.loop-why.invariant in
    let has = has_iterate s.state inv.has_value in
    let led = inv.led rows count given in
    let at = led_at c.args.study.now terms s.state has rows led in
    let points = polls c.args.study.now.variables s.state.x s.state.delta in
    let within = inv.searching.within in
    let ends : end_of (int_lt s.state.delta terms.threshold) (nat_le terms.iterations s.state.iteration) (nat_lt (terms.evaluations - length rows) (length points)) ≡ Some c.in-Some.why
    = ap (λ (n : ℕ). end_of (int_lt s.state.delta terms.threshold) (nat_le terms.iterations s.state.iteration) (nat_lt (terms.evaluations - n) (length points))) count
    ∙ ap (λ (n : ℕ). end_of (int_lt s.state.delta terms.threshold) (nat_le terms.iterations s.state.iteration) (nat_lt (terms.evaluations - c.args.count) n)) (sym c.polls-made.ensures.counts_polls)
    ∙ tells c.args.study.now s.terms s.state c.args.count c.polls-made.result c.requires.sound inv.searching.terms c.ended.result c.ended.ensures.tells_end ∙ c.in-Some.is in
    let most : length rows ≤ terms.evaluations = subst (λ (n : ℕ). n ≤ terms.evaluations) (sym count) inv.searching.within in
    let k = planned_end c.args.study.now terms rows s.state.iteration (iterate_with s.state has.value) c.in-Some.why inv.searching.terms at most ends in
    record { led = led; batch = c.truncate.ensures.keeps_first_rows ∙ k.batch; answer_is = k.answer_is }

pub returns-then-made-gt0-clause-searching : goal.returns-then-made-gt0-clause-searching
returns-then-made-gt0-clause-searching c =
    let s = c.loop-why.self in
    let terms = s.terms in
    let inv = c.loop-why.invariant in
    let was = inv.searching in
    let points = polls c.args.study.now.variables s.state.x s.state.delta in
    let long = polls_long c.args.study.now c.polls-made.new.out.rows s.polls.rows points c.polls-made.result c.polls-made.new.out.spare s.polls.spare c.polls-made.ensures.adds_polls c.polls-made.ensures.counts_polls c.polls-made.ensures.takes_room inv.none in
    let room = was.spare in
    let n = none_ends (int_lt s.state.delta terms.threshold) (nat_le terms.iterations s.state.iteration) (nat_lt (terms.evaluations - c.args.count) c.polls-made.result) (tells c.args.study.now s.terms s.state c.args.count c.polls-made.result c.requires.sound inv.searching.terms c.ended.result c.ended.ensures.tells_end ∙ c.in_default.is) in
    let fits = n.room in
    let some = n.left in
    let most = was.within in
    let made = c.polls-made.ensures.counts_polls in
    let left : s.state.iteration < terms.iterations = grind (arith, common_steps) in
    let enough : c.polls-made.result ≤ terms.evaluations - c.args.count = grind (arith, common_steps) in
    record {
      terms = was.terms;
      standing = was.standing;
      within = was.within;
      width = c.polls-made.ensures.keeps_width ∙ was.width;
      spare = omega arith;
      values = was.values;
      handed_out = handed_polls c.args.study.now c.args.count (record { terms = s.terms; state = s.state; polls = c.polls-made.new.out; values = s.values })
          (record {
            handed = c.polls-made.ensures.adds_polls ∙ ap (λ (l : List (List Decimal)). l ++ as_decimals c.args.study.now points) inv.none;
            high = n.high;
            left = omega arith;
            room = omega arith;
          })
          inv.has_value;
    }

pub returns-then-made-gt0-clause-plans : goal.returns-then-made-gt0-clause-plans
returns-then-made-gt0-clause-plans c = λ rows count given.
    let s = c.loop-why.self in
    let terms = s.terms in
    let inv = c.loop-why.invariant in
    let has = has_iterate s.state inv.has_value in
    let led = inv.led rows count given in
    let at = led_at c.args.study.now terms s.state has rows led in
    let points = polls c.args.study.now.variables s.state.x s.state.delta in
    let none : end_of (int_lt s.state.delta terms.threshold) (nat_le terms.iterations s.state.iteration) (nat_lt (terms.evaluations - length rows) (length points)) ≡ None
    = ap (λ (n : ℕ). end_of (int_lt s.state.delta terms.threshold) (nat_le terms.iterations s.state.iteration) (nat_lt (terms.evaluations - n) (length points))) count
    ∙ ap (λ (n : ℕ). end_of (int_lt s.state.delta terms.threshold) (nat_le terms.iterations s.state.iteration) (nat_lt (terms.evaluations - c.args.count) n)) (sym c.polls-made.ensures.counts_polls)
    ∙ tells c.args.study.now s.terms s.state c.args.count c.polls-made.result c.requires.sound inv.searching.terms c.ended.result c.ended.ensures.tells_end ∙ c.in_default.is in
    let most : length rows ≤ terms.evaluations = subst (λ (n : ℕ). n ≤ terms.evaluations) (sym count) inv.searching.within in
    let some : 0 < length points = subst (λ (n : ℕ). 0 < n) c.polls-made.ensures.counts_polls c.if-made-gt0.true in
    let k = planned_polls c.args.study.now terms rows s.state.iteration (iterate_with s.state has.value) inv.searching.terms at most none some in
    record {
      led = led;
      batch = c.polls-made.ensures.adds_polls ∙ ap (λ (l : List (List Decimal)). l ++ as_decimals c.args.study.now points) inv.none ∙ k.batch;
      answer_is = ap (λ (n : ℕ). Batch (n + 1) c.polls-made.result) (sym count) ∙ ap (Batch (length rows + 1)) c.polls-made.ensures.counts_polls ∙ k.answer_is;
    }

pub step-requires-clause-is_search_state : goal.step-requires-clause-is_search_state
step-requires-clause-is_search_state c =
    let s = c.loop-why.self in
    search_state c.args.study.now s.terms s.state c.requires.sound c.loop-why.invariant.searching.terms c.loop-why.invariant.searching.standing

pub loop-why-preserved : goal.loop-why-preserved
loop-why-preserved c =
    let s = c.loop-why.self in
    let terms = s.terms in
    let inv = c.loop-why.invariant in
    let was = inv.searching in
    let has = has_iterate s.state inv.has_value in
    let points = polls c.args.study.now.variables s.state.x s.state.delta in
    let none : length points ≡ 0 = (let made = c.polls-made.ensures.counts_polls in let n = c.if-made-gt0.false in grind (arith, common_steps)) in
    let n = none_ends (int_lt s.state.delta terms.threshold) (nat_le terms.iterations s.state.iteration) (nat_lt (terms.evaluations - c.args.count) c.polls-made.result) (tells c.args.study.now s.terms s.state c.args.count c.polls-made.result c.requires.sound inv.searching.terms c.ended.result c.ended.ensures.tells_end ∙ c.in_default.is) in
    let some = n.left in
    let left : s.state.iteration < terms.iterations = grind (arith, common_steps) in
    let stepped = has_stepped c.args.study.now terms s.state c.step.new.state [] has was.standing left (sym none) c.step.ensures.counts_iteration c.step.ensures.keeps_variables c.step.ensures.gives_iterate in
    let long = polls_long c.args.study.now c.polls-made.new.out.rows s.polls.rows points c.polls-made.result c.polls-made.new.out.spare s.polls.spare c.polls-made.ensures.adds_polls c.polls-made.ensures.counts_polls c.polls-made.ensures.takes_room inv.none in
    let room = was.spare in
    let rows_none : c.polls-made.new.out.rows ≡ [] = c.polls-made.ensures.adds_polls ∙ ap (λ (l : List (List Decimal)). l ++ as_decimals c.args.study.now points) inv.none ∙ ap (as_decimals c.args.study.now) (no_points points none) in
    record {
      searching = record {
        terms = was.terms;
        standing = stepped.standing;
        within = was.within;
        width = c.polls-made.ensures.keeps_width ∙ was.width;
        spare = omega arith;
        values = was.values;
        handed_out = handed_none c.args.study.now c.args.count (record { terms = s.terms; state = c.step.new.state; polls = c.polls-made.new.out; values = s.values }) rows_none stepped.has_value;
      };
      none = rows_none;
      has_value = stepped.has_value;
      led = λ rows count given.
          let most : length rows ≤ terms.evaluations = subst (λ (n : ℕ). n ≤ terms.evaluations) (sym count) was.within in
          subst (GoesOnFrom c.args.study.now terms c.step.new.state.iteration _) (append-nil rows)
          (led_stepped c.args.study.now terms s.state c.step.new.state has rows [] [] stepped c.step.ensures.counts_iteration refl (inv.led rows count given) n.high left (omega arith) (sym none));
    }
