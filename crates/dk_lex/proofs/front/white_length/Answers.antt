use Rattle.std.proofs.Common.{◌≡◌, ◌⊎◌, ◌+◌, ◌-◌, ◌≤◌, ◌∙◌, sym, ap, length, get_or, drop, arith, inl, inr, length-drop, get_or-drop, add-zero}
use Rattle.std.specs.List.{prefix_len}
use Rattle.std.proofs.lemmas.List.{drop-drop}
use Rattle.dk_lex.specs.Fronts.{white_length}
use Rattle.dk_lex.proofs.Runs.{slice_tail}
use Rattle.dk_lex.proofs.White.{blank_jump, blank_stop}
use Rattle.dk_lex.proofs.front.white_length.Goals as goal
use Rattle.dk_lex.proofs.front.white_length.Goals.{else-end-rest-via-then-end-rest+else-rest-end-ne10, else-end-rest-via-else-end-rest}

pub loop-n-preserved : goal.loop-n-preserved
loop-n-preserved c =
    let within : c.run_length.result ≤ length c.args.rest.now - c.loop-n.n = omega (arith, c.run_length.ensures.is_within, ap length (slice_tail c.args.rest.now c.loop-n.n), length-drop c.loop-n.n c.args.rest.now) in
    let ends : (length (drop c.loop-n.n c.args.rest.now) ≤ c.run_length.result) ⊎ (get_or (drop c.loop-n.n c.args.rest.now) c.run_length.result 0 ≡ 10) =
    elim c.else-end-rest.branch [
      | else-end-rest-via-then-end-rest+else-rest-end-ne10 w ↦ inr (get_or-drop c.loop-n.n c.args.rest.now c.run_length.result 0 ∙ w.if-rest-end-ne10.false)
      | else-end-rest-via-else-end-rest w ↦ inl (omega (arith, w.if-end-rest.false, length-drop c.loop-n.n c.args.rest.now))
    ] in
    let jump : white_length (drop c.loop-n.n c.args.rest.now) ≡ c.run_length.result + white_length (drop c.run_length.result (drop c.loop-n.n c.args.rest.now)) =
    blank_jump (drop c.loop-n.n c.args.rest.now) c.run_length.result (c.run_length.ensures.gives_count ∙ ap (prefix_len _) (slice_tail c.args.rest.now c.loop-n.n)) ends in
    record {
      within = omega arith;
      count = omega (arith, jump, ap white_length (drop-drop c.run_length.result c.loop-n.n c.args.rest.now), c.loop-n.invariant.count);
    }

pub returns-then-rest-end-ne10-clause-gives_count : goal.returns-then-rest-end-ne10-clause-gives_count
returns-then-rest-end-ne10-clause-gives_count c =
    let left = length-drop c.loop-n.n c.args.rest.now in
    let stop : white_length (drop c.loop-n.n c.args.rest.now) ≡ 0 =
    blank_stop (drop c.loop-n.n c.args.rest.now) c.run_length.result (c.run_length.ensures.gives_count ∙ ap (prefix_len _) (slice_tail c.args.rest.now c.loop-n.n))
    (omega (arith, c.loop-n-test.true)) (get_or-drop c.loop-n.n c.args.rest.now 0 0 ∙ ap (λ i. get_or c.args.rest.now i 0) (add-zero c.loop-n.n) ∙ c.if-rest-n-eq92.true)
    (omega (arith, c.if-end-rest.true)) (λ h. c.if-rest-end-ne10.true (sym (get_or-drop c.loop-n.n c.args.rest.now c.run_length.result 0) ∙ h)) in
    omega (arith, stop, c.loop-n.invariant.count)
