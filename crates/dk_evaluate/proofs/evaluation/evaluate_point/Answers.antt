use Rattle.std.proofs.Common.{◌≡◌, ℕ, ◌+◌, ◌-◌, ◌++◌, ◌∷◌, [], Some, refl, subst, sym, ap, ◌∙◌, length, List}
use Rattle.std.specs.Prelude.{position}
use Rattle.std.proofs.lemmas.List.{with_items_is}
use Rattle.dk_num.specs.Decimal.{Decimal}
use Rattle.dk_types.specs.declared.rows.Row.{Row}
use Rattle.dk_types.specs.Best.{same_point}
use Rattle.dk_types.specs.Answers.{Value, Dead}
use Rattle.dk_params.specs.declared.task.Task.{Task}
use Rattle.dk_evaluate.specs.Evaluated.{TakesNumber, ComesTo, Settles, Runs}
use Rattle.dk_evaluate.specs.declared.settle.Settled.TheVariants as settled
use Rattle.dk_evaluate.proofs.Pooled.{long_set}
use Rattle.dk_evaluate.proofs.SoFar.{IsPlaced, is_placed, index_within, taken_there, so_far_more}
use Rattle.dk_evaluate.proofs.Running.{runs_placed, runs_row, runs_dead, runs_stopped}
use Rattle.dk_evaluate.proofs.evaluation.evaluate_point.Goals as goal

pub returns-in-Dead-clause-ends : goal.returns-in-Dead-clause-ends
returns-in-Dead-clause-ends g c = λ start bench before was next_is.
    let study = c.args.study.now in
    let leaves = g.B.Bench.leaves in
    let held = g.B.Bench.held in
    let first = held c.args.station.now.bench in
    let last = held c.settle.new.station.bench in
    let old = c.args.run.now in
    let p = old.table.point.items in
    runs_dead leaves study start bench before c.place-card.new.self c.settle.new.ledger.book old.ledger.journal c.settle.new.ledger.journal first last old.table.rows.rows p (c.count-number.result + 1) c.in-Dead.attempts
    (runs_placed leaves study start bench before old.ledger.book c.place-card.new.self old.ledger.journal first old.table.rows.rows c.place-card.ensures.stands_for_entries was) next_is (ap (λ n. n + 1) c.count-number.ensures)
    (λ entries keeps. subst (λ (t : Task). ComesTo leaves t study.interface.rule (length old.table.rows.rows + 1) p (Dead c.in-Dead.attempts) c.settle.new.ledger.book old.ledger.journal c.settle.new.ledger.journal first last entries) c.requires.task
    (subst (λ (n : ℕ). ComesTo leaves c.args.station.now.task study.interface.rule (n + 1) p (Dead c.in-Dead.attempts) c.settle.new.ledger.book old.ledger.journal c.settle.new.ledger.journal first last entries) c.count-number.ensures
    (subst (λ (q : List Decimal). ComesTo leaves c.args.station.now.task study.interface.rule (c.count-number.result + 1) q (Dead c.in-Dead.attempts) c.settle.new.ledger.book old.ledger.journal c.settle.new.ledger.journal first last entries) c.deref-2.ensures.value (c.in-Dead.ensures.settles entries keeps))))

pub returns-in-Stopped-clause-ends : goal.returns-in-Stopped-clause-ends
returns-in-Stopped-clause-ends g c = λ start bench before was next_is.
    let study = c.args.study.now in
    let leaves = g.B.Bench.leaves in
    let held = g.B.Bench.held in
    let first = held c.args.station.now.bench in
    let last = held c.settle.new.station.bench in
    let old = c.args.run.now in
    let p = old.table.point.items in
    let rows = old.table.rows.rows in
    let v = c.settle.new.values in
    runs_stopped leaves study start bench before c.place-card.new.self c.settle.new.ledger.book old.ledger.journal c.settle.new.ledger.journal first last rows rows p v c.in-Stopped.stop
    (runs_placed leaves study start bench before old.ledger.book c.place-card.new.self old.ledger.journal first rows c.place-card.ensures.stands_for_entries was) next_is c.requires.left
    (λ entries keeps. subst (λ (t : Task). Settles leaves t study.interface.rule (length rows + 1) p v c.settle.new.ledger.book old.ledger.journal c.settle.new.ledger.journal first last entries (settled.Stopped c.in-Stopped.stop)) c.requires.task
    (subst (λ (n : ℕ). Settles leaves c.args.station.now.task study.interface.rule (n + 1) p v c.settle.new.ledger.book old.ledger.journal c.settle.new.ledger.journal first last entries (settled.Stopped c.in-Stopped.stop)) c.count-number.ensures
    (subst (λ (q : List Decimal). Settles leaves c.args.station.now.task study.interface.rule (c.count-number.result + 1) q v c.settle.new.ledger.book old.ledger.journal c.settle.new.ledger.journal first last entries (settled.Stopped c.in-Stopped.stop)) c.deref-2.ensures.value (c.in-Stopped.ensures.settles entries keeps))))

pub returns-in-Values-clause-ends : goal.returns-in-Values-clause-ends
returns-in-Values-clause-ends g c = λ start bench before was next_is.
    let study = c.args.study.now in
    let leaves = g.B.Bench.leaves in
    let held = g.B.Bench.held in
    let first = held c.args.station.now.bench in
    let last = held c.settle.new.station.bench in
    let old = c.args.run.now in
    let p = old.table.point.items in
    let v = c.settle.new.values in
    let rows = old.table.rows.rows in
    let given = with_items_is old.table.values v (c.settle.ensures.values ∙ c.deref_mut.ensures.len) in
    let row_is : c.push.new.self.rows ≡ rows ++ record { point = p; values = v } ∷ []
    = c.push.ensures.rows ∙ ap (λ (q : List Decimal). rows ++ record { point = q; values = c.deref-in-Values-2.result.now } ∷ []) c.deref-in-Values.ensures.value
    ∙ ap (λ (w : List Decimal). rows ++ record { point = p; values = w } ∷ []) (c.deref-in-Values-2.ensures.value ∙ given) in
    subst (Runs leaves study start bench before c.settle.new.ledger.book c.settle.new.ledger.journal last) (sym row_is)
    (runs_row leaves study start bench before c.place-card.new.self c.settle.new.ledger.book old.ledger.journal c.settle.new.ledger.journal first last rows p v
    (runs_placed leaves study start bench before old.ledger.book c.place-card.new.self old.ledger.journal first rows c.place-card.ensures.stands_for_entries was) next_is
    (λ entries keeps. subst (λ (t : Task). ComesTo leaves t study.interface.rule (length rows + 1) p (Value v) c.settle.new.ledger.book old.ledger.journal c.settle.new.ledger.journal first last entries) c.requires.task
    (subst (λ (n : ℕ). ComesTo leaves c.args.station.now.task study.interface.rule (n + 1) p (Value v) c.settle.new.ledger.book old.ledger.journal c.settle.new.ledger.journal first last entries) c.count-number.ensures
    (subst (λ (q : List Decimal). ComesTo leaves c.args.station.now.task study.interface.rule (c.count-number.result + 1) q (Value v) c.settle.new.ledger.book old.ledger.journal c.settle.new.ledger.journal first last entries) c.deref-2.ensures.value (c.in-Values.ensures.settles entries keeps)))))

pub push-requires-clause-first : goal.push-requires-clause-first
push-requires-clause-first g c =
    let old = c.args.run.now in
    let is : IsPlaced old.ledger.book.cards c.place-card.new.self.cards old.table.point.items c.place-card.result.index
    = is_placed old.ledger.book.cards c.place-card.new.self.cards _ _ c.place-card.result.index c.deref.ensures.value c.place-card.ensures.places_card c.place-card.ensures.names_card c.place-card.ensures.names_same_point in
    let takes = subst (λ (l : List ℕ). TakesNumber l c.first_row-first.new.firsts c.place-card.result.index (c.count-number.result + 1) c.first_row-first.result) c.deref_mut-in-Values.ensures.value c.first_row-first.ensures in
    let taken = taken_there old.table.rows.rows old.ledger.book.cards c.place-card.new.self.cards old.table.firsts.items c.first_row-first.new.firsts old.table.point.items c.deref-in-Values-2.result.now
    c.place-card.result.index (c.count-number.result + 1) c.first_row-first.result is c.requires.so_far.firsts
    (index_within _ _ _ c.place-card.new.self _ _ is c.requires.so_far c.place-card.ensures.takes_room) (c.requires.so_far.carded old.table.point.items) (ap (λ n. n + 1) c.count-number.ensures) takes in
    subst (λ (x : List Decimal). position (λ (r : Row). same_point r.point x) (old.table.rows.rows ++ record { point = x; values = c.deref-in-Values-2.result.now } ∷ []) ≡ Some (c.first_row-first.result - 1)) (sym c.deref-in-Values.ensures.value) taken.first

pub returns-in-Values-clause-so_far : goal.returns-in-Values-clause-so_far
returns-in-Values-clause-so_far g c = λ none.
    let old = c.args.run.now in
    let is : IsPlaced old.ledger.book.cards c.place-card.new.self.cards old.table.point.items c.place-card.result.index
    = is_placed old.ledger.book.cards c.place-card.new.self.cards _ _ c.place-card.result.index c.deref.ensures.value c.place-card.ensures.places_card c.place-card.ensures.names_card c.place-card.ensures.names_same_point in
    let takes = subst (λ (l : List ℕ). TakesNumber l c.first_row-first.new.firsts c.place-card.result.index (c.count-number.result + 1) c.first_row-first.result) c.deref_mut-in-Values.ensures.value c.first_row-first.ensures in
    let kept = with_items_is old.table.firsts c.first_row-first.new.firsts (ap length c.first_row-first.ensures.new_is ∙ long_set _ _ _ ∙ c.deref_mut-in-Values.ensures.len) in
    let few : length c.settle.new.values ≡ length c.args.study.now.responses.labels = c.settle.ensures.values ∙ ap length c.deref_mut.ensures.value ∙ c.requires.so_far.values in
    let given = with_items_is old.table.values c.settle.new.values (c.settle.ensures.values ∙ c.deref_mut.ensures.len) in
    so_far_more c.args.study.now old.ledger.book old.table _ _ c.place-card.new.self old.table.point.items c.deref-in-Values-2.result.now c.place-card.result.index (c.count-number.result + 1) c.first_row-first.result c.requires.so_far
    is c.place-card.ensures.takes_room c.place-card.ensures.keeps_room c.place-card.ensures.keeps_width_of_points c.place-card.ensures.keeps_width_of_values c.settle.ensures.book (ap (λ n. n + 1) c.count-number.ensures)
    (subst (λ l. TakesNumber old.table.firsts.items l c.place-card.result.index (c.count-number.result + 1) c.first_row-first.result) (sym kept) takes)
    (c.push.ensures.rows ∙ ap (λ (p : List Decimal). old.table.rows.rows ++ record { point = p; values = c.deref-in-Values-2.result.now } ∷ []) c.deref-in-Values.ensures.value)
    c.push.ensures.spare c.push.ensures.variables c.push.ensures.responses c.requires.so_far.point (ap length (c.deref-in-Values-2.ensures.value ∙ given) ∙ few) c.requires.so_far.point (ap length given ∙ few)

pub returns-in-Values-clause-widths : goal.returns-in-Values-clause-widths
returns-in-Values-clause-widths g c = (returns-in-Values-clause-so_far g c refl).widths
