use Rattle.std.proofs.Common.{◌≡◌, ◌∙◌, List, [], ◌∷◌, length, take, true, false, sym, ap, subst, arith}
use Rattle.std.specs.Prelude.{is_some}
use Rattle.std.proofs.lemmas.Grind.{common_steps}
use Rattle.std.proofs.lemmas.List.{with_items_is, length-take-le}
use Rattle.dk_num.specs.Decimal.{Decimal}
use Rattle.dk_types.specs.Search.{polls}
use Rattle.dk_types.specs.Planned.{values_in}
use Rattle.dk_compass.specs.States.{single}
use Rattle.dk_method.specs.Searching.{GoesOnFrom}
use Rattle.dk_method.proofs.Onward.{led_first}
use Rattle.dk_method.proofs.ReadValues.{has_one, one_value, one_each, one_row, values_behind, rows_long}
use Rattle.dk_method.proofs.Standing.{has_iterate, has_stepped, led_stepped, handed_none, at_start, led_none, first_handed, under_way, one_response, polls_count}
use Rattle.dk_method.proofs.search.Search.take_values.Goals as goal

pub returns-then-is_none-clause-led : goal.returns-then-is_none-clause-led
returns-then-is_none-clause-led g c =
    let study = c.args.study.now in
    let s = c.args.self.now in
    let rows = g.R.Rows.rows c.args.rows.now in
    let was = c.requires.searching in
    let a = c.requires.answered in
    let none : is_some s.state.value ≡ false = c.if-is_none.ensures in
    let start = at_start study c.args.before s s.state.value none was.handed_out in
    let given_none = led_none study s.terms s.state a.0 none a.2 in
    let handed = first_handed study c.args.before s start (λ e. grind (arith, common_steps)) in
    let long = (rows_long rows a.0 s.polls.rows a.3).0 in
    let given_long = ap length given_none in
    let one : length rows ≡ 1 = omega arith in
    let w = c.values.result.now in
    let v = c.index-values-0.result in
    let are = one_each study rows (one_response study s.terms c.requires.sound was.terms) c.requires.widths in
    let is = one_value w v (has_one rows 0 w are c.values.ensures) c.index-values-0.is in
    led_first study s.terms rows s.state.x s.state.delta s.state.iteration v start.x start.delta start.iteration (one_row rows w one c.values.ensures ∙ ap (λ (x : List Decimal). x ∷ []) is)

pub returns-clause-searching : goal.returns-clause-searching
returns-clause-searching g c =
    let study = c.args.study.now in
    let s = c.args.self.now in
    let rows = g.R.Rows.rows c.args.rows.now in
    let was = c.requires.searching in
    let a = c.requires.answered in
    let some : is_some s.state.value ≡ true = c.if-is_none.ensures in
    let way = under_way study c.args.before s s.state.value some (λ e. grind (arith, common_steps)) was.handed_out in
    let count = polls_count study c.args.before s way in
    let counted = c.count-count.ensures.gives_count in
    let points = polls study.variables s.state.x s.state.delta in
    let has = has_iterate s.state some in
    let room = c.deref_mut.ensures.len in
    let kept = c.read_values.ensures.long in
    let held = was.values in
    let spare = was.spare in
    let out_is = c.deref.ensures.value ∙ with_items_is s.values c.read_values.new.out (c.read_values.ensures.long ∙ c.deref_mut.ensures.len) in
    let out_long = ap length out_is in
    let taken : length (take c.count-count.result c.deref.result.now) ≡ c.count-count.result = length-take-le c.count-count.result c.deref.result.now (omega arith) in
    let stepped = has_stepped study s.terms s.state c.step.new.state (take c.count-count.result c.deref.result.now) has was.standing way.left (omega arith) c.step.ensures.counts_iteration c.step.ensures.keeps_variables c.step.ensures.gives_iterate in
    let long = (rows_long rows a.0 s.polls.rows a.3).0 in
    let before = a.1 in
    let fits = way.room in
    let back = c.truncate.ensures.gives_room_back in
    let items = with_items_is s.values c.read_values.new.out (c.read_values.ensures.long ∙ c.deref_mut.ensures.len) in
    record {
      terms = was.terms;
      standing = stepped.standing;
      within = omega arith;
      width = c.truncate.ensures.keeps_width ∙ was.width;
      spare = omega arith;
      values = ap length items ∙ c.read_values.ensures.long ∙ ap length c.deref_mut.ensures.value ∙ was.values;
      handed_out = handed_none study (length rows) (record { terms = s.terms; state = c.step.new.state; polls = c.truncate.new.self; values = _ }) c.truncate.ensures.keeps_first_rows stepped.has_value;
    }

pub returns-clause-led : goal.returns-clause-led
returns-clause-led g c =
    let study = c.args.study.now in
    let s = c.args.self.now in
    let rows = g.R.Rows.rows c.args.rows.now in
    let was = c.requires.searching in
    let a = c.requires.answered in
    let some : is_some s.state.value ≡ true = c.if-is_none.ensures in
    let way = under_way study c.args.before s s.state.value some (λ e. grind (arith, common_steps)) was.handed_out in
    let count = polls_count study c.args.before s way in
    let counted = c.count-count.ensures.gives_count in
    let points = polls study.variables s.state.x s.state.delta in
    let has = has_iterate s.state some in
    let room = c.deref_mut.ensures.len in
    let kept = c.read_values.ensures.long in
    let held = was.values in
    let spare = was.spare in
    let out_is = c.deref.ensures.value ∙ with_items_is s.values c.read_values.new.out (c.read_values.ensures.long ∙ c.deref_mut.ensures.len) in
    let out_long = ap length out_is in
    let values = take c.count-count.result c.deref.result.now in
    let taken : length (take c.count-count.result c.deref.result.now) ≡ c.count-count.result = length-take-le c.count-count.result c.deref.result.now (omega arith) in
    let stepped = has_stepped study s.terms s.state c.step.new.state (take c.count-count.result c.deref.result.now) has was.standing way.left (omega arith) c.step.ensures.counts_iteration c.step.ensures.keeps_variables c.step.ensures.gives_iterate in
    let k = rows_long rows a.0 s.polls.rows a.3 in
    let behind = a.3.behind in
    let behind_long = k.1 in
    let same : values_in behind ≡ single values
    = sym (values_behind rows a.0 behind c.args.before c.count-count.result a.3.split a.1 (omega arith)) ∙ sym c.read_values.ensures.read ∙ ap (λ (l : List Decimal). single (take c.count-count.result l)) (sym out_is) in
    let before = a.1 in
    let fits = way.room in
    subst (GoesOnFrom study s.terms c.step.new.state.iteration _) (sym a.3.split)
    (led_stepped study s.terms s.state c.step.new.state has a.0 behind values stepped c.step.ensures.counts_iteration same a.2 way.high way.left (omega arith) (omega arith))
