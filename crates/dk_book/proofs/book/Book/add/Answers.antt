use Rattle.std.proofs.Common.{◌≡◌, ◌<◌, Some, length, slice_set, ◌+◌, refl, ap, sym, subst, ◌∙◌, arith}
use Rattle.std.specs.Prelude.{IfSome, slice_get}
use Rattle.std.proofs.lemmas.List.{length_push}
use Rattle.dk_types.specs.declared.entry.Outcome.{Outcome}
use Rattle.dk_types.specs.declared.entry.Said.TheVariants.{Values, Failed}
use Rattle.dk_types.specs.Entries.{kept, values_of}
use Rattle.dk_book.specs.declared.book.Mark.{Mark}
use Rattle.dk_book.specs.Books.{BookState, IsBook, IsDue, with_attempt}
use Rattle.dk_book.specs.Kept.{cards_by, IsKept}
use Rattle.dk_book.proofs.Placed.{point_there}
use Rattle.dk_book.proofs.Tried.{cards_failed, cards_gave, kept_tried, stands_tried}
use Rattle.dk_book.proofs.book.Book.add.Goals as goal

pub index_mut-requires : goal.index_mut-requires
index_mut-requires c =
    let there = point_there _ _ _ _ _ c.self.invariant.kept c.self.view_is c.requires.is_there in
    omega (arith, c.self.invariant.kept.enough)

pub index_mut-requires-in-Failed : goal.index_mut-requires-in-Failed
index_mut-requires-in-Failed c =
    let there = point_there _ _ _ _ _ c.self.invariant.kept c.self.view_is c.requires.is_there in
    omega (arith, c.self.invariant.kept.enough)

now_gave : (c : goal.After-self-1) → cards_by c.put_row.new.self.rows c.self.inside.points.rows (slice_set c.self.inside.marks.items c.args.card.index (record { failures = c.index_mut.result.now.failures; values = Some c.put_row.result }))
    ≡ with_attempt (cards_by c.self.inside.values.rows c.self.inside.points.rows c.self.inside.marks.items) c.args.card.index (Values c.in-Values.values.now)
now_gave c = cards_gave c.self.inside.points c.self.inside.values c.put_row.new.self c.self.inside.marks.items c.args.card.index c.index_mut.result.now c.put_row.result c.in-Values.values.now
    c.self.invariant.kept (point_there _ _ _ _ _ c.self.invariant.kept c.self.view_is c.requires.is_there) c.index_mut.ensures.value c.put_row.ensures.adds_row c.put_row.ensures.names_row

now_failed : (c : goal.After-self-in-Failed-1) → cards_by c.self.inside.values.rows c.self.inside.points.rows (slice_set c.self.inside.marks.items c.args.card.index (record { failures = c.args.attempt; values = c.index_mut-in-Failed.result.now.values }))
    ≡ with_attempt (cards_by c.self.inside.values.rows c.self.inside.points.rows c.self.inside.marks.items) c.args.card.index Failed
now_failed c = cards_failed c.self.inside.points c.self.inside.values c.self.inside.marks.items c.args.card.index c.args.attempt c.index_mut-in-Failed.result.now
    c.self.invariant.kept (point_there _ _ _ _ _ c.self.invariant.kept c.self.view_is c.requires.is_there) c.index_mut-in-Failed.ensures.value
    (subst (λ (b : BookState). IfSome (slice_get b.cards c.args.card.index) (λ card. IsDue card c.args.attempt)) (sym c.self.view_is) c.requires.is_due)

kept_gave : (c : goal.After-self-1) → IsKept c.self.inside.points c.put_row.new.self (slice_set c.self.inside.marks.items c.args.card.index (record { failures = c.index_mut.result.now.failures; values = Some c.put_row.result }))
kept_gave c =
    let more : length c.put_row.new.self.rows ≡ length c.self.inside.values.rows + 1 = ap length c.put_row.ensures.adds_row ∙ length_push c.self.inside.values.rows c.in-Values.values.now in
    kept_tried c.self.inside.points c.self.inside.values c.put_row.new.self c.self.inside.marks.items c.args.card.index _ (Values c.in-Values.values.now)
    c.self.invariant.kept (point_there _ _ _ _ _ c.self.invariant.kept c.self.view_is c.requires.is_there) (now_gave c)
    (subst (λ (o : Outcome). IfSome (values_of (kept o)) (λ values. length values ≡ c.self.inside.values.width)) c.in-Values.is
    (subst (λ (b : BookState). IfSome (values_of (kept c.args.outcome)) (λ values. length values ≡ b.responses)) (sym c.self.view_is) c.requires.has_width))
    c.put_row.ensures.keeps_width (omega arith) (let id = c.put_row.ensures.names_row in omega arith)

pub invariant_of-self : goal.invariant_of-self
invariant_of-self c = record { kept = kept_gave c; indexed = c.self.invariant.indexed }

kept_failed : (c : goal.After-self-in-Failed-1) → IsKept c.self.inside.points c.self.inside.values (slice_set c.self.inside.marks.items c.args.card.index (record { failures = c.args.attempt; values = c.index_mut-in-Failed.result.now.values }))
kept_failed c =
    let there = point_there _ _ _ _ _ c.self.invariant.kept c.self.view_is c.requires.is_there in
    kept_tried c.self.inside.points c.self.inside.values c.self.inside.values c.self.inside.marks.items c.args.card.index _ Failed c.self.invariant.kept there (now_failed c) tt refl (omega arith)
    (subst (λ (m : Mark). IfSome m.values (λ row. row.index < length c.self.inside.values.rows)) (sym c.index_mut-in-Failed.ensures.value)
    (c.self.invariant.kept.there c.args.card.index c.index_mut-in-Failed.result.now (omega (arith, c.self.invariant.kept.enough))))

pub invariant_of-self-in-Failed : goal.invariant_of-self-in-Failed
invariant_of-self-in-Failed c = record { kept = kept_failed c; indexed = c.self.invariant.indexed }

pub returns-in-Values-clause-adds_attempt : goal.returns-in-Values-clause-adds_attempt
returns-in-Values-clause-adds_attempt c =
    now_gave c
    ∙ ap (λ (b : BookState). with_attempt b.cards c.args.card.index (Values c.in-Values.values.now)) c.self.view_is
    ∙ ap (λ (o : Outcome). with_attempt c.args.self.now.cards c.args.card.index (kept o)) (sym c.in-Values.is)

pub returns-in-Failed-clause-adds_attempt : goal.returns-in-Failed-clause-adds_attempt
returns-in-Failed-clause-adds_attempt c =
    now_failed c
    ∙ ap (λ (b : BookState). with_attempt b.cards c.args.card.index Failed) c.self.view_is
    ∙ ap (λ (o : Outcome). with_attempt c.args.self.now.cards c.args.card.index (kept o)) (sym c.in-Failed.is)

pub returns-in-Values-clause-stands_for_entries : goal.returns-in-Values-clause-stands_for_entries
returns-in-Values-clause-stands_for_entries c = stands_tried c.args.self.now _ c.args.card.index c.args.attempt (kept c.args.outcome) (subst IsBook c.self.view_is c.self.invariant.kept.book) c.requires.is_due c.requires.has_width
    (returns-in-Values-clause-adds_attempt c) (ap (λ (b : BookState). b.variables) c.self.view_is) (c.put_row.ensures.keeps_width ∙ ap (λ (b : BookState). b.responses) c.self.view_is)

pub returns-in-Failed-clause-stands_for_entries : goal.returns-in-Failed-clause-stands_for_entries
returns-in-Failed-clause-stands_for_entries c = stands_tried c.args.self.now _ c.args.card.index c.args.attempt (kept c.args.outcome) (subst IsBook c.self.view_is c.self.invariant.kept.book) c.requires.is_due c.requires.has_width
    (returns-in-Failed-clause-adds_attempt c) (ap (λ (b : BookState). b.variables) c.self.view_is) (ap (λ (b : BookState). b.responses) c.self.view_is)

pub returns-in-Values-clause-is_book : goal.returns-in-Values-clause-is_book
returns-in-Values-clause-is_book c = (kept_gave c).book

pub returns-in-Failed-clause-is_book : goal.returns-in-Failed-clause-is_book
returns-in-Failed-clause-is_book c = (kept_failed c).book
