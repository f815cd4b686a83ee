use Rattle.std.proofs.Common.{Some, ◌<◌, [], length, map, sym, ap, subst, ◌∙◌, arith}
use Rattle.std.proofs.lemmas.List.{length-map}
use Rattle.std.proofs.lemmas.Option.{get_or_from_slice_get}
use Rattle.std.specs.Prelude.{option_map, slice_get}
use Rattle.dk_types.specs.Best.{same_point}
use Rattle.dk_types.specs.Cards.{Card, place_of}
use Rattle.dk_book.specs.Hashes.{hash_of}
use Rattle.dk_book.specs.Index.{last_with}
use Rattle.dk_book.specs.Kept.{unmarked}
use Rattle.dk_book.specs.Books.{BookState}
use Rattle.dk_book.proofs.Placed.{card_point, place_of_same, place_of_none}
use Rattle.dk_book.proofs.Searched.{IsWalk, left, walk_begun, walk_there, walk_on, walk_smaller, walk_done, apart_before}
use Rattle.dk_book.proofs.book.Book.search.Goals as goal

pub loop-next-init : goal.loop-next-init
loop-next-init c = walk_begun _ _ _
    (c.last_with-next.ensures ∙ c.self.invariant.indexed.finds.known c.args.hash
    ∙ ap (λ hash. last_with (map hash_of c.self.inside.points.rows) hash (length (map hash_of c.self.inside.points.rows))) c.requires.is_hash)

pub row-other-requires : goal.row-other-requires
row-other-requires c = record {
  is_there = walk_there _ _ _ (subst (IsWalk c.self.inside.points.rows c.args.point.now) c.in-Some.is c.loop-next.invariant);
}

pub returns-then-is_same_point-clause-place : goal.returns-then-is_same_point-clause-place
returns-then-is_same_point-clause-place c =
    let enough = c.self.invariant.kept.enough in
    let there = walk_there _ _ _ (subst (IsWalk c.self.inside.points.rows c.args.point.now) c.in-Some.is c.loop-next.invariant) in
    let is = get_or_from_slice_get c.self.inside.points.rows c.in-Some.index c.row-other.result.now [] c.row-other.ensures.lends_row ∙ c.is_same_point.ensures.pair c.if-is_same_point.true in
    sym (place_of_same _ _ _ _ _ _ (omega arith) there
    (apart_before _ _ _ _ _ (omega arith) c.self.invariant.kept.book.distinct there is) c.row-other.ensures.lends_row (sym c.is_same_point.ensures.value ∙ c.if-is_same_point.true))
    ∙ ap (λ (b : BookState). place_of b.cards c.args.point.now) c.self.view_is

pub returns-then-is_same_point-clause-same_point : goal.returns-then-is_same_point-clause-same_point
returns-then-is_same_point-clause-same_point c =
    let enough = c.self.invariant.kept.enough in
    let there = walk_there _ _ _ (subst (IsWalk c.self.inside.points.rows c.args.point.now) c.in-Some.is c.loop-next.invariant) in
    sym (ap (λ (b : BookState). option_map (λ (card : Card). card.point) (slice_get b.cards c.in-Some.index)) c.self.view_is)
    ∙ card_point c.self.inside.values.rows c.self.inside.points.rows c.self.inside.marks.items c.in-Some.index unmarked (omega arith) there
    ∙ c.row-other.ensures.lends_row
    ∙ ap Some (c.is_same_point.ensures.pair c.if-is_same_point.true)

pub before-next-requires : goal.before-next-requires
before-next-requires c =
    let there = walk_there _ _ _ (subst (IsWalk c.self.inside.points.rows c.args.point.now) c.in-Some.is c.loop-next.invariant) in
    omega (arith, there, c.self.invariant.indexed.enough)

pub loop-next-preserved : goal.loop-next-preserved
loop-next-preserved c =
    let walk = subst (IsWalk c.self.inside.points.rows c.args.point.now) c.in-Some.is c.loop-next.invariant in
    let row = get_or_from_slice_get c.self.inside.points.rows c.in-Some.index c.row-other.result.now [] c.row-other.ensures.lends_row in
    walk_on _ _ _ _ c.self.invariant.indexed.canonical c.requires.canonical walk
    (ap (λ p. same_point p c.args.point.now) row ∙ sym c.is_same_point.ensures.value ∙ c.if-is_same_point.false)
    (c.before-next.ensures ∙ c.self.invariant.indexed.finds.chained c.in-Some.index (let there = walk_there _ _ _ walk in omega (arith, there, length-map c.self.inside.points.rows hash_of)))

pub loop-next-smaller : goal.loop-next-smaller
loop-next-smaller c =
    let walk = subst (IsWalk c.self.inside.points.rows c.args.point.now) c.in-Some.is c.loop-next.invariant in
    subst (λ o. left c.before-next.result < left o) (sym c.in-Some.is)
    (walk_smaller _ _ _ _ (c.before-next.ensures ∙ c.self.invariant.indexed.finds.chained c.in-Some.index (let there = walk_there _ _ _ walk in omega (arith, there, length-map c.self.inside.points.rows hash_of))))

pub returns-clause-place : goal.returns-clause-place
returns-clause-place c =
    let enough = c.self.invariant.kept.enough in
    sym (place_of_none _ _ _ _ (omega arith) (walk_done _ _ c.self.invariant.indexed.canonical c.requires.canonical (subst (IsWalk c.self.inside.points.rows c.args.point.now) c.in_default.is c.loop-next.invariant)))
    ∙ ap (λ (b : BookState). place_of b.cards c.args.point.now) c.self.view_is
