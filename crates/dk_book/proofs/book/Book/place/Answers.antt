use Rattle.std.proofs.Common.{◌≡◌, None, Some, List, ◌∷◌, [], ◌++◌, length, set, nat_eq, ap, sym, subst, ◌∙◌, arith}
use Rattle.std.specs.Prelude.{◌==◌, slice_get, if◌then◌else◌}
use Rattle.std.proofs.lemmas.List.{length_push}
use Rattle.indexmap.specs.IndexMap.{get}
use Rattle.dk_types.specs.Cards.{Card, place_of, blank, SumUp}
use Rattle.dk_types.specs.Entries.{AreEntries}
use Rattle.dk_book.specs.Kept.{unmarked}
use Rattle.dk_book.specs.Books.{BookState, with_card}
use Rattle.dk_book.specs.Kept.{cards_by, IsKept}
use Rattle.dk_book.specs.Told.{StandsFor}
use Rattle.dk_book.proofs.Lists.{item_last}
use Rattle.dk_book.proofs.Placed.{IsPut, card_point, cards_length, cards_put, kept_put, place_of_more, sum_up_more, with_new}
use Rattle.dk_book.proofs.Searched.{indexed_put}
use Rattle.dk_book.proofs.book.Book.place.Goals as goal

put : (c : goal.After-add) → IsPut c.self.inside.points c.args.point.now c.put_row-row.new.self
put c = record { rows = c.put_row-row.ensures.adds_row; width = c.put_row-row.ensures.keeps_width; spare = c.put_row-row.ensures.takes_room }

abbrev was : goal.After-add → List Card
was c = cards_by c.self.inside.values.rows c.self.inside.points.rows c.self.inside.marks.items

none : (c : goal.After-add) → place_of (was c) c.args.point.now ≡ None
none c = ap (λ (b : BookState). place_of b.cards c.args.point.now) c.self.view_is ∙ sym c.in-None.ensures.place

now : (c : goal.After-add) → cards_by c.self.inside.values.rows c.put_row-row.new.self.rows c.self.inside.marks.items ≡ was c ++ blank c.args.point.now ∷ []
now c = cards_put _ _ _ _ _ c.self.invariant.kept (put c)

still : (c : goal.After-add) → IsKept c.put_row-row.new.self c.self.inside.values c.self.inside.marks.items
still c = kept_put _ _ _ _ _ c.self.invariant.kept (put c) (c.requires.has_width ∙ sym (ap (λ (b : BookState). b.variables) c.self.view_is)) (none c)

pub invariant_of-self : goal.invariant_of-self
invariant_of-self c = record {
  kept = still c;
  indexed = indexed_put _ _ _ _ _ _ _ _ _ _ c.self.invariant.indexed (put c) c.hash_of-hash.ensures.canonical c.put_row-row.ensures.names_row
      (λ other.
      c.add.ensures.is_last other
      ∙ ap (λ hash. if hash == other then Some c.put_row-row.result.index else get nat_eq c.self.inside.index.last other) c.hash_of-hash.ensures.value)
      (c.add.ensures.chains ∙ ap (λ hash. set c.self.inside.index.before.items c.put_row-row.result.index (get nat_eq c.self.inside.index.last hash)) c.hash_of-hash.ensures.value)
      c.add.ensures.takes_room;
}

pub returns-in-None-clause-places_card : goal.returns-in-None-clause-places_card
returns-in-None-clause-places_card c =
    now c ∙ sym (with_new (was c) c.args.point.now (none c)) ∙ ap (λ (b : BookState). with_card b.cards c.args.point.now) c.self.view_is

pub returns-in-None-clause-names_card : goal.returns-in-None-clause-names_card
returns-in-None-clause-names_card c =
    let enough = c.self.invariant.kept.enough in
    ap (λ cards. place_of cards c.args.point.now) (now c)
    ∙ place_of_more (was c) c.args.point.now (none c)
    ∙ ap Some (cards_length c.self.inside.values.rows c.self.inside.points.rows c.self.inside.marks.items (omega arith) ∙ sym c.put_row-row.ensures.names_row)

pub returns-in-None-clause-takes_room : goal.returns-in-None-clause-takes_room
returns-in-None-clause-takes_room c =
    omega (arith, ap length (now c), length_push (was c) (blank c.args.point.now), ap (λ (b : BookState). length b.cards) c.self.view_is, ap (λ (b : BookState). b.spare) c.self.view_is, c.put_row-row.ensures.takes_room)

pub returns-in-None-clause-stands_for_entries : goal.returns-in-None-clause-stands_for_entries
returns-in-None-clause-stands_for_entries c = λ entries stands.
    let s = subst (λ b. StandsFor b entries) (sym c.self.view_is) stands in
    record {
      well_formed = subst (λ n. AreEntries n c.self.inside.values.width entries) (sym c.put_row-row.ensures.keeps_width) s.well_formed;
      sum_up = subst (λ cards. SumUp cards entries) (sym (now c)) (sum_up_more (was c) c.args.point.now entries s.sum_up);
    }

pub returns-in-None-clause-is_book : goal.returns-in-None-clause-is_book
returns-in-None-clause-is_book c = (still c).book

pub returns-in-None-clause-names_same_point : goal.returns-in-None-clause-names_same_point
returns-in-None-clause-names_same_point c =
    let enough = c.self.invariant.kept.enough in
    let room = c.put_row-row.ensures.takes_room in
    let more = ap length c.put_row-row.ensures.adds_row ∙ length_push c.self.inside.points.rows c.args.point.now in
    card_point c.self.inside.values.rows c.put_row-row.new.self.rows c.self.inside.marks.items c.put_row-row.result.index unmarked (omega arith) (let at = c.put_row-row.ensures.names_row in omega arith)
    ∙ ap (λ rows. slice_get rows c.put_row-row.result.index) c.put_row-row.ensures.adds_row
    ∙ ap (slice_get (c.self.inside.points.rows ++ c.args.point.now ∷ [])) c.put_row-row.ensures.names_row
    ∙ item_last c.self.inside.points.rows c.args.point.now
