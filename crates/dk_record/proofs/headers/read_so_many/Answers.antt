use Rattle.std.proofs.Common.{◌≡◌, ◌+◌, ◌++◌, List, [], ◌∷◌, ℕ, length, ◌∙◌, ap, refl, arith}
use Rattle.std.proofs.lemmas.List.{length_push}
use Rattle.std.proofs.lemmas.List.Elements.{All-push, All-same}
use Rattle.std.proofs.lemmas.Slice.{pushed}
use Rattle.dk_record.specs.Payloads.{label_bytes}
use Rattle.dk_record.specs.Readings.{IsLabel}
use Rattle.dk_record.proofs.Shapes.{label_same}
use Rattle.dk_record.proofs.Fronts.{none_more, split_more}
use Rattle.dk_record.proofs.headers.read_so_many.Goals as goal

pub returns-in_default : goal.returns-in_default
returns-in_default c other tail b =
    let i = c.loop-place.invariant in
    none_more IsLabel label_bytes label_same c.loop-place.labels.items other c.args.bytes.now c.loop-place.rest.now tail i.each i.split c.in_default.ensures b.is_one.each (omega (arith, i.count, b.is_one.long, c.loop-place-test.true)) b.split

pub loop-place-preserved : goal.loop-place-preserved
loop-place-preserved c =
    let i = c.loop-place.invariant in
    let label = c.in-Some.label.now in
    let old = c.loop-place.labels.items in
    let text : c.in_ok-text_of.field-0 ≡ label = c.in_ok-text_of.ensures in
    let items : c.push.new.self.items ≡ old ++ label ∷ [] = pushed (c.in_ok-text_of.field-0 ∷ []) refl c.in_ok-push.was c.push.ensures.items ∙ ap (λ (t : List ℕ). old ++ t ∷ []) text in
    record {
      count = ap length items ∙ length_push old label ∙ ap (λ (n : ℕ). n + 1) i.count;
      each = All-same IsLabel c.push.new.self.items (old ++ label ∷ []) items (All-push IsLabel old label i.each c.in-Some.ensures.is_one);
      split = split_more label_bytes old label c.push.new.self.items c.args.bytes.now c.loop-place.rest.now c.in-Some.behind.now i.split c.in-Some.ensures.split items;
    }
