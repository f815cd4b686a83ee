use Rattle.std.proofs.Common.{◌≡◌, sym, ap, ◌∙◌, rules, tests}
use Rattle.std.specs.Prelude.{find}
use Rattle.std.specs.Option.{option_map}
use Rattle.std.proofs.lemmas.Iterator.{YieldsList-from_slice}
use Rattle.std.proofs.lemmas.Iterator.Search.{find_from_yields_List}
use Rattle.dk_reader.specs.declared.fault.StudyKind.TheVariants as kind
use Rattle.dk_reader.specs.Steps.{fault, is_foreign}
use Rattle.dk_reader.proofs.First.{found_first}
use Rattle.dk_reader.proofs.document.Field.foreign_fault.Goals as goal

pub returns-in-Some : goal.returns-in-Some
returns-in-Some c =
    let found : option_map (λ x. x.now) c.find.result ≡ find (is_foreign c.args.self.now) c.args.fields.now = find_from_yields_List (is_foreign c.args.self.now) _ _ c.find.result c.find.ensures.ran (YieldsList-from_slice c.args.fields.now (cc)) (λ x b q k. search (rules, tests)) in
    ap (λ o. option_map (λ f. fault kind.Conflict f.keyword) (option_map (λ x. x.now) o)) (sym c.in-Some.is) ∙ ap (λ o. option_map (λ f. fault kind.Conflict f.keyword) o) found ∙ found_first (is_foreign c.args.self.now) (λ f. fault kind.Conflict f.keyword) c.args.fields.now

pub returns-in-None : goal.returns-in-None
returns-in-None c =
    let found : option_map (λ x. x.now) c.find.result ≡ find (is_foreign c.args.self.now) c.args.fields.now = find_from_yields_List (is_foreign c.args.self.now) _ _ c.find.result c.find.ensures.ran (YieldsList-from_slice c.args.fields.now (cc)) (λ x b q k. search (rules, tests)) in
    ap (λ o. option_map (λ f. fault kind.Conflict f.keyword) (option_map (λ x. x.now) o)) (sym c.in-None.is) ∙ ap (λ o. option_map (λ f. fault kind.Conflict f.keyword) o) found ∙ found_first (is_foreign c.args.self.now) (λ f. fault kind.Conflict f.keyword) c.args.fields.now
