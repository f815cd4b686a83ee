use Rattle.std.proofs.Common.{◌≡◌, sym, ap, ◌∙◌, rules, tests}
use Rattle.std.specs.Prelude.{find}
use Rattle.std.specs.Option.{option_map}
use Rattle.std.proofs.lemmas.Iterator.{YieldsList-from_slice}
use Rattle.std.proofs.lemmas.Iterator.Search.{find_from_yields_List}
use Rattle.dk_reader.specs.Steps.{fault}
use Rattle.dk_reader.specs.Tests.{is_wrong}
use Rattle.dk_reader.proofs.First.{found_first}
use Rattle.dk_reader.proofs.faults.at_values.Goals as goal

pub returns-in-Some : goal.returns-in-Some
returns-in-Some c =
    let found : option_map (λ x. x.now) c.find.result ≡ find (is_wrong c.args.wrong) c.args.values.now = find_from_yields_List (is_wrong c.args.wrong) _ _ c.find.result c.find.ensures.ran (YieldsList-from_slice c.args.values.now (cc)) (λ x b q k. search (rules, tests)) in
    ap (λ o. option_map (λ v. fault c.args.kind v.span) (option_map (λ x. x.now) o)) (sym c.in-Some.is) ∙ ap (λ o. option_map (λ v. fault c.args.kind v.span) o) found ∙ found_first (is_wrong c.args.wrong) (λ v. fault c.args.kind v.span) c.args.values.now

pub returns-in-None : goal.returns-in-None
returns-in-None c =
    let found : option_map (λ x. x.now) c.find.result ≡ find (is_wrong c.args.wrong) c.args.values.now = find_from_yields_List (is_wrong c.args.wrong) _ _ c.find.result c.find.ensures.ran (YieldsList-from_slice c.args.values.now (cc)) (λ x b q k. search (rules, tests)) in
    ap (λ o. option_map (λ v. fault c.args.kind v.span) (option_map (λ x. x.now) o)) (sym c.in-None.is) ∙ ap (λ o. option_map (λ v. fault c.args.kind v.span) o) found ∙ found_first (is_wrong c.args.wrong) (λ v. fault c.args.kind v.span) c.args.values.now
