use Rattle.std.proofs.Common.{◌≡◌, sym, ap, ◌∙◌, rules, tests}
use Rattle.std.specs.Prelude.{Option, find}
use Rattle.std.specs.Option.{option_map, option_map_or}
use Rattle.std.proofs.lemmas.Iterator.{YieldsList-from_slice}
use Rattle.std.proofs.lemmas.Iterator.Search.{find_from_yields_List}
use Rattle.dk_lex.specs.declared.token.Span.{Span}
use Rattle.dk_grammar.specs.declared.parts.Opening.{Opening}
use Rattle.dk_grammar.specs.Meanings.{same_block}
use Rattle.dk_reader.specs.Document.{empty_span}
use Rattle.dk_reader.proofs.fields.part_of.Goals as goal

-- the name's span, or none
abbrev name_of : Option Opening → Span
name_of o = option_map_or (λ p. p.name) o empty_span

pub returns-in-Some : goal.returns-in-Some
returns-in-Some c =
    let found : option_map (λ x. x.now) c.find.result ≡ find (λ p. same_block c.args.block p.block) c.args.parts.now = find_from_yields_List (λ p. same_block c.args.block p.block) _ _ c.find.result c.find.ensures.ran (YieldsList-from_slice c.args.parts.now (cc)) (λ x b q k. search (rules, tests)) in
    ap (λ o. name_of (option_map (λ x. x.now) o)) (sym c.in-Some.is) ∙ ap (λ o. name_of o) found

pub returns-in-None : goal.returns-in-None
returns-in-None c =
    let found : option_map (λ x. x.now) c.find.result ≡ find (λ p. same_block c.args.block p.block) c.args.parts.now = find_from_yields_List (λ p. same_block c.args.block p.block) _ _ c.find.result c.find.ensures.ran (YieldsList-from_slice c.args.parts.now (cc)) (λ x b q k. search (rules, tests)) in
    ap (λ o. name_of (option_map (λ x. x.now) o)) (sym c.in-None.is) ∙ ap (λ o. name_of o) found
