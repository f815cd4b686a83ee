use Rattle.std.proofs.Common.{◌+◌, ◌≤◌, length, take, get_or, sym, arith}
use Rattle.std.proofs.lemmas.List.{take_rest, length-take-le}
use Rattle.dk_grammar.proofs.Growing.{grown_more, no_token}
use Rattle.dk_grammar.proofs.grower.grow.Goals as goal

-- the token's opening and item join the others
pub returns : goal.returns
returns c =
    let within : c.args.place ≤ length c.args.tokens.now = omega (arith, c.requires.is_within) in
    let keyword = c.entry_at-entry.ensures (take c.args.place c.args.tokens.now) c.requires.is_grown.context in
    grown_more c.args.text.now c.args.tokens.now c.args.place no_token c.args.growth.now _ c.opens-opened.result c.entry_at-entry.result _ c.requires.is_within c.requires.is_grown
    (c.next-growth.ensures c.args.text.now (take c.args.place c.args.tokens.now) (get_or c.args.tokens.now c.args.place no_token) c.requires.is_grown.context
    (sym (length-take-le c.args.place c.args.tokens.now within)) c.opens-opened.ensures keyword)
    c.opens-opened.ensures keyword (take_rest c.args.tokens.now (c.args.place + 1)) c.in_ok-push_opening.ensures c.in_ok-push_item.ensures
