use Rattle.std.proofs.Common.{◌+◌, ◌≤◌, length, drop, take, get_or, sym, arith}
use Rattle.std.proofs.lemmas.List.{length-take-le}
use Rattle.dk_grammar.proofs.Growing.{judged_more, judged_fault, no_token}
use Rattle.dk_grammar.proofs.faults.judge_at.Goals as goal

-- the fault of this token is the first
pub returns-in-Some : goal.returns-in-Some
returns-in-Some c =
    judged_fault c.args.text.now c.args.tokens.now c.args.place no_token c.args.context c.in-Some.fault c.requires.is_within c.requires.is_judged
    (sym (c.in-Some.ensures (drop (c.args.place + 1) c.args.tokens.now)))

pub returns-in-None : goal.returns-in-None
returns-in-None c =
    let within : c.args.place ≤ length c.args.tokens.now = omega (arith, c.requires.is_within) in
    judged_more c.args.text.now c.args.tokens.now c.args.place no_token c.args.context c.next.result c.requires.is_within c.requires.is_judged
    (sym (c.in-None.ensures (drop (c.args.place + 1) c.args.tokens.now)))
    (c.next.ensures c.args.text.now (take c.args.place c.args.tokens.now) (get_or c.args.tokens.now c.args.place no_token) c.requires.is_judged.context
    (sym (length-take-le c.args.place c.args.tokens.now within)) c.opens-opened.ensures (c.entry_at-entry.ensures (take c.args.place c.args.tokens.now) c.requires.is_judged.context))
