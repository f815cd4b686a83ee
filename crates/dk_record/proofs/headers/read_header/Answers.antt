use Rattle.std.proofs.Common.{◌≡◌, ◌++◌, codes, Some}
use Rattle.std.proofs.lemmas.Bool.Decides.{Decides-eqb}
use Rattle.std.proofs.lemmas.Slice.Eq.{strip_prefix_is}
use Rattle.dk_record.proofs.Readers.{no_responses, has_header}
use Rattle.dk_record.proofs.headers.read_header.Goals as goal

pub returns-in_default-3 : goal.returns-in_default-3
returns-in_default-3 c =
    let marked : c.args.bytes.now ≡ codes "DKRSTv1\n" ++ c.in-Some.behind.now = strip_prefix_is Decides-eqb c.args.bytes.now (codes "DKRSTv1\n") (Some c.in-Some.behind) c.in-Some.ensures.cases in
    let variables = rw c.in-Some-2.is at c.in_ok-variables.ensures in
    let none = rw c.in_default-3.is at c.in_ok-responses.ensures in
    record { reads = no_responses c.args.bytes.now c.in-Some.behind.now c.in-Some-2.variables c.in-Some-2.behind.now marked variables none }

pub returns : goal.returns
returns c =
    let marked : c.args.bytes.now ≡ codes "DKRSTv1\n" ++ c.in-Some.behind.now = strip_prefix_is Decides-eqb c.args.bytes.now (codes "DKRSTv1\n") (Some c.in-Some.behind) c.in-Some.ensures.cases in
    let variables = rw c.in-Some-2.is at c.in_ok-variables.ensures in
    let responses = rw c.in-Some-3.is at c.in_ok-responses.ensures in
    record { reads = has_header c.args.bytes.now c.in-Some.behind.now c.in-Some-2.variables c.in-Some-2.behind.now c.in-Some-3.responses c.in-Some-3.rest.now marked variables responses }
