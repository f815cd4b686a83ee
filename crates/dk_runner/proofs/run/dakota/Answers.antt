use Rattle.std.proofs.Common.{◌≡◌, [], ◌∷◌, ap, subst, arith}
use Rattle.std.specs.Prelude.{map, string_bytes, IfSome}
use Rattle.dk_types.specs.declared.study.Study.{Study}
use Rattle.dk_runner.specs.Accepted.{Accepts}
use Rattle.dk_runner.specs.Endings.{Scene, scene}
use Rattle.dk_runner.specs.Headline.{Written, BreaksTable, BreaksSummary, StopsOver, CanRun, EndsDecided}
use Rattle.dk_runner.specs.Outsides.{Outside, outside_of}
use Rattle.dk_runner.specs.Restarts.{LeavesFile, KeepsAll}
use Rattle.dk_runner.proofs.Accepts.{benches_without}
use Rattle.dk_runner.proofs.Clauses.{NotRisen, decided_of, table_front_of, summary_front_of, stops_of, file_of, keeps_of, complete_of, in_mode}
use Rattle.dk_runner.proofs.FirstBench.{outside_first, first_together, others_stay, first_stays, are_after}
use Rattle.dk_runner.proofs.Told.{refusal_told}
use Rattle.dk_runner.proofs.run.dakota.Goals as goal

pub returns-clause-decided : goal.returns-clause-decided
returns-clause-decided g c =
    let words = map string_bytes c.args.words.now in
    let leaves = g.B.Bench.leaves in
    let at : Scene = scene words (g.S.Source.left c.args.study.now) (g.S.Source.faults c.args.study.now) (g.S.Source.faults c.run-left.new.source)
    (g.T.Sink.held c.args.table.now) (g.T.Sink.held c.run-left.new.table) (g.T.Sink.faults c.args.table.now) (g.T.Sink.faults c.run-left.new.table)
    (g.U.Sink.held c.args.out.now) (g.U.Sink.held c.run-left.new.out) (g.U.Sink.faults c.args.out.now) (g.U.Sink.faults c.run-left.new.out) in
    let left = c.run-left.result in
    let first = c.take_first-bench.result in
    let o : Outside = outside_of g.K.Disk.told g.K.Disk.faults g.B.Bench.held g.B.Bench.faults c.mode_of.result c.args.restart left.restart left.book (first ∷ []) (left.bench ∷ []) in
    let same = outside_first g.K.Disk.told g.K.Disk.faults g.B.Bench.held g.B.Bench.faults c.mode_of.result c.args.restart left.restart left.book c.args.benches.items c.put_first.new.benches.items
    first left.bench c.take_first-bench.new.benches.items c.take_first-bench.ensures.first c.put_first.ensures.first in
    let untouched = c.run-left.new.table ≡ c.args.table.now in
    let uncalled = (left.restart ≡ c.args.restart) × (left.bench ≡ first) in
    let ends = c.run-left.ensures.ends in
    λ is. in_mode _ words c.mode_of.result c.mode_of.ensures.of_run (subst (λ (x : Outside). IfSome at.left (λ text. Written leaves text x left.status at.table_old at.table_new at.out_old at.out_new)) same (decided_of leaves at o untouched uncalled left.status ends is))

pub returns-clause-stops : goal.returns-clause-stops
returns-clause-stops g c =
    let words = map string_bytes c.args.words.now in
    let leaves = g.B.Bench.leaves in
    let at : Scene = scene words (g.S.Source.left c.args.study.now) (g.S.Source.faults c.args.study.now) (g.S.Source.faults c.run-left.new.source)
    (g.T.Sink.held c.args.table.now) (g.T.Sink.held c.run-left.new.table) (g.T.Sink.faults c.args.table.now) (g.T.Sink.faults c.run-left.new.table)
    (g.U.Sink.held c.args.out.now) (g.U.Sink.held c.run-left.new.out) (g.U.Sink.faults c.args.out.now) (g.U.Sink.faults c.run-left.new.out) in
    let left = c.run-left.result in
    let first = c.take_first-bench.result in
    let o : Outside = outside_of g.K.Disk.told g.K.Disk.faults g.B.Bench.held g.B.Bench.faults c.mode_of.result c.args.restart left.restart left.book (first ∷ []) (left.bench ∷ []) in
    let same = outside_first g.K.Disk.told g.K.Disk.faults g.B.Bench.held g.B.Bench.faults c.mode_of.result c.args.restart left.restart left.book c.args.benches.items c.put_first.new.benches.items
    first left.bench c.take_first-bench.new.benches.items c.take_first-bench.ensures.first c.put_first.ensures.first in
    let untouched = c.run-left.new.table ≡ c.args.table.now in
    let uncalled = (left.restart ≡ c.args.restart) × (left.bench ≡ first) in
    let ends = c.run-left.ensures.ends in
    in_mode _ words c.mode_of.result c.mode_of.ensures.of_run (subst (λ (x : Outside). IfSome at.left (λ text. StopsOver leaves text x left.status)) same (stops_of leaves at o untouched uncalled left.status ends))

pub returns-clause-file : goal.returns-clause-file
returns-clause-file g c =
    let words = map string_bytes c.args.words.now in
    let leaves = g.B.Bench.leaves in
    let at : Scene = scene words (g.S.Source.left c.args.study.now) (g.S.Source.faults c.args.study.now) (g.S.Source.faults c.run-left.new.source)
    (g.T.Sink.held c.args.table.now) (g.T.Sink.held c.run-left.new.table) (g.T.Sink.faults c.args.table.now) (g.T.Sink.faults c.run-left.new.table)
    (g.U.Sink.held c.args.out.now) (g.U.Sink.held c.run-left.new.out) (g.U.Sink.faults c.args.out.now) (g.U.Sink.faults c.run-left.new.out) in
    let left = c.run-left.result in
    let first = c.take_first-bench.result in
    let o : Outside = outside_of g.K.Disk.told g.K.Disk.faults g.B.Bench.held g.B.Bench.faults c.mode_of.result c.args.restart left.restart left.book (first ∷ []) (left.bench ∷ []) in
    let same = outside_first g.K.Disk.told g.K.Disk.faults g.B.Bench.held g.B.Bench.faults c.mode_of.result c.args.restart left.restart left.book c.args.benches.items c.put_first.new.benches.items
    first left.bench c.take_first-bench.new.benches.items c.take_first-bench.ensures.first c.put_first.ensures.first in
    let untouched = c.run-left.new.table ≡ c.args.table.now in
    let uncalled = (left.restart ≡ c.args.restart) × (left.bench ≡ first) in
    let ends = c.run-left.ensures.ends in
    in_mode _ words c.mode_of.result c.mode_of.ensures.of_run (subst (λ (x : Outside). IfSome at.left (λ text. (s : Study) → Accepts text s → LeavesFile leaves s x)) same (file_of leaves at o untouched uncalled (λ stays. (ap (g.K.Disk.told) stays.0, (let e = ap (g.K.Disk.faults) stays.0 in omega (arith, e)), ap (g.B.Bench.held) stays.1)) left.status ends))

pub returns-clause-keeps_all : goal.returns-clause-keeps_all
returns-clause-keeps_all g c =
    let words = map string_bytes c.args.words.now in
    let leaves = g.B.Bench.leaves in
    let at : Scene = scene words (g.S.Source.left c.args.study.now) (g.S.Source.faults c.args.study.now) (g.S.Source.faults c.run-left.new.source)
    (g.T.Sink.held c.args.table.now) (g.T.Sink.held c.run-left.new.table) (g.T.Sink.faults c.args.table.now) (g.T.Sink.faults c.run-left.new.table)
    (g.U.Sink.held c.args.out.now) (g.U.Sink.held c.run-left.new.out) (g.U.Sink.faults c.args.out.now) (g.U.Sink.faults c.run-left.new.out) in
    let left = c.run-left.result in
    let first = c.take_first-bench.result in
    let o : Outside = outside_of g.K.Disk.told g.K.Disk.faults g.B.Bench.held g.B.Bench.faults c.mode_of.result c.args.restart left.restart left.book (first ∷ []) (left.bench ∷ []) in
    let same = outside_first g.K.Disk.told g.K.Disk.faults g.B.Bench.held g.B.Bench.faults c.mode_of.result c.args.restart left.restart left.book c.args.benches.items c.put_first.new.benches.items
    first left.bench c.take_first-bench.new.benches.items c.take_first-bench.ensures.first c.put_first.ensures.first in
    let untouched = c.run-left.new.table ≡ c.args.table.now in
    let uncalled = (left.restart ≡ c.args.restart) × (left.bench ≡ first) in
    let ends = c.run-left.ensures.ends in
    λ disk bench full. in_mode _ words c.mode_of.result c.mode_of.ensures.of_run (subst (λ (x : Outside). NotRisen x.bench_before x.bench_now → IfSome at.left (λ text. (s : Study) → Accepts text s → KeepsAll leaves s x)) same (λ calm. keeps_of leaves at o untouched uncalled (λ stays. (ap (g.K.Disk.told) stays.0, (let e = ap (g.K.Disk.faults) stays.0 in omega (arith, e)), ap (g.B.Bench.held) stays.1)) left.status ends disk calm full) bench)

pub returns-clause-table_front : goal.returns-clause-table_front
returns-clause-table_front g c =
    let words = map string_bytes c.args.words.now in
    let leaves = g.B.Bench.leaves in
    let at : Scene = scene words (g.S.Source.left c.args.study.now) (g.S.Source.faults c.args.study.now) (g.S.Source.faults c.run-left.new.source)
    (g.T.Sink.held c.args.table.now) (g.T.Sink.held c.run-left.new.table) (g.T.Sink.faults c.args.table.now) (g.T.Sink.faults c.run-left.new.table)
    (g.U.Sink.held c.args.out.now) (g.U.Sink.held c.run-left.new.out) (g.U.Sink.faults c.args.out.now) (g.U.Sink.faults c.run-left.new.out) in
    let left = c.run-left.result in
    let first = c.take_first-bench.result in
    let o : Outside = outside_of g.K.Disk.told g.K.Disk.faults g.B.Bench.held g.B.Bench.faults c.mode_of.result c.args.restart left.restart left.book (first ∷ []) (left.bench ∷ []) in
    let same = outside_first g.K.Disk.told g.K.Disk.faults g.B.Bench.held g.B.Bench.faults c.mode_of.result c.args.restart left.restart left.book c.args.benches.items c.put_first.new.benches.items
    first left.bench c.take_first-bench.new.benches.items c.take_first-bench.ensures.first c.put_first.ensures.first in
    let untouched = c.run-left.new.table ≡ c.args.table.now in
    let uncalled = (left.restart ≡ c.args.restart) × (left.bench ≡ first) in
    let ends = c.run-left.ensures.ends in
    λ is. in_mode _ words c.mode_of.result c.mode_of.ensures.of_run (subst (λ (x : Outside). IfSome at.left (λ text. BreaksTable leaves text x at.table_old at.table_new)) same (table_front_of leaves at o untouched uncalled left.status ends is))

pub returns-clause-summary_front : goal.returns-clause-summary_front
returns-clause-summary_front g c =
    let words = map string_bytes c.args.words.now in
    let leaves = g.B.Bench.leaves in
    let at : Scene = scene words (g.S.Source.left c.args.study.now) (g.S.Source.faults c.args.study.now) (g.S.Source.faults c.run-left.new.source)
    (g.T.Sink.held c.args.table.now) (g.T.Sink.held c.run-left.new.table) (g.T.Sink.faults c.args.table.now) (g.T.Sink.faults c.run-left.new.table)
    (g.U.Sink.held c.args.out.now) (g.U.Sink.held c.run-left.new.out) (g.U.Sink.faults c.args.out.now) (g.U.Sink.faults c.run-left.new.out) in
    let left = c.run-left.result in
    let first = c.take_first-bench.result in
    let o : Outside = outside_of g.K.Disk.told g.K.Disk.faults g.B.Bench.held g.B.Bench.faults c.mode_of.result c.args.restart left.restart left.book (first ∷ []) (left.bench ∷ []) in
    let same = outside_first g.K.Disk.told g.K.Disk.faults g.B.Bench.held g.B.Bench.faults c.mode_of.result c.args.restart left.restart left.book c.args.benches.items c.put_first.new.benches.items
    first left.bench c.take_first-bench.new.benches.items c.take_first-bench.ensures.first c.put_first.ensures.first in
    let untouched = c.run-left.new.table ≡ c.args.table.now in
    let uncalled = (left.restart ≡ c.args.restart) × (left.bench ≡ first) in
    let ends = c.run-left.ensures.ends in
    λ is. in_mode _ words c.mode_of.result c.mode_of.ensures.of_run (subst (λ (x : Outside). IfSome at.left (λ text. BreaksSummary leaves text x at.table_old at.table_new at.out_old at.out_new)) same (summary_front_of leaves at o untouched uncalled left.status ends is))

pub returns-clause-complete : goal.returns-clause-complete
returns-clause-complete g c =
    let words = map string_bytes c.args.words.now in
    let leaves = g.B.Bench.leaves in
    let at : Scene = scene words (g.S.Source.left c.args.study.now) (g.S.Source.faults c.args.study.now) (g.S.Source.faults c.run-left.new.source)
    (g.T.Sink.held c.args.table.now) (g.T.Sink.held c.run-left.new.table) (g.T.Sink.faults c.args.table.now) (g.T.Sink.faults c.run-left.new.table)
    (g.U.Sink.held c.args.out.now) (g.U.Sink.held c.run-left.new.out) (g.U.Sink.faults c.args.out.now) (g.U.Sink.faults c.run-left.new.out) in
    let left = c.run-left.result in
    let first = c.take_first-bench.result in
    let o : Outside = outside_of g.K.Disk.told g.K.Disk.faults g.B.Bench.held g.B.Bench.faults c.mode_of.result c.args.restart left.restart left.book (first ∷ []) (left.bench ∷ []) in
    let same = outside_first g.K.Disk.told g.K.Disk.faults g.B.Bench.held g.B.Bench.faults c.mode_of.result c.args.restart left.restart left.book c.args.benches.items c.put_first.new.benches.items
    first left.bench c.take_first-bench.new.benches.items c.take_first-bench.ensures.first c.put_first.ensures.first in
    let untouched = c.run-left.new.table ≡ c.args.table.now in
    let uncalled = (left.restart ≡ c.args.restart) × (left.bench ≡ first) in
    let ends = c.run-left.ensures.ends in
    λ run source disk bench table out. in_mode _ words c.mode_of.result c.mode_of.ensures.of_run (subst (λ (x : Outside). NotRisen x.bench_before x.bench_now → IfSome at.left (λ text. CanRun text x → EndsDecided left.status)) same (λ calm. complete_of leaves at o untouched uncalled left.status ends run source disk calm table out) bench)

pub returns-clause-refusal_told : goal.returns-clause-refusal_told
returns-clause-refusal_told g c =
    let words = map string_bytes c.args.words.now in
    let leaves = g.B.Bench.leaves in
    let at : Scene = scene words (g.S.Source.left c.args.study.now) (g.S.Source.faults c.args.study.now) (g.S.Source.faults c.run-left.new.source)
    (g.T.Sink.held c.args.table.now) (g.T.Sink.held c.run-left.new.table) (g.T.Sink.faults c.args.table.now) (g.T.Sink.faults c.run-left.new.table)
    (g.U.Sink.held c.args.out.now) (g.U.Sink.held c.run-left.new.out) (g.U.Sink.faults c.args.out.now) (g.U.Sink.faults c.run-left.new.out) in
    let left = c.run-left.result in
    let first = c.take_first-bench.result in
    let o : Outside = outside_of g.K.Disk.told g.K.Disk.faults g.B.Bench.held g.B.Bench.faults c.mode_of.result c.args.restart left.restart left.book (first ∷ []) (left.bench ∷ []) in
    let same = outside_first g.K.Disk.told g.K.Disk.faults g.B.Bench.held g.B.Bench.faults c.mode_of.result c.args.restart left.restart left.book c.args.benches.items c.put_first.new.benches.items
    first left.bench c.take_first-bench.new.benches.items c.take_first-bench.ensures.first c.put_first.ensures.first in
    let untouched = c.run-left.new.table ≡ c.args.table.now in
    let uncalled = (left.restart ≡ c.args.restart) × (left.bench ≡ first) in
    let ends = c.run-left.ensures.ends in
    λ run source. refusal_told leaves at o untouched uncalled left.status ends run source

pub returns-clause-others : goal.returns-clause-others
returns-clause-others g c = others_stay c.args.benches.items c.put_first.new.benches.items c.take_first-bench.result c.run-left.result.bench c.take_first-bench.new.benches.items c.take_first-bench.ensures.first c.put_first.ensures.first

pub returns-clause-after : goal.returns-clause-after
returns-clause-after g c = are_after g.B.Bench.after (λ b. g.met.B.Bench.after_itself b) c.args.benches.items c.put_first.new.benches.items c.take_first-bench.result c.run-left.result.bench c.take_first-bench.new.benches.items c.take_first-bench.ensures.first c.put_first.ensures.first c.run-left.ensures.after

pub returns-clause-not_opened : goal.returns-clause-not_opened
returns-clause-not_opened g c = λ none. first_stays c.args.benches.items c.put_first.new.benches.items c.take_first-bench.result c.run-left.result.bench c.take_first-bench.new.benches.items c.take_first-bench.ensures.first c.put_first.ensures.first (c.run-left.ensures.not_opened none)

pub returns-clause-direct : goal.returns-clause-direct
returns-clause-direct g c = benches_without (g.S.Source.left c.args.study.now) (λ same. first_stays c.args.benches.items c.put_first.new.benches.items c.take_first-bench.result c.run-left.result.bench c.take_first-bench.new.benches.items c.take_first-bench.ensures.first c.put_first.ensures.first same) c.run-left.ensures.direct

pub run-left-requires : goal.run-left-requires
run-left-requires g c = record { together = first_together g.B.Bench.together c.args.benches.items c.take_first-bench.result c.take_first-bench.new.benches.items c.take_first-bench.ensures.first c.requires.together }
