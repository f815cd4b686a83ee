use Rattle.std.proofs.Common.{◌≡◌, ◌∙◌, ap, sym, refl, subst, arith, Some}
use Rattle.std.proofs.Math.Nat.{le_trans}
use Rattle.std.proofs.lemmas.Option.{slice_get_within}
use Rattle.dk_params.specs.declared.task.Task.{Task}
use Rattle.dk_types.specs.Answers.{Next}
use Rattle.dk_book.specs.Told.{told}
use Rattle.std.specs.Prelude.{Result, Err}
use Rattle.dk_evaluate.specs.declared.settle.Stop.{Stop}
use Rattle.dk_evaluate.specs.Attempted.{IsKept, Attempted}
use Rattle.dk_evaluate.proofs.Settling.{settling_first, due_here, waits_for, settling_more, stopped_at, fewer_there, answer_here}
use Rattle.dk_evaluate.proofs.Trying.{its_fault_later}
use Rattle.dk_evaluate.specs.Attempted.{IsItsFault}
use Rattle.dk_evaluate.proofs.settle.settle.Goals as goal

pub loop-given-init : goal.loop-given-init
loop-given-init g c = record {
  settling = settling_first g.B.Bench.leaves c.args.station.now.task c.args.row c.args.rule.now c.args.point.now c.args.ledger.now.book c.args.ledger.now.journal (g.B.Bench.held c.args.station.now.bench) c.args.card.index c.requires.book c.requires.keeps c.requires.alike c.requires.card;
  values = refl;
  task = refl;
  slot = refl;
  direct = λ is. refl;
  after = g.met.B.Bench.after_itself c.args.station.now.bench;
  later = omega arith;
}

pub answer-requires-clause-is_there : goal.answer-requires-clause-is_there
answer-requires-clause-is_there g c = let was = c.loop-given.invariant.settling in slice_get_within c.loop-given.ledger.book.cards c.args.card.index was.card was.there

pub attempt_point-requires-clause-room : goal.attempt_point-requires-clause-room
attempt_point-requires-clause-room g c =
    let was = c.loop-given.invariant.settling in
    let due = due_here c.loop-given.ledger.book c.args.card.index c.in-Next.attempt was.card was.there (c.answer.ensures.asks_for_due c.in-Next.attempt (ap told c.in-Next.is)) in
    let enough = was.room due.none in
    let room = c.requires.room in
    omega arith

pub attempt_point-requires-clause-waits : goal.attempt_point-requires-clause-waits
attempt_point-requires-clause-waits g c =
    waits_for g.B.Bench.leaves c.args.station.now.task c.args.row c.args.rule.now c.args.point.now c.args.ledger.now.book c.loop-given.ledger.book c.args.ledger.now.journal c.loop-given.ledger.journal
    (g.B.Bench.held c.args.station.now.bench) (g.B.Bench.held c.loop-given.station.bench) c.args.card.index c.loop-given.invariant.settling c.in-Next.attempt
    (λ entries stands. ap (λ a. Some (told a)) (sym c.in-Next.is) ∙ c.answer.ensures.answers_entries entries stands) c.requires.width

pub loop-given-smaller : goal.loop-given-smaller
loop-given-smaller g c =
    let was = c.loop-given.invariant.settling in
    let asks = ap (λ a. Some (told a)) (sym c.in-Next.is) ∙ c.answer.ensures.answers_card in
    let due = c.answer.ensures.asks_for_due c.in-Next.attempt (ap told c.in-Next.is) in
    fewer_there c.args.rule.now c.loop-given.ledger.book c.attempt_point.new.ledger.book c.args.card.index c.in-Next.attempt was.card c.in-Ok.ensures.attempted.said was.there
    (answer_here c.args.rule.now c.loop-given.ledger.book c.args.card.index was.card (Next c.in-Next.attempt) was.there asks) (due_here c.loop-given.ledger.book c.args.card.index c.in-Next.attempt was.card was.there due) c.in-Ok.ensures.attempted.kept.cards

pub loop-given-preserved : goal.loop-given-preserved
loop-given-preserved g c =
    let asks = ap (λ a. Some (told a)) (sym c.in-Next.is) ∙ c.answer.ensures.answers_card in
    let due = c.answer.ensures.asks_for_due c.in-Next.attempt (ap told c.in-Next.is) in
    let inv = c.loop-given.invariant in
    let held = g.B.Bench.held in
    let kept = subst (λ (t : Task). IsKept g.B.Bench.leaves t c.args.row c.args.card.index c.args.point.now c.in-Next.attempt c.loop-given.ledger.book c.attempt_point.new.ledger.book c.loop-given.ledger.journal c.attempt_point.new.ledger.journal
    (held c.loop-given.station.bench) (held c.attempt_point.new.station.bench)) inv.task c.in-Ok.ensures.attempted in
    record {
      settling = settling_more g.B.Bench.leaves c.args.station.now.task c.args.row c.args.rule.now c.args.point.now c.args.ledger.now.book c.loop-given.ledger.book c.args.ledger.now.journal c.loop-given.ledger.journal
          (held c.args.station.now.bench) (held c.loop-given.station.bench) c.args.card.index inv.settling c.in-Next.attempt
          (λ entries stands. ap (λ a. Some (told a)) (sym c.in-Next.is) ∙ c.answer.ensures.answers_entries entries stands) c.requires.width
          c.attempt_point.new.ledger.book c.attempt_point.new.ledger.journal (held c.attempt_point.new.station.bench) asks due kept;
      values = inv.values;
      task = c.in-Ok.ensures.task ∙ inv.task;
      slot = c.in-Ok.ensures.slot ∙ inv.slot;
      direct = λ is. c.in-Ok.ensures.direct (ap (λ (t : Task). t.interface.driver) inv.task ∙ is) ∙ inv.direct is;
      after = g.met.B.Bench.after_both c.args.station.now.bench c.loop-given.station.bench c.attempt_point.new.station.bench inv.after c.in-Ok.ensures.after;
      later = le_trans inv.later c.in-Ok.ensures.later;
    }

pub returns-in-Err-clause-cause : goal.returns-in-Err-clause-cause
returns-in-Err-clause-cause g c = λ stop is.
    let faults = g.B.Bench.faults in
    let inv = c.loop-given.invariant in
    let same : c.in-Err.stop ≡ stop = cc in
    subst (IsItsFault c.args.station.now.slot (faults c.args.station.now.bench) (faults c.attempt_point.new.station.bench)) same
    (its_fault_later c.args.station.now.slot c.loop-given.station.slot (faults c.args.station.now.bench) (faults c.loop-given.station.bench) (faults c.attempt_point.new.station.bench) c.in-Err.stop inv.slot inv.later c.in-Err.ensures.cause)

pub returns-in-Err-clause-settles : goal.returns-in-Err-clause-settles
returns-in-Err-clause-settles g c =
    let asks = ap (λ a. Some (told a)) (sym c.in-Next.is) ∙ c.answer.ensures.answers_card in
    let due = c.answer.ensures.asks_for_due c.in-Next.attempt (ap told c.in-Next.is) in
    let inv = c.loop-given.invariant in
    let held = g.B.Bench.held in
    let result : Result (Unit {0}) Stop = Err c.in-Err.stop in
    let tried = subst (λ (t : Task). Attempted g.B.Bench.leaves t c.args.row c.args.card.index c.args.point.now c.in-Next.attempt c.loop-given.ledger.book c.attempt_point.new.ledger.book c.loop-given.ledger.journal c.attempt_point.new.ledger.journal
    (held c.loop-given.station.bench) (held c.attempt_point.new.station.bench) result) inv.task c.in-Err.ensures.attempted in
    λ entries keeps. stopped_at g.B.Bench.leaves c.args.station.now.task c.args.row c.args.rule.now c.args.point.now c.args.ledger.now.book c.loop-given.ledger.book c.args.ledger.now.journal c.loop-given.ledger.journal
    (held c.args.station.now.bench) (held c.loop-given.station.bench) c.args.card.index inv.settling c.in-Next.attempt
    (λ entries stands. ap (λ a. Some (told a)) (sym c.in-Next.is) ∙ c.answer.ensures.answers_entries entries stands) c.requires.width
    c.attempt_point.new.ledger.book c.attempt_point.new.ledger.journal (held c.attempt_point.new.station.bench) asks due c.in-Err.stop c.loop-given.values tried entries keeps
