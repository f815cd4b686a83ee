use Rattle.dk_outside.specs.Benches.{start_of}
use Rattle.dk_outside.specs.declared.run.Run.{Run}
use Rattle.dk_fork.proofs.Stages.{laid_state, ran_state, not_run_state, fetched_state, not_fetched_state, saved_state, tidied_state, not_tidied_state}
use Rattle.dk_fork.proofs.serve.serve.Goals as goal

pub returns-in-Err-run-clause-serves : goal.returns-in-Err-run-clause-serves
returns-in-Err-run-clause-serves g c =
    let held = g.B.Bench.held in
    let run : Run = start_of c.args.call.now.driver.now c.args.call.now.parameters.now c.args.call.now.results.now c.args.text.now c.args.call.now.attempt in
    let is_laid = laid_state run (held c.args.bench.now) (held c.clear.new.self) (held c.lay.new.self) c.in-Ok.field-0 c.in-Ok-lay.field-0 c.requires.apart c.in-Ok.ensures.clears c.in-Ok-lay.ensures.lays in
    not_run_state g.B.Bench.leaves c.args.save run (held c.args.bench.now) (held c.lay.new.self) (held c.run.new.self) c.in-Err-run.field-0 c.requires.apart is_laid c.in-Err-run.ensures.runs

pub returns-in-Err-fetch-clause-serves : goal.returns-in-Err-fetch-clause-serves
returns-in-Err-fetch-clause-serves g c =
    let held = g.B.Bench.held in
    let run : Run = start_of c.args.call.now.driver.now c.args.call.now.parameters.now c.args.call.now.results.now c.args.text.now c.args.call.now.attempt in
    let is_laid = laid_state run (held c.args.bench.now) (held c.clear.new.self) (held c.lay.new.self) c.in-Ok.field-0 c.in-Ok-lay.field-0 c.requires.apart c.in-Ok.ensures.clears c.in-Ok-lay.ensures.lays in
    let has_run = ran_state g.B.Bench.leaves run (held c.args.bench.now) (held c.lay.new.self) (held c.run.new.self) c.in-Ok-run.field-0 c.requires.apart is_laid c.in-Ok-run.ensures.runs in
    not_fetched_state g.B.Bench.leaves c.args.save run (held c.args.bench.now) (held c.run.new.self) (held c.fetch.new.self) has_run c.in-Err-fetch.ensures.stays

pub returns-then-save-clause-serves : goal.returns-then-save-clause-serves
returns-then-save-clause-serves g c =
    let held = g.B.Bench.held in
    let run : Run = start_of c.args.call.now.driver.now c.args.call.now.parameters.now c.args.call.now.results.now c.args.text.now c.args.call.now.attempt in
    let is_laid = laid_state run (held c.args.bench.now) (held c.clear.new.self) (held c.lay.new.self) c.in-Ok.field-0 c.in-Ok-lay.field-0 c.requires.apart c.in-Ok.ensures.clears c.in-Ok-lay.ensures.lays in
    let has_run = ran_state g.B.Bench.leaves run (held c.args.bench.now) (held c.lay.new.self) (held c.run.new.self) c.in-Ok-run.field-0 c.requires.apart is_laid c.in-Ok-run.ensures.runs in
    let fetched = fetched_state g.B.Bench.leaves run c.in-Ok-fetch.fetched c.fetch.new.buf (held c.args.bench.now) (held c.run.new.self) (held c.fetch.new.self) has_run c.in-Ok-fetch.ensures.stays c.in-Ok-fetch.ensures.file in
    saved_state g.B.Bench.leaves c.args.save run c.in-Ok-fetch.fetched c.fetch.new.buf (held c.args.bench.now) (held c.fetch.new.self) c.if-save.true fetched

pub returns-in-Ok-clear_both-clause-serves : goal.returns-in-Ok-clear_both-clause-serves
returns-in-Ok-clear_both-clause-serves g c =
    let held = g.B.Bench.held in
    let run : Run = start_of c.args.call.now.driver.now c.args.call.now.parameters.now c.args.call.now.results.now c.args.text.now c.args.call.now.attempt in
    let is_laid = laid_state run (held c.args.bench.now) (held c.clear.new.self) (held c.lay.new.self) c.in-Ok.field-0 c.in-Ok-lay.field-0 c.requires.apart c.in-Ok.ensures.clears c.in-Ok-lay.ensures.lays in
    let has_run = ran_state g.B.Bench.leaves run (held c.args.bench.now) (held c.lay.new.self) (held c.run.new.self) c.in-Ok-run.field-0 c.requires.apart is_laid c.in-Ok-run.ensures.runs in
    let fetched = fetched_state g.B.Bench.leaves run c.in-Ok-fetch.fetched c.fetch.new.buf (held c.args.bench.now) (held c.run.new.self) (held c.fetch.new.self) has_run c.in-Ok-fetch.ensures.stays c.in-Ok-fetch.ensures.file in
    tidied_state g.B.Bench.leaves c.args.save run c.in-Ok-fetch.fetched c.fetch.new.buf c.in-Ok-clear_both.field-0 (held c.args.bench.now) (held c.fetch.new.self) (held c.clear_both.new.bench) c.if-save.false fetched c.in-Ok-clear_both.ensures.clears

pub returns-in-Err-clear_both-clause-serves : goal.returns-in-Err-clear_both-clause-serves
returns-in-Err-clear_both-clause-serves g c =
    let held = g.B.Bench.held in
    let run : Run = start_of c.args.call.now.driver.now c.args.call.now.parameters.now c.args.call.now.results.now c.args.text.now c.args.call.now.attempt in
    let is_laid = laid_state run (held c.args.bench.now) (held c.clear.new.self) (held c.lay.new.self) c.in-Ok.field-0 c.in-Ok-lay.field-0 c.requires.apart c.in-Ok.ensures.clears c.in-Ok-lay.ensures.lays in
    let has_run = ran_state g.B.Bench.leaves run (held c.args.bench.now) (held c.lay.new.self) (held c.run.new.self) c.in-Ok-run.field-0 c.requires.apart is_laid c.in-Ok-run.ensures.runs in
    let fetched = fetched_state g.B.Bench.leaves run c.in-Ok-fetch.fetched c.fetch.new.buf (held c.args.bench.now) (held c.run.new.self) (held c.fetch.new.self) has_run c.in-Ok-fetch.ensures.stays c.in-Ok-fetch.ensures.file in
    not_tidied_state g.B.Bench.leaves c.args.save run c.in-Ok-fetch.fetched c.fetch.new.buf c.in-Err-clear_both.field-0 (held c.args.bench.now) (held c.fetch.new.self) (held c.clear_both.new.bench) c.if-save.false fetched c.in-Err-clear_both.ensures.clears
