use Rattle.std.proofs.Common.{◌≡◌, ◌+◌, ◌*◌, ◌≤◌, List, ℕ, length, true, refl, sym, subst}
use Rattle.dk_types.specs.declared.study.Shape.{Shape}
use Rattle.dk_journal.specs.Journals.{JournalState}
use Rattle.dk_journal.specs.Judging.{IsRead}
use Rattle.dk_journal.proofs.Opens.{over_untouched, over_judged, refused_missed, opens_found}
use Rattle.dk_journal.proofs.opening.open_file.Goals as goal

pub returns-in-Err-clause-refused : goal.returns-in-Err-clause-refused
returns-in-Err-clause-refused g c = c.in-Err.ensures.refused c.args.shape.now

pub returns-in-Err-clause-over : goal.returns-in-Err-clause-over
returns-in-Err-clause-over g c =
    over_untouched c.args.shape.now (g.K.Disk.told c.args.disk.now) (g.K.Disk.told c.read_in.new.disk) (g.met.K.Disk.shows c.args.disk.now) c.read_in.ensures.untouched

pub returns-in_default-clause-over : goal.returns-in_default-clause-over
returns-in_default-clause-over g c =
    over_untouched c.args.shape.now (g.K.Disk.told c.args.disk.now) (g.K.Disk.told c.read_in.new.disk) (g.met.K.Disk.shows c.args.disk.now) c.read_in.ensures.untouched

pub returns-in-Ok-judge-clause-over : goal.returns-in-Ok-judge-clause-over
returns-in-Ok-judge-clause-over g c =
    let read : IsRead c.args.mode c.args.limit (g.K.Disk.told c.args.disk.now) (g.K.Disk.told c.read_in.new.disk) c.deref.result.now =
    subst (IsRead c.args.mode c.args.limit (g.K.Disk.told c.args.disk.now) (g.K.Disk.told c.read_in.new.disk)) (sym c.deref.ensures.value) c.in-Ok.ensures.read in
    over_judged c.args.shape.now c.deref.result.now (g.K.Disk.told c.args.disk.now) (g.K.Disk.told c.read_in.new.disk) (g.K.Disk.told c.judge.new.disk)
    (g.met.K.Disk.shows c.args.disk.now) (g.met.K.Disk.shows c.judge.new.disk) read.synced read.are c.judge.ensures.goes_on

pub returns-clause-refused : goal.returns-clause-refused
returns-clause-refused g c =
    let read : IsRead c.args.mode c.args.limit (g.K.Disk.told c.args.disk.now) (g.K.Disk.told c.read_in.new.disk) c.deref.result.now =
    subst (IsRead c.args.mode c.args.limit (g.K.Disk.told c.args.disk.now) (g.K.Disk.told c.read_in.new.disk)) (sym c.deref.ensures.value) c.in-Ok.ensures.read in
    refused_missed c.args.mode c.args.shape.now c.args.limit (g.K.Disk.told c.args.disk.now) (g.K.Disk.told c.read_in.new.disk) (g.K.Disk.told c.judge.new.disk) c.deref.result.now
    (g.K.Disk.faults c.args.disk.now) (g.K.Disk.faults c.read_in.new.disk) (g.K.Disk.faults c.judge.new.disk) c.in-Err-judge.fault read c.read_in.ensures.later c.in-Err-judge.ensures.missed

pub returns-clause-over : goal.returns-clause-over
returns-clause-over g c =
    let read : IsRead c.args.mode c.args.limit (g.K.Disk.told c.args.disk.now) (g.K.Disk.told c.read_in.new.disk) c.deref.result.now =
    subst (IsRead c.args.mode c.args.limit (g.K.Disk.told c.args.disk.now) (g.K.Disk.told c.read_in.new.disk)) (sym c.deref.ensures.value) c.in-Ok.ensures.read in
    over_judged c.args.shape.now c.deref.result.now (g.K.Disk.told c.args.disk.now) (g.K.Disk.told c.read_in.new.disk) (g.K.Disk.told c.judge.new.disk)
    (g.met.K.Disk.shows c.args.disk.now) (g.met.K.Disk.shows c.judge.new.disk) read.synced read.are c.judge.ensures.goes_on

pub returns-in-Ok-judge-clause-fits : goal.returns-in-Ok-judge-clause-fits
returns-in-Ok-judge-clause-fits g c =
    let found = c.in-Ok-judge.ensures.found in
    let is = c.in-Ok-take_parts.ensures.shape in
    record {
      buffer_is = subst (λ (s : Shape). length c.in-Ok-take_parts.parts.buffer.items ≡ 18 * (length s.variables + length s.responses) + 6) (sym is) c.in-Ok-take_parts.ensures.buffer;
      end_below = found.fits c.args.limit (subst (λ (bs : List ℕ). length bs ≤ c.args.limit) (sym c.deref.ensures.value) c.in-Ok.ensures.read.fits) c.requires.limit_from;
      few = found.few;
    }

pub returns-in-Ok-judge-clause-opened : goal.returns-in-Ok-judge-clause-opened
returns-in-Ok-judge-clause-opened g c =
    let read : IsRead c.args.mode c.args.limit (g.K.Disk.told c.args.disk.now) (g.K.Disk.told c.read_in.new.disk) c.deref.result.now =
    subst (IsRead c.args.mode c.args.limit (g.K.Disk.told c.args.disk.now) (g.K.Disk.told c.read_in.new.disk)) (sym c.deref.ensures.value) c.in-Ok.ensures.read in
    let found = c.in-Ok-judge.found in
    let journal : JournalState = record {
      told = g.K.Disk.told c.judge.new.disk;
      faults = g.K.Disk.faults c.judge.new.disk;
      shape = c.in-Ok-take_parts.parts.shape;
      end = found.end;
      entries = found.count;
      limit = c.args.limit;
      whole = true;
    } in
    opens_found c.args.mode c.args.shape.now c.args.limit c.args.cards (g.K.Disk.told c.args.disk.now) (g.K.Disk.told c.read_in.new.disk) c.deref.result.now journal found.book read c.in-Ok-judge.ensures.found
    c.in-Ok-take_parts.ensures.shape refl refl
