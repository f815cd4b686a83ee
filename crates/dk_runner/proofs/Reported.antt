-- A run of an accepted study ends as it went over its restart file.
use Rattle.std.proofs.Common.{◌≡◌, inl, inr, None}
use Rattle.std.specs.Prelude.{IfSome}
use Rattle.dk_types.specs.declared.study.Study.{Study}
use Rattle.dk_words.specs.Words.{IsFor}
use Rattle.dk_words.specs.declared.purpose.Purpose.TheVariants.{Run}
use Rattle.dk_runner.specs.Accepted.{Accepts}
use Rattle.dk_runner.specs.Causes.{IsCause}
use Rattle.dk_outside.specs.Benches.{Leaves}
use Rattle.dk_runner.specs.Outsides.{Outside}
use Rattle.dk_runner.specs.Endings.{Scene, EndsSo, EndsStudy, SaysLine}
use Rattle.dk_runner.specs.declared.status.Status.{Status}
use Rattle.dk_runner.specs.declared.status.Status.TheVariants.{Finished, Aborted, Usage, StudyRefused, SourceFault, RestartRefused, DiskFault, RestartFull, BenchFault, SinkFault, NoMemory}
use Rattle.dk_runner.specs.declared.status.Which.TheVariants.{Table, Out}
use Rattle.dk_runner.proofs.Texts.{told}

pub ends_so : (leaves : Leaves) (s : Scene) (o : Outside) (untouched uncalled : Type 0) (study : Study) (status : Status) →
    IsFor Run s.words × IfSome s.left (λ text. Accepts text study) → EndsStudy leaves study s o untouched status → EndsSo leaves s o untouched uncalled status
ends_so leaves s o untouched uncalled study Finished reason h = (
  reason.0,
  told s.left (λ text accepts. record {
    study = study;
    rows = h.0;
    ending = h.1;
    evaluates = record { accepts = accepts; is_decided = h.2 };
    status_is = h.3.1.0;
    in_table = h.3.0;
    in_out = h.3.1.1;
  }) reason.1,
)
ends_so leaves s o untouched uncalled study Aborted reason h = (
  reason.0,
  told s.left (λ text accepts. record {
    study = study;
    rows = h.0;
    ending = h.1;
    evaluates = record { accepts = accepts; is_decided = h.2 };
    status_is = h.3.1.0;
    in_table = h.3.0;
    in_out = h.3.1.1;
  }) reason.1,
)
ends_so leaves s o untouched uncalled study (SinkFault Table) reason h = (
  reason.0,
  h.3.0,
  told s.left (λ text accepts. record {
    study = study;
    rows = h.0;
    ending = h.1;
    evaluates = record { accepts = accepts; is_decided = h.2 };
    in_table = h.3.1;
  }) reason.1,
  h.3.2,
)
ends_so leaves s o untouched uncalled study (SinkFault Out) reason h = (
  reason.0,
  h.3.1.0,
  told s.left (λ text accepts. record {
    study = study;
    rows = h.0;
    ending = h.1;
    evaluates = record { accepts = accepts; is_decided = h.2 };
    in_table = h.3.0;
    in_out = h.3.1.1;
  }) reason.1,
)
ends_so leaves s o untouched uncalled study (RestartRefused fault) reason h = (reason.0, h.1, h.2, told s.left (λ text accepts. record { study = study; accepts = accepts; is = h.0 }) reason.1)
ends_so leaves s o untouched uncalled study DiskFault reason h = (reason.0, h.1, h.2, told s.left (λ text accepts. record { study = study; accepts = accepts; is = h.0 }) reason.1)
ends_so leaves s o untouched uncalled study (RestartFull size) reason h = (reason.0, h.1, h.2, told s.left (λ text accepts. record { study = study; accepts = accepts; is = h.0 }) reason.1)
ends_so leaves s o untouched uncalled study (BenchFault fault) reason h = (reason.0, h.1, h.2, told s.left (λ text accepts. record { study = study; accepts = accepts; is = h.0 }) reason.1)
ends_so leaves s o untouched uncalled study NoMemory reason h = inr (reason.0, h.1, h.2, told s.left (λ text accepts. record { study = study; accepts = accepts; is = h.0 }) reason.1)
ends_so leaves s o untouched uncalled study (Usage at) reason h = absurd h.3.1
ends_so leaves s o untouched uncalled study (StudyRefused fault) reason h = absurd h.3.1
ends_so leaves s o untouched uncalled study SourceFault reason h = absurd h.3.1

-- no study was accepted
pub ends_early : (leaves : Leaves) (s : Scene) (o : Outside) (untouched uncalled : Type 0) (status : Status) → IsCause Run s.words s.left s.source_before s.source_now status →
    untouched → uncalled → o.book ≡ None → SaysLine s status → EndsSo leaves s o untouched uncalled status
ends_early leaves s o untouched uncalled Finished cause table file book line = absurd cause
ends_early leaves s o untouched uncalled Aborted cause table file book line = absurd cause
ends_early leaves s o untouched uncalled (SinkFault which) cause table file book line = absurd cause
ends_early leaves s o untouched uncalled (RestartRefused fault) cause table file book line = absurd cause
ends_early leaves s o untouched uncalled DiskFault cause table file book line = absurd cause
ends_early leaves s o untouched uncalled (RestartFull size) cause table file book line = absurd cause
ends_early leaves s o untouched uncalled (BenchFault fault) cause table file book line = absurd cause
ends_early leaves s o untouched uncalled (Usage at) cause table file book line = ((cause, table, line), file, book)
ends_early leaves s o untouched uncalled (StudyRefused fault) cause table file book line = ((cause, table, line), file, book)
ends_early leaves s o untouched uncalled SourceFault cause table file book line = ((cause, table, line), file, book)
ends_early leaves s o untouched uncalled NoMemory cause table file book line = inl ((cause, table, line), file, book)
