-- Where the source doesn't fail, a text that is refused is told.
use Rattle.std.proofs.Common.{inl, inr, ℕ, List, refl, ap}
use Rattle.std.specs.Prelude.{IfSome}
use Rattle.dk_outside.specs.Causes.{Rose}
use Rattle.dk_types.specs.declared.study.Study.{Study}
use Rattle.dk_reader.specs.declared.fault.StudyFault.{StudyFault}
use Rattle.dk_words.specs.Words.{IsFor}
use Rattle.dk_runner.specs.Accepted.{Accepts, Refused}
use Rattle.dk_runner.specs.Headline.{TellsRefusal}
use Rattle.dk_outside.specs.Benches.{Leaves}
use Rattle.dk_runner.specs.Outsides.{Outside}
use Rattle.dk_runner.specs.Endings.{Scene, EndsSo}
use Rattle.dk_words.specs.declared.purpose.Purpose.TheVariants.{Run}
use Rattle.dk_runner.specs.declared.status.Status.{Status}
use Rattle.dk_runner.specs.declared.status.Status.TheVariants.{Finished, Aborted, Usage, StudyRefused, SourceFault, RestartRefused, DiskFault, RestartFull, BenchFault, SinkFault, NoMemory}
use Rattle.dk_runner.specs.declared.status.Which.TheVariants.{Table, Out}
use Rattle.dk_runner.proofs.Accepts.{not_both, one_refusal}
use Rattle.dk_runner.proofs.Texts.{told, always, not_misused}

-- a text that gives a study isn't refused
pub accepted : (text : List ℕ) (study : Study) (status : Status) → Accepts text study → TellsRefusal text status
accepted text study status a = λ fault refused. absurd (not_both text study fault a refused)

-- a text that is refused is refused so
pub refused_so : (text : List ℕ) (fault : StudyFault) → Refused text fault → TellsRefusal text (StudyRefused fault)
refused_so text fault refused = λ other again. inl (ap StudyRefused (one_refusal text fault other refused again))

pub refusal_told : (leaves : Leaves) (s : Scene) (o : Outside) (untouched uncalled : Type 0) (status : Status) → EndsSo leaves s o untouched uncalled status → IsFor Run s.words →
    (Rose s.source_before s.source_now → ⊥) → IfSome s.left (λ text. TellsRefusal text status)
refusal_told leaves s o untouched uncalled Finished h run source = told s.left (λ text w. accepted text w.study Finished w.evaluates.accepts) h.1
refusal_told leaves s o untouched uncalled Aborted h run source = told s.left (λ text w. accepted text w.study Aborted w.evaluates.accepts) h.1
refusal_told leaves s o untouched uncalled (Usage at) h run source = not_misused Run s.words at run h.0.0
refusal_told leaves s o untouched uncalled (StudyRefused fault) h run source = told s.left (λ text refused. refused_so text fault refused) h.0.0.1
refusal_told leaves s o untouched uncalled SourceFault h run source = absurd (source h.0.0.1)
refusal_told leaves s o untouched uncalled (RestartRefused fault) h run source = told s.left (λ text t. accepted text t.study (RestartRefused fault) t.accepts) h.3
refusal_told leaves s o untouched uncalled DiskFault h run source = told s.left (λ text t. accepted text t.study DiskFault t.accepts) h.3
refusal_told leaves s o untouched uncalled (RestartFull size) h run source = told s.left (λ text t. accepted text t.study (RestartFull size) t.accepts) h.3
refusal_told leaves s o untouched uncalled (BenchFault fault) h run source = told s.left (λ text t. accepted text t.study (BenchFault fault) t.accepts) h.3
refusal_told leaves s o untouched uncalled (SinkFault Table) h run source = told s.left (λ text w. accepted text w.study (SinkFault Table) w.evaluates.accepts) h.2
refusal_told leaves s o untouched uncalled (SinkFault Out) h run source = told s.left (λ text w. accepted text w.study (SinkFault Out) w.evaluates.accepts) h.2
refusal_told leaves s o untouched uncalled NoMemory h run source = always s.left (λ text fault refused. inr refl)
