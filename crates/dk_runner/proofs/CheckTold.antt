-- Where nothing fails, a check ends as the text is.
use Rattle.std.proofs.Common.{inl, inr, ℕ, List, refl}
use Rattle.std.specs.Prelude.{IfSome}
use Rattle.dk_outside.specs.Causes.{Rose}
use Rattle.dk_reader.specs.declared.fault.StudyFault.{StudyFault}
use Rattle.dk_words.specs.Words.{IsFor}
use Rattle.dk_runner.specs.Accepted.{Refused}
use Rattle.dk_runner.specs.Headline.{TellsRefusal}
use Rattle.dk_runner.specs.Checked.{EndsAccepted, Stage, ChecksSo}
use Rattle.dk_words.specs.declared.purpose.Purpose.TheVariants.{Check}
use Rattle.dk_runner.specs.declared.status.Status.{Status}
use Rattle.dk_runner.specs.declared.status.Status.TheVariants.{Finished, Aborted, Usage, StudyRefused, SourceFault, RestartRefused, DiskFault, RestartFull, BenchFault, SinkFault, NoMemory}
use Rattle.dk_runner.specs.declared.status.Which.TheVariants.{Table, Out}
use Rattle.dk_runner.proofs.Accepts.{not_both}
use Rattle.dk_runner.proofs.Texts.{told, always, not_misused}
use Rattle.dk_runner.proofs.Told.{accepted, refused_so}

-- a text that is refused isn't a study's
refused_only : (text : List ℕ) (fault : StudyFault) (status : Status) → Refused text fault → EndsAccepted text status
refused_only text fault status refused = λ study accepts. absurd (not_both text study fault accepts refused)

module _ (s : Stage) where
  pub refusal_told : (status : Status) → ChecksSo s status → IsFor Check s.words → (Rose s.source_before s.source_now → ⊥) → IfSome s.left (λ text. TellsRefusal text status)
  refusal_told Finished h is source = told s.left (λ text t. accepted text t.study Finished t.accepts) h.1
  refusal_told Aborted h is source = absurd h.0
  refusal_told (Usage at) h is source = not_misused Check s.words at is h.0
  refusal_told (StudyRefused fault) h is source = told s.left (λ text refused. refused_so text fault refused) h.0.1
  refusal_told SourceFault h is source = absurd (source h.0.1)
  refusal_told (RestartRefused fault) h is source = absurd h.0
  refusal_told DiskFault h is source = absurd h.0
  refusal_told (RestartFull size) h is source = absurd h.0
  refusal_told (BenchFault fault) h is source = absurd h.0
  refusal_told (SinkFault Table) h is source = absurd h.0
  refusal_told (SinkFault Out) h is source = told s.left (λ text t. accepted text t.study (SinkFault Out) t.accepts) h.2
  refusal_told NoMemory h is source = always s.left (λ text fault refused. inr refl)

  pub accepted_told : (status : Status) → ChecksSo s status → IsFor Check s.words → (Rose s.source_before s.source_now → ⊥) → (Rose s.out_before s.out_now → ⊥) →
      IfSome s.left (λ text. EndsAccepted text status)
  accepted_told Finished h is source out = always s.left (λ text study accepts. inl refl)
  accepted_told Aborted h is source out = absurd h.0
  accepted_told (Usage at) h is source out = not_misused Check s.words at is h.0
  accepted_told (StudyRefused fault) h is source out = told s.left (λ text refused. refused_only text fault (StudyRefused fault) refused) h.0.1
  accepted_told SourceFault h is source out = absurd (source h.0.1)
  accepted_told (RestartRefused fault) h is source out = absurd h.0
  accepted_told DiskFault h is source out = absurd h.0
  accepted_told (RestartFull size) h is source out = absurd h.0
  accepted_told (BenchFault fault) h is source out = absurd h.0
  accepted_told (SinkFault Table) h is source out = absurd h.0
  accepted_told (SinkFault Out) h is source out = absurd (out h.1)
  accepted_told NoMemory h is source out = always s.left (λ text study accepts. inr refl)
