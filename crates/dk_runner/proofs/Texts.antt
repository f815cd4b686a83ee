-- What holds of a source's text, where the source tells it.
use Rattle.std.proofs.Common.{ℕ, List, Option, Some, None}
use Rattle.std.specs.Prelude.{IfSome}
use Rattle.dk_words.specs.Words.{IsFor, Misused}
use Rattle.dk_words.specs.declared.purpose.Purpose.{Purpose}

-- words for a purpose have no fault
pub not_misused : {X : Type 0} (purpose : Purpose) (words : List (List ℕ)) (at : ℕ) → IsFor purpose words → Misused purpose words at → X
not_misused purpose words at is misused = absurd (cc)

pub told : {P Q : List ℕ → Type 0} (left : Option (List ℕ)) → ((text : List ℕ) → P text → Q text) → IfSome left P → IfSome left Q
told None f h = tt
told (Some text) f h = f text h

pub always : {Q : List ℕ → Type 0} (left : Option (List ℕ)) → ((text : List ℕ) → Q text) → IfSome left Q
always None f = tt
always (Some text) f = f text
