-- What reads give is an image, also behind a write, whether it failed or not.
use Rattle.std.proofs.Common.{◌≡◌, ⊎_elim, ℕ, ◌+◌, ◌-◌, ◌<◌, ◌≤◌, max, List, ◌++◌, length, get_or, take, drop, refl, ◌∙◌, ap, arith, length-append, length-drop}
use Rattle.std.proofs.lemmas.List.{get_or-take, get_or-drop, get_or_append_left, get_or-append_right, length-take-le}
use Rattle.dk_outside.specs.Disks.{Standing, IsImage, IsTorn, settled, after_write, written_over}

pub settled_shown : (bytes : List ℕ) → IsImage (settled bytes) bytes
settled_shown bytes = record { no_shorter = omega arith; no_longer = omega arith; firm = λ place below outside. refl }

pub torn_shown : (s : Standing) (at count : ℕ) (bytes : List ℕ) → IsImage s s.bytes → IsTorn at count s.bytes bytes → IsImage (after_write s at count bytes) bytes
torn_shown s at count bytes shown torn = record {
  no_shorter = omega (arith, shown.no_shorter, torn.no_shorter);
  no_longer = omega (arith, shown.no_longer, torn.no_longer);
  firm = λ place below outside. torn.same place (omega (arith, shown.no_shorter)) outside.0 ∙ shown.firm place below outside.1;
}

pub same_torn : (at count : ℕ) (bytes : List ℕ) → IsTorn at count bytes bytes
same_torn at count bytes = record { no_shorter = omega arith; no_longer = omega arith; same = λ place below outside. refl }

pub length-written_over : (bytes : List ℕ) (at : ℕ) (piece : List ℕ) → at ≤ length bytes → length (written_over bytes at piece) ≡ max (length bytes) (at + length piece)
length-written_over bytes at piece le =
    omega (arith, length-append (take at bytes) (piece ++ drop (at + length piece) bytes), length-append piece (drop (at + length piece) bytes), length-take-le at bytes le, length-drop (at + length piece) bytes)

same_before : (bytes : List ℕ) (at : ℕ) (piece : List ℕ) (place : ℕ) → at ≤ length bytes → place < at → get_or (written_over bytes at piece) place 0 ≡ get_or bytes place 0
same_before bytes at piece place le before =
    let long = length-take-le at bytes le in
    get_or_append_left (take at bytes) (piece ++ drop (at + length piece) bytes) 0 place (omega arith) ∙ get_or-take at bytes place 0 before

same_behind : (bytes : List ℕ) (at : ℕ) (piece : List ℕ) (place : ℕ) → at ≤ length bytes → at + length piece ≤ place → get_or (written_over bytes at piece) place 0 ≡ get_or bytes place 0
same_behind bytes at piece place le behind =
    let rest = drop (at + length piece) bytes in
    get_or-append_right (take at bytes) (piece ++ rest) at place 0 (length-take-le at bytes le) (omega arith)
    ∙ get_or-append_right piece rest (length piece) (place - at) 0 refl (omega arith)
    ∙ get_or-drop (at + length piece) bytes (place - at - length piece) 0
    ∙ ap (λ (k : ℕ). get_or bytes k 0) (omega arith)

pub written_torn : (bytes : List ℕ) (at : ℕ) (piece : List ℕ) → at ≤ length bytes → IsTorn at (length piece) bytes (written_over bytes at piece)
written_torn bytes at piece le = record {
  no_shorter = omega (arith, length-written_over bytes at piece le);
  no_longer = omega (arith, length-written_over bytes at piece le);
  same = λ place below outside. ⊎_elim (same_before bytes at piece place le) (same_behind bytes at piece place le) outside;
}

pub written_shown : (s : Standing) (at : ℕ) (piece : List ℕ) → at ≤ length s.bytes → IsImage s s.bytes →
    IsImage (after_write s at (length piece) (written_over s.bytes at piece)) (written_over s.bytes at piece)
written_shown s at piece le shown = torn_shown s at (length piece) (written_over s.bytes at piece) shown (written_torn s.bytes at piece le)
