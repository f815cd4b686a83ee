-- What a disk tells of itself: the bytes that reads give, how it stood at each moment, and what a crash may leave.
use Rattle.std.specs.Prelude.{◌≡◌, ◌⊎◌, ℕ, ◌+◌, ◌-◌, ◌<◌, ◌≤◌, min, max, List, [], ◌∷◌, ◌++◌, length, get_or, take, drop, Option, option_map, Result, MatchResult, IfOk, IfSome}
pub use Rattle.dk_outside.specs.declared.course.Stretch.{Stretch}
pub use Rattle.dk_outside.specs.declared.course.Standing.{Standing}
pub use Rattle.dk_outside.specs.declared.course.Course.{Course}

-- all moments of a course, the latest first
abbrev pub moments : Course → List Standing
moments course = course.now ∷ course.earlier

-- the place is in none of the stretches
abbrev pub IsOutside : ℕ → List Stretch → Type 0
IsOutside place [] = Unit {0}
IsOutside place (s ∷ stretches) = ((place < s.from) ⊎ (s.to ≤ place)) × IsOutside place stretches

-- the greatest length that writes over these stretches can have given a file of so many bytes
abbrev pub reach : ℕ → List Stretch → ℕ
reach size [] = size
reach size (s ∷ stretches) = max s.to (reach size stretches)

-- A crash may leave these bytes: no fewer than at the last sync, no more than the writes since can have given, and
-- outside of these writes those of the last sync. Whatever is so may be left.
pub record IsImage (standing : Standing) (bytes : List ℕ) : Type 0 where
  pub no_shorter : length standing.synced ≤ length bytes
  pub no_longer : length bytes ≤ reach (length standing.synced) standing.written
  pub firm : (place : ℕ) → place < length standing.synced → IsOutside place standing.written → get_or bytes place 0 ≡ get_or standing.synced place 0

-- a disk whose bytes are all synced
abbrev pub settled : List ℕ → Standing
settled bytes = record { bytes = bytes; synced = bytes; written = [] }

-- a piece over what is there and past the end
abbrev pub written_over : List ℕ → (at : ℕ) → List ℕ → List ℕ
written_over bytes at piece = take at bytes ++ (piece ++ drop (at + length piece) bytes)

-- one moment more, at which the disk stands so
abbrev pub later : Course → Standing → Course
later course standing = record { now = standing; earlier = moments course }

-- a write over these places, behind which reads give these bytes
abbrev pub after_write : Standing → (at count : ℕ) → List ℕ → Standing
after_write standing at count bytes = record {
  bytes = bytes;
  synced = standing.synced;
  written = record { from = at; to = at + count } ∷ standing.written;
}

-- what a write that failed may leave to reads: anything in its places, and no other change but for its length
pub record IsTorn (at count : ℕ) (old new : List ℕ) : Type 0 where
  pub no_shorter : length old ≤ length new
  pub no_longer : length new ≤ max (length old) (at + count)
  pub same : (place : ℕ) → place < length old → (place < at) ⊎ (at + count ≤ place) → get_or new place 0 ≡ get_or old place 0

-- the course behind a write that kept the piece
abbrev pub wrote : (at : ℕ) → List ℕ → Course → Course
wrote at piece course = later course (after_write course.now at (length piece) (written_over course.now.bytes at piece))

-- the course behind a write of so many bytes that failed and left these bytes to reads
abbrev pub broke : (at count : ℕ) → List ℕ → Course → Course
broke at count bytes course = later course (after_write course.now at count bytes)

-- the course behind a sync
abbrev pub all_synced : Course → Course
all_synced course = later course (settled course.now.bytes)

-- a write that failed: nothing came of it, or at a moment more its places are pending
abbrev pub BreaksWrite : (old new : Option Course) → (at count : ℕ) → Type 0
BreaksWrite old new at count =
    (new ≡ old) ⊎ ((bytes : List ℕ) × IfSome old (λ course. IsTorn at count course.now.bytes bytes) × (new ≡ option_map (broke at count bytes) old))

-- a write: at a moment more its places are pending, and reads give the piece there
abbrev pub Writes : {E : Type 0} → (old new : Option Course) → Result (Unit {0}) E → (at : ℕ) → List ℕ → Type 0
Writes old new result at piece = MatchResult result (λ _. new ≡ option_map (wrote at piece) old) (λ _. BreaksWrite old new at (length piece))

-- a sync: at a moment more the bytes that reads give are all synced; after a failed one all is told as before
abbrev pub Syncs : {E : Type 0} → (old new : Option Course) → Result (Unit {0}) E → Type 0
Syncs old new result = MatchResult result (λ _. new ≡ option_map all_synced old) (λ _. new ≡ old)

-- as many bytes from a place on as there are and the buffer takes
abbrev pub ReadsFrom : {E : Type 0} → Option Course → Result ℕ E → (at : ℕ) → (buf : List ℕ) → Type 0
ReadsFrom told result at buf = IfOk result (λ count. IfSome told (λ course.
    (count ≡ min (length buf) (length course.now.bytes - at)) × (take count buf ≡ take count (drop at course.now.bytes))))

-- the bytes that reads give, where they are told, have this many
abbrev pub HasLength : {E : Type 0} → Option Course → Result ℕ E → Type 0
HasLength told result = IfOk result (λ count. IfSome told (λ course. count ≡ length course.now.bytes))
