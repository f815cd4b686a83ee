-- The images of a disk in memory that can be asked for.
use Rattle.std.specs.Prelude.{◌≡◌, ℕ, ◌-◌, List, [], ◌∷◌, length, replicate, slice_get, Option}
use Rattle.dk_outside.specs.declared.course.Stretch.{Stretch}
use Rattle.dk_outside.specs.declared.course.Standing.{Standing}
use Rattle.dk_outside.specs.declared.course.Course.{Course}
use Rattle.dk_outside.specs.Disks.{moments, IsImage, reach, written_over}
use Rattle.dk_memory.specs.declared.image.Image.{Image}
use Rattle.dk_memory.specs.declared.image.Image.TheVariants.{Old, New, Fill}

-- how a disk stood at a moment, counted from 0; none for a moment that isn't there yet
abbrev pub standing_at : Course → ℕ → Option Standing
standing_at course moment = slice_get (moments course) (length course.earlier - moment)

-- the synced bytes, and this byte at each place that was written since
abbrev pub filled : ℕ → List ℕ → List Stretch → List ℕ
filled byte synced [] = synced
filled byte synced (s ∷ written) = written_over (filled byte synced written) s.from (replicate (s.to - s.from) byte)

-- pending bytes as at the last sync with the length of then, as written, or all equal to a byte
abbrev pub image_of : Image → Standing → List ℕ
image_of Old s = s.synced
image_of New s = s.bytes
image_of (Fill byte) s = filled byte s.synced s.written

-- the image behind a write over these places
abbrev pub loosened : Image → (left bytes : List ℕ) → (at count : ℕ) → List ℕ
loosened Old left bytes at count = left
loosened New left bytes at count = bytes
loosened (Fill byte) left bytes at count = written_over left at (replicate count byte)

-- each image that can be asked for is one that a crash may leave, and a fill has the greatest length
pub record AreImages (s : Standing) : Type 0 where
  pub shown : IsImage s s.bytes
  pub filled_image : (byte : ℕ) → IsImage s (filled byte s.synced s.written)
  pub longest : (byte : ℕ) → length (filled byte s.synced s.written) ≡ reach (length s.synced) s.written
