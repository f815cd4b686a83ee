-- What can be asked for of a moment is what a crash may leave.
use Rattle.std.proofs.Common.{◌≡◌, ℕ, ◌+◌, ◌-◌, ◌≤◌, List, [], ◌∷◌, ◌++◌, length, take, replicate, refl, sym, ◌∙◌, ap, subst, arith, Some, slice_get}
use Rattle.std.specs.Prelude.{cond, is_ok, option_map, IfOk, IfSome, Option, None, Result, Ok, Err, OnOk, OnErr}
use Rattle.std.specs.Global.{Vec}
use Rattle.std.proofs.lemmas.List.{length-replicate}
use Rattle.std.proofs.lemmas.List.Elements.{All-cons, All-nil, All-head, All-get_or}
use Rattle.std.proofs.lemmas.Option.{slice_get_within, get_or_from_slice_get}
use Rattle.std.specs.List.{All}
use Rattle.dk_outside.specs.declared.course.Course.{Course}
use Rattle.dk_outside.specs.declared.course.Standing.{Standing}
use Rattle.dk_outside.specs.Disks.{moments, IsImage, IsTorn, settled, after_write, written_over, wrote, broke, all_synced}
use Rattle.dk_outside.proofs.Shown.{settled_shown, torn_shown, written_torn, same_torn, length-written_over}
use Rattle.dk_memory.proofs.Replays.{one_more_call, stood_at}
use Rattle.dk_memory.specs.Events.{step, course_of}
use Rattle.dk_memory.specs.declared.event.Event.{Event}
use Rattle.dk_memory.specs.declared.event.Event.TheVariants.{Wrote, Broke}
use Rattle.dk_memory.specs.Images.{AreImages, image_of, filled, standing_at}
use Rattle.dk_memory.specs.declared.image.Image.{Image}
use Rattle.dk_memory.specs.declared.image.Image.TheVariants.{Old, New, Fill}

-- an image tells only of what is synced and where was written
other_bytes : (s : Standing) (bytes image : List ℕ) → IsImage s image → IsImage (record { bytes = bytes; synced = s.synced; written = s.written }) image
other_bytes s bytes image h = record { no_shorter = h.no_shorter; no_longer = h.no_longer; firm = h.firm }

-- over these places another piece was written, or its write failed
over : (s : Standing) (at count : ℕ) (bytes image new : List ℕ) → IsImage s image → IsTorn at count image new → IsImage (after_write s at count bytes) new
over s at count bytes image new h torn =
    let t = torn_shown (record { bytes = image; synced = s.synced; written = s.written }) at count new (other_bytes s image image h) torn in
    record { no_shorter = t.no_shorter; no_longer = t.no_longer; firm = t.firm }

pub settled_images : (bytes : List ℕ) → AreImages (settled bytes)
settled_images bytes = record { shown = settled_shown bytes; filled_image = λ byte. settled_shown bytes; longest = λ byte. refl }

pub images_behind_write : (s : Standing) (at count : ℕ) (bytes : List ℕ) → at ≤ length s.bytes → IsTorn at count s.bytes bytes → AreImages s → AreImages (after_write s at count bytes)
images_behind_write s at count bytes inside torn h = record {
  shown = over s at count bytes s.bytes bytes h.shown torn;
  filled_image = λ byte. over s at count bytes (filled byte s.synced s.written) (written_over (filled byte s.synced s.written) at (replicate (at + count - at) byte)) (h.filled_image byte) (fits byte);
  longest = λ byte. omega (arith, length-written_over (filled byte s.synced s.written) at (replicate (at + count - at) byte) (within byte), h.longest byte, length-replicate (at + count - at) byte);
}
  where
    within : (byte : ℕ) → at ≤ length (filled byte s.synced s.written)
    within byte = omega (arith, inside, h.shown.no_longer, h.longest byte)

    fits : (byte : ℕ) → IsTorn at count (filled byte s.synced s.written) (written_over (filled byte s.synced s.written) at (replicate (at + count - at) byte))
    fits byte =
        let long : length (replicate (at + count - at) byte) ≡ count = omega (arith, length-replicate (at + count - at) byte) in
        subst (λ (k : ℕ). IsTorn at k (filled byte s.synced s.written) (written_over (filled byte s.synced s.written) at (replicate (at + count - at) byte))) long (written_torn (filled byte s.synced s.written) at (replicate (at + count - at) byte) (within byte))

old_image : (s : Standing) → AreImages s → IsImage s s.synced
old_image s h = record { no_shorter = omega arith; no_longer = omega (arith, h.shown.no_shorter, h.shown.no_longer); firm = λ place below outside. refl }

pub is_image : (image : Image) (s : Standing) → AreImages s → IsImage s (image_of image s)
is_image Old s h = old_image s h
is_image New s h = h.shown
is_image (Fill byte) s h = h.filled_image byte

at_moment : (all : List Standing) (place : ℕ) (s : Standing) → slice_get all place ≡ Some s → All AreImages all → AreImages s
at_moment all place s is h = subst AreImages (get_or_from_slice_get all place s s is) (All-get_or AreImages all place s (slice_get_within all place s is) h)

-- what was made for a moment is an image of it
pub made_image : (image : Image) (all : List Standing) (place : ℕ) (left : List ℕ) → All AreImages all → option_map (image_of image) (slice_get all place) ≡ Some left →
    IfSome (slice_get all place) (λ s. IsImage s left)
made_image image all place left h made = by (slice_get all place) refl made
  where
    by : (o : Option Standing) → slice_get all place ≡ o → option_map (image_of image) o ≡ Some left → IfSome o (λ s. IsImage s left)
    by None is e = tt
    by (Some s) is e = let same : image_of image s ≡ left = cc in subst (IsImage s) same (is_image image s (at_moment all place s is h))

pub start_left : (bytes : List ℕ) → All AreImages (moments (record { now = settled bytes; earlier = [] }))
start_left bytes = All-cons AreImages (settled bytes) [] (settled_images bytes) (All-nil AreImages)

pub wrote_left : (course : Course) (at : ℕ) (piece : List ℕ) → at ≤ length course.now.bytes → All AreImages (moments course) → All AreImages (moments (wrote at piece course))
wrote_left course at piece inside h =
    All-cons AreImages (after_write course.now at (length piece) (written_over course.now.bytes at piece)) (moments course)
    (images_behind_write course.now at (length piece) (written_over course.now.bytes at piece) inside (written_torn course.now.bytes at piece inside) (All-head AreImages course.now course.earlier h)) h

pub broke_left : (course : Course) (at count : ℕ) → at ≤ length course.now.bytes → All AreImages (moments course) → All AreImages (moments (broke at count course.now.bytes course))
broke_left course at count inside h =
    All-cons AreImages (after_write course.now at count course.now.bytes) (moments course)
    (images_behind_write course.now at count course.now.bytes inside (same_torn at count course.now.bytes) (All-head AreImages course.now course.earlier h)) h

pub synced_left : (course : Course) → All AreImages (moments course) → All AreImages (moments (all_synced course))
synced_left course h = All-cons AreImages (settled course.now.bytes) (moments course) (settled_images course.now.bytes) h

-- a write that was kept, or for which there was no memory
pub behind_write : {E : Type 0} (first : List ℕ) (events new : List Event) (bytes now : List ℕ) (at : ℕ) (piece : List ℕ) (result : Result (Unit {0}) E) →
    OnOk result (now ≡ written_over bytes at piece) → OnErr result (now ≡ bytes) →
    OnOk result ((kept : Vec ℕ) × (kept.items ≡ piece) × (new ≡ events ++ Wrote at kept ∷ [])) → OnErr result (new ≡ events) →
    at ≤ length (course_of first events).now.bytes → bytes ≡ (course_of first events).now.bytes → All AreImages (moments (course_of first events)) →
    (now ≡ (course_of first new).now.bytes) × All AreImages (moments (course_of first new))
behind_write first events new bytes now at piece (Ok done) is_now _ is_new _ inside present left =
    let course = course_of first events in
    let one = one_more_call first events new (Wrote at is_new.0) is_new.2 in
    let same : step course (Wrote at is_new.0) ≡ wrote at piece course = ap (λ (p : List ℕ). wrote at p course) is_new.1 in
    let is = one ∙ same in (
      is_now ∙ ap (λ (b : List ℕ). written_over b at piece) present ∙ sym (ap (λ (c : Course). c.now.bytes) is),
      subst (λ (c : Course). All AreImages (moments c)) (sym is) (wrote_left course at piece inside left),
    )
behind_write first events new bytes now at piece (Err e) _ is_now _ is_new inside present left = (
  is_now ∙ present ∙ sym (ap (λ (l : List Event). (course_of first l).now.bytes) is_new),
  subst (λ (l : List Event). All AreImages (moments (course_of first l))) (sym is_new) left,
)

-- a failed write that was kept, or for which there was no memory
pub behind_failed_write : {E : Type 0} (first : List ℕ) (events new : List Event) (bytes : List ℕ) (at count : ℕ) (result : Result (Unit {0}) E) →
    new ≡ cond (is_ok result) (events ++ Broke at count ∷ []) events →
    at ≤ length (course_of first events).now.bytes → bytes ≡ (course_of first events).now.bytes → All AreImages (moments (course_of first events)) →
    (bytes ≡ (course_of first new).now.bytes) × All AreImages (moments (course_of first new))
behind_failed_write first events new bytes at count (Ok done) is_new inside present left =
    let is = one_more_call first events new (Broke at count) is_new in (
      present ∙ sym (ap (λ (c : Course). c.now.bytes) is),
      subst (λ (c : Course). All AreImages (moments c)) (sym is) (broke_left (course_of first events) at count inside left),
    )
behind_failed_write first events new bytes at count (Err e) is_new inside present left = (
  present ∙ sym (ap (λ (l : List Event). (course_of first l).now.bytes) is_new),
  subst (λ (l : List Event). All AreImages (moments (course_of first l))) (sym is_new) left,
)

-- what is made of the calls up to a moment is an image of that moment
pub made_images : {E : Type 0} (image : Image) (first : List ℕ) (events : List Event) (moment : ℕ) (result : Result (Vec ℕ) E) →
    All AreImages (moments (course_of first events)) → moment ≤ length events → IfOk result (λ left. left.items ≡ image_of image (course_of first (take moment events)).now) →
    IfOk result (λ left. IfSome (standing_at (course_of first events) moment) (λ s. IsImage s left.items))
made_images image first events moment (Ok left) h inside made =
    let all = moments (course_of first events) in
    made_image image all (length (course_of first events).earlier - moment) left.items h (ap (option_map (image_of image)) (stood_at first events moment inside) ∙ ap Some (sym made))
made_images image first events moment (Err e) h inside made = tt
