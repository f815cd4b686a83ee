-- The moments of a disk that keeps its calls.
use Rattle.std.proofs.Common.{◌≡◌, ℕ, ◌+◌, ◌-◌, ◌≤◌, List, [], ◌∷◌, ◌++◌, length, get_or, take, drop, refl, sym, ◌∙◌, ap, arith, Some, slice_get, length-drop}
use Rattle.std.specs.List.{fold}
use Rattle.std.proofs.lemmas.List.{drop-drop, take-append-drop, get_or-drop}
use Rattle.std.proofs.lemmas.List.Sums.{fold-append}
use Rattle.std.proofs.lemmas.Option.{slice_get_read}
use Rattle.dk_outside.specs.declared.course.Course.{Course}
use Rattle.dk_outside.specs.declared.course.Standing.{Standing}
use Rattle.dk_outside.specs.Disks.{moments}
use Rattle.dk_memory.specs.Events.{step, start, course_of}
use Rattle.dk_memory.specs.Images.{standing_at}
use Rattle.dk_memory.specs.declared.event.Event.{Event}
use Rattle.dk_memory.specs.declared.event.Event.TheVariants.{Wrote, Broke, Synced}

moment_more : (course : Course) (event : Event) → (step course event).earlier ≡ moments course
moment_more course (Wrote at piece) = refl
moment_more course (Broke at count) = refl
moment_more course Synced = refl

-- behind these calls the moments before them are those of before
moments_before : (course : Course) (events : List Event) → drop (length events) (moments (fold step course events)) ≡ moments course
moments_before course [] = refl
moments_before course (e ∷ events) =
    let all = moments (fold step (step course e) events) in
    let count : length (e ∷ events) ≡ length events + 1 = omega arith in
    ap (λ (k : ℕ). drop k all) count ∙ sym (drop-drop 1 (length events) all) ∙ ap (drop 1) (moments_before (step course e) events) ∙ moment_more course e

moments_grow : (course : Course) (events : List Event) → length (fold step course events).earlier ≡ length course.earlier + length events
moments_grow course [] = omega arith
moments_grow course (e ∷ events) = omega (arith, moments_grow (step course e) events, ap length (moment_more course e))

-- there is a moment for each call
pub moments_counted : (first : List ℕ) (events : List Event) → length (course_of first events).earlier ≡ length events
moments_counted first events = omega (arith, moments_grow (start first) events)

read_front : (all : List Standing) (place : ℕ) (now : Standing) (earlier : List Standing) → drop place all ≡ now ∷ earlier → slice_get all place ≡ Some now
read_front all place now earlier is =
    slice_get_read all (length all) place now refl (omega (arith, length-drop place all, ap length is)) (sym (ap (λ (k : ℕ). get_or all k now) (omega arith) ∙ sym (get_or-drop place all 0 now) ∙ ap (λ (l : List Standing). get_or l 0 now) is))

-- how a disk stood at a moment is how the calls up to it left it
pub stood_at : (first : List ℕ) (events : List Event) (moment : ℕ) → moment ≤ length events →
    standing_at (course_of first events) moment ≡ Some (course_of first (take moment events)).now
stood_at first events moment le =
    let early = course_of first (take moment events) in
    let is : course_of first events ≡ fold step early (drop moment events) = sym (ap (fold step (start first)) (take-append-drop moment events)) ∙ fold-append step (start first) (take moment events) (drop moment events) in
    let place : length (course_of first events).earlier - moment ≡ length (drop moment events) = omega (arith, moments_counted first events, length-drop moment events) in
    ap (slice_get (moments (course_of first events))) place ∙
    read_front (moments (course_of first events)) (length (drop moment events)) early.now early.earlier (ap (λ (c : Course). drop (length (drop moment events)) (moments c)) is ∙ moments_before early (drop moment events))

pub one_more_call : (first : List ℕ) (events new : List Event) (e : Event) → new ≡ events ++ e ∷ [] → course_of first new ≡ step (course_of first events) e
one_more_call first events new e is = ap (course_of first) is ∙ fold-append step (start first) events (e ∷ [])
