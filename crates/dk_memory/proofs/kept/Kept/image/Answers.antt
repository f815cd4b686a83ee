use Rattle.std.proofs.Common.{◌≡◌, ◌≤◌, List, ℕ, ap, subst, length, take, arith, length-take}
use Rattle.std.specs.Prelude.{IfOk}
use Rattle.dk_memory.specs.Events.{course_of}
use Rattle.dk_memory.specs.Images.{image_of}
use Rattle.dk_memory.specs.declared.event.Event.{Event}
use Rattle.dk_memory.proofs.Replays.{moments_counted}
use Rattle.dk_memory.proofs.Imaging.{made_images}
use Rattle.dk_memory.proofs.kept.Kept.image.Goals as goal

pub slice_bounds-replay-end : goal.slice_bounds-replay-end
slice_bounds-replay-end c =
    omega (arith, c.requires, moments_counted c.args.self.now.first.items c.args.self.now.events.items, ap length c.deref-2.ensures.value, length-take c.args.moment c.deref-2.result.now)

pub returns-clause-is_image : goal.returns-clause-is_image
returns-clause-is_image c =
    let first = c.args.self.now.first.items in
    let events = c.args.self.now.events.items in
    let moment = c.args.moment in
    let inside : moment ≤ length events = omega (arith, c.requires, moments_counted first events) in
    let at_first = subst (λ (f : List ℕ). IfOk c.replay.result (λ left. left.items ≡ image_of c.args.image (course_of f (take moment c.deref-2.result.now)).now)) c.deref.ensures.value c.replay.ensures in
    let made = subst (λ (es : List Event). IfOk c.replay.result (λ left. left.items ≡ image_of c.args.image (course_of first (take moment es)).now)) c.deref-2.ensures.value at_first in
    made_images c.args.image first events moment c.replay.result c.args.self.now.left inside made
