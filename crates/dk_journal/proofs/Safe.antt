-- What a crash leaves of a write over a disk that was synced, and that such a write covers.
use Rattle.std.proofs.Common.{◌≡◌, inl, inr, ℕ, ◌+◌, ◌<◌, ◌≤◌, Bool, true, List, ◌++◌, length, take, drop, sym, ◌∙◌, ap, subst, arith, append_assoc, length-drop}
use Rattle.std.proofs.lemmas.List.{ext_get_or, get_or-take, get_or-drop, length-take-le}
use Rattle.dk_outside.specs.declared.course.Standing.{Standing}
use Rattle.dk_outside.specs.declared.course.Course.{Course}
use Rattle.dk_outside.specs.Disks.{IsImage, settled, after_write, written_over, wrote, broke}
use Rattle.dk_outside.proofs.Shown.{settled_shown, torn_shown, written_torn}
use Rattle.dk_types.specs.declared.entry.Entry.{Entry}
use Rattle.dk_journal.specs.Covers.{StandsWithin, StaysSafe, Covers}
use Rattle.dk_journal.specs.Rests.{Rewrites, nothing, pending, synced}
use Rattle.dk_journal.proofs.Covering.{covers_start, covers_more}

pub settled_image : (f c : List ℕ) → IsImage (settled f) c → c ≡ f
settled_image f c image =
    ext_get_or 0 c f (omega (arith, image.no_shorter, image.no_longer)) (λ place below. image.firm place (omega (arith, below, image.no_longer)) tt)

-- in front of a write all stays
pub image_front : (f : List ℕ) (at count : ℕ) (bytes c : List ℕ) → at ≤ length f → IsImage (after_write (settled f) at count bytes) c → take at c ≡ take at f
image_front f at count bytes c le image =
    let long = length-take-le at c (omega (arith, image.no_shorter, le)) in
    let was = length-take-le at f le in
    ext_get_or 0 (take at c) (take at f) (long ∙ sym was) (λ place below.
    let before : place < at = omega (arith, below, long) in
    get_or-take at c place 0 before ∙ image.firm place (omega (arith, before, le)) (inl before, tt) ∙ sym (get_or-take at f place 0 before))

-- and behind one that doesn't reach past the end
pub image_back : (f : List ℕ) (at count : ℕ) (bytes c : List ℕ) → at + count ≤ length f → IsImage (after_write (settled f) at count bytes) c → drop (at + count) c ≡ drop (at + count) f
image_back f at count bytes c le image =
    let same : length c ≡ length f = omega (arith, image.no_shorter, image.no_longer, le) in
    ext_get_or 0 (drop (at + count) c) (drop (at + count) f) (omega (arith, same, length-drop (at + count) c, length-drop (at + count) f)) (λ place below.
    get_or-drop (at + count) c place 0 ∙ image.firm (at + count + place) (omega (arith, below, same, length-drop (at + count) c)) (inr (omega arith), tt) ∙ sym (get_or-drop (at + count) f place 0))

module _ (stands : List ℕ → List Entry → Type 0) (unique : (bytes : List ℕ) (entries others : List Entry) → stands bytes entries → stands bytes others → entries ≡ others) where
  -- where each image stands for the entries that one old image stood for, and perhaps more, what was safe is so
  safe_by : (old new : Standing) (f : List ℕ) (entries added : List Entry) → IsImage old f → stands f entries →
      ((c : List ℕ) → IsImage new c → StandsWithin stands entries added c) → StaysSafe stands old new
  safe_by old new f entries added shown stood within front safe c image =
      let was = safe f shown in
      let same : entries ≡ front ++ was.rest = unique f entries (front ++ was.rest) stood was.stands_for in
      let here = within c image in
      record {
        rest = was.rest ++ here.front;
        stands_for = subst (λ l. stands c l) (ap (λ (l : List Entry). l ++ here.front) same ∙ append_assoc front was.rest here.front) here.stands_for;
      }

  -- where each new image was one before, what was safe is so
  pub safe_fewer : (old new : Standing) → ((c : List ℕ) → IsImage new c → IsImage old c) → StaysSafe stands old new
  safe_fewer old new fewer front safe c image = safe c (fewer c image)

  module _ (course : Course) (f : List ℕ) (at : ℕ) (piece : List ℕ) (entries added : List Entry) (is_settled : course.now ≡ settled f) (le : at ≤ length f) (stood : stands f entries)
      (torn : (bytes c : List ℕ) → IsImage (after_write (settled f) at (length piece) bytes) c → StandsWithin stands entries added c) where
    shown_now : IsImage course.now f
    shown_now = subst (λ s. IsImage s f) (sym is_settled) (settled_shown f)

    bytes_now : course.now.bytes ≡ f
    bytes_now = ap (λ (s : Standing). s.bytes) is_settled

    torn_now : (bytes c : List ℕ) → IsImage (after_write course.now at (length piece) bytes) c → StandsWithin stands entries added c
    torn_now bytes c image = torn bytes c (subst (λ s. IsImage (after_write s at (length piece) bytes) c) is_settled image)

    broke_covers : (bytes : List ℕ) → Covers stands course (broke at (length piece) bytes course) entries added
    broke_covers bytes = covers_more stands course course (after_write course.now at (length piece) bytes) entries added (covers_start stands course entries added)
        (λ c image. inr (torn_now bytes c image))
        (safe_by course.now (after_write course.now at (length piece) bytes) f entries added shown_now stood (torn_now bytes))

    abbrev done : List ℕ
    done = written_over course.now.bytes at piece

    fewer : (c : List ℕ) → IsImage (settled done) c → IsImage (after_write course.now at (length piece) done) c
    fewer c image =
        let whole = written_torn course.now.bytes at piece (subst (λ (b : List ℕ). at ≤ length b) (sym bytes_now) le) in
        let shown = torn_shown course.now at (length piece) done (subst (λ b. IsImage course.now b) (sym bytes_now) shown_now) whole in
        subst (λ b. IsImage (after_write course.now at (length piece) done) b) (sym (settled_image done c image)) shown

    pub rewrites_cover : (ok : Bool) (new : Course) → Rewrites course at piece ok new → Covers stands course new entries added
    rewrites_cover _ _ nothing = covers_start stands course entries added
    rewrites_cover _ _ (pending bytes is_torn) = broke_covers bytes
    rewrites_cover _ _ synced = covers_more stands course (wrote at piece course) (settled done) entries added (broke_covers done)
        (λ c image. inr (torn_now done c (fewer c image)))
        (safe_fewer (after_write course.now at (length piece) done) (settled done) fewer)

pub rewritten_now : (course new : Course) (f : List ℕ) (at : ℕ) (piece : List ℕ) → course.now ≡ settled f → Rewrites course at piece true new → new.now ≡ settled (written_over f at piece)
rewritten_now course _ f at piece is_settled synced = ap (λ (s : Standing). settled (written_over s.bytes at piece)) is_settled
