-- How covered calls go on, and compose.
use Rattle.std.proofs.Common.{◌≡◌, inl, inr, ⊎_elim, ℕ, List, [], ◌∷◌, ◌++◌, refl, sym, ◌∙◌, ap, subst, append_assoc}
use Rattle.dk_outside.specs.declared.course.Standing.{Standing}
use Rattle.dk_outside.specs.declared.course.Course.{Course}
use Rattle.dk_outside.specs.Disks.{moments, later}
use Rattle.dk_types.specs.declared.entry.Entry.{Entry}
use Rattle.dk_journal.specs.Covers.{StandsWithin, StaysSafe, IsCovered, latest, AreCovered, Covers}

head_is : {A : Type 0} (a b : A) (xs ys : List A) → a ∷ xs ≡ b ∷ ys → a ≡ b
head_is a b xs ys e = cc

module _ (stands : List ℕ → List Entry → Type 0) where
  -- the present moment is the latest
  pub now_is : (old new : Course) (since : List Standing) → moments new ≡ since ++ moments old → new.now ≡ latest old.now since
  now_is old new [] grown = head_is new.now old.now new.earlier old.earlier grown
  now_is old new (s ∷ since) grown = head_is new.now s new.earlier (since ++ moments old) grown

  -- before the first moment
  pub covers_start : (course : Course) (before added : List Entry) → Covers stands course course before added
  covers_start course before added = record { since = []; grown = refl; each = tt }

  -- one moment more
  pub covers_more : (old mid : Course) (s : Standing) (before added : List Entry) → Covers stands old mid before added →
      IsCovered stands old.now before added s → StaysSafe stands mid.now s → Covers stands old (later mid s) before added
  covers_more old mid s before added so_far images safe = record {
    since = s ∷ so_far.since;
    grown = ap (λ (l : List Standing). s ∷ l) so_far.grown;
    each = (images, subst (λ t. StaysSafe stands t s) (now_is old mid so_far.since so_far.grown) safe, so_far.each);
  }

  -- what may be left at a covered moment
  pub covered_now : (start : Standing) (before added : List Entry) (since : List Standing) → AreCovered stands start before added since →
      IsCovered stands start before added (latest start since)
  covered_now start before added [] each bytes image = inl image
  covered_now start before added (s ∷ since) each bytes image = each.0 bytes image

  within_more : (before added more : List Entry) (bytes : List ℕ) → StandsWithin stands before added bytes → StandsWithin stands before (added ++ more) bytes
  within_more before added more bytes within = record {
    front = within.front;
    rest = within.rest ++ more;
    split = ap (λ (l : List Entry). l ++ more) within.split ∙ append_assoc within.front within.rest more;
    stands_for = within.stands_for;
  }

  within_then : (before added more : List Entry) (bytes : List ℕ) → StandsWithin stands (before ++ added) more bytes → StandsWithin stands before (added ++ more) bytes
  within_then before added more bytes within = record {
    front = added ++ within.front;
    rest = within.rest;
    split = ap (λ (l : List Entry). added ++ l) within.split ∙ sym (append_assoc added within.front within.rest);
    stands_for = subst (λ l. stands bytes l) (append_assoc before added within.front) within.stands_for;
  }

  are_covered_more : (start : Standing) (before added more : List Entry) (since : List Standing) → AreCovered stands start before added since → AreCovered stands start before (added ++ more) since
  are_covered_more start before added more [] each = tt
  are_covered_more start before added more (s ∷ since) each =
      (λ bytes image. ⊎_elim (λ was. inl was) (λ within. inr (within_more before added more bytes within)) (each.0 bytes image), each.1, are_covered_more start before added more since each.2)

  -- more entries may have been added
  pub covers_wider : (old new : Course) (before added more : List Entry) → Covers stands old new before added → Covers stands old new before (added ++ more)
  covers_wider old new before added more c = record { since = c.since; grown = c.grown; each = are_covered_more old.now before added more c.since c.each }

  latest_then : (start : Standing) (since more : List Standing) → latest start (more ++ since) ≡ latest (latest start since) more
  latest_then start since [] = refl
  latest_then start since (s ∷ more) = refl

  are_covered_then : (start : Standing) (before added more_added : List Entry) (since more : List Standing) →
      AreCovered stands start before added since → AreCovered stands (latest start since) (before ++ added) more_added more → AreCovered stands start before (added ++ more_added) (more ++ since)
  are_covered_then start before added more_added since [] first second = are_covered_more start before added more_added since first
  are_covered_then start before added more_added since (s ∷ more) first second = (
    λ bytes image. ⊎_elim (λ was. ⊎_elim (λ at_start. inl at_start) (λ within. inr (within_more before added more_added bytes within)) (covered_now start before added since first bytes was))
        (λ within. inr (within_then before added more_added bytes within)) (second.0 bytes image),
    subst (λ t. StaysSafe stands t s) (sym (latest_then start since more)) second.1,
    are_covered_then start before added more_added since more first second.2,
  )

  -- one covered call and then another is a covered call
  pub covers_then : (old mid new : Course) (before added more : List Entry) → Covers stands old mid before added → Covers stands mid new (before ++ added) more → Covers stands old new before (added ++ more)
  covers_then old mid new before added more first second = record {
    since = second.since ++ first.since;
    grown = second.grown ∙ ap (λ (l : List Standing). second.since ++ l) first.grown ∙ sym (append_assoc second.since first.since (moments old));
    each = are_covered_then old.now before added more first.since second.since first.each
        (subst (λ t. AreCovered stands t (before ++ added) more second.since) (now_is old mid first.since first.grown) second.each);
  }
