-- The places of a region, at any type of value. Assumes `Logic`.
--     of_room, to_room       room for an array is a row of empty places
--     slot_out, slot_in      one place is taken out of the row and put back
--     values_seen            a run of the values that are lent
use mathlib.Core.Path.{◌≡◌, refl, sym, ap, subst, ◌∙◌}
use Prim.Native.Nat.{ℕ, zero, suc, ◌+◌, ◌*◌, ◌<◌, ◌≤◌}
use native.Mathlib.Omega.{arith}
use native.Mathlib.Nat.{zero-mul, suc-mul}
use mathlib.Core.List.{List, [], ◌∷◌, ◌++◌}
use lib.ListN.{length, take, drop, set, get_or, replicate, length-replicate, length-append, take-append-drop, length-take, length-drop}
use lib.Seq.{drop-cons, set_split}
use seplogic.Ra.Ura.{Ura}
use base.Fraction.{full_share}
use mir.Syntax.{ty_array}
use mir.Val.{Val}
use base.Logic.{ent, sep, via, id⊢, mono_r}
use base.Fml.{Fml, Lft, ftrue, fsep, fat, froom}
use types.Logic.{Logic, sem}
use types.Kit.{‵, some, ◌⊛◌, ◌$◌, ◌∵◌, !, qed, by, move, keep, drop as skip, use1, use2, pick, split, frame, rewrite, fsplit, fjoin, done}
use denote.Memory.{part_at, shared_of}
use denote.Slice.{elements_shared}
use denote.Steps.{nothing}
use borrow.Table.OneValue.{part_out, part_in}
use Rattle.std.specs.Prelude.{Option, Some, None}
use Rattle.std.specs.Mem.{type_size}
use Rattle.std.proofs.mem.Param.{El, R, el_x, elτ}
use Rattle.dk_pool.specs.Region.{filled, put, slot, slots, values_lent}

module _ {X : Type 0} where
  pub filled_long : (xs : List X) (n : ℕ) → length xs ≤ n → length (filled xs n) ≡ n
  filled_long [] n le = length-replicate n _
  filled_long (x ∷ xs) zero le = absurd (omega arith)
  filled_long (x ∷ xs) (suc n) le = ap suc (filled_long xs n (omega arith))

  pub put_long : (xs : List X) (i : ℕ) (x : X) (n : ℕ) → i ≤ length xs → i < n → length xs ≤ n → length (put xs i x) ≤ n
  put_long xs i x n le lt most = omega (arith, length-append (take i xs) (x ∷ drop (suc i) xs), length-take i xs, length-drop (suc i) xs)

  -- a value that is put is a place that is set
  pub filled_put : (xs : List X) (n i : ℕ) (x : X) → i ≤ length xs → i < n → set (filled xs n) i (Some x) ≡ filled (put xs i x) n
  filled_put [] zero i x le lt = absurd (omega arith)
  filled_put [] (suc n) zero x le lt = refl
  filled_put [] (suc n) (suc i) x le lt = absurd (omega arith)
  filled_put (y ∷ ys) zero i x le lt = absurd (omega arith)
  filled_put (y ∷ ys) (suc n) zero x le lt = refl
  filled_put (y ∷ ys) (suc n) (suc i) x le lt = ap (λ l. Some y ∷ l) (filled_put ys n i x (omega arith) (omega arith))

module _ (E : El) where
  abbrev pub sz : ℕ
  sz = type_size (R E)

  abbrev pub Place : Type 0
  Place = Option (el_x E)

module _ (E : El) {M : Type 1} {𝓤 : Ura M} (𝓛 : Logic 𝓤) (b : ℕ) where
  open 𝓛 use {H}

  abbrev s : ℕ
  s = sz E

  abbrev Row : ℕ → List (Place E) → Fml
  Row = slots (R E) b

  cut : (xs ys : List (Place E)) (o at : ℕ) → at ≡ length xs * s + o → ent 𝓤 (sem 𝓛 (Row o (xs ++ ys))) (sep 𝓤 (sem 𝓛 (Row o xs)) (sem 𝓛 (Row at ys)))
  cut [] ys o at e = qed 𝓛 (‵ (Row o ys) ∷ []) ∵ rewrite ! 0 (λ (k : ℕ). ‵ (Row k ys)) {x = at} (omega (arith, zero-mul s)) refl $ nothing ! $ done !
  cut (x ∷ xs) ys o at e = let more : at ≡ suc (length xs) * s + o = e in qed 𝓛 (‵ (Row o (x ∷ xs ++ ys)) ∷ []) ∵ fsplit ! $ move ! (1 ∷ []) $
      use1 𝓛 (‵ (Row (o + s) xs) ⊛ ‵ (Row at ys)) (cut xs ys (o + s) at (omega (arith, suc-mul (length xs) s))) $ split ! $ move ! (2 ∷ 0 ∷ []) $ fjoin ! $ done !

  glue : (xs ys : List (Place E)) (o at : ℕ) → at ≡ length xs * s + o → ent 𝓤 (sep 𝓤 (sem 𝓛 (Row o xs)) (sem 𝓛 (Row at ys))) (sem 𝓛 (Row o (xs ++ ys)))
  glue [] ys o at e = qed 𝓛 (‵ ftrue ∷ ‵ (Row at ys) ∷ []) ∵ skip ! $ rewrite ! 0 (λ (k : ℕ). ‵ (Row k ys)) {x = o} (omega (arith, zero-mul s)) refl $ done !
  glue (x ∷ xs) ys o at e = let more : at ≡ suc (length xs) * s + o = e in qed 𝓛 (‵ (Row o (x ∷ xs)) ∷ ‵ (Row at ys) ∷ []) ∵ fsplit ! $ move ! (1 ∷ 2 ∷ []) $
      use2 𝓛 (‵ (Row (o + s) (xs ++ ys))) (glue xs ys (o + s) at (omega (arith, suc-mul (length xs) s))) $ move ! (1 ∷ 0 ∷ []) $ fjoin ! $ done !

  -- what a place holds is forgotten
  emptied : (o : ℕ) (c : Place E) → ent 𝓤 (sem 𝓛 (slot (R E) b o c)) (H.room (elτ E) b o)
  emptied o (Some x) = qed 𝓛 (‵ (part_at (R E) full_share x b o) ∷ []) ∵
      use1 𝓛 (some (λ (v : Val). ‵ (fat full_share (elτ E) b o v) ⊛ ‵ (E.row.own_val x (v ∷ [])))) (part_out 𝓛 (R E) refl full_share x b o) $
      pick ! (λ v. split ! $ keep ! (0 ∷ []) $ by ! (𝓛.laws.at_room (elτ E) b o v))
  emptied o None = 𝓛.laws.raw-room (elτ E) b o

  module _ (o : ℕ) (cs : List (Place E)) (i : ℕ) where
    -- the places but for the i-th
    abbrev pub Besides : Fml
    Besides = fsep (Row o (take i cs)) (Row (i * s + o + s) (drop (suc i) cs))

    before : i ≤ length cs → i * s + o ≡ length (take i cs) * s + o
    before le = let long : i ≡ length (take i cs) = omega (arith, length-take i cs) in ap (λ k. k * s + o) long

    pub slot_out : i < length cs → ent 𝓤 (sem 𝓛 (Row o cs)) (sep 𝓤 (H.room (elτ E) b (i * s + o)) (sem 𝓛 Besides))
    slot_out lt = qed 𝓛 (‵ (Row o cs) ∷ []) ∵
        rewrite ! 0 (λ (l : List (Place E)). ‵ (Row o l)) (sym (take-append-drop i cs) ∙ ap (λ l. take i cs ++ l) (drop-cons cs i None lt)) refl $
        use1 𝓛 (‵ (Row o (take i cs)) ⊛ ‵ (Row (i * s + o) (get_or cs i None ∷ drop (suc i) cs))) (cut (take i cs) (get_or cs i None ∷ drop (suc i) cs) o (i * s + o) (before (omega arith))) $
        split ! $ move ! (1 ∷ []) $ fsplit ! $ move ! (2 ∷ 1 ∷ []) $ fjoin ! $ move ! (1 ∷ []) $
        use1 𝓛 (‵ (froom (elτ E) b (i * s + o))) (emptied (i * s + o) (get_or cs i None)) $ done !

    pub slot_in : i < length cs → (c : Place E) → ent 𝓤 (sep 𝓤 (sem 𝓛 (slot (R E) b (i * s + o) c)) (sem 𝓛 Besides)) (sem 𝓛 (Row o (set cs i c)))
    slot_in lt c = qed 𝓛 (‵ (slot (R E) b (i * s + o) c) ∷ ‵ Besides ∷ []) ∵ move ! (1 ∷ []) $ fsplit ! $ move ! (2 ∷ 1 ∷ []) $ fjoin ! $ move ! (1 ∷ 0 ∷ []) $
        use2 𝓛 (‵ (Row o (take i cs ++ c ∷ drop (suc i) cs))) (glue (take i cs) (c ∷ drop (suc i) cs) o (i * s + o) (before (omega arith))) $
        rewrite ! 0 (λ (l : List (Place E)). ‵ (Row o l)) (sym (set_split cs i c lt)) refl $ done !

  pub of_room : (n o : ℕ) → ent 𝓤 (H.room (ty_array (elτ E) n) b o) (sem 𝓛 (Row o (replicate n None)))
  of_room zero o = qed 𝓛 (‵ (froom (ty_array (elτ E) 0) b o) ∷ []) ∵ keep ! [] $ done !
  of_room (suc n) o = qed 𝓛 (‵ (froom (ty_array (elτ E) (suc n)) b o) ∷ []) ∵
      use1 𝓛 (‵ (froom (elτ E) b o) ⊛ ‵ (froom (ty_array (elτ E) n) b (o + s))) (𝓛.laws.room_uncons (elτ E) n b o) $ split ! $
      use1 𝓛 (‵ (slot (R E) b o None)) (𝓛.laws.room-raw (elτ E) b o) $ frame ! $ by ! (of_room n (o + s))

  pub to_room : (cs : List (Place E)) (n o : ℕ) → length cs ≡ n → ent 𝓤 (sem 𝓛 (Row o cs)) (H.room (ty_array (elτ E) n) b o)
  to_room [] zero o e = 𝓛.laws.room_nil (elτ E) b o
  to_room [] (suc n) o e = absurd (omega arith)
  to_room (c ∷ cs) zero o e = absurd (omega arith)
  to_room (c ∷ cs) (suc n) o e = qed 𝓛 (‵ (slot (R E) b o c) ∷ ‵ (Row (o + s) cs) ∷ []) ∵
      use1 𝓛 (‵ (froom (elτ E) b o)) (emptied o c) $ move ! (1 ∷ []) $
      use1 𝓛 (‵ (froom (ty_array (elτ E) n) b (o + s))) (to_room cs n (o + s) (omega arith)) $ move ! (1 ∷ []) $ by ! (𝓛.laws.room_cons (elτ E) n b o)

  pub value_in : (o : ℕ) (x : el_x E) (v : Val) → ent 𝓤 (sep 𝓤 (H.at full_share (elτ E) b o v) (sem 𝓛 (E.row.own_val x (v ∷ [])))) (sem 𝓛 (slot (R E) b o (Some x)))
  value_in o x v = part_in 𝓛 (R E) refl full_share x b o v

  module _ (κ : Lft) where
    abbrev Seen : ℕ → List (el_x E) → Fml
    Seen o xs = values_lent (R E) b o xs κ

    from_on : (xs : List (el_x E)) (i o at : ℕ) → i ≤ length xs → at ≡ i * s + o → ent 𝓤 (sem 𝓛 (Seen o xs)) (sem 𝓛 (Seen at (drop i xs)))
    from_on xs zero o at le e = let same : o ≡ at = omega (arith, zero-mul s) in subst (λ k. ent 𝓤 (sem 𝓛 (Seen o xs)) (sem 𝓛 (Seen k xs))) same (id⊢ 𝓤 _)
    from_on [] (suc i) o at le e = absurd (omega arith)
    from_on (x ∷ xs) (suc i) o at le e = qed 𝓛 (‵ (Seen o (x ∷ xs)) ∷ []) ∵ fsplit ! $ skip ! $ by ! (from_on xs i (o + s) at (omega arith) (omega (arith, suc-mul i s)))

    up_to : (xs : List (el_x E)) (n o : ℕ) → ent 𝓤 (sem 𝓛 (Seen o xs)) (sem 𝓛 (elements_shared (R E) (take n xs) b o κ))
    up_to xs zero o = qed 𝓛 (‵ (Seen o xs) ∷ []) ∵ keep ! [] $ done !
    up_to [] (suc n) o = qed 𝓛 (‵ (Seen o []) ∷ []) ∵ keep ! [] $ done !
    up_to (x ∷ xs) (suc n) o = mono_r 𝓤 (sem 𝓛 (shared_of (R E) x b o κ)) (up_to xs n (o + s))

    pub values_seen : (o : ℕ) (xs : List (el_x E)) (i n : ℕ) → i ≤ length xs → ent 𝓤 (sem 𝓛 (Seen o xs)) (sem 𝓛 (elements_shared (R E) (take n (drop i xs)) b (i * s + o) κ))
    values_seen o xs i n le = via 𝓤 (sem 𝓛 (Seen (i * s + o) (drop i xs))) (from_on xs i o (i * s + o) le refl) (up_to (drop i xs) n (i * s + o))
