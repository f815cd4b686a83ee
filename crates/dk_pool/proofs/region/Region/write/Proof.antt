-- `write` fills a place, over what it held. Assumes `Logic`.
use mathlib.Core.Path.{◌≡◌, refl, sym, ap, subst}
use Prim.Native.Nat.{ℕ, ◌+◌, ◌*◌, ◌<◌, ◌≤◌, ◌^◌}
use native.Mathlib.Omega.{arith}
use mathlib.Core.List.{List, [], ◌∷◌, ◌++◌}
use lib.ListN.{length}
use seplogic.Ra.Ura.{Ura}
use base.Fraction.{full_share}
use mir.Syntax.{Fn, named, w64}
use mir.MapTy.{inst_fn}
use mir.Val.{Val, vptr, vint, vunit}
use base.Logic.{SProp, ent, never, id⊢}
use base.Fml.{Lft, GName, Share, ftrue, froom, flft, fobs, fbor}
use prog.Memory.{Memory}
use prog.Routine.{Routine}
use prog.Wp.{Env, Calls, Loops, WpFn, Tables}
use types.Logic.{Logic}
use contract.BorrowLft.{◌⊑◌}
use contract.Monad.{Fun, fact}
use contract.Running.{tables, tables_of}
use sound.WpLaws.{WpFn-mono}
use types.Kit.{Item, ⋆, ‵, ◌⊛◌, at_ret, ◌$◌, ◌∵◌, !, qed, by, move, keep, use1, use2, split, join, rewrite, fsplit, fsplit3, fjoin, fjoin3, feq_i, feq_l, flt_l, flt_i, suffices, frame, done}
use types.Part.{whole, sub, look_in}
use types.Run.{init, stop, fld, load, size_word, unit_lit, of_opd, bin, assigns_last, first, blocks, exec, returns, enter}
use types.ByLocal.{alloc_all, pass_all, free_all, look_at, get, through, sets, is, env}
use types.SemTy.{Body as Borrowed}
use denote.Exit.{yes, no}
use denote.RattleType.{owns}
use denote.Laws.{Is, shows}
use denote.Memory.{cell_at, mem}
use denote.Param.{layout}
use denote.RawPtr.{Ptr, in_a_block}
use denote.Ref.{MutBor, MutRef}
use denote.Builtin.{usize}
use denote.Signature.{plain}
use denote.Steps.{nothing, opens, closes, peeks}
use denote.Triple.Clauses.{Clauses, Ended, closing}
use denote.Triple.Entry.{on_entry}
use denote.Triple.Spec.{Meets, triple_of}
use denote.Triple.Table.{entered}
use denote.Triple.Walked.{says, needs, Stays, stay_dropped, stay_ref, walk_of, ends_at, Goes-dropped, Goes-ref, walk_Meets}
use Rattle.std.specs.Prelude.{Some}
use Rattle.std.proofs.alloc.Calls.{Al, second, token}
use Rattle.std.proofs.mem.Param.{El, R, el_x, elτ, lawful, one}
use Rattle.std.proofs.ptr.Rows.{times_below}
use Rattle.std.proofs.RcSteps.{Good}
use Rattle.std.proofs.VecSteps.Shapes.{after}
use Rattle.dk_pool.specs.Region.{filled, put, slot, slots, region_owns}
use Rattle.dk_pool.proofs.Places.{sz, Place, filled_long, filled_put, put_long, Besides, slot_out, slot_in, value_in}
use Rattle.dk_pool.proofs.Reached.{args, Rg, region_val, words_had, words_made, uncapped}
use Rattle.dk_pool.specs.contracts.region.Region.write as F
use Rattle.dk_pool.specs.contracts.region.Region.write.Key.{name as #self}
use Rattle.dk_pool.proofs.region.Region.write.Statement as stated
use Rattle.dk_pool.proofs.region.Region.write.Code as code

module _ (E : El) (Z : Al) where
  abbrev function : Fn
  function = inst_fn (args E Z) code.function

  abbrev ended : Ended
  ended = F.ended E.row Z.row Z.g Z.d Z.drops

  abbrev clauses : {M : Type 1} {𝓤 : Ura M} (𝓛 : Logic 𝓤) → (Memory → SProp 𝓤) → (Routine → Fun 𝓤) → Clauses 𝓤 ended
  clauses 𝓛 = F.clauses E.row Z.row Z.g Z.d Z.drops 𝓛

  abbrev stayed : Stays ended.signature.params ended.kept
  stayed = (stay_ref (0 ∷ []) tt (plain (λ _. Rg E Z)), (stay_dropped (plain (λ _. usize)) yes, (stay_dropped (plain (λ _. R E)) no, tt)))

  abbrev Asks : (Rg E Z).Denot → ℕ → Type 0
  Asks d place = (place ≤ length d.values) × (place < d.room)

  abbrev Gives : (Rg E Z).Denot → ℕ → el_x E → (Rg E Z).Denot → Type 0
  Gives d place value new = (new.room ≡ d.room) × (new.alloc ≡ d.alloc) × (new.values ≡ put d.values place value)

module _ (E : El) (Z : Al) {M : Type 1} {𝓤 : Ura M} (𝓛 : Logic 𝓤) (at_mem : Memory → SProp 𝓤) (run : Routine → Fun 𝓤) (C : Calls 𝓤 𝓛.H) (Λ : Loops 𝓤 𝓛.H)
    (κ κ₁ κ₂ : Lft) (q q₁ q₂ : Share) (short₁ : κ ⊑ κ₁) (short₂ : κ ⊑ κ₂) (rb ro : ℕ) (γ : GName) (d : (Rg E Z).Denot) (place : ℕ) (value : el_x E) (us0 us1 us2 : List Val) where
  open 𝓛 use {H, A}

  abbrev self : MutBor (Rg E Z).Denot
  self = record { ref_ptr = (rb, ro); ghost_name = γ; now = d }

  abbrev others : Item 𝓤
  others = ‵ (flft κ₁ q₁) ⊛ ‵ (flft κ₂ q₂) ⊛ ‵ ftrue

  abbrev bound : (walk_of 𝓛 (ended E Z) (stayed E Z) (clauses E Z 𝓛 at_mem run)).Ghost
  bound = (((κ, (κ₁, (κ₂, tt))), (q, (q₁, (q₂, tt))), (short₁, (short₂, tt)), (self, (place, (value, tt))), (us0, (us1, (us2, tt)))), tt)

  abbrev Post : Val → SProp 𝓤
  Post = (walk_of 𝓛 (ended E Z) (stayed E Z) (clauses E Z 𝓛 at_mem run)).post bound

  exits : us0 ≡ vptr rb ro ∷ [] → (new : (Rg E Z).Denot) → Gives E Z d place value new
      → ent 𝓤 (⋆ 𝓛 (‵ (fobs γ ((Rg E Z).coded.code new)) ∷ ‵ (fbor κ (Borrowed (mem (Rg E Z)) rb ro γ)) ∷ ‵ (flft κ q) ∷ others ∷ [])) (Post vunit)
  exits passed new g =
      qed 𝓛 (‵ (fobs γ ((Rg E Z).coded.code new)) ∷ ‵ (fbor κ (Borrowed (mem (Rg E Z)) rb ro γ)) ∷ ‵ (flft κ q) ∷ others ∷ []) ∵
      suffices ! _ (ends_at 𝓛 (ended E Z) (stayed E Z) (clauses E Z 𝓛 at_mem run) bound vunit tt (new, (tt, (tt, tt))) (tt, (tt, (tt, tt)))) $ says ! g $
      move ! (2 ∷ 3 ∷ []) $ join ! $ frame ! $ feq_i ! (List Val) us0 (vptr rb ro ∷ []) passed $ fjoin3 ! $ nothing ! $ nothing ! $ fjoin ! $ nothing ! $ fjoin ! $ move ! (1 ∷ 0 ∷ []) $ fjoin ! $
      feq_i ! (List Val) (vunit ∷ []) (vunit ∷ []) refl $ move ! (1 ∷ 0 ∷ []) $ done !

  abbrev Had : Val → List (Item 𝓤)
  Had v = ‵ (fobs γ ((Rg E Z).coded.code d)) ∷ ‵ (fbor κ (Borrowed (mem (Rg E Z)) rb ro γ)) ∷ ‵ (flft κ q) ∷ ‵ ((R E).own_val value (v ∷ [])) ∷ others ∷ []

  walk : us0 ≡ vptr rb ro ∷ [] → Asks E Z d place → place < 2 ^ 64 → (v : Val) → Good (layout (R E)) v
      → ent 𝓤 (⋆ 𝓛 (Had v)) (WpFn 𝓤 H C Λ (function E Z) (vptr rb ro ∷ vint w64 place ∷ v ∷ []) Post)
  walk passed asked fits v good =
      let s = sz E in let n = d.room in let cs : List (Place E) = filled d.values n in
      let long = filled_long d.values n d.within in let inside : place < length cs = omega (arith, asked.1) in
      let Cell : Ptr → Item 𝓤 = λ p. ‵ (cell_at full_share (Rg E Z).mir (region_val p n ∷ []) rb ro) in
      let xs : List (el_x E) = put d.values place value in
      let Owned : Ptr → Item 𝓤 = λ p. ‵ (region_owns (R E) (token Z d.alloc) p n xs) in
      let new : (Rg E Z).Denot = record { start = d.start; room = n; by = d.by; values = xs; alloc = d.alloc; within = put_long d.values place value n asked.0 asked.1 d.within; small = d.small } in
      qed 𝓛 (Had v) ∵ enter ! C Λ (function E Z) (vptr rb ro ∷ vint w64 place ∷ v ∷ []) _ $ alloc_all ! (λ l. pass_all ! refl ((tt, tt), ((tt, record { fits = fits }), (good, tt))) $
      let En : Env 𝓤 H = env (function E Z).locals l in
      opens ! tt (Rg E Z) {h = d} rb ro (λ vs. move ! (1 ∷ []) $ fsplit ! $ words_had E Z ! d.start n vs (λ words wide.
      rewrite ! 1 (λ (ws : List Val). ‵ (cell_at full_share (Rg E Z).mir ws rb ro)) words refl $
      in_a_block ! d.start (λ p. region_owns (R E) (token Z d.alloc) p n d.values) (id⊢ 𝓤 (never 𝓤)) (λ b o e. fsplit ! $ fsplit ! $ flt_l ! (λ small. rewrite ! 2 Cell e refl $
      let far : place * s < 2 ^ 64 = omega (arith, times_below place n s (2 ^ 63) (omega (arith, asked.1)) small) in
      use1 𝓛 (‵ (froom (elτ E) b (place * s + o)) ⊛ ‵ (Besides E 𝓛 b o cs place)) (slot_out E 𝓛 b o cs place inside) $ split ! $
      -- [the room; the other places; the token; the cell of the region; the open borrow; obs; auth; what the value owns; the other tokens]
      first ! $ blocks ! $ sets ! (of_opd ! (load ! (through ! refl (fld ! refl (stop !))) (look_in ! 3 (sub ! 0 refl (whole !))))) refl (tt, tt) $
      sets ! (is ! (bin ! (get ! refl) (size_word !) (record { fits = subst (λ (k : ℕ). k < 2 ^ 64) (sym (uncapped place s far)) far })) (ap (vint w64) (uncapped place s far))) refl (tt, record { fits = far }) $
      sets ! (bin ! (get ! refl) (get ! refl) tt) refl (tt, tt) $ sets ! (of_opd ! (get ! refl)) refl good $
      assigns_last ! (of_opd ! (get ! refl)) (through ! refl (stop !)) (init ! 0 refl good) $
      exec ! C Λ En (after 1 (function E Z).body) (at_ret En Post) $ sets ! (of_opd ! (unit_lit !)) refl (tt, tt) $
      move ! (0 ∷ 7 ∷ []) $ use2 𝓛 (‵ (slot (R E) b (place * s + o) (Some value))) (value_in E 𝓛 b (place * s + o) value v) $
      use2 𝓛 (‵ (slots (R E) b o (lib.ListN.set cs place (Some value)))) (slot_in E 𝓛 b o cs place inside (Some value)) $
      rewrite ! 0 (λ (l : List (Place E)). ‵ (slots (R E) b o l)) (filled_put d.values n place value asked.0 asked.1) refl $
      flt_i ! (n * s) (2 ^ 63) small $ fjoin ! $ fjoin ! $ rewrite ! 0 Owned (sym e) refl $ rewrite ! 1 Cell (sym e) refl $
      words_made E Z ! d.start n wide $ fjoin ! $ move ! (1 ∷ 0 ∷ []) $ closes ! tt (Rg E Z) new (region_val d.start n ∷ []) rb ro $
      returns ! (look_at ! 0 refl) $ free_all ! refl $ keep ! (0 ∷ 1 ∷ 2 ∷ 3 ∷ []) $ by ! (exits passed new (refl, refl, refl)))))))

  entry : Asks E Z d place → ent 𝓤 (on_entry 𝓛 (ended E Z).signature (κ, (κ₁, (κ₂, tt))) (q, (q₁, (q₂, tt))) (self, (place, (value, tt))) (us0, (us1, (us2, tt)))) (WpFn 𝓤 H C Λ (function E Z) (us0 ++ (us1 ++ (us2 ++ []))) Post)
  entry asked =
      qed 𝓛 ((‵ (flft κ q) ⊛ others) ∷ ‵ (owns (MutRef (named 0) κ (Rg E Z) ∷ usize ∷ R E ∷ []) (self, (place, (value, tt))) (us0, (us1, (us2, tt)))) ∷ []) ∵
      split ! $ move ! (2 ∷ []) $ fsplit ! $ fsplit3 ! $ feq_l ! (λ e0. move ! (2 ∷ []) $ fsplit ! $ fsplit ! $ feq_l ! (λ e1. flt_l ! (λ fits. fsplit ! $
      peeks ! (R E) (Is (R E)) (shows 𝓛 (R E)) value us2 (λ known.
      let got = one E us2 ((lawful E 𝓛).typed value us2 known) in
      rewrite ! 0 (λ (us : List Val). ‵ ((R E).own_val value us)) got.1 refl $ keep ! (2 ∷ 3 ∷ 4 ∷ 0 ∷ 5 ∷ []) $
      by ! (subst (λ (ws : List Val × List Val × List Val). ent 𝓤 (⋆ 𝓛 (Had got.0)) (WpFn 𝓤 H C Λ (function E Z) (ws.0 ++ (ws.1 ++ (ws.2 ++ []))) Post)) (λ j. (sym e0 j, sym e1 j, sym got.1 j)) (walk e0 asked fits got.0 got.2))))))

meets : (E : El) (Z : Al) {M : Type 1} {𝓤 : Ura M} (𝓛 : Logic 𝓤) (at_mem : Memory → SProp 𝓤) (run : Routine → Fun 𝓤) (𝓣 : Tables 𝓤 𝓛.H)
    → Meets 𝓛 (ended E Z).signature (WpFn 𝓤 𝓛.H 𝓣.C 𝓣.Λ (function E Z)) (closing 𝓛 (ended E Z) (clauses E Z 𝓛 at_mem run))
meets E Z {𝓤 = 𝓤} 𝓛 at_mem run 𝓣 =
    walk_Meets 𝓛 (ended E Z) (stayed E Z) (Goes-ref 𝓛 3 0 tt (plain (λ _. Rg E Z)), (Goes-dropped 𝓛 3 (plain (λ _. usize)) yes (λ κs x f. refl), (Goes-dropped 𝓛 3 (plain (λ _. R E)) no (λ κs x f. refl), tt)))
    (clauses E Z 𝓛 at_mem run) (WpFn 𝓤 𝓛.H 𝓣.C 𝓣.Λ (function E Z)) (WpFn-mono 𝓤 𝓛.H 𝓛.laws 𝓣 (function E Z))
    (λ z. let κs = z.0.0 in let qs = z.0.1 in let a = z.0.3 in let vss = z.0.4 in let On : SProp 𝓤 = on_entry 𝓛 (ended E Z).signature κs qs a vss in
    let asks = Asks E Z a.0.now a.1.0 in
    second 𝓤 (κs.1.0 ⊑ E.row.lives) (κs.1.1.0 ⊑ Z.row.lives) On (fact 𝓤 asks) (λ within. needs 𝓤 asks On
    (entry E Z 𝓛 at_mem run 𝓣.C 𝓣.Λ κs.0 κs.1.0 κs.1.1.0 qs.0 qs.1.0 qs.1.1.0 z.0.2.0 z.0.2.1.0 a.0.ref_ptr.0 a.0.ref_ptr.1 a.0.ghost_name a.0.now a.1.0 a.1.1.0 vss.0 vss.1.0 vss.1.1.0)))

pub write_spec : {M : Type 1} → stated.statement M
unfolding tables_of
write_spec 𝓤 𝓛 𝓜 𝓡 wired X W LX LW g d dd met md =
    let E : El = record { row = X; laws = LX } in
    let Z : Al = record { row = W; laws = LW; g = g; d = d; drops = dd } in
    let 𝓣 : Tables 𝓤 𝓛.H = tables_of 𝓤 𝓛.H 𝓜 (tables 𝓤 𝓛.H 𝓜 𝓡 𝓡.env) in
    entered 𝓤 𝓛.H (triple_of 𝓛 (ended E Z).signature (F.spec X W g d dd 𝓛 𝓜.mem 𝓡.returns)) 𝓣.C 𝓣.Λ (#self (args E Z)) (function E Z) (code.unfolded 𝓤 𝓛.H 𝓜 𝓡 wired (X, (W, tt)) d dd)
    (meets E Z 𝓛 𝓜.mem 𝓡.returns 𝓣)
