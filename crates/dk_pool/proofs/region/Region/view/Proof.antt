-- `view` shows a run of the values. Assumes `Logic`.
use mathlib.Core.Path.{◌≡◌, refl, sym, ap, subst}
use Prim.Native.Nat.{ℕ, ◌+◌, ◌*◌, ◌<◌, ◌≤◌, ◌^◌}
use native.Mathlib.Omega.{arith}
use mathlib.Core.List.{List, [], ◌∷◌, ◌++◌}
use lib.ListN.{length, take, length-take, length-drop}
use lib.ListN.{drop as drop_l}
use seplogic.Ra.Ura.{Ura}
use mir.Syntax.{Fn, named, w64}
use mir.MapTy.{inst_fn}
use mir.Val.{Val, vptr, vint}
use base.Logic.{SProp, ent, never, id⊢}
use base.Fml.{Lft, Share, ftrue, flft}
use prog.Memory.{Memory}
use prog.Routine.{Routine}
use prog.Wp.{Env, Calls, Loops, WpFn, Tables}
use types.Logic.{Logic}
use contract.BorrowLft.{◌⊑◌}
use contract.Monad.{Fun, fact}
use contract.Running.{tables, tables_of}
use sound.WpLaws.{WpFn-mono}
use types.Kit.{Item, ⋆, ‵, ◌⊛◌, at_ret, ◌$◌, ◌∵◌, !, qed, by, move, keep, use1, split, join, fsplit, fjoin, feq_i, feq_l, flt_l, flt_i, suffices, frame, done}
use types.Part.{agg}
use types.Run.{stop, fld, load, look, size_word, of_opd, bin, and_then, no_more, first, blocks, exec, returns, enter}
use types.ByLocal.{alloc_all, pass_all, free_all, look_at, get, through, sets, sets_last, is, env}
use denote.Exit.{yes}
use denote.RattleType.{owns}
use denote.Memory.{hidden_shr}
use denote.Opens.{hide}
use denote.RawPtr.{RawPtr, in_a_block}
use denote.Ref.{Bor, ShrRef}
use denote.Builtin.{RefOf, usize}
use denote.Signature.{plain}
use denote.Slice.{ShrSlice, slice_val, elements_shared}
use denote.Steps.{nothing}
use denote.Triple.Clauses.{Clauses, Ended, closing}
use denote.Triple.Entry.{on_entry}
use denote.Triple.Spec.{Meets, triple_of}
use denote.Triple.Table.{entered}
use denote.Triple.Walked.{says, needs, Stays, stay_dropped, walk_of, ends_at, Goes-dropped, walk_Meets}
use Rattle.std.proofs.alloc.Calls.{Al, second}
use Rattle.std.proofs.mem.Param.{El, R, el_x}
use Rattle.std.proofs.ptr.Rows.{times_below}
use Rattle.std.proofs.VecSteps.Shapes.{after}
use Rattle.dk_pool.specs.Region.{region_lent}
use Rattle.dk_pool.proofs.Places.{sz, values_seen}
use Rattle.dk_pool.proofs.Reached.{args, Rg, uncapped, shown, pointer_in, pointer_out}
use Rattle.dk_pool.specs.contracts.region.Region.view as F
use Rattle.dk_pool.specs.contracts.region.Region.view.Key.{name as #self}
use Rattle.dk_pool.proofs.region.Region.view.Statement as stated
use Rattle.dk_pool.proofs.region.Region.view.Code as code

module _ (E : El) (Z : Al) where
  abbrev function : Fn
  function = inst_fn (args E Z) code.function

  abbrev ended : Ended
  ended = F.ended E.row Z.row Z.g Z.d Z.drops

  abbrev clauses : {M : Type 1} {𝓤 : Ura M} (𝓛 : Logic 𝓤) → (Memory → SProp 𝓤) → (Routine → Fun 𝓤) → Clauses 𝓤 ended
  clauses 𝓛 = F.clauses E.row Z.row Z.g Z.d Z.drops 𝓛

  abbrev stayed : Stays ended.signature.params ended.kept
  stayed = (stay_dropped (RefOf (0 ∷ []) tt (plain (λ _. Rg E Z)) (λ _. tt)) yes, (stay_dropped (plain (λ _. usize)) yes, (stay_dropped (plain (λ _. usize)) yes, tt)))

module _ (E : El) (Z : Al) {M : Type 1} {𝓤 : Ura M} (𝓛 : Logic 𝓤) (at_mem : Memory → SProp 𝓤) (run : Routine → Fun 𝓤) (C : Calls 𝓤 𝓛.H) (Λ : Loops 𝓤 𝓛.H)
    (κ κ₁ κ₂ : Lft) (q q₁ q₂ : Share) (short₁ : κ ⊑ κ₁) (short₂ : κ ⊑ κ₂) (rb ro : ℕ) (d : (Rg E Z).Denot) (place count : ℕ) (us0 us1 us2 : List Val) where
  open 𝓛 use {H, A}

  abbrev self : Bor (Rg E Z).Denot
  self = record { ref_ptr = (rb, ro); now = d }

  abbrev others : Item 𝓤
  others = ‵ (flft κ₁ q₁) ⊛ ‵ (flft κ₂ q₂) ⊛ ‵ ftrue

  abbrev bound : (walk_of 𝓛 (ended E Z) (stayed E Z) (clauses E Z 𝓛 at_mem run)).Ghost
  bound = (((κ, (κ₁, (κ₂, tt))), (q, (q₁, (q₂, tt))), (short₁, (short₂, tt)), (self, (place, (count, tt))), (us0, (us1, (us2, tt)))), tt)

  abbrev Post : Val → SProp 𝓤
  Post = (walk_of 𝓛 (ended E Z) (stayed E Z) (clauses E Z 𝓛 at_mem run)).post bound

  abbrev xs : List (el_x E)
  xs = take count (drop_l place d.values)

  abbrev Shown : ℕ × ℕ → Item 𝓤
  Shown at = let seen : Bor (List (el_x E)) = record { ref_ptr = at; now = xs } in ‵ ((ShrSlice (named 0) κ (R E)).own_val seen (slice_val at count ∷ []))

  exits : (at : ℕ × ℕ) → ent 𝓤 (⋆ 𝓛 (‵ (flft κ q) ∷ others ∷ Shown at ∷ [])) (Post (slice_val at count))
  exits at =
      qed 𝓛 (‵ (flft κ q) ∷ others ∷ Shown at ∷ []) ∵
      suffices ! _ (ends_at 𝓛 (ended E Z) (stayed E Z) (clauses E Z 𝓛 at_mem run) bound (slice_val at count) (record { ref_ptr = at; now = xs }) (tt, (tt, (tt, tt))) (tt, (tt, (tt, tt)))) $ says ! refl $
      join ! $ frame ! $ nothing ! $ nothing ! $ fjoin ! $ nothing ! $ fjoin ! $ nothing ! $ fjoin ! $ done !

  abbrev Had : List (Item 𝓤)
  Had = ‵ (hidden_shr (Rg E Z) κ d rb ro) ∷ ‵ (flft κ q) ∷ others ∷ []

  walk : place + count ≤ length d.values → place < 2 ^ 64 → count < 2 ^ 64 → ent 𝓤 (⋆ 𝓛 Had) (WpFn 𝓤 H C Λ (function E Z) (vptr rb ro ∷ vint w64 place ∷ vint w64 count ∷ []) Post)
  walk asked fits_place fits_count =
      let s = sz E in let n = d.room in let most = d.within in
      let long : length xs ≡ count = omega (arith, length-take count (drop_l place d.values), length-drop place d.values) in
      qed 𝓛 Had ∵ use1 𝓛 (‵ (hidden_shr RawPtr κ d.start rb (ro + 0)) ⊛ ‵ (region_lent (R E) d.start n d.values κ)) (shown E Z 𝓛 κ d rb ro) $ split ! $ move ! (1 ∷ []) $
      in_a_block ! d.start (λ p. region_lent (R E) p n d.values κ) (id⊢ 𝓤 (never 𝓤)) (λ b o e. fsplit ! $ flt_l ! (λ small.
      let at : ℕ × ℕ = (b, place * s + o) in
      let far : place * s < 2 ^ 64 = omega (arith, times_below place n s (2 ^ 63) (omega arith) small) in
      use1 𝓛 (‵ (elements_shared (R E) xs b (place * s + o) κ)) (values_seen E 𝓛 b κ o d.values place count (omega arith)) $ hide ! $ move ! (1 ∷ 2 ∷ []) $
      enter ! C Λ (function E Z) (vptr rb ro ∷ vint w64 place ∷ vint w64 count ∷ []) _ $
      alloc_all ! (λ l. pass_all ! refl ((tt, tt), ((tt, record { fits = fits_place }), ((tt, record { fits = fits_count }), tt))) $
      let En : Env 𝓤 H = env (function E Z).locals l in
      first ! $ blocks ! $ pointer_in ! tt d.start b o e rb (ro + 0) (λ q'.
      sets ! (of_opd ! (load ! (through ! refl (fld ! refl (stop !))) (look ! 0 refl))) refl (tt, tt) $ pointer_out ! tt d.start b o e rb (ro + 0) $
      sets ! (is ! (bin ! (get ! refl) (size_word !) (record { fits = subst (λ (k : ℕ). k < 2 ^ 64) (sym (uncapped place s far)) far })) (ap (vint w64) (uncapped place s far))) refl (tt, record { fits = far }) $
      sets ! (bin ! (get ! refl) (get ! refl) tt) refl (tt, tt) $
      sets_last ! (agg ! (and_then ! (get ! refl) (and_then ! (get ! refl) (no_more !)))) refl (tt, (tt, (record { fits = fits_count }, tt))) $
      exec ! C Λ En (after 1 (function E Z).body) (at_ret En Post) $ sets ! (of_opd ! (get ! refl)) refl (tt, (tt, (record { fits = fits_count }, tt))) $ move ! (1 ∷ []) $
      flt_i ! (length xs * s) (2 ^ 63) (times_below (length xs) n s (2 ^ 63) (omega arith) small) $ flt_i ! (length xs) (2 ^ 64) (omega arith) $ fjoin ! $
      feq_i ! (List Val) (slice_val at count ∷ []) (slice_val at (length xs) ∷ []) (ap (λ k. slice_val at k ∷ []) (sym long)) $ fjoin ! $ fjoin ! $
      returns ! (look_at ! 0 refl) $ free_all ! refl $ keep ! (1 ∷ 2 ∷ 0 ∷ []) $ by ! (exits at)))))

  entry : place + count ≤ length d.values → ent 𝓤 (on_entry 𝓛 (ended E Z).signature (κ, (κ₁, (κ₂, tt))) (q, (q₁, (q₂, tt))) (self, (place, (count, tt))) (us0, (us1, (us2, tt)))) (WpFn 𝓤 H C Λ (function E Z) (us0 ++ (us1 ++ (us2 ++ []))) Post)
  entry asked =
      qed 𝓛 ((‵ (flft κ q) ⊛ others) ∷ ‵ (owns (ShrRef (named 0) κ (Rg E Z) ∷ usize ∷ usize ∷ []) (self, (place, (count, tt))) (us0, (us1, (us2, tt)))) ∷ []) ∵
      split ! $ move ! (2 ∷ []) $ fsplit ! $ fsplit ! $ feq_l ! (λ e0. move ! (1 ∷ []) $ fsplit ! $ fsplit ! $ feq_l ! (λ e1. flt_l ! (λ fits_place. fsplit ! $ fsplit ! $ feq_l ! (λ e2. flt_l ! (λ fits_count. keep ! (1 ∷ 2 ∷ 3 ∷ []) $
      by ! (subst (λ (ws : List Val × List Val × List Val). ent 𝓤 (⋆ 𝓛 Had) (WpFn 𝓤 H C Λ (function E Z) (ws.0 ++ (ws.1 ++ (ws.2 ++ []))) Post)) (λ j. (sym e0 j, sym e1 j, sym e2 j)) (walk asked fits_place fits_count)))))))

meets : (E : El) (Z : Al) {M : Type 1} {𝓤 : Ura M} (𝓛 : Logic 𝓤) (at_mem : Memory → SProp 𝓤) (run : Routine → Fun 𝓤) (𝓣 : Tables 𝓤 𝓛.H)
    → Meets 𝓛 (ended E Z).signature (WpFn 𝓤 𝓛.H 𝓣.C 𝓣.Λ (function E Z)) (closing 𝓛 (ended E Z) (clauses E Z 𝓛 at_mem run))
meets E Z {𝓤 = 𝓤} 𝓛 at_mem run 𝓣 =
    walk_Meets 𝓛 (ended E Z) (stayed E Z) (Goes-dropped 𝓛 3 (RefOf (0 ∷ []) tt (plain (λ _. Rg E Z)) (λ _. tt)) yes (λ κs x f. refl), (Goes-dropped 𝓛 3 (plain (λ _. usize)) yes (λ κs x f. refl), (Goes-dropped 𝓛 3 (plain (λ _. usize)) yes (λ κs x f. refl), tt)))
    (clauses E Z 𝓛 at_mem run) (WpFn 𝓤 𝓛.H 𝓣.C 𝓣.Λ (function E Z)) (WpFn-mono 𝓤 𝓛.H 𝓛.laws 𝓣 (function E Z))
    (λ z. let κs = z.0.0 in let qs = z.0.1 in let a = z.0.3 in let vss = z.0.4 in let On : SProp 𝓤 = on_entry 𝓛 (ended E Z).signature κs qs a vss in
    let asks = a.1.0 + a.1.1.0 ≤ length a.0.now.values in
    second 𝓤 (κs.1.0 ⊑ E.row.lives) (κs.1.1.0 ⊑ Z.row.lives) On (fact 𝓤 asks) (λ within. needs 𝓤 asks On
    (entry E Z 𝓛 at_mem run 𝓣.C 𝓣.Λ κs.0 κs.1.0 κs.1.1.0 qs.0 qs.1.0 qs.1.1.0 z.0.2.0 z.0.2.1.0 a.0.ref_ptr.0 a.0.ref_ptr.1 a.0.now a.1.0 a.1.1.0 vss.0 vss.1.0 vss.1.1.0)))

pub view_spec : {M : Type 1} → stated.statement M
unfolding tables_of
view_spec 𝓤 𝓛 𝓜 𝓡 wired X W LX LW g d dd met md =
    let E : El = record { row = X; laws = LX } in
    let Z : Al = record { row = W; laws = LW; g = g; d = d; drops = dd } in
    let 𝓣 : Tables 𝓤 𝓛.H = tables_of 𝓤 𝓛.H 𝓜 (tables 𝓤 𝓛.H 𝓜 𝓡 𝓡.env) in
    entered 𝓤 𝓛.H (triple_of 𝓛 (ended E Z).signature (F.spec X W g d dd 𝓛 𝓜.mem 𝓡.returns)) 𝓣.C 𝓣.Λ (#self (args E Z)) (function E Z) (code.unfolded 𝓤 𝓛.H 𝓜 𝓡 wired (X, (W, tt)) d dd)
    (meets E Z 𝓛 𝓜.mem 𝓡.returns 𝓣)
