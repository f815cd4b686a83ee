-- What is owned of a region, taken apart and made, and what a `&` to one shows. Assumes `Logic`.
use mathlib.Core.Path.{◌≡◌, refl, sym, ap, ◌∙◌}
use Prim.Native.Nat.{ℕ, ◌*◌, ◌<◌, ◌^◌, ◌+◌}
use mathlib.Core.List.{List, [], ◌∷◌, ◌++◌}
use seplogic.Ra.Ura.{Ura}
use mir.Syntax.{Args, Ty, a_type, dcons, dnil, w64, ty_array, ty_ptr}
use mir.Raw.{raw as bare}
use mir.Val.{Val, vint, vptr, vstruct, vcons, vnil, of_list}
use base.Logic.{ent, sep}
use base.Fml.{Lft, Share, fat, flft, fhide}
use prog.Memory.{size, align, capped}
use prog.Capped.{capped_is}
use prog.RawLaws.{size-raw, align-raw}
use native.Mathlib.Nat.{zero-mul, suc-mul}
use native.Mathlib.Omega.{arith}
use Prim.Native.Nat.{zero, suc}
use types.Logic.{Logic, sem}
use types.Kit.{Goal, Soaks, Step, step, Seq, Item, ‵, ◌⊛◌, ◌$◌, ◌∵◌, !, qed, move, keep, drop, use1, split, rewrite, fsplit, fpick, feq_l, feq_i, flt_l, done}
use denote.Copied.{plain_Copied}
use denote.Memory.{cell_at, part_at, hidden_shr}
use denote.Opens.{Shut, unhide}
use denote.Param.{param, bounded, layout}
use denote.RattleType.{RattleType}
use denote.RawPtr.{Ptr, RawPtr, block_ptr, null_ptr, coded_ptr, ptr_own, rawptr_pure, ptr_val}
use denote.Shadow.{pure_i}
use denote.Steps.{looks, shuts}
use denote.Struct.Laws.{RawPtr-laws}
use denote.Struct.Lending.{lent_out}
use denote.Struct.Owning.{shape}
use denote.Struct.Struct.{Struct}
use Rattle.std.specs.contracts.marker.PhantomData as marker
use Rattle.std.proofs.alloc.Calls.{Al}
use lib.Dec.{lit<}
use Rattle.std.proofs.RcSteps.{Good}
use Rattle.std.proofs.mem.Param.{El, R, elτ}
use Rattle.dk_pool.specs.Region.{region_lent}
use Rattle.dk_pool.specs.contracts.region.Region as Region
use Rattle.dk_pool.proofs.Places.{sz}

-- the machine value of a region
abbrev pub region_val : Ptr → ℕ → Val
region_val p n = vstruct (vcons (ptr_val p) (vcons (vint w64 n) (vcons (vstruct vnil) vnil)))

-- where the product fits a word, the count is zero or the size fits too
pub uncapped : (i k : ℕ) → i * k < 2 ^ 64 → i * capped k ≡ i * k
uncapped zero k h = zero-mul (capped k) ∙ sym (zero-mul k)
uncapped (suc i) k h = let up = suc-mul i k in ap (λ (j : ℕ). suc i * j) (capped_is k (omega arith))

module _ (E : El) where
  -- the type that a block of n places is allocated for
  abbrev pub block_ty : ℕ → Ty
  block_ty n = bare (ty_array (elτ E) n)

  pub block_size : (n : ℕ) → n * sz E < 2 ^ 64 → capped (size (block_ty n)) ≡ n * sz E
  block_size n fits = ap capped (size-raw (ty_array (elτ E) n)) ∙ capped_is (n * sz E) fits

  pub block_align : (n : ℕ) → capped (align (block_ty n)) ≡ capped (align (elτ E))
  block_align n = ap capped (align-raw (ty_array (elτ E) n))

module _ (E : El) (Z : Al) where
  abbrev pub args : Args
  args = bounded (a_type ∷ a_type ∷ []) (E.row, (Z.row, tt)) (dcons Z.d (dcons Z.drops dnil))

  abbrev pub P : RattleType
  P = param 1 Z.row

  abbrev pub Rg : RattleType
  Rg = Region.the_row (R E) P Z.g

  pub region_Good : (p : Ptr) (n : ℕ) → n < 2 ^ 64 → Good (layout Rg) (region_val p n)
  region_Good (block_ptr b o) n fits = (tt, (tt, (record { fits = fits }, (tt, tt))))
  region_Good null_ptr n fits = (tt, (record { fits = lit< tt }, (record { fits = fits }, (tt, tt))))

  -- the data fields, as a plain struct
  abbrev pub Words : RattleType
  Words = Struct (shape (Region.the_type (R E) P Z.g))

module _ (E : El) (Z : Al) {M : Type 1} {𝓤 : Ura M} {𝓛 : Logic 𝓤} {K : Type 0} {Γ : List (Item 𝓤)} {G : Goal 𝓤 𝓛.H} where
  pub words_had : K → (p : Ptr) (n : ℕ) (vs : List Val) → (vs ≡ region_val p n ∷ [] → n < 2 ^ 64 → Seq K 𝓛 Γ G) → Seq K 𝓛 (‵ ((Words E Z).own_val (p, (n, (tt, tt))) vs) ∷ Γ) G
  words_had t p n vs k =
      fpick t (λ vss. fsplit t $ feq_l t (λ all. fsplit t $ feq_l t (λ e₀. fsplit t $ fsplit t $ feq_l t (λ e₁. flt_l t (λ fits. fsplit t $ fpick t (λ none. fsplit t $ feq_l t (λ e₂. drop t $ drop t $
      k (all ∙ (λ i. vstruct (of_list (e₀ i ++ (e₁ i ++ (e₂ i ++ [])))) ∷ [])) fits)))))))

  pub words_made : K → (p : Ptr) (n : ℕ) → n < 2 ^ 64 → Step K 𝓛 (‵ ((Words E Z).own_val (p, (n, (tt, tt))) (region_val p n ∷ [])) ∷ Γ) G Γ G
  words_made t p n fits = step (λ s.
      pure_i t ((Words E Z).own_val (p, (n, (tt, tt))) (region_val p n ∷ [])) (λ vss. (tt, (tt, ((tt, tt), ((λ uss. (tt, tt)), tt)))))
      ((ptr_val p ∷ [], (vint w64 n ∷ [], (vstruct vnil ∷ [], tt))), (refl, (refl, ((refl, fits), ((tt, (refl, tt)), tt))))) $ s)

module _ (E : El) (Z : Al) {M : Type 1} {𝓤 : Ura M} (𝓛 : Logic 𝓤) (κ : Lft) where
  -- where it begins, and the values
  pub shown : (d : (Rg E Z).Denot) (b o : ℕ) → ent 𝓤 (sem 𝓛 (hidden_shr (Rg E Z) κ d b o)) (sep 𝓤 (sem 𝓛 (hidden_shr RawPtr κ d.start b (o + 0))) (sem 𝓛 (region_lent (R E) d.start d.room d.values κ)))
  shown d b o = qed 𝓛 (‵ (hidden_shr (Rg E Z) κ d b o) ∷ []) ∵
      use1 𝓛 (‵ (hidden_shr (Words E Z) κ (d.start, (d.room, (tt, tt))) b o) ⊛ ‵ (fhide (region_lent (R E) d.start d.room d.values κ)))
      (lent_out 𝓛 (Region.struct (R E) (P E Z) Z.g) (Region.the_codes (R E).Denot (P E Z).Denot (R E).coded (P E Z).coded (marker.the_row (P E Z)).coded) (Region.the_heap (R E) (P E Z) Z.g) (Region.the_lent (R E) (P E Z) Z.g) κ d b o) $ split ! $
      unhide ! $ fsplit ! $ fsplit ! $ move ! (3 ∷ []) $ unhide ! $ move ! (1 ∷ 0 ∷ []) $ keep ! (0 ∷ 1 ∷ []) $ done !

module _ {M : Type 1} {𝓤 : Ura M} {𝓛 : Logic 𝓤} {K : Type 0} {Γ : List (Item 𝓤)} {G : Goal 𝓤 𝓛.H} where
  -- a pointer into a block is looked at behind a `&`: [the pointer; the way back]
  pub pointer_in : K → Soaks G → {κ : Lft} {q : Share} (p : Ptr) (pb po : ℕ) → p ≡ block_ptr pb po → (b at : ℕ)
      → ((q' : Share) → Seq K 𝓛 (‵ (fat q' ty_ptr b at (vptr pb po)) ∷ Shut 𝓛 κ q (part_at RawPtr q' p b at) ∷ Γ) G) → Seq K 𝓛 (‵ (hidden_shr RawPtr κ p b at) ∷ ‵ (flft κ q) ∷ Γ) G
  pointer_in t z p pb po is b at k =
      looks t z RawPtr (plain_Copied 𝓛 Ptr coded_ptr (ty_ptr ∷ []) ptr_own rawptr_pure ptr_val RawPtr-laws.tells).opens p b at (λ q' vs. move t (1 ∷ []) $ feq_l t (λ e.
      rewrite t 0 (λ (us : List Val). ‵ (cell_at q' RawPtr.mir us b at)) (e ∙ ap (λ (r : Ptr). ptr_val r ∷ []) is) refl $ move t (2 ∷ []) $ drop t $ k q'))

  pub pointer_out : K → Soaks G → {κ : Lft} {q q' : Share} (p : Ptr) (pb po : ℕ) → p ≡ block_ptr pb po → (b at : ℕ)
      → Step K 𝓛 (‵ (flft κ q) ∷ Γ) G (‵ (fat q' ty_ptr b at (vptr pb po)) ∷ Shut 𝓛 κ q (part_at RawPtr q' p b at) ∷ Γ) G
  pointer_out t z {q' = q'} p pb po is b at = step (λ s.
      feq_i t (List Val) (vptr pb po ∷ []) (ptr_val p ∷ []) (ap (λ (r : Ptr). ptr_val r ∷ []) (sym is)) $ move t (1 ∷ 0 ∷ []) $ shuts t z RawPtr q' p (vptr pb po ∷ []) b at $ s)
