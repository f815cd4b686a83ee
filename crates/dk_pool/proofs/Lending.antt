-- A `&` to a region is made where one to a value is. Assumes `Logic`.
use Prim.Native.Nat.{ℕ, ◌+◌}
use Rattle.std.specs.Prelude.{zero, suc, List, [], ◌∷◌, replicate, Some, None}
use Rattle.std.specs.Mem.{type_size}
use seplogic.Ra.Ura.{Ura}
use base.Fml.{Lft, Fml, Incl, ffalse, fsep}
use mir.Syntax.{Ty, ty_array}
use mir.Raw.{raw}
use types.Logic.{Logic}
use denote.Memory.{lone, shared_of}
use denote.RattleType.{RattleType, RowLaws}
use denote.Param.Laws.{Laws}
use denote.RawPtr.{Ptr, block_ptr, null_ptr}
use denote.Sharing.{ShrLaws, said, beside}
use denote.SharingLaws.{beside_shr_laws, nothing_shr_laws, said_shr_laws}
use denote.Shares.{Shares-less}
use denote.Struct.Lending.{Lends, Lends-both, Lends-first, Lends-nothing, Lends-said, Lends-false}
use Rattle.dk_pool.specs.Region.{filled, slot, slots, fits, region_owns, values_lent, region_lent}

module _ (R : RattleType) (L : RowLaws R) where
  values_lent_laws : (b o : ℕ) (xs : List R.Denot) → ShrLaws (values_lent R b o xs)
  values_lent_laws b o [] = nothing_shr_laws
  values_lent_laws b o (x ∷ xs) = beside_shr_laws _ _ (L x b o) (values_lent_laws b (o + type_size R) xs)

  pub region_lent_laws : (p : Ptr) (n : ℕ) (xs : List R.Denot) → ShrLaws (region_lent R p n xs)
  region_lent_laws (block_ptr b o) n xs = beside_shr_laws _ _ (said_shr_laws (fits R n) tt) (values_lent_laws b o xs)
  region_lent_laws null_ptr n xs = said_shr_laws ffalse tt

module _ {M : Type 1} {𝓤 : Ura M} (𝓛 : Logic 𝓤) (l : Lft) (R : RattleType) (L : Laws R) (inc : Incl l R.lives) where
  Lends-value : (b o : ℕ) (x : R.Denot) (F : Fml) (S : Lft → Fml) → Lends 𝓛 F S l → Lends 𝓛 (fsep (slot R b o (Some x)) F) (beside (shared_of R x b o) S) l
  Lends-value b o x F S k = Lends-both 𝓛 (slot R b o (Some x)) F (shared_of R x b o) S l (λ κ ts. Shares-less 𝓛 R R.lives l inc (L.shares 𝓛) x κ ts b o) k

  Lends-values : (b o : ℕ) (xs : List R.Denot) (n : ℕ) → Lends 𝓛 (slots R b o (filled xs n)) (values_lent R b o xs) l
  Lends-values b o [] n = Lends-nothing 𝓛 (slots R b o (replicate n None)) l
  Lends-values b o (x ∷ xs) zero = Lends-value b o x (slots R b (o + type_size R) (filled xs zero)) (values_lent R b (o + type_size R) xs) (Lends-values b (o + type_size R) xs zero)
  Lends-values b o (x ∷ xs) (suc n) = Lends-value b o x (slots R b (o + type_size R) (filled xs n)) (values_lent R b (o + type_size R) xs) (Lends-values b (o + type_size R) xs n)

  pub Lends-region : (token : Ty → Ptr → Fml) (p : Ptr) (n : ℕ) (xs : List R.Denot) → Lends 𝓛 (region_owns R token p n xs) (region_lent R p n xs) l
  Lends-region token (block_ptr b o) n xs =
      Lends-first 𝓛 (fsep (fits R n) (slots R b o (filled xs n))) (token (raw (ty_array (lone R.mir) n)) (block_ptr b o)) (region_lent R (block_ptr b o) n xs) l
      (Lends-both 𝓛 (fits R n) (slots R b o (filled xs n)) (said (fits R n)) (values_lent R b o xs) l (Lends-said 𝓛 (fits R n) tt l) (Lends-values b o xs n))
  Lends-region token null_ptr n xs = Lends-false 𝓛 (said ffalse) l
