-- A region may cross threads as its values and its allocator may.
use Rattle.std.specs.Prelude.{ℕ, ◌+◌, List, [], ◌∷◌, Option, Some, None}
use Rattle.std.specs.Mem.{type_size}
use mir.Syntax.{ty_array}
use mir.Raw.{raw}
use base.Fraction.{full_share}
use base.Shift.{Keyless}
use denote.Exit.{Exit, unchanged, leaves, hidden, under}
use denote.Memory.{lone}
use denote.RattleType.{RattleType}
use denote.RawPtr.{Ptr, block_ptr, null_ptr}
use denote.Struct.Struct.{exits_of}
use denote.Struct.Owning.{shape, fields, to}
use denote.Param.Send.{IsSend, IsSync, Frees, Quiet, Common, AllSend, part_keyless, owning_send, struct_send, struct_sync, sendable}
use Rattle.std.specs.declared.alloc.Allocator.{Ghosts}
use Rattle.dk_pool.specs.Region.{slots, filled, values_lent, region_owns, region_lent}
use Rattle.dk_pool.specs.contracts.region.Region as Region

quiet : {D X : Type 0} (to : D → X) (e : Exit X) → Quiet e → Quiet (hidden (under to e))
quiet to unchanged q = λ x w. tt
quiet to (leaves L l S s r₀) q = λ d. q (to d)

module _ (R : RattleType) where
  slots-Keyless : IsSend R → (b o : ℕ) (cs : List (Option R.Denot)) → Keyless (slots R b o cs)
  slots-Keyless s b o [] = tt
  slots-Keyless s b o (Some x ∷ cs) = (part_keyless R s full_share x b o, slots-Keyless s b (o + type_size R) cs)
  slots-Keyless s b o (None ∷ cs) = (tt, slots-Keyless s b (o + type_size R) cs)

  values_lent-Common : IsSync R → (b o : ℕ) (xs : List R.Denot) → Common (values_lent R b o xs)
  values_lent-Common y b o [] κ = tt
  values_lent-Common y b o (x ∷ xs) κ = (y.shared x b o κ, values_lent-Common y b (o + type_size R) xs κ)

  region_lent-Common : IsSync R → (p : Ptr) (n : ℕ) (xs : List R.Denot) → Common (region_lent R p n xs)
  region_lent-Common y (block_ptr b o) n xs κ = (tt, values_lent-Common y b o xs κ)
  region_lent-Common y null_ptr n xs κ = tt

  module _ (A : RattleType) (g : Ghosts A.Denot) where
    region-Keyless : IsSend R → Frees g g.dealloc_token → (a : A.Denot) (p : Ptr) (n : ℕ) (xs : List R.Denot) → Keyless (region_owns R (g.dealloc_token a) p n xs)
    region-Keyless s f a (block_ptr b o) n xs = ((tt, slots-Keyless s b o (filled xs n)), f.frees a (raw (ty_array (lone R.mir) n)) (block_ptr b o))
    region-Keyless s f a null_ptr n xs = tt

    pub region-send : IsSend R → IsSend A → Frees g g.dealloc_token → IsSend (Region.the_row R A g)
    region-send s sa f =
        let O = Region.the_type R A g in let all : AllSend (fields O) = (search sendable, (search sendable, (search sendable, tt))) in
        owning_send O all (λ d. region-Keyless s f d.alloc d.start d.room d.values) (λ k. quiet (to O) (exits_of k (fields O)) ((struct_send (shape O) all).leaving k))

    pub region-sync : IsSync R → IsSync A → IsSync (Region.the_row R A g)
    region-sync y ya = let O = Region.the_type R A g in record {
      shared = λ d b o κ. ((struct_sync (shape O) (search sendable, (search sendable, (search sendable, tt)))).shared (to O d) b o κ, region_lent-Common y d.start d.room d.values κ);
    }
