-- What a region owns and lends, at values of the row R.
use Rattle.std.specs.Prelude.{ℕ, zero, suc, ◌+◌, ◌*◌, ◌^◌, List, [], ◌∷◌, ◌++◌, take, drop, replicate, Option, Some, None}
use Rattle.std.specs.Mem.{type_size}
use base.Fraction.{full_share}
use base.Fml.{Lft, Fml, ftrue, ffalse, fsep, flt, froom}
use mir.Syntax.{Ty, ty_array}
use mir.Raw.{raw}
use denote.RattleType.{RattleType}
use denote.Memory.{lone, part_at, shared_of}
use denote.Sharing.{nothing, said, beside}
use denote.RawPtr.{Ptr, block_ptr, null_ptr}

module _ {X : Type 0} where
  -- n places, of which the first hold the values
  abbrev pub filled : List X → ℕ → List (Option X)
  filled [] n = replicate n None
  filled (x ∷ xs) zero = Some x ∷ filled xs zero
  filled (x ∷ xs) (suc n) = Some x ∷ filled xs n

  -- the values, with x at the place i
  abbrev pub put : List X → ℕ → X → List X
  put xs i x = take i xs ++ x ∷ drop (suc i) xs

module _ (R : RattleType) where
  -- one place, o bytes into the block b: a value, or room for one
  abbrev pub slot : ℕ → ℕ → Option R.Denot → Fml
  slot b o (Some x) = part_at R full_share x b o
  slot b o None = froom (raw (lone R.mir)) b o

  -- places side by side
  abbrev pub slots : ℕ → ℕ → List (Option R.Denot) → Fml
  slots b o [] = ftrue
  slots b o (c ∷ cs) = fsep (slot b o c) (slots b (o + type_size R) cs)

  -- a block of n places takes fewer than 2 ^ 63 bytes
  abbrev pub fits : ℕ → Fml
  fits n = flt (n * type_size R) (2 ^ 63)

  -- the places, and the right to give the block back
  abbrev pub region_owns : (Ty → Ptr → Fml) → Ptr → ℕ → List R.Denot → Fml
  region_owns token (block_ptr b o) n xs = fsep (fsep (fits n) (slots b o (filled xs n))) (token (raw (ty_array (lone R.mir) n)) (block_ptr b o))
  region_owns token null_ptr n xs = ffalse

  -- the values side by side, to read
  abbrev pub values_lent : ℕ → ℕ → List R.Denot → Lft → Fml
  values_lent b o [] = nothing
  values_lent b o (x ∷ xs) = beside (shared_of R x b o) (values_lent b (o + type_size R) xs)

  abbrev pub region_lent : Ptr → ℕ → List R.Denot → Lft → Fml
  region_lent (block_ptr b o) n xs = beside (said (fits n)) (values_lent b o xs)
  region_lent null_ptr n xs = said ffalse
