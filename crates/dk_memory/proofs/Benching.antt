-- What a child that ran in memory says of a bench.
use Rattle.std.proofs.Common.{◌≡◌, ℕ, List, refl, sym, subst, inl, inr, Option, Some, None}
use Rattle.std.specs.Prelude.{Ok}
use Rattle.dk_outside.specs.declared.run.Run.{Run}
use Rattle.dk_outside.specs.Benches.{Contents, Leaves, Starts, IsLeft}
use Rattle.dk_memory.specs.Files.{left_over}
use Rattle.dk_memory.specs.BenchStates.{Ran}

-- the results file is what the child left, or stands as it was
left_so : (leaves : Leaves) (run : Run) (left before after : Option (List ℕ)) → leaves run.bytes run.attempt left → after ≡ left_over left before → IsLeft leaves run before after
left_so leaves run (Some bytes) before after allowed is = inl (subst (leaves run.bytes run.attempt) (sym is) allowed)
left_so leaves run None None after allowed is = inl (subst (leaves run.bytes run.attempt) (sym is) allowed)
left_so leaves run None (Some stood) after allowed is = inr (refl, is)

-- a child that ran was started
pub ran_starts : {E : Type 0} (leaves : Leaves) (old new : Contents) (run : Run) → Ran leaves old new run → Starts {E = E} leaves old (Some new) run (Ok (tt {0}))
ran_starts leaves old new run ran = record {
  now = new;
  told = refl;
  others = ran.others;
  runs = ran.runs;
  left = left_so leaves run ran.left (old.file run.results) (new.file run.results) ran.allowed ran.file;
}
