use Rattle.std.proofs.Common.{◌≡◌, ◌≢◌, Bool, true, false, ◌<◌, sym, ◌∙◌, ap, length, arith, get_or}
use Rattle.std.proofs.lemmas.List.Edits.{length-remove}
use Rattle.std.proofs.lemmas.Grind.{common_steps}
use Rattle.std.proofs.lemmas.Slice.Eq.{bytes_eq-Decides}
use Rattle.dk_memory.specs.declared.files.File.{File}
use Rattle.dk_memory.proofs.Looks.{removing, none_before, none_so_far}
use Rattle.dk_memory.proofs.files.remove.Goals as goal

differs : {b : Bool} → false ≡ b → b ≡ true → ⊥
differs e h = let k : false ≡ true = e ∙ h in cc

pub places-preserved-then-eq : goal.places-preserved-then-eq
places-preserved-then-eq c =
    let inside : c.places.place < length c.places.files.items = grind (arith, common_steps) in
    let is : (get_or c.places.files.items c.places.place c.index.result.now).name ≡ c.args.name.now = ap (λ (f : File). f.name) (sym c.index.ensures) ∙ (sym c.as_str.ensures ∙ (bytes_eq-Decides c.as_str.result.now c.args.name.now).0 (sym c.if-eq.ensures)) in
    rw c.remove.ensures.items (record {
      within = grind (arith, common_steps, length-remove {X = File});
      others = λ other apart. removing c.places.files.items c.places.place c.index.result.now c.args.name.now other inside is apart ∙ c.places.invariant.others other apart;
      none = none_before c.places.files.items c.places.place c.args.name.now inside c.places.invariant.none;
      len = omega (arith, c.remove.ensures.len, c.places.invariant.len);
      capacity = c.remove.ensures.capacity ∙ c.places.invariant.capacity;
    })

pub places-preserved : goal.places-preserved
places-preserved c =
    let inside : c.places.place < length c.places.files.items = grind (arith, common_steps) in
    let apart : c.args.name.now ≢ (get_or c.places.files.items c.places.place c.index.result.now).name = λ is.
    differs c.if-eq.ensures ((bytes_eq-Decides c.as_str.result.now c.args.name.now).1 (c.as_str.ensures ∙ ap (λ (f : File). f.name) c.index.ensures ∙ sym is)) in
    record {
      within = omega arith;
      others = c.places.invariant.others;
      none = none_so_far c.places.files.items c.places.place c.index.result.now c.args.name.now inside apart c.places.invariant.none;
      len = c.places.invariant.len;
      capacity = c.places.invariant.capacity;
    }
