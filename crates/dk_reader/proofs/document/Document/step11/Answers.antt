use Rattle.std.proofs.Common.{◌≡◌, List, [], ◌∷◌, ◌++◌, refl, sym, ap, ◌∙◌}
use Rattle.std.specs.List.{flat_map}
use Rattle.std.proofs.lemmas.List.Concat.{flat_map-append}
use Rattle.dk_grammar.specs.Lists.{first}
use Rattle.dk_reader.specs.declared.fault.StudyKind.TheVariants as kind
use Rattle.dk_reader.specs.Study.{measured_values, written_values}
use Rattle.dk_reader.specs.Steps.{wrong_if, is_off_grid, off_grid_faults, off_grid_faults_of}
use Rattle.dk_reader.proofs.document.Document.step11.Goals as goal

-- the faults of all values are those of the values of each keyword
of_each : {X Y Z : Type 0} (g : Y → List Z) (f : X → List Y) (xs : List X) → flat_map (λ x. flat_map g (f x)) xs ≡ flat_map g (flat_map f xs)
of_each g f [] = refl
of_each g f (x ∷ xs) = ap (λ l. flat_map g (f x) ++ l) (of_each g f xs) ∙ sym (flat_map-append g (f x) (flat_map f xs))

pub returns : goal.returns
returns c =
    let e = c.args.unit.exponent in
    let d = c.args.self.now in
    c.off_grid_of.ensures
    ∙ ap (λ fields. first (off_grid_faults_of e fields)) c.items.ensures
    ∙ ap first (of_each (λ v. wrong_if (is_off_grid e v) kind.OffGrid v.span) measured_values d.fields)
    ∙ ap (λ x. first (off_grid_faults x (written_values d))) c.requires.has_unit
