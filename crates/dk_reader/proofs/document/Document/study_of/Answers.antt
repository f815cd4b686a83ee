use Rattle.std.proofs.Common.{◌≡◌, sym, ap, ◌∙◌, subst, map}
use Rattle.dk_num.specs.Units.{AreModerate, unit_exponent}
use Rattle.dk_reader.specs.Values.{number}
use Rattle.dk_reader.specs.Study.{written_values}
use Rattle.dk_reader.specs.Measured.{AreMeasured}
use Rattle.dk_reader.proofs.Checking.{first_before, first_after, faultless, moderate, few, measured}
use Rattle.dk_reader.proofs.document.Document.study_of.Goals as goal

pub returns-in-Some : goal.returns-in-Some
returns-in-Some c = first_before c.args.self.now c.in-Some.fault c.in-Some.ensures

pub unit_of-unit-requires : goal.unit_of-unit-requires
unit_of-unit-requires c =
    let numbers : c.deref.result.now ≡ map number (written_values c.args.self.now) = c.deref.ensures.value ∙ c.in_ok-numbers.ensures in
    record { are_moderate = subst AreModerate (sym numbers) (moderate c.args.self.now c.in_default.ensures c.requires) }

pub returns-in-Some-last_fault : goal.returns-in-Some-last_fault
returns-in-Some-last_fault c = first_after c.args.self.now c.in_default.ensures c.in-Some-last_fault.fault c.in-Some-last_fault.ensures

pub limit_of-requires : goal.limit_of-requires
limit_of-requires c = few c.args.self.now c.in_default.ensures

pub build-requires-clause-fits_unit : goal.build-requires-clause-fits_unit
build-requires-clause-fits_unit c =
    let numbers : c.deref.result.now ≡ map number (written_values c.args.self.now) = c.deref.ensures.value ∙ c.in_ok-numbers.ensures in
    subst (λ e. AreMeasured e c.args.self.now) (sym (c.unit_of-unit.ensures.gives_exponent ∙ ap unit_exponent numbers)) (measured c.args.self.now c.requires)

pub returns : goal.returns
returns c = (faultless c.args.self.now c.in_default.ensures c.in_default-last_fault.ensures, c.in_ok-study.ensures)
