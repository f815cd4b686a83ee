-- Numbers that are told in units and can be: none is greater than 29 digits of the unit say.
use Rattle.std.specs.Prelude.{map, ℤ}
use Rattle.dk_num.specs.Units.{AreWithin}
use Rattle.dk_grammar.specs.declared.words.Block.{Block}
use Rattle.dk_grammar.specs.declared.words.Block.TheVariants as block
use Rattle.dk_grammar.specs.declared.words.Name.{Name}
use Rattle.dk_grammar.specs.declared.words.Name.TheVariants as name
use Rattle.dk_reader.specs.declared.document.Document.{Document}
use Rattle.dk_reader.specs.Values.{number}
use Rattle.dk_reader.specs.Document.{values_at}

-- the numbers of a keyword
abbrev pub IsMeasured : ℤ → Document → Block → Name → Type 0
IsMeasured exponent d b n = AreWithin exponent (map number (values_at d b n))

-- those of each keyword of variables and method
pub record AreMeasured (exponent : ℤ) (d : Document) : Type 0 where
  pub initial_point : IsMeasured exponent d block.Variables name.InitialPoint
  pub lower_bounds : IsMeasured exponent d block.Variables name.LowerBounds
  pub upper_bounds : IsMeasured exponent d block.Variables name.UpperBounds
  pub step_vector : IsMeasured exponent d block.Method name.StepVector
  pub final_point : IsMeasured exponent d block.Method name.FinalPoint
  pub list_of_points : IsMeasured exponent d block.Method name.ListOfPoints
  pub initial_delta : IsMeasured exponent d block.Method name.InitialDelta
  pub threshold_delta : IsMeasured exponent d block.Method name.ThresholdDelta
