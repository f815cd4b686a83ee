-- What a value may not be, as one test.
use Rattle.std.specs.Prelude.{Bool}
use Rattle.dk_reader.specs.declared.value.Value.{Value}
use Rattle.dk_reader.specs.declared.faults.Wrong.{Wrong}
use Rattle.dk_reader.specs.declared.faults.Wrong.TheVariants as wrong
use Rattle.dk_reader.specs.Steps.{is_bad_whole, is_bad_copies, is_bad_number, is_blank, is_other_driver, is_bad_label, is_empty}

abbrev pub is_wrong : Wrong → Value → Bool
is_wrong (wrong.Whole low high) v = is_bad_whole low high v
is_wrong wrong.Copies v = is_bad_copies v
is_wrong (wrong.Number b n) v = is_bad_number b n v
is_wrong wrong.Blank v = is_blank v
is_wrong wrong.OtherDriver v = is_other_driver v
is_wrong wrong.Label v = is_bad_label v
is_wrong wrong.Empty v = is_empty v
