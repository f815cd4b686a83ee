-- A text that grows at the front of a slice.
use Rattle.std.specs.Prelude.{◌≡◌, ℕ, ◌+◌, ◌-◌, ◌*◌, ◌≤◌, List, ◌++◌, length, take, replicate, codes}
use Rattle.dk_types.specs.declared.study.ParamForm.{ParamForm}
use Rattle.dk_types.specs.declared.study.ParamForm.TheVariants.{Standard, Aprepro}
use Rattle.dk_params.specs.Params.{Tags}
use Rattle.dk_params.specs.declared.page.Page.{Page}
use Rattle.dk_params.specs.declared.file.CountTags.{CountTags}

-- the text that stands there so far
abbrev pub text_on : Page → List ℕ
text_on page = take page.length page.out.now

-- these bytes went in behind the text
pub record Adds (old new : Page) (bytes : List ℕ) : Type 0 where
  pub same : new.out.ghost_name ≡ old.out.ghost_name
  pub room : length new.out.now ≡ length old.out.now
  pub form : new.form ≡ old.form
  pub length : new.length ≡ old.length + length bytes
  pub text : text_on new ≡ text_on old ++ bytes

-- there is room for so many bytes more
abbrev pub HasRoom : Page → ℕ → Type 0
HasRoom page count = page.length + count ≤ length page.out.now

-- there is room for a line, and its value and its tag are no longer than any is
pub record FitsLine (page : Page) (value tag : List ℕ) : Type 0 where
  pub room : HasRoom page 320
  pub short_value : length value ≤ 42
  pub short_tag : length tag ≤ 270

-- a line of this text went in
pub record AddsLine (old new : Page) (text : List ℕ) : Type 0 where
  pub adds : Adds old new text
  pub short : new.length ≤ old.length + 320

-- so many lines of this text went in
pub record AddsLines (old new : Page) (count : ℕ) (text : List ℕ) : Type 0 where
  pub adds : Adds old new text
  pub short : new.length ≤ old.length + count * 320

-- what stands before a line's tag
abbrev pub opening : ParamForm → (value : List ℕ) → List ℕ
opening Standard value = replicate (22 - length value) 32 ++ (value ++ codes " ")
opening Aprepro value = codes "{ "

-- what stands behind it
abbrev pub closing : ParamForm → (value : List ℕ) → List ℕ
closing Standard value = codes "\n"
closing Aprepro value = codes " = " ++ (value ++ codes " }\n")

-- the tags of numbers, as the code has them
abbrev pub told : CountTags → Tags
told t = record { variables = t.variables.now; functions = t.functions.now; derivatives = t.derivatives.now; components = t.components.now; evaluation = t.evaluation.now }

-- tags that are no longer than any is
pub record AreShort (t : Tags) : Type 0 where
  pub variables : length t.variables ≤ 270
  pub functions : length t.functions ≤ 270
  pub derivatives : length t.derivatives ≤ 270
  pub components : length t.components ≤ 270
  pub evaluation : length t.evaluation ≤ 270
