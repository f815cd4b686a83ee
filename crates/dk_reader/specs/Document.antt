-- What a study file says, keyword by keyword.
-- After the Dakota Reference Manual: the blocks method, variables, interface and responses.
use Rattle.std.specs.Prelude.{◌≡◌, ℕ, Bool, false, List, [], ◌∷◌, map, filter, Option, Some, is_some, option_and_then, codes, ◌&&◌}
use Rattle.std.specs.List.{All, find, list_any}
use Rattle.std.specs.Option.{option_map_or}
use Rattle.dk_lex.specs.declared.token.Span.{Span}
use Rattle.dk_grammar.specs.Lists.{first}
use Rattle.dk_grammar.specs.Meanings.{same_block, same_name, entry_named}
use Rattle.dk_grammar.specs.declared.words.Block.{Block}
use Rattle.dk_grammar.specs.declared.words.Block.TheVariants as block
use Rattle.dk_grammar.specs.declared.words.Name.{Name}
use Rattle.dk_grammar.specs.declared.words.Name.TheVariants as name
use Rattle.dk_grammar.specs.declared.parts.Item.{Item}
use Rattle.dk_grammar.specs.declared.parts.Opening.{Opening}
use Rattle.dk_grammar.specs.declared.parts.Tree.{Tree}
use Rattle.dk_reader.specs.declared.value.Value.{Value}
use Rattle.dk_reader.specs.declared.document.Field.{Field}
use Rattle.dk_reader.specs.declared.document.Document.{Document}
use Rattle.dk_reader.specs.Values.{values_of, whole, string}

-- a keyword with its values
abbrev pub field_at : List ℕ → Item → Field
field_at text i = record { block = i.block; entry = i.entry; keyword = i.keyword; values = values_of text i.values }

-- what a text of these parts says
abbrev pub document_of : List ℕ → Tree → Document
document_of text tree = record { blocks = tree.blocks; fields = map (field_at text) tree.items }

abbrev pub empty_span : Span
empty_span = record { from = 0; to = 0 }

abbrev pub method_names : List Name
method_names = name.VectorParameterStudy ∷ name.ListParameterStudy ∷ name.CenteredParameterStudy ∷ name.MultidimParameterStudy ∷ name.CompassSearch ∷ []

abbrev pub function_names : List Name
function_names = name.ObjectiveFunctions ∷ name.ResponseFunctions ∷ []

abbrev pub label_names : List Name
label_names = name.Descriptors ∷ name.ResponseDescriptors ∷ []

abbrev pub is_name_in : List Name → Name → Bool
is_name_in names n = list_any (same_name n) names

-- a keyword of a block under one of these names
abbrev pub is_field : Block → List Name → Field → Bool
is_field b names f = same_block b f.block && is_name_in names f.entry.name

-- each keyword has its own entry of the table
abbrev pub AreNamed : List Field → Type 0
AreNamed fields = All (λ f. entry_named f.block f.entry.name ≡ Some f.entry) fields

-- where a block's name stands
abbrev pub span_of : List Opening → Block → Span
span_of parts b = option_map_or (λ p. p.name) (find (λ p. same_block b p.block) parts) empty_span

-- the first whole number of a keyword, or this one
abbrev pub first_whole : Option Field → ℕ → ℕ
first_whole f otherwise = option_map_or whole (option_and_then (λ x. first x.values) f) otherwise

-- the first string of a keyword, or this one
abbrev pub first_string : Option Field → List ℕ → List ℕ
first_string f otherwise = option_map_or string (option_and_then (λ x. first x.values) f) otherwise

module _ (d : Document) where
  -- where a block's name stands
  abbrev pub block_span : Block → Span
  block_span b = span_of d.blocks b

  -- the keywords of a block that have one of these names, in text order
  abbrev pub fields_of : Block → List Name → List Field
  fields_of b names = filter (is_field b names) d.fields

  abbrev pub field_of : Block → Name → Option Field
  field_of b n = first (fields_of b (n ∷ []))

  abbrev pub has : Block → Name → Bool
  has b n = is_some (field_of b n)

  -- the values of a keyword, where it is there
  abbrev pub values_at : Block → Name → List Value
  values_at b n = option_map_or (λ f. f.values) (field_of b n) []

  -- the whole number of the first of these keywords, or this one
  abbrev pub whole_among : Block → List Name → ℕ → ℕ
  whole_among b names otherwise = first_whole (first (fields_of b names)) otherwise

  abbrev pub whole_at : Block → Name → ℕ → ℕ
  whole_at b n otherwise = whole_among b (n ∷ []) otherwise

  -- the string of a keyword, or this one
  abbrev pub string_at : Block → Name → List ℕ → List ℕ
  string_at b n otherwise = first_string (field_of b n) otherwise

  -- the keyword of the study's method
  abbrev pub method_field : Option Field
  method_field = first (fields_of block.Method method_names)

  abbrev pub method_is : Name → Bool
  method_is n = option_map_or (λ f. same_name f.entry.name n) method_field false

  -- n, the number of variables
  abbrev pub variable_count : ℕ
  variable_count = whole_at block.Variables name.ContinuousDesign 0

  -- m, the number of responses
  abbrev pub response_count : ℕ
  response_count = whole_among block.Responses function_names 0

  abbrev pub parameters_name : List ℕ
  parameters_name = string_at block.Interface name.ParametersFile (codes "params.in")

  abbrev pub results_name : List ℕ
  results_name = string_at block.Interface name.ResultsFile (codes "results.out")
