-- Worked examples of the definitions, computed from texts and their tokens: the first faults of ten texts, and the
-- studies that three say. That these are the tokens of a text is a relation, and isn't computed: a text without tokens
-- shows its fault alone. A blank stands for the end of each line.
use Rattle.std.proofs.Common.{◌≡◌, ℕ, List, [], ◌∷◌, refl, Some, None, true, false, pos, neg_ℤ}
use Rattle.std.specs.Prelude.{◌++◌, codes, decimal}
use Rattle.dk_num.specs.Numbers.{read_of, number_of}
use Rattle.dk_lex.specs.declared.token.Span.{Span}
use Rattle.dk_lex.specs.declared.token.Token.{Token}
use Rattle.dk_lex.specs.declared.token.TokenKind.TheVariants as kinds
use Rattle.dk_lex.specs.declared.token.LexFault.TheVariants.{OpenString}
use Rattle.dk_lex.specs.Cut.{BeginsNone, unclosed}
use Rattle.dk_grammar.specs.Lists.{first}
use Rattle.dk_grammar.specs.Meanings.{opened, entry_of, is_keyword, is_refused, is_mode}
use Rattle.dk_grammar.specs.Grammar.{grammar_faults, tree_of}
use Rattle.dk_grammar.specs.declared.words.Block.TheVariants as block
use Rattle.dk_grammar.specs.declared.parts.GrammarFault.TheVariants.{UnknownKeyword, Unsupported, Repeated, Misplaced, MissingBlock}
use Rattle.dk_types.specs.declared.study.Way.TheVariants.{Step}
use Rattle.dk_types.specs.declared.study.Method.TheVariants as method
use Rattle.dk_types.specs.declared.study.Driver.TheVariants as driver
use Rattle.dk_types.specs.declared.study.Interface.{Interface}
use Rattle.dk_types.specs.declared.study.ParamForm.TheVariants as form
use Rattle.dk_types.specs.declared.study.FailRule.TheVariants as rule
use Rattle.dk_reader.specs.declared.fault.StudyKind.TheVariants as kind
use Rattle.dk_reader.specs.declared.document.Document.{Document}
use Rattle.dk_reader.specs.Document.{document_of}
use Rattle.dk_reader.specs.Steps.{study_faults, fault}
use Rattle.dk_reader.specs.Study.{study_of}

abbrev span : ℕ → ℕ → Span
span from to = record { from = from; to = to }

abbrev word : ℕ → ℕ → Token
word from to = record { kind = kinds.Word; span = span from to }

abbrev number : ℕ → ℕ → Token
number from to = record { kind = kinds.Number; span = span from to }

abbrev quoted : ℕ → ℕ → Token
quoted from to = record { kind = kinds.Quoted; span = span from to }

-- the document of a text of these tokens
abbrev said : List ℕ → List Token → Document
said text tokens = document_of text (tree_of text tokens)

-- refusals of bytes and tokens

nothing : first (grammar_faults [] []) ≡ Some (MissingBlock block.Method (span 0 0))
unfolding grammar_faults
nothing = refl

-- method 'abc: no piece begins at byte 7
open_string : BeginsNone 7 (codes "'abc") (OpenString (span 7 11))
open_string = unclosed 39 (codes "abc") [] refl refl refl tt

unknown : first (grammar_faults (codes "method frobnicate") (word 0 6 ∷ word 7 17 ∷ [])) ≡ Some (UnknownKeyword (span 7 17))
unfolding grammar_faults opened entry_of is_keyword is_refused is_mode
unknown = refl

repeated : first (grammar_faults (codes "method method") (word 0 6 ∷ word 7 13 ∷ [])) ≡ Some (Repeated (span 7 13))
unfolding grammar_faults opened entry_of is_keyword is_refused is_mode
repeated = refl

misplaced : first (grammar_faults (codes "fork") (word 0 4 ∷ [])) ≡ Some (Misplaced (span 0 4))
unfolding grammar_faults opened entry_of is_keyword is_refused is_mode
misplaced = refl

-- the vector study with a refused word
abbrev refused_text : List ℕ
refused_text = codes "environment   tabular_data     tabular_data_file = 't.dat' method   vector_parameter_study     num_steps = 2     step_vector = 0.5 0.5 variables   continuous_design = 2     initial_point = 0 0     descriptors = 'x1' 'x2' interface   analysis_drivers = 'rosenbrock'     direct continuation responses   objective_functions = 1   no_gradients   no_hessians "

abbrev refused_tokens : List Token
refused_tokens =
    word 0 11 ∷ word 14 26 ∷ word 31 48 ∷ quoted 51 58 ∷ word 59 65 ∷ word 68 90 ∷ word 95 104 ∷
    number 107 108 ∷ word 113 124 ∷ number 127 130 ∷ number 131 134 ∷ word 135 144 ∷ word 147 164 ∷
    number 167 168 ∷ word 173 186 ∷ number 189 190 ∷ number 191 192 ∷ word 197 208 ∷ quoted 211 215 ∷
    quoted 216 220 ∷ word 221 230 ∷ word 233 249 ∷ quoted 252 264 ∷ word 269 275 ∷ word 276 288 ∷
    word 289 298 ∷ word 301 320 ∷ number 323 324 ∷ word 327 339 ∷ word 342 353 ∷ []

refused : first (grammar_faults refused_text refused_tokens) ≡ Some (Unsupported (span 276 288))
unfolding grammar_faults opened entry_of is_keyword is_refused is_mode
refused = refl

-- refusals of the steps

-- the vector study from 1e20 1e-20
abbrev off_grid_text : List ℕ
off_grid_text = codes "environment   tabular_data     tabular_data_file = 't.dat' method   vector_parameter_study     num_steps = 2     step_vector = 0.5 0.5 variables   continuous_design = 2     initial_point = 1e20 1e-20     descriptors = 'x1' 'x2' interface   analysis_drivers = 'rosenbrock'     direct responses   objective_functions = 1   no_gradients   no_hessians "

abbrev off_grid_tokens : List Token
off_grid_tokens =
    word 0 11 ∷ word 14 26 ∷ word 31 48 ∷ quoted 51 58 ∷ word 59 65 ∷ word 68 90 ∷ word 95 104 ∷
    number 107 108 ∷ word 113 124 ∷ number 127 130 ∷ number 131 134 ∷ word 135 144 ∷ word 147 164 ∷
    number 167 168 ∷ word 173 186 ∷ number 189 193 ∷ number 194 199 ∷ word 204 215 ∷ quoted 218 222 ∷
    quoted 223 227 ∷ word 228 237 ∷ word 240 256 ∷ quoted 259 271 ∷ word 276 282 ∷ word 283 292 ∷
    word 295 314 ∷ number 317 318 ∷ word 321 333 ∷ word 336 347 ∷ []

off_grid : first (study_faults (said off_grid_text off_grid_tokens)) ≡ Some (fault kind.OffGrid (span 194 199))
unfolding study_faults tree_of opened entry_of is_keyword is_mode read_of number_of
off_grid = refl

-- the vector study with a step for one of two variables
abbrev wrong_count_text : List ℕ
wrong_count_text = codes "environment   tabular_data     tabular_data_file = 't.dat' method   vector_parameter_study     num_steps = 2     step_vector = 0.5 variables   continuous_design = 2     initial_point = 0 0     descriptors = 'x1' 'x2' interface   analysis_drivers = 'rosenbrock'     direct responses   objective_functions = 1   no_gradients   no_hessians "

abbrev wrong_count_tokens : List Token
wrong_count_tokens =
    word 0 11 ∷ word 14 26 ∷ word 31 48 ∷ quoted 51 58 ∷ word 59 65 ∷ word 68 90 ∷ word 95 104 ∷
    number 107 108 ∷ word 113 124 ∷ number 127 130 ∷ word 131 140 ∷ word 143 160 ∷ number 163 164 ∷
    word 169 182 ∷ number 185 186 ∷ number 187 188 ∷ word 193 204 ∷ quoted 207 211 ∷ quoted 212 216 ∷
    word 217 226 ∷ word 229 245 ∷ quoted 248 260 ∷ word 265 271 ∷ word 272 281 ∷ word 284 303 ∷
    number 306 307 ∷ word 310 322 ∷ word 325 336 ∷ []

wrong_count : first (study_faults (said wrong_count_text wrong_count_tokens)) ≡ Some (fault kind.WrongCount (span 113 124))
unfolding study_faults tree_of opened entry_of is_keyword is_mode read_of number_of
wrong_count = refl

-- the vector study without its number of steps
abbrev missing_text : List ℕ
missing_text = codes "environment   tabular_data     tabular_data_file = 't.dat' method   vector_parameter_study     step_vector = 0.5 0.5 variables   continuous_design = 2     initial_point = 0 0     descriptors = 'x1' 'x2' interface   analysis_drivers = 'rosenbrock'     direct responses   objective_functions = 1   no_gradients   no_hessians "

abbrev missing_tokens : List Token
missing_tokens =
    word 0 11 ∷ word 14 26 ∷ word 31 48 ∷ quoted 51 58 ∷ word 59 65 ∷ word 68 90 ∷ word 95 106 ∷
    number 109 112 ∷ number 113 116 ∷ word 117 126 ∷ word 129 146 ∷ number 149 150 ∷ word 155 168 ∷
    number 171 172 ∷ number 173 174 ∷ word 179 190 ∷ quoted 193 197 ∷ quoted 198 202 ∷ word 203 212 ∷
    word 215 231 ∷ quoted 234 246 ∷ word 251 257 ∷ word 258 267 ∷ word 270 289 ∷ number 292 293 ∷
    word 296 308 ∷ word 311 322 ∷ []

missing : first (study_faults (said missing_text missing_tokens)) ≡ Some (fault kind.Missing (span 68 90))
unfolding study_faults tree_of opened entry_of is_keyword is_mode read_of number_of
missing = refl

-- the vector study with a keyword of centered studies
abbrev conflict_text : List ℕ
conflict_text = codes "environment   tabular_data     tabular_data_file = 't.dat' method   vector_parameter_study     num_steps = 2     step_vector = 0.5 0.5 steps_per_variable = 1 1 variables   continuous_design = 2     initial_point = 0 0     descriptors = 'x1' 'x2' interface   analysis_drivers = 'rosenbrock'     direct responses   objective_functions = 1   no_gradients   no_hessians "

abbrev conflict_tokens : List Token
conflict_tokens =
    word 0 11 ∷ word 14 26 ∷ word 31 48 ∷ quoted 51 58 ∷ word 59 65 ∷ word 68 90 ∷ word 95 104 ∷
    number 107 108 ∷ word 113 124 ∷ number 127 130 ∷ number 131 134 ∷ word 135 153 ∷ number 156 157 ∷
    number 158 159 ∷ word 160 169 ∷ word 172 189 ∷ number 192 193 ∷ word 198 211 ∷ number 214 215 ∷
    number 216 217 ∷ word 222 233 ∷ quoted 236 240 ∷ quoted 241 245 ∷ word 246 255 ∷ word 258 274 ∷
    quoted 277 289 ∷ word 294 300 ∷ word 301 310 ∷ word 313 332 ∷ number 335 336 ∷ word 339 351 ∷
    word 354 365 ∷ []

conflict : first (study_faults (said conflict_text conflict_tokens)) ≡ Some (fault kind.Conflict (span 135 153))
unfolding study_faults tree_of opened entry_of is_keyword is_mode read_of number_of
conflict = refl

-- whole studies

abbrev direct : Interface
direct = record {
  driver = driver.Direct;
  parameters = codes "params.in";
  results = codes "results.out";
  form = form.Standard;
  tag = false;
  save = false;
  concurrency = 1;
  rule = rule.Abort;
}

-- a vector study of two steps
abbrev vector_text : List ℕ
vector_text = codes "environment   tabular_data     tabular_data_file = 't.dat' method   vector_parameter_study     num_steps = 2     step_vector = 0.5 0.5 variables   continuous_design = 2     initial_point = 0 0     descriptors = 'x1' 'x2' interface   analysis_drivers = 'rosenbrock'     direct responses   objective_functions = 1   no_gradients   no_hessians "

abbrev vector_tokens : List Token
vector_tokens =
    word 0 11 ∷ word 14 26 ∷ word 31 48 ∷ quoted 51 58 ∷ word 59 65 ∷ word 68 90 ∷ word 95 104 ∷
    number 107 108 ∷ word 113 124 ∷ number 127 130 ∷ number 131 134 ∷ word 135 144 ∷ word 147 164 ∷
    number 167 168 ∷ word 173 186 ∷ number 189 190 ∷ number 191 192 ∷ word 197 208 ∷ quoted 211 215 ∷
    quoted 216 220 ∷ word 221 230 ∷ word 233 249 ∷ quoted 252 264 ∷ word 269 275 ∷ word 276 285 ∷
    word 288 307 ∷ number 310 311 ∷ word 314 326 ∷ word 329 340 ∷ []

vector_faultless : study_faults (said vector_text vector_tokens) ≡ []
unfolding study_faults tree_of opened entry_of is_keyword is_mode read_of number_of
vector_faultless = refl

vector_study : study_of (said vector_text vector_tokens) ≡ record {
  unit = record { exponent = neg_ℤ (pos 29) };
  variables = record {
    labels = codes "x1" ∷ codes "x2" ∷ [];
    initial = pos 0 ∷ pos 0 ∷ [];
    lower = None;
    upper = None;
  };
  responses = record { labels = codes "obj_fn" ∷ []; objectives = true };
  method = method.Vector 2 (Step (pos 50000000000000000000000000000 ∷ pos 50000000000000000000000000000 ∷ []));
  interface = direct;
  table = Some (codes "t.dat");
  limit = 3;
}
unfolding study_of tree_of opened entry_of is_keyword is_mode read_of number_of
vector_study = refl

-- a grid of 9 times 9 points
abbrev grid_text : List ℕ
grid_text = codes "environment   tabular_data     tabular_data_file = 't.dat' method   multidim_parameter_study     partitions = 8 8 variables   continuous_design = 2     lower_bounds = -2.0 -2.0     upper_bounds = 2.0 2.0     descriptors = 'x1' 'x2' interface   analysis_drivers = 'rosenbrock'     direct responses   response_functions = 1   no_gradients   no_hessians "

abbrev grid_tokens : List Token
grid_tokens =
    word 0 11 ∷ word 14 26 ∷ word 31 48 ∷ quoted 51 58 ∷ word 59 65 ∷ word 68 92 ∷ word 97 107 ∷
    number 110 111 ∷ number 112 113 ∷ word 114 123 ∷ word 126 143 ∷ number 146 147 ∷ word 152 164 ∷
    number 167 171 ∷ number 172 176 ∷ word 181 193 ∷ number 196 199 ∷ number 200 203 ∷ word 208 219 ∷
    quoted 222 226 ∷ quoted 227 231 ∷ word 232 241 ∷ word 244 260 ∷ quoted 263 275 ∷ word 280 286 ∷
    word 287 296 ∷ word 299 317 ∷ number 320 321 ∷ word 324 336 ∷ word 339 350 ∷ []

grid_faultless : study_faults (said grid_text grid_tokens) ≡ []
unfolding study_faults tree_of opened entry_of is_keyword is_mode read_of number_of
grid_faultless = refl

grid_study : study_of (said grid_text grid_tokens) ≡ record {
  unit = record { exponent = neg_ℤ (pos 28) };
  variables = record {
    labels = codes "x1" ∷ codes "x2" ∷ [];
    initial = pos 0 ∷ pos 0 ∷ [];
    lower = Some (neg_ℤ (pos 20000000000000000000000000000) ∷ neg_ℤ (pos 20000000000000000000000000000) ∷ []);
    upper = Some (pos 20000000000000000000000000000 ∷ pos 20000000000000000000000000000 ∷ []);
  };
  responses = record { labels = (codes "response_fn_" ++ decimal 1) ∷ []; objectives = false };
  method = method.Multidim (8 ∷ 8 ∷ []);
  interface = direct;
  table = Some (codes "t.dat");
  limit = 81;
}
unfolding study_of tree_of opened entry_of is_keyword is_mode read_of number_of
grid_study = refl

-- a list of two points
abbrev list_text : List ℕ
list_text = codes "environment   tabular_data     tabular_data_file = 't.dat' method   list_parameter_study     list_of_points = 0.10 0 1e-1 0 variables   continuous_design = 2     initial_point = 0 0     descriptors = 'x1' 'x2' interface   analysis_drivers = 'rosenbrock'     direct responses   objective_functions = 1   no_gradients   no_hessians "

abbrev list_tokens : List Token
list_tokens =
    word 0 11 ∷ word 14 26 ∷ word 31 48 ∷ quoted 51 58 ∷ word 59 65 ∷ word 68 88 ∷ word 93 107 ∷
    number 110 114 ∷ number 115 116 ∷ number 117 121 ∷ number 122 123 ∷ word 124 133 ∷ word 136 153 ∷
    number 156 157 ∷ word 162 175 ∷ number 178 179 ∷ number 180 181 ∷ word 186 197 ∷ quoted 200 204 ∷
    quoted 205 209 ∷ word 210 219 ∷ word 222 238 ∷ quoted 241 253 ∷ word 258 264 ∷ word 265 274 ∷
    word 277 296 ∷ number 299 300 ∷ word 303 315 ∷ word 318 329 ∷ []

list_faultless : study_faults (said list_text list_tokens) ≡ []
unfolding study_faults tree_of opened entry_of is_keyword is_mode read_of number_of
list_faultless = refl

list_study : study_of (said list_text list_tokens) ≡ record {
  unit = record { exponent = neg_ℤ (pos 29) };
  variables = record {
    labels = codes "x1" ∷ codes "x2" ∷ [];
    initial = pos 0 ∷ pos 0 ∷ [];
    lower = None;
    upper = None;
  };
  responses = record { labels = codes "obj_fn" ∷ []; objectives = true };
  method = method.List (pos 10000000000000000000000000000 ∷ pos 0 ∷ pos 10000000000000000000000000000 ∷ pos 0 ∷ []);
  interface = direct;
  table = Some (codes "t.dat");
  limit = 2;
}
unfolding study_of tree_of opened entry_of is_keyword is_mode read_of number_of
list_study = refl
