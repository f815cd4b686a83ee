-- The blocks and items of tokens, and the faults of tokens.
-- After the section on the format of input files in Dakota's User's Manual, and the keyword output of method.
use Rattle.std.specs.Prelude.{◌≡◌, ℕ, Bool, false, List, [], ◌∷◌, ◌++◌, length, Option, None, is_some, is_none, option_and_then, Result, Ok, Err, ◌&&◌, ◌||◌, not, if◌then◌else◌}
use Rattle.std.specs.List.{filter_map, flat_map, list_any, take_while}
use Rattle.std.specs.Option.{option_map, option_map_or}
use Rattle.std.specs.Str.{str_eq_ignore_ascii_case}
use Rattle.dk_lex.specs.declared.token.Span.{Span}
use Rattle.dk_lex.specs.declared.token.Token.{Token}
use Rattle.dk_grammar.specs.Lists.{last, behind_last, when, IsFirst, Place, places}
use Rattle.dk_grammar.specs.Meanings.{text_at, same_block, opened, entry_of, is_keyword, is_refused, is_mode, is_word_kind, is_taken, takes_mode}
use Rattle.dk_grammar.specs.declared.words.Block.{Block}
use Rattle.dk_grammar.specs.declared.words.Entry.{Entry}
use Rattle.dk_grammar.specs.declared.words.Block.TheVariants as block
use Rattle.dk_grammar.specs.declared.parts.Opening.{Opening}
use Rattle.dk_grammar.specs.declared.parts.Item.{Item}
use Rattle.dk_grammar.specs.declared.parts.Tree.{Tree}
use Rattle.dk_grammar.specs.declared.parts.GrammarFault.{GrammarFault}
use Rattle.dk_grammar.specs.declared.parts.GrammarFault.TheVariants.{UnknownKeyword, Unsupported, Repeated, Misplaced, MissingBlock, NoMemory}

-- the blocks that each study has, in the order in which they are missed
abbrev pub needed_blocks : List Block
needed_blocks = block.Method ∷ block.Variables ∷ block.Interface ∷ block.Responses ∷ []

module _ (text : List ℕ) where
  -- the bytes of a token
  abbrev pub word : Token → List ℕ
  word t = text_at text t.span

  -- neither a number nor a string
  abbrev pub is_word : Token → Bool
  is_word t = is_word_kind t.kind

  -- the block that a token opens
  abbrev pub opens : Token → Option Block
  opens t = if is_word t then opened (word t) else None

  -- a block's name
  abbrev pub opens_any : Token → Bool
  opens_any t = is_some (opens t)

  -- the block in which the next token stands
  abbrev pub block_after : List Token → Option Block
  block_after before = last (filter_map opens before)

  -- the tokens of the block in which the next token stands
  abbrev pub section_after : List Token → List Token
  section_after before = behind_last opens_any before

  -- a word that opens no block, as a keyword of this block
  abbrev pub entry_in : Block → Token → Option Entry
  entry_in b t = if opens_any t then None else (if is_word t then entry_of b (word t) else None)

  -- a token as a keyword of the block in which it stands
  abbrev pub entry_at : List Token → Token → Option Entry
  entry_at before t = option_and_then (λ b. entry_in b t) (block_after before)

  -- the keyword whose values come next
  abbrev pub keyword_after : List Token → Option Entry
  keyword_after before = option_and_then (λ b. last (filter_map (entry_in b) (section_after before))) (block_after before)

  -- output's own place for a word: right behind it
  abbrev pub wants_mode : List Token → Bool
  wants_mode before = option_map_or (λ t. option_map_or (λ e. takes_mode e.takes) (entry_at before t) false) (last before) false

  -- a word that is this token's but for ASCII case
  abbrev pub same_word : Token → Token → Bool
  same_word t u = is_word u && str_eq_ignore_ascii_case (word t) (word u)

  -- a word that opens no block: behind output it is none that output takes, elsewhere no keyword and not refused
  abbrev pub is_unknown : List Token → Token → Bool
  is_unknown before t = is_word t && not (opens_any t) && (if wants_mode before then not (is_mode (word t)) else not (is_keyword (word t) || is_refused (word t)))

  -- a refused word that opens no block, but not right behind output
  abbrev pub is_unsupported : List Token → Token → Bool
  is_unsupported before t = is_word t && not (opens_any t) && not (wants_mode before) && is_refused (word t)

  -- a value that the keyword before it takes
  abbrev pub is_wanted : List Token → Token → Bool
  is_wanted before t = option_map_or (λ e. is_taken e.takes t.kind) (keyword_after before) false

  -- a keyword outside a block that has it, or a value that the keyword before it doesn't take
  abbrev pub is_misplaced : List Token → Token → Bool
  is_misplaced before t =
      if is_word t then not (opens_any t || wants_mode before) && is_keyword (word t) && is_none (entry_at before t)
      else not (is_wanted before t)

  -- the word stands before, in its block if it is a keyword
  abbrev pub is_seen : List Token → Token → Bool
  is_seen before t = list_any (same_word t) (if opens_any t then before else section_after before)

  -- a block or a keyword of a block for the second time
  abbrev pub is_repeated : List Token → Token → Bool
  is_repeated before t =
      if opens_any t then is_seen before t
      else not (wants_mode before) && is_some (entry_at before t) && is_seen before t

  -- what is wrong with a token behind these
  abbrev pub token_faults : Place Token → List GrammarFault
  token_faults p =
      when (is_unknown p.before p.here) (UnknownKeyword p.here.span) ++ when (is_unsupported p.before p.here) (Unsupported p.here.span)
      ++ when (is_misplaced p.before p.here) (Misplaced p.here.span) ++ when (is_repeated p.before p.here) (Repeated p.here.span)

  -- the empty span at the text's end
  abbrev pub end : Span
  end = record { from = length text; to = length text }

  -- no token opens the block
  abbrev pub is_missing : List Token → Block → Bool
  is_missing tokens b = not (list_any (same_block b) (filter_map opens tokens))

  -- each of these blocks that no token opens
  abbrev pub missing_of : List Block → List Token → List GrammarFault
  missing_of blocks tokens = flat_map (λ b. when (is_missing tokens b) (MissingBlock b end)) blocks

  -- each block that is needed and isn't opened
  abbrev pub missing_blocks : List Token → List GrammarFault
  missing_blocks tokens = missing_of needed_blocks tokens

  -- all faults, from left to right
  unfoldable pub grammar_faults : List Token → List GrammarFault
  grammar_faults tokens = flat_map token_faults (places tokens) ++ missing_blocks tokens

  -- not a keyword and not a block's name
  abbrev pub is_value : Token → Bool
  is_value t = not (is_word t && (opens_any t || is_keyword (word t)))

  -- the block that a block's name opens
  abbrev pub opening_at : Token → Option Opening
  opening_at t = option_map (λ b. record { block = b; name = t.span }) (opens t)

  -- a keyword with its values, up to the next keyword
  abbrev pub item_at : Place Token → Option Item
  item_at p = option_and_then (λ b. option_map (λ e. record { block = b; keyword = p.here.span; entry = e; values = take_while is_value p.after }) (entry_at p.before p.here)) (block_after p.before)

  -- the blocks and items of tokens, in the order of the text
  unfoldable pub tree_of : List Token → Tree
  tree_of tokens = record { blocks = filter_map opening_at tokens; items = filter_map item_at (places tokens) }

-- what these tokens of a text give: their tree, or their first fault
abbrev pub GrowsTo : List ℕ → List Token → Result Tree GrammarFault → Type 0
GrowsTo text tokens (Ok tree) = (grammar_faults text tokens ≡ []) × (tree ≡ tree_of text tokens)
GrowsTo text tokens (Err fault) = IsFirst fault (grammar_faults text tokens)

-- what a call answered is what the tokens give. Where memory ran out it says that they have no fault
abbrev pub Grown : List ℕ → List Token → Result Tree GrammarFault → Type 0
Grown text tokens (Err NoMemory) = grammar_faults text tokens ≡ []
Grown text tokens outcome = GrowsTo text tokens outcome
