-- How far the openings and items of tokens have grown.
use Rattle.std.specs.Prelude.{◌≡◌, ℕ, ◌+◌, List, [], ◌∷◌, ◌++◌, take, drop, Option, Some, None, Result, Ok, Err}
use Rattle.std.specs.List.{filter_map, flat_map, take_while}
use Rattle.dk_lex.specs.declared.token.Span.{Span}
use Rattle.dk_lex.specs.declared.token.Token.{Token}
use Rattle.dk_grammar.specs.Lists.{IsFirst, places_after, places}
use Rattle.dk_grammar.specs.Grammar.{opening_at, item_at, token_faults, is_value}
use Rattle.dk_grammar.specs.Contexts.{IsContext}
use Rattle.dk_grammar.specs.declared.context.Context.{Context}
use Rattle.dk_grammar.specs.declared.grower.Growth.{Growth}
use Rattle.dk_grammar.specs.declared.words.Block.{Block}
use Rattle.dk_grammar.specs.declared.words.Entry.{Entry}
use Rattle.dk_grammar.specs.declared.parts.Opening.{Opening}
use Rattle.dk_grammar.specs.declared.parts.Item.{Item}
use Rattle.dk_grammar.specs.declared.parts.GrammarFault.{GrammarFault}

-- the block that a block's name opens, and none where there is no block
abbrev pub opening_by : Option Block → Span → List Opening
opening_by (Some b) span = record { block = b; name = span } ∷ []
opening_by None span = []

-- the item that a keyword of a block makes with the tokens after it, and none where there is no keyword
abbrev pub item_by : List ℕ → Option Block → Option Entry → Span → List Token → List Item
item_by text (Some b) (Some e) span after = record { block = b; keyword = span; entry = e; values = take_while (is_value text) after } ∷ []
item_by text block entry span after = []

-- the tokens before the place have no fault, and this is known of the place
pub record IsJudged (text : List ℕ) (tokens : List Token) (place : ℕ) (c : Context) : Type 0 where
  pub context : IsContext text (take place tokens) c
  pub faults : flat_map (token_faults text) (places tokens) ≡ flat_map (token_faults text) (places_after (take place tokens) (drop place tokens))

-- the token at the place has no fault either, or its fault is the first of all
abbrev pub HasJudged : List ℕ → List Token → ℕ → Result Context GrammarFault → Type 0
HasJudged text tokens place (Ok c) = IsJudged text tokens (place + 1) c
HasJudged text tokens place (Err fault) = IsFirst fault (flat_map (token_faults text) (places tokens))

-- the tokens before the place gave these openings and items
pub record IsGrown (text : List ℕ) (tokens : List Token) (place : ℕ) (g : Growth) : Type 0 where
  pub context : IsContext text (take place tokens) g.context
  pub openings : g.openings.items ++ filter_map (opening_at text) (drop place tokens) ≡ filter_map (opening_at text) tokens
  pub items : g.items.items ++ filter_map (item_at text) (places_after (take place tokens) (drop place tokens)) ≡ filter_map (item_at text) (places tokens)
