-- The values of a text's keywords can be read.
use Rattle.std.proofs.Common.{ℕ, ◌≤◌, List, [], ◌∷◌, ◌++◌, length, arith}
use Rattle.std.specs.Prelude.{Option, Some, None, option_and_then}
use Rattle.std.specs.List.{All, filter_map, take_while, prefix_len, cons_option}
use Rattle.std.specs.Option.{option_map}
use Rattle.std.proofs.lemmas.List.Elements.{All-nil, All-cons, All-tail, All-take}
use Rattle.dk_lex.specs.declared.token.Span.{Span}
use Rattle.dk_lex.specs.declared.token.Token.{Token}
use Rattle.dk_lex.specs.Spans.{AreBetween, AreSpans, AreStrings}
use Rattle.dk_grammar.specs.Lists.{places_after}
use Rattle.dk_grammar.specs.Judging.{IsSpan}
use Rattle.dk_grammar.specs.Grammar.{tree_of, is_value, item_at, entry_at, block_after}
use Rattle.dk_grammar.specs.declared.words.Block.{Block}
use Rattle.dk_grammar.specs.declared.words.Entry.{Entry}
use Rattle.dk_grammar.specs.declared.parts.Item.{Item}
use Rattle.dk_reader.specs.Readable.{IsReadable, AreReadable}

-- tokens between two places leave the second no lower
low_high : (low high : ℕ) (tokens : List Token) → AreBetween low high tokens → low ≤ high
low_high low high [] h = h
low_high low high (t ∷ ts) (above, some, rest) = let more = low_high t.span.to high ts rest in omega arith

-- tokens that end within the text lie in it
spans_within : (text : List ℕ) (low : ℕ) (tokens : List Token) → AreBetween low (length text) tokens → All (IsSpan text) tokens
spans_within text low [] h = All-nil (IsSpan text)
spans_within text low (t ∷ ts) (above, some, rest) = All-cons (IsSpan text) t ts (omega arith, low_high t.span.to (length text) ts rest) (spans_within text t.span.to ts rest)

-- the tokens of a text can be read
pub tokens_readable : (text : List ℕ) (tokens : List Token) → AreSpans text tokens → AreStrings text tokens → All (IsReadable text) tokens
tokens_readable text tokens spans strings = λ k d h. record { span = spans_within text 0 tokens spans k d h; string = strings k d h }

module _ (text : List ℕ) where
  abbrev HasReadable : Item → Type 0
  HasReadable i = All (IsReadable text) i.values

  -- a keyword has values from those behind it
  with_item : (b : Option Block) (e : Option Entry) (span : Span) (after : List Token) (items : List Item) → All (IsReadable text) after → AreReadable text items →
      AreReadable text (cons_option (option_and_then (λ b. option_map (λ e. record { block = b; keyword = span; entry = e; values = take_while (is_value text) after }) e) b) items)
  with_item None e span after items values rest = rest
  with_item (Some b) None span after items values rest = rest
  with_item (Some b) (Some e) span after items values rest =
      All-cons HasReadable (record { block = b; keyword = span; entry = e; values = take_while (is_value text) after }) items
      (All-take (IsReadable text) (prefix_len (is_value text) after) after values) rest

  items_after : (before left : List Token) → All (IsReadable text) left → AreReadable text (filter_map (item_at text) (places_after before left))
  items_after before [] h = All-nil HasReadable
  items_after before (t ∷ left) h =
      let values = All-tail (IsReadable text) t left h in
      with_item (block_after text before) (entry_at text before t) t.span left (filter_map (item_at text) (places_after (before ++ t ∷ []) left)) values (items_after (before ++ t ∷ []) left values)

-- the values of a tree of such tokens can be read
pub items_readable : (text : List ℕ) (tokens : List Token) → All (IsReadable text) tokens → AreReadable text (tree_of text tokens).items
unfolding tree_of
items_readable text tokens h = items_after text [] tokens h

-- and so can those of a text's tree
pub tree_readable : (text : List ℕ) (tokens : List Token) → AreSpans text tokens → AreStrings text tokens → AreReadable text (tree_of text tokens).items
tree_readable text tokens spans strings = items_readable text tokens (tokens_readable text tokens spans strings)
