-- A keyword is what its block and its name say.
use Rattle.std.proofs.Common.{◌≡◌, ℕ, Bool, true, false, cond, List, [], ◌∷◌, refl, sym, subst, rules}
use Rattle.std.specs.Prelude.{Option, Some, None, ◌&&◌, find, option_and_then, if◌then◌else◌}
use Rattle.std.specs.List.{All, filter_map, cons_option, take_while}
use Rattle.std.specs.Option.{option_map}
use Rattle.std.specs.Str.{str_eq_ignore_ascii_case}
use Rattle.std.proofs.lemmas.List.Elements.{All-nil, All-cons}
use denote.Enum.Bare.{same_true}
use Rattle.dk_lex.specs.declared.token.Token.{Token}
use Rattle.dk_lex.proofs.Runs.{left_of}
use Rattle.dk_grammar.specs.contracts.words.Block as block_type
use Rattle.dk_grammar.specs.Lists.{Place, places}
use Rattle.dk_grammar.specs.Table.{KeywordRow, keyword_table}
use Rattle.dk_grammar.specs.Meanings.{same_block, entry_of, entry_named}
use Rattle.dk_grammar.specs.Grammar.{opens_any, is_word, word, entry_in, block_after, item_at, tree_of, is_value}
use Rattle.dk_grammar.specs.declared.words.Block.{Block}
use Rattle.dk_grammar.specs.declared.words.Entry.{Entry}
use Rattle.dk_grammar.specs.declared.parts.Item.{Item}

AreNamed : List KeywordRow → Type 0
AreNamed [] = Unit {0}
AreNamed (r ∷ rs) = (entry_named r.block r.entry.name ≡ Some r.entry) × AreNamed rs

-- each name stands once in its block
table_named : AreNamed keyword_table
unfolding AreNamed entry_named
table_named = search (rules)

some_is : {X : Type 0} (x y : X) → Some x ≡ Some y → x ≡ y
some_is x y e = cc

module _ (b : Block) (w : List ℕ) where
  is_row : KeywordRow → Bool
  is_row r = same_block b r.block && str_eq_ignore_ascii_case r.word w

  found_named : (rs : List KeywordRow) → AreNamed rs → (e : Entry) → option_map (λ r. r.entry) (find is_row rs) ≡ Some e → entry_named b e.name ≡ Some e
  unfolding AreNamed is_row
  found_named [] named e found = absurd (cc)
  found_named (r ∷ rs) named e found = by (is_row r) refl found (found_named rs named.1 e)
    where
      by : (t : Bool) → is_row r ≡ t → option_map (λ r. r.entry) (cond t (Some r) (find is_row rs)) ≡ Some e →
          (option_map (λ r. r.entry) (find is_row rs) ≡ Some e → entry_named b e.name ≡ Some e) → entry_named b e.name ≡ Some e
      by true t found rest =
          let block_is : b ≡ r.block = same_true block_type.the_type tt b r.block (left_of (same_block b r.block) (str_eq_ignore_ascii_case r.word w) t) in
          let entry_is : r.entry ≡ e = some_is r.entry e found in
          subst (λ x. entry_named b x.name ≡ Some x) entry_is (subst (λ c. entry_named c r.entry.name ≡ Some r.entry) (sym block_is) named.0)
      by false t found rest = rest found

  -- what a word is in a block is what its name says there
  pub entry_of-named : (e : Entry) → entry_of b w ≡ Some e → entry_named b e.name ≡ Some e
  unfolding entry_of is_row
  entry_of-named e found = found_named keyword_table table_named e found

module _ (text : List ℕ) where
  entry_in-named : (b : Block) (t : Token) (e : Entry) → entry_in text b t ≡ Some e → entry_named b e.name ≡ Some e
  entry_in-named b t e found = by (opens_any text t) (is_word text t) found
    where
      by : (o w : Bool) → (if o then None else (if w then entry_of b (word text t) else None)) ≡ Some e → entry_named b e.name ≡ Some e
      by true w found = absurd (cc)
      by false true found = entry_of-named b (word text t) e found
      by false false found = absurd (cc)

  IsNamed : Item → Type 0
  IsNamed i = entry_named i.block i.entry.name ≡ Some i.entry

  abbrev made : Place Token → Block → Entry → Item
  made p b e = record { block = b; keyword = p.here.span; entry = e; values = take_while (is_value text) p.after }

  item_named : (p : Place Token) (i : Item) → item_at text p ≡ Some i → IsNamed i
  unfolding IsNamed
  item_named p i found = by (block_after text p.before) found
    where
      inner : (b : Block) (o : Option Entry) → entry_in text b p.here ≡ o → option_map (made p b) o ≡ Some i → entry_named i.block i.entry.name ≡ Some i.entry
      inner b None is e = absurd (cc)
      inner b (Some k) is e = subst (λ x. entry_named x.block x.entry.name ≡ Some x.entry) (some_is (made p b k) i e) (entry_in-named b p.here k is)

      by : (o : Option Block) → option_and_then (λ b. option_map (made p b) (option_and_then (λ c. entry_in text c p.here) o)) o ≡ Some i → entry_named i.block i.entry.name ≡ Some i.entry
      by None e = absurd (cc)
      by (Some b) e = inner b (entry_in text b p.here) refl e

  all_named : (ps : List (Place Token)) → All IsNamed (filter_map (item_at text) ps)
  all_named [] = All-nil IsNamed
  all_named (p ∷ ps) = by (item_at text p) refl (all_named ps)
    where
      by : (o : Option Item) → item_at text p ≡ o → All IsNamed (filter_map (item_at text) ps) → All IsNamed (cons_option o (filter_map (item_at text) ps))
      by None e rest = rest
      by (Some i) e rest = All-cons IsNamed i (filter_map (item_at text) ps) (item_named p i e) rest

  -- each item of a tree is what its block and its name say
  pub items_named : (tokens : List Token) → All (λ i. entry_named i.block i.entry.name ≡ Some i.entry) (tree_of text tokens).items
  unfolding tree_of IsNamed
  items_named tokens = all_named (places tokens)
