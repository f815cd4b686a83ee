-- The entry of a keyword is the one that the table has for its block and name.
use Rattle.std.proofs.Common.{◌≡◌, List, refl, sym, ap₂, ◌∙◌}
use Rattle.std.specs.Prelude.{Option, Some, ◌&&◌, find}
use Rattle.std.specs.Option.{option_map}
use Rattle.std.proofs.lemmas.List.Elements.{All-map}
use Rattle.dk_lex.specs.declared.token.Token.{Token}
use Rattle.dk_grammar.specs.Table.{keyword_table}
use Rattle.dk_grammar.specs.Meanings.{same_block, same_name, entry_named}
use Rattle.dk_grammar.specs.Grammar.{tree_of}
use Rattle.dk_grammar.specs.declared.words.Block.{Block}
use Rattle.dk_grammar.specs.declared.words.Name.{Name}
use Rattle.dk_grammar.specs.declared.words.Entry.{Entry}
use Rattle.dk_grammar.proofs.Named.{items_named}
use Rattle.dk_reader.specs.declared.document.Field.{Field}
use Rattle.dk_reader.specs.Document.{AreNamed, field_at, document_of}

-- the entry of a block and a name, which computes
abbrev pub entry_by_name : Block → Name → Option Entry
entry_by_name b n = option_map (λ r. r.entry) (find (λ r. same_block b r.block && same_name n r.entry.name) keyword_table)

pub named_is : (b : Block) (n : Name) → entry_named b n ≡ entry_by_name b n
unfolding entry_named
named_is b n = refl

-- a keyword's entry is the table's
abbrev pub IsNamed : Field → Type 0
IsNamed f = entry_named f.block f.entry.name ≡ Some f.entry

some_is : (x y : Entry) → Some x ≡ Some y → x ≡ y
some_is x y e = cc

pub computed : (f : Field) → IsNamed f → entry_by_name f.block f.entry.name ≡ Some f.entry
computed f named = sym (named_is f.block f.entry.name) ∙ named

-- so it is the one of its block and name
pub entry_is : (f : Field) (b : Block) (n : Name) (e : Entry) → IsNamed f → f.block ≡ b → f.entry.name ≡ n → entry_by_name b n ≡ Some e → f.entry ≡ e
entry_is f b n e named at_block at_name is = some_is f.entry e (sym (computed f named) ∙ ap₂ entry_by_name at_block at_name ∙ is)

-- the keywords of a text have their own entries
pub text_named : (text : List _) (tokens : List Token) → AreNamed (document_of text (tree_of text tokens)).fields
text_named text tokens = All-map IsNamed (field_at text) (tree_of text tokens).items (items_named text tokens)
