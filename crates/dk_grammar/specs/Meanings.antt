-- What words mean, by the table of words. Words are compared without regard to ASCII case.
-- After the section on the format of input files in Dakota's User's Manual.
use Rattle.std.specs.Prelude.{ℕ, Bool, true, false, List, Option, ◌&&◌, find, slice_range}
use Rattle.std.specs.List.{list_any}
use Rattle.std.specs.Option.{option_map}
use Rattle.std.specs.Str.{str_eq_ignore_ascii_case}
use Rattle.dk_lex.specs.declared.token.Span.{Span}
use Rattle.dk_lex.specs.declared.token.TokenKind.{TokenKind}
use Rattle.dk_lex.specs.declared.token.TokenKind.TheVariants as kinds
use denote.Enum.Bare.{sameb}
use Rattle.dk_grammar.specs.contracts.words.Block as block_type
use Rattle.dk_grammar.specs.contracts.words.Name as name_type
use Rattle.dk_grammar.specs.Table.{block_table, keyword_table, refused_table, mode_table}
use Rattle.dk_grammar.specs.declared.words.Name.{Name}
use Rattle.dk_grammar.specs.declared.words.Entry.{Entry}
use Rattle.dk_grammar.specs.declared.words.Block.{Block}
use Rattle.dk_grammar.specs.declared.words.Takes.{Takes}
use Rattle.dk_grammar.specs.declared.words.Takes.TheVariants as takes

-- the bytes of a span
abbrev pub text_at : List ℕ → Span → List ℕ
text_at text s = slice_range text s.from s.to

-- the test that == makes of blocks
abbrev pub same_block : Block → Block → Bool
same_block a b = sameb block_type.the_type a b

-- the test that == makes of names
abbrev pub same_name : Name → Name → Bool
same_name a b = sameb name_type.the_type a b

-- the block that a word opens
unfoldable pub opened : List ℕ → Option Block
opened word = option_map (λ r. r.block) (find (λ r. str_eq_ignore_ascii_case r.word word) block_table)

-- a word as a keyword of a block
unfoldable pub entry_of : Block → List ℕ → Option Entry
entry_of b word = option_map (λ r. r.entry) (find (λ r. same_block b r.block && str_eq_ignore_ascii_case r.word word) keyword_table)

-- a keyword of a block by its name
unfoldable pub entry_named : Block → Name → Option Entry
entry_named b n = option_map (λ r. r.entry) (find (λ r. same_block b r.block && same_name n r.entry.name) keyword_table)

-- a keyword of some block
unfoldable pub is_keyword : List ℕ → Bool
is_keyword word = list_any (λ r. str_eq_ignore_ascii_case r.word word) keyword_table

-- a refused word
unfoldable pub is_refused : List ℕ → Bool
is_refused word = list_any (λ refused. str_eq_ignore_ascii_case refused word) refused_table

-- a word that output takes
unfoldable pub is_mode : List ℕ → Bool
is_mode word = list_any (λ mode. str_eq_ignore_ascii_case mode word) mode_table

-- the kind of words
abbrev pub is_word_kind : TokenKind → Bool
is_word_kind kinds.Word = true
is_word_kind _ = false

-- values of this kind are what the keyword takes
abbrev pub is_taken : Takes → TokenKind → Bool
is_taken (takes.Wholes low high) kinds.Number = true
is_taken takes.Numbers kinds.Number = true
is_taken takes.Strings kinds.Quoted = true
is_taken takes.Mode kinds.Word = true
is_taken _ _ = false

-- output alone takes a word
abbrev pub takes_mode : Takes → Bool
takes_mode takes.Mode = true
takes_mode _ = false
