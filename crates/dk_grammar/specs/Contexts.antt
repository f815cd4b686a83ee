-- What the code keeps of the tokens before a place.
use Rattle.std.specs.Prelude.{◌≡◌, ◌≤◌, ℕ, List, length, drop}
use Rattle.dk_lex.specs.declared.token.Token.{Token}
use Rattle.dk_grammar.specs.declared.context.Context.{Context}
use Rattle.dk_grammar.specs.Grammar.{block_after, section_after, keyword_after, wants_mode}

-- this is known of the place behind these tokens: its block, where the block's tokens begin, the keyword whose values
-- come next, and whether that keyword's word does
pub record IsContext (text : List ℕ) (before : List Token) (c : Context) : Type 0 where
  pub block : c.block ≡ block_after text before
  pub within : c.section ≤ length before
  pub section : drop c.section before ≡ section_after text before
  pub keyword : c.keyword ≡ keyword_after text before
  pub mode : c.wants_mode ≡ wants_mode text before
