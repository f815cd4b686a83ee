-- What a token is, where its word was looked up.
use Rattle.std.proofs.Common.{◌≡◌, ℕ, false, List, refl, sym, subst}
use Rattle.std.specs.Prelude.{Option, Some, None, is_some, option_and_then}
use Rattle.dk_lex.specs.declared.token.Token.{Token}
use Rattle.dk_grammar.specs.Grammar.{is_word, entry_in, block_after}
use Rattle.dk_grammar.specs.Judging.{known_at}
use Rattle.dk_grammar.specs.declared.words.Block.{Block}
use Rattle.dk_grammar.specs.declared.judge.Known.{Known}

module _ (text : List ℕ) (t : Token) where
  -- what is no word opens no block and is no keyword
  pub no_word : (before : List Token) (k : Known) → k ≡ known_at text before t → k.word ≡ false → (k.opens ≡ false) × (k.entry ≡ false)
  no_word before k e = subst (λ x. x.word ≡ false → (x.opens ≡ false) × (x.entry ≡ false)) (sym e) (λ w. (rw w refl, by w (block_after text before)))
    where
      by : is_word text t ≡ false → (o : Option Block) → is_some (option_and_then (λ b. entry_in text b t) o) ≡ false
      by w None = refl
      by w (Some b) = rw w refl
