-- The context behind one token more.
use Rattle.std.proofs.Common.{◌≡◌, ℕ, ◌+◌, ◌≤◌, false, List, [], ◌∷◌, ◌++◌, length, drop, refl, sym, ap, ◌∙◌, arith, length-append}
use Rattle.std.specs.Prelude.{Option, Some, None, option_and_then}
use Rattle.std.proofs.lemmas.List.{drop-append-le}
use Rattle.std.proofs.Math.ListN.{drop_of_length-le}
use Rattle.dk_lex.specs.declared.token.Token.{Token}
use Rattle.dk_grammar.specs.declared.words.Block.{Block}
use Rattle.dk_grammar.specs.declared.words.Entry.{Entry}
use Rattle.dk_grammar.specs.declared.context.Context.{Context}
use Rattle.dk_grammar.specs.Lists.{last}
use Rattle.dk_grammar.specs.Meanings.{takes_mode}
use Rattle.dk_grammar.specs.Grammar.{opens, opens_any, block_after, section_after, entry_in, entry_at, keyword_after}
use Rattle.dk_grammar.specs.Contexts.{IsContext}
use Rattle.dk_grammar.proofs.Push.{last-push, last-push_some, last-push_none, behind_last-opens, behind_last-more}

module _ (text : List ℕ) (before : List Token) (t : Token) where
  -- a token that opens no block leaves the block, and joins the section
  same_block : opens text t ≡ None → block_after text (before ++ t ∷ []) ≡ block_after text before
  same_block e = last-push_none (opens text) before t e

  longer_section : opens text t ≡ None → section_after text (before ++ t ∷ []) ≡ section_after text before ++ t ∷ []
  longer_section e = behind_last-more (opens_any text) before t (rw e refl)

  keyword_some : (b : Block) (k : Entry) → opens text t ≡ None → block_after text before ≡ Some b → entry_in text b t ≡ Some k → keyword_after text (before ++ t ∷ []) ≡ Some k
  keyword_some b k e block h = rw (same_block e, block, longer_section e) (last-push_some (entry_in text b) (section_after text before) t k h)

  keyword_same : (b : Block) → opens text t ≡ None → block_after text before ≡ Some b → entry_in text b t ≡ None → keyword_after text (before ++ t ∷ []) ≡ keyword_after text before
  keyword_same b e block h = rw (same_block e, block, longer_section e) (last-push_none (entry_in text b) (section_after text before) t h)

  section_drop : (c : ℕ) → c ≤ length before → drop c before ≡ section_after text before → opens text t ≡ None → drop c (before ++ t ∷ []) ≡ section_after text (before ++ t ∷ [])
  section_drop c within e none = drop-append-le c before (t ∷ []) within ∙ ap (λ l. l ++ t ∷ []) e ∙ sym (longer_section none)

  -- behind a block's name
  pub opens_next : (c : Context) (b : Block) → IsContext text before c → opens text t ≡ Some b →
      IsContext text (before ++ t ∷ []) (record { block = Some b; section = length before + 1; keyword = None; wants_mode = false })
  opens_next c b h e =
      let block : block_after text (before ++ t ∷ []) ≡ Some b = last-push_some (opens text) before t b e in
      let section : section_after text (before ++ t ∷ []) ≡ [] = behind_last-opens (opens_any text) before t (rw e refl) in
      record {
        block = sym block;
        within = omega (arith, length-append before (t ∷ []));
        section = drop_of_length-le (before ++ t ∷ []) (omega (arith, length-append before (t ∷ []))) ∙ sym section;
        keyword = rw (block, section) refl;
        mode = rw (last-push before t, block, e) refl;
      }

  -- behind a keyword
  pub entry_next : (c : Context) (k : Entry) → IsContext text before c → opens text t ≡ None → entry_at text before t ≡ Some k →
      IsContext text (before ++ t ∷ []) (record { block = c.block; section = c.section; keyword = Some k; wants_mode = takes_mode k.takes })
  entry_next c k h none e = by (block_after text before) refl e
    where
      by : (o : Option Block) → block_after text before ≡ o → option_and_then (λ b. entry_in text b t) o ≡ Some k → IsContext text (before ++ t ∷ []) (record { block = c.block; section = c.section; keyword = Some k; wants_mode = takes_mode k.takes })
      by None b e = absurd (cc)
      by (Some block) b e =
          let same = same_block none in
          let last_is : last (before ++ t ∷ []) ≡ Some t = last-push before t in
          record {
            block = h.block ∙ sym same;
            within = omega (arith, h.within, length-append before (t ∷ []));
            section = section_drop c.section h.within h.section none;
            keyword = sym (keyword_some block k none b e);
            mode = rw (last_is, same, b, e) refl;
          }

  -- behind a value
  pub none_next : (c : Context) → IsContext text before c → opens text t ≡ None → entry_at text before t ≡ None →
      IsContext text (before ++ t ∷ []) (record { block = c.block; section = c.section; keyword = c.keyword; wants_mode = false })
  none_next c h none e = by (block_after text before) refl e
    where
      by : (o : Option Block) → block_after text before ≡ o → option_and_then (λ b. entry_in text b t) o ≡ None → IsContext text (before ++ t ∷ []) (record { block = c.block; section = c.section; keyword = c.keyword; wants_mode = false })
      by None b e =
          let same = same_block none in
          let last_is : last (before ++ t ∷ []) ≡ Some t = last-push before t in
          record {
            block = h.block ∙ sym same;
            within = omega (arith, h.within, length-append before (t ∷ []));
            section = section_drop c.section h.within h.section none;
            keyword = h.keyword ∙ rw (same, b) refl;
            mode = rw (last_is, same, b) refl;
          }
      by (Some block) b e =
          let same = same_block none in
          let last_is : last (before ++ t ∷ []) ≡ Some t = last-push before t in
          record {
            block = h.block ∙ sym same;
            within = omega (arith, h.within, length-append before (t ∷ []));
            section = section_drop c.section h.within h.section none;
            keyword = h.keyword ∙ sym (keyword_same block none b e);
            mode = rw (last_is, same, b, e) refl;
          }
