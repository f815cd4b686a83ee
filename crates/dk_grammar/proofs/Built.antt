-- The whole tree, and that want of memory is no fault of the tokens.
use Rattle.std.proofs.Common.{◌≡◌, ℕ, Bool, true, false, not, List, [], ◌∷◌, ◌++◌, length, take, drop, refl, sym, ap, ◌∙◌, subst, append-nil}
use Rattle.std.specs.Prelude.{Some, None, Result, Ok, Err, IsErrAnd}
use Rattle.std.specs.List.{filter_map, flat_map, list_any}
use Rattle.std.proofs.Math.Seq.{drop-length}
use Rattle.std.proofs.lemmas.List.Folds.{list_any-append}
use Rattle.dk_lex.specs.declared.token.Token.{Token}
use Rattle.dk_grammar.specs.Lists.{first, when, IsFirst, Place, places, places_after}
use Rattle.dk_grammar.specs.Meanings.{same_block}
use Rattle.dk_grammar.specs.Grammar.{opens, is_unknown, is_unsupported, is_misplaced, is_repeated, needed_blocks, end, opening_at, item_at, token_faults, missing_blocks, grammar_faults, tree_of, GrowsTo, Grown}
use Rattle.dk_grammar.specs.Growths.{IsGrown}
use Rattle.dk_grammar.specs.declared.grower.Growth.{Growth}
use Rattle.dk_grammar.specs.declared.parts.Opening.{Opening}
use Rattle.dk_grammar.specs.declared.parts.Item.{Item}
use Rattle.dk_grammar.specs.declared.parts.Tree.{Tree}
use Rattle.dk_grammar.specs.declared.parts.GrammarFault.{GrammarFault}
use Rattle.dk_grammar.specs.declared.parts.GrammarFault.TheVariants.{UnknownKeyword, Unsupported, Repeated, Misplaced, MissingBlock, NoMemory}
use Rattle.dk_grammar.proofs.Growing.{no_first, some_first}

is_want : GrammarFault → Bool
is_want NoMemory = true
is_want _ = false

none_when : (b : Bool) (fault : GrammarFault) → is_want fault ≡ false → list_any is_want (when b fault) ≡ false
none_when true fault e = rw e refl
none_when false fault e = refl

none_append : (xs ys : List GrammarFault) → list_any is_want xs ≡ false → list_any is_want ys ≡ false → list_any is_want (xs ++ ys) ≡ false
none_append xs ys x y = list_any-append is_want xs ys ∙ rw (x, y) refl

none_flat : {X : Type 0} (f : X → List GrammarFault) (xs : List X) → ((x : X) → list_any is_want (f x) ≡ false) → list_any is_want (flat_map f xs) ≡ false
none_flat f [] e = refl
none_flat f (x ∷ xs) e = none_append (f x) (flat_map f xs) (e x) (none_flat f xs e)

module _ (text : List ℕ) (tokens : List Token) where
  none_at : (p : Place Token) → list_any is_want (token_faults text p) ≡ false
  unfolding is_want
  none_at p =
      let unknown = when (is_unknown text p.before p.here) (UnknownKeyword p.here.span) in
      let refused = when (is_unsupported text p.before p.here) (Unsupported p.here.span) in
      let misplaced = when (is_misplaced text p.before p.here) (Misplaced p.here.span) in
      let repeated = when (is_repeated text p.before p.here) (Repeated p.here.span) in
      none_append (unknown ++ refused ++ misplaced) repeated
      (none_append (unknown ++ refused) misplaced
      (none_append unknown refused (none_when (is_unknown text p.before p.here) (UnknownKeyword p.here.span) refl) (none_when (is_unsupported text p.before p.here) (Unsupported p.here.span) refl))
      (none_when (is_misplaced text p.before p.here) (Misplaced p.here.span) refl))
      (none_when (is_repeated text p.before p.here) (Repeated p.here.span) refl)

  none_missing : list_any is_want (missing_blocks text tokens) ≡ false
  unfolding is_want
  none_missing = none_flat (λ b. when (not (list_any (same_block b) (filter_map (opens text) tokens))) (MissingBlock b (end text))) needed_blocks
      (λ b. none_when (not (list_any (same_block b) (filter_map (opens text) tokens))) (MissingBlock b (end text)) refl)

  none_faults : list_any is_want (grammar_faults text tokens) ≡ false
  unfolding grammar_faults
  none_faults = none_append (flat_map (token_faults text) (places tokens)) (missing_blocks text tokens) (none_flat (token_faults text) (places tokens) none_at) none_missing

  no_want : IsFirst NoMemory (grammar_faults text tokens) → ⊥
  unfolding is_want
  no_want (others, e) = let found : true ≡ false = sym (ap (list_any is_want) e) ∙ none_faults in absurd (cc)

  -- the first fault may be told
  pub fault_told : (fault : GrammarFault) → first (grammar_faults text tokens) ≡ Some fault → Grown text tokens (Err fault)
  fault_told fault e = by fault (some_first (grammar_faults text tokens) fault e)
    where
      by : (fault : GrammarFault) → IsFirst fault (grammar_faults text tokens) → Grown text tokens (Err fault)
      by (UnknownKeyword s) h = h
      by (Unsupported s) h = h
      by (Repeated s) h = h
      by (Misplaced s) h = h
      by (MissingBlock b s) h = h
      by NoMemory h = absurd (no_want h)

  -- want of memory may be told where there is no fault
  pub want_told : first (grammar_faults text tokens) ≡ None → (result : Result Tree GrammarFault) → IsErrAnd result (λ e. e ≡ NoMemory) → Grown text tokens result
  want_told clean (Ok tree) h = absurd h
  want_told clean (Err e) h = subst (λ fault. Grown text tokens (Err fault)) (sym h) (no_first (grammar_faults text tokens) clean)

  module _ (g : Growth) (grown : IsGrown text tokens (length tokens) g) where
    none : drop (length tokens) tokens ≡ []
    none = drop-length tokens

    -- behind the last token the openings and items are all
    all_openings : g.openings.items ≡ filter_map (opening_at text) tokens
    all_openings = sym (append-nil g.openings.items) ∙ ap (λ l. g.openings.items ++ filter_map (opening_at text) l) (sym none) ∙ grown.openings

    all_items : g.items.items ≡ filter_map (item_at text) (places tokens)
    all_items = sym (append-nil g.items.items) ∙ ap (λ l. g.items.items ++ filter_map (item_at text) (places_after (take (length tokens) tokens) l)) (sym none) ∙ grown.items

    -- where no token has a fault and no block is missing they make the tree
    pub is_tree : (tree : Tree) → first (grammar_faults text tokens) ≡ None → tree.blocks ≡ g.openings.items → tree.items ≡ g.items.items → GrowsTo text tokens (Ok tree)
    unfolding tree_of
    is_tree tree clean blocks items = (no_first (grammar_faults text tokens) clean, same tree.blocks tree.items (blocks ∙ all_openings) (items ∙ all_items))
      where
        made : List Opening → List Item → Tree
        made bs is = record { blocks = bs; items = is }

        same : (bs : List Opening) (is : List Item) → bs ≡ filter_map (opening_at text) tokens → is ≡ filter_map (item_at text) (places tokens) →
            made bs is ≡ made (filter_map (opening_at text) tokens) (filter_map (item_at text) (places tokens))
        same bs is b i = rw (b, i) refl
