-- One token more in the growth of a tree.
use Rattle.std.proofs.Common.{◌≡◌, ℕ, Bool, true, false, cond, suc, ◌+◌, ◌<◌, ◌≤◌, List, [], ◌∷◌, ◌++◌, length, take, drop, get_or, refl, sym, ap, ◌∙◌, subst, arith, append_assoc}
use Rattle.std.specs.Prelude.{Option, Some, None, find, option_and_then}
use Rattle.std.specs.List.{filter_map, flat_map, take_while, cons_option}
use Rattle.std.specs.Option.{option_map, option_or}
use Rattle.std.proofs.Math.Seq.{take-suc, drop-cons}
use Rattle.std.proofs.lemmas.List.{drop_all}
use Rattle.dk_lex.specs.declared.token.Span.{Span}
use Rattle.dk_lex.specs.declared.token.Token.{Token}
use Rattle.dk_lex.specs.declared.token.TokenKind.TheVariants as kinds
use Rattle.dk_grammar.specs.Lists.{first, when, IsFirst, places, places_after}
use Rattle.dk_grammar.specs.Grammar.{opens, entry_at, block_after, is_value, opening_at, item_at, token_faults}
use Rattle.dk_grammar.specs.Contexts.{IsContext}
use Rattle.dk_grammar.specs.Growths.{opening_by, item_by, IsJudged, IsGrown}
use Rattle.dk_grammar.specs.declared.words.Block.{Block}
use Rattle.dk_grammar.specs.declared.words.Entry.{Entry}
use Rattle.dk_grammar.specs.declared.context.Context.{Context}
use Rattle.dk_grammar.specs.declared.grower.Growth.{Growth}
use Rattle.dk_grammar.specs.declared.parts.Opening.{Opening}
use Rattle.dk_grammar.specs.declared.parts.Item.{Item}
use Rattle.dk_grammar.specs.declared.parts.GrammarFault.{GrammarFault}

-- a list with no first element is empty
pub no_first : {X : Type 0} (xs : List X) → first xs ≡ None → xs ≡ []
no_first [] e = refl
no_first (x ∷ xs) e = absurd (cc)

-- what is the first element begins the list
pub some_first : {X : Type 0} (xs : List X) (x : X) → first xs ≡ Some x → IsFirst x xs
some_first [] x e = absurd (cc)
some_first (y ∷ ys) x e = let same : y ≡ x = cc in (ys, ap (λ z. z ∷ ys) same)

-- the first of a front is the first of the whole
pub first_of_front : {X : Type 0} (x : X) (xs ys : List X) → IsFirst x xs → IsFirst x (xs ++ ys)
first_of_front x xs ys (others, e) = (others ++ ys, ap (λ l. l ++ ys) e)

-- the first of a front, or of what follows where the front is empty
pub first_or : {X : Type 0} (xs ys : List X) → option_or (first xs) (first ys) ≡ first (xs ++ ys)
first_or [] ys = refl
first_or (x ∷ xs) ys = refl

-- the first of the elements that pass, as what it gives
pub first_when : {X Y : Type 0} (test : X → Bool) (f : X → Y) (xs : List X) → option_map f (find test xs) ≡ first (flat_map (λ x. when (test x) (f x)) xs)
first_when test f [] = refl
first_when test f (x ∷ xs) = by (test x) (first_when test f xs)
  where
    by : (b : Bool) → option_map f (find test xs) ≡ first (flat_map (λ y. when (test y) (f y)) xs) →
        option_map f (cond b (Some x) (find test xs)) ≡ first (when b (f x) ++ flat_map (λ y. when (test y) (f y)) xs)
    by true e = refl
    by false e = e

opening_cons : (o : Option Block) (span : Span) (xs : List Opening) → cons_option (option_map (λ b. record { block = b; name = span }) o) xs ≡ opening_by o span ++ xs
opening_cons None span xs = refl
opening_cons (Some b) span xs = refl

item_cons : (text : List ℕ) (o : Option Block) (k : Option Entry) (span : Span) (after : List Token) (xs : List Item) →
    cons_option (option_and_then (λ b. option_map (λ e. record { block = b; keyword = span; entry = e; values = take_while (is_value text) after }) k) o) xs ≡ item_by text o k span after ++ xs
item_cons text None k span after xs = refl
item_cons text (Some b) None span after xs = refl
item_cons text (Some b) (Some e) span after xs = refl

module _ (text : List ℕ) (before : List Token) (t : Token) (left : List Token) where
  faults_step : first (token_faults text (record { before = before; here = t; after = left })) ≡ None →
      flat_map (token_faults text) (places_after before (t ∷ left)) ≡ flat_map (token_faults text) (places_after (before ++ t ∷ []) left)
  faults_step e = ap (λ xs. xs ++ flat_map (token_faults text) (places_after (before ++ t ∷ []) left)) (no_first (token_faults text (record { before = before; here = t; after = left })) e)

  openings_step : (ps : List Opening) → ps ++ filter_map (opening_at text) (t ∷ left) ≡ (ps ++ opening_by (opens text t) t.span) ++ filter_map (opening_at text) left
  openings_step ps = ap (λ l. ps ++ l) (opening_cons (opens text t) t.span (filter_map (opening_at text) left)) ∙ sym (append_assoc ps (opening_by (opens text t) t.span) (filter_map (opening_at text) left))

  items_step : (is : List Item) (o : Option Block) → o ≡ block_after text before →
      is ++ filter_map (item_at text) (places_after before (t ∷ left)) ≡ (is ++ item_by text o (entry_at text before t) t.span left) ++ filter_map (item_at text) (places_after (before ++ t ∷ []) left)
  items_step is o e =
      subst (λ b. is ++ filter_map (item_at text) (places_after before (t ∷ left)) ≡ (is ++ item_by text b (entry_at text before t) t.span left) ++ filter_map (item_at text) (places_after (before ++ t ∷ []) left)) (sym e)
      (ap (λ l. is ++ l) (item_cons text (block_after text before) (entry_at text before t) t.span left (filter_map (item_at text) (places_after (before ++ t ∷ []) left)))
      ∙ sym (append_assoc is (item_by text (block_after text before) (entry_at text before t) t.span left) (filter_map (item_at text) (places_after (before ++ t ∷ []) left))))

module _ (text : List ℕ) (tokens : List Token) (place : ℕ) (d : Token) where
  -- a token without a fault adds its opening and its item
  pub grown_more : (g h : Growth) (o : Option Block) (k : Option Entry) (left : List Token) → place < length tokens → IsGrown text tokens place g →
      IsContext text (take place tokens ++ get_or tokens place d ∷ []) h.context →
      o ≡ opens text (get_or tokens place d) → k ≡ entry_at text (take place tokens) (get_or tokens place d) → left ≡ drop (place + 1) tokens →
      h.openings.items ≡ g.openings.items ++ opening_by o (get_or tokens place d).span →
      h.items.items ≡ g.items.items ++ item_by text g.context.block k (get_or tokens place d).span left →
      IsGrown text tokens (place + 1) h
  grown_more g h o k left within grown context opened keyword rest openings_are items_are =
      let one : place + 1 ≡ suc place = omega arith in
      let at : drop place tokens ≡ get_or tokens place d ∷ drop (place + 1) tokens = rw one (drop-cons tokens place d within) in
      let next : take (place + 1) tokens ≡ take place tokens ++ get_or tokens place d ∷ [] = rw one (take-suc tokens place d within) in
      record {
        context = subst (λ l. IsContext text l h.context) (sym next) context;
        openings = ap (λ l. l ++ filter_map (opening_at text) (drop (place + 1) tokens)) (openings_are ∙ ap (λ b. g.openings.items ++ opening_by b (get_or tokens place d).span) opened)
            ∙ sym (openings_step text (take place tokens) (get_or tokens place d) (drop (place + 1) tokens) g.openings.items)
            ∙ ap (λ l. g.openings.items ++ filter_map (opening_at text) l) (sym at) ∙ grown.openings;
        items = ap (λ l. h.items.items ++ filter_map (item_at text) (places_after l (drop (place + 1) tokens))) next
            ∙ ap (λ l. l ++ filter_map (item_at text) (places_after (take place tokens ++ get_or tokens place d ∷ []) (drop (place + 1) tokens)))
            (items_are ∙ ap (λ e. g.items.items ++ item_by text g.context.block e (get_or tokens place d).span left) keyword
            ∙ ap (λ l. g.items.items ++ item_by text g.context.block (entry_at text (take place tokens) (get_or tokens place d)) (get_or tokens place d).span l) rest)
            ∙ sym (items_step text (take place tokens) (get_or tokens place d) (drop (place + 1) tokens) g.items.items g.context.block grown.context.block)
            ∙ ap (λ l. g.items.items ++ filter_map (item_at text) (places_after (take place tokens) l)) (sym at) ∙ grown.items;
      }

  -- behind a token without a fault
  pub judged_more : (c k : Context) → place < length tokens → IsJudged text tokens place c →
      first (token_faults text (record { before = take place tokens; here = get_or tokens place d; after = drop (place + 1) tokens })) ≡ None →
      IsContext text (take place tokens ++ get_or tokens place d ∷ []) k → IsJudged text tokens (place + 1) k
  judged_more c k within judged clean context =
      let one : place + 1 ≡ suc place = omega arith in
      let at : drop place tokens ≡ get_or tokens place d ∷ drop (place + 1) tokens = rw one (drop-cons tokens place d within) in
      let next : take (place + 1) tokens ≡ take place tokens ++ get_or tokens place d ∷ [] = rw one (take-suc tokens place d within) in
      record {
        context = subst (λ l. IsContext text l k) (sym next) context;
        faults = judged.faults ∙ ap (λ l. flat_map (token_faults text) (places_after (take place tokens) l)) at
            ∙ faults_step text (take place tokens) (get_or tokens place d) (drop (place + 1) tokens) clean
            ∙ ap (λ l. flat_map (token_faults text) (places_after l (drop (place + 1) tokens))) (sym next);
      }

  -- the first fault of this token is the first of all
  pub judged_fault : (c : Context) (fault : GrammarFault) → place < length tokens → IsJudged text tokens place c →
      first (token_faults text (record { before = take place tokens; here = get_or tokens place d; after = drop (place + 1) tokens })) ≡ Some fault →
      IsFirst fault (flat_map (token_faults text) (places tokens))
  judged_fault c fault within judged e =
      let one : place + 1 ≡ suc place = omega arith in
      let at : drop place tokens ≡ get_or tokens place d ∷ drop (place + 1) tokens = rw one (drop-cons tokens place d within) in
      let all : flat_map (token_faults text) (places tokens) ≡ token_faults text (record { before = take place tokens; here = get_or tokens place d; after = drop (place + 1) tokens })
      ++ flat_map (token_faults text) (places_after (take place tokens ++ get_or tokens place d ∷ []) (drop (place + 1) tokens))
      = judged.faults ∙ ap (λ l. flat_map (token_faults text) (places_after (take place tokens) l)) at in
      subst (IsFirst fault) (sym all)
      (first_of_front fault (token_faults text (record { before = take place tokens; here = get_or tokens place d; after = drop (place + 1) tokens }))
      (flat_map (token_faults text) (places_after (take place tokens ++ get_or tokens place d ∷ []) (drop (place + 1) tokens)))
      (some_first (token_faults text (record { before = take place tokens; here = get_or tokens place d; after = drop (place + 1) tokens })) fault e))

-- before the first token nothing has a fault
pub judged_start : (text : List ℕ) (tokens : List Token) (c : Context) → IsContext text [] c → IsJudged text tokens 0 c
judged_start text tokens c context = record { context = context; faults = refl }

-- behind the last token none has a fault
pub judged_all : (text : List ℕ) (tokens : List Token) (place : ℕ) (c : Context) → length tokens ≤ place → IsJudged text tokens place c → None ≡ first (flat_map (token_faults text) (places tokens))
judged_all text tokens place c all judged = sym (ap first (judged.faults ∙ ap (λ l. flat_map (token_faults text) (places_after (take place tokens) l)) (drop_all place tokens all)))

-- what begins the list is its first element
pub first_some : {X : Type 0} (x : X) (xs : List X) → IsFirst x xs → Some x ≡ first xs
first_some x xs (others, e) = rw e refl

-- before the first token nothing has grown
pub grown_start : (text : List ℕ) (tokens : List Token) (g : Growth) → IsContext text [] g.context → g.openings.items ≡ [] → g.items.items ≡ [] → IsGrown text tokens 0 g
grown_start text tokens g context openings items = record {
  context = context;
  openings = ap (λ l. l ++ filter_map (opening_at text) tokens) openings;
  items = ap (λ l. l ++ filter_map (item_at text) (places tokens)) items;
}

-- the element that an index past the end would give
abbrev pub no_token : Token
no_token = record { kind = kinds.Word; span = record { from = 0; to = 0 } }
