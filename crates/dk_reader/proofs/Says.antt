-- Each text says one study or has one first fault, as each text has its tokens or one first lexical fault.
use Rattle.std.proofs.Common.{◌≡◌, ℕ, List, [], ◌∷◌, refl, ap, ◌∙◌}
use Rattle.std.specs.Prelude.{Result, Ok, Err}
use Rattle.dk_lex.specs.declared.token.Token.{Token}
use Rattle.dk_lex.specs.declared.token.LexFault.{LexFault}
use Rattle.dk_lex.specs.Cut.{HasTokens, IsFirstLexFault, LexesTo, EachTextLexes}
use Rattle.dk_grammar.specs.Lists.{IsFirst}
use Rattle.dk_grammar.specs.declared.parts.GrammarFault.{GrammarFault}
use Rattle.dk_grammar.specs.Grammar.{grammar_faults, tree_of}
use Rattle.dk_types.specs.declared.study.Study.{Study}
use Rattle.dk_reader.specs.declared.fault.StudyFault.{StudyFault}
use Rattle.dk_reader.specs.declared.document.Document.{Document}
use Rattle.dk_reader.specs.Document.{document_of}
use Rattle.dk_reader.specs.Steps.{study_faults}
use Rattle.dk_reader.specs.Study.{study_of}
use Rattle.dk_reader.specs.Reading.{HasDocument, HasFault, of_bytes, of_tokens, of_steps, Says, EachTextSays, from_lex, from_grammar}

-- just one outcome
abbrev One : List ℕ → Type 0
One text = (outcome : Result Study StudyFault) × Says text outcome × ((other : Result Study StudyFault) → Says text other → other ≡ outcome)

abbrev just_tokens : List Token → Result (List Token) LexFault
just_tokens tokens = Ok tokens

abbrev no_tokens_but : LexFault → Result (List Token) LexFault
no_tokens_but f = Err f

module _ (text : List ℕ) where
  -- a text with a lexical fault
  module _ (f : LexFault) (only : (other : Result (List Token) LexFault) → LexesTo text other → other ≡ Err f) where
    no_tokens : {X : Type 0} (tokens : List Token) → HasTokens text tokens → X
    no_tokens tokens h = absurd (let e : just_tokens tokens ≡ no_tokens_but f = only (Ok tokens) h in cc)

    lexical_fault : (g : StudyFault) → HasFault text g → g ≡ from_lex f
    lexical_fault _ (of_bytes g h) = let e : g ≡ f = (let r : no_tokens_but g ≡ no_tokens_but f = only (Err g) h in cc) in ap from_lex e
    lexical_fault _ (of_tokens tokens g h first) = no_tokens tokens h
    lexical_fault _ (of_steps d g h first) = no_tokens h.tokens h.lexes

    lexical_only : (other : Result Study StudyFault) → Says text other → other ≡ Err (from_lex f)
    lexical_only (Ok study) h = no_tokens h.has.tokens h.has.lexes
    lexical_only (Err g) h = ap Err (lexical_fault g h)

  -- a text with these tokens
  module _ (tokens : List Token) (has : HasTokens text tokens) (only : (other : Result (List Token) LexFault) → LexesTo text other → other ≡ Ok tokens) where
    same_tokens : (ts : List Token) → HasTokens text ts → ts ≡ tokens
    same_tokens ts h = let e : just_tokens ts ≡ just_tokens tokens = only (Ok ts) h in cc

    no_fault : {X : Type 0} (g : LexFault) → IsFirstLexFault text g → X
    no_fault g h = absurd (let e : no_tokens_but g ≡ just_tokens tokens = only (Err g) h in cc)

    the_doc : Document
    the_doc = document_of text (tree_of text tokens)

    same_doc : (d : Document) → HasDocument text d → d ≡ the_doc
    unfolding the_doc
    same_doc d h = h.says ∙ ap (λ ts. document_of text (tree_of text ts)) (same_tokens h.tokens h.lexes)

    same_first : {X : Type 0} (x y : X) (xs ys zs : List X) → IsFirst x xs → xs ≡ zs → zs ≡ y ∷ ys → x ≡ y
    same_first x y xs ys zs first e g = let h = first.1 in cc

    not_none : {X Y : Type 0} (x : X) (xs zs : List X) → IsFirst x xs → xs ≡ zs → zs ≡ [] → Y
    not_none x xs zs first e g = absurd (let h = first.1 in cc)

    -- with a grammar fault
    of_grammar : (g : GrammarFault) (gs : List GrammarFault) → grammar_faults text tokens ≡ g ∷ gs → One text
    of_grammar g gs e = (Err (from_grammar g), of_tokens tokens g has (gs, e), others)
      where
        others : (other : Result Study StudyFault) → Says text other → other ≡ Err (from_grammar g)
        others (Ok study) h = absurd (let no = h.has.grows in let t = ap (grammar_faults text) (same_tokens h.has.tokens h.has.lexes) in cc)
        others (Err f) h = ap Err (by f h)
          where
            by : (f : StudyFault) → HasFault text f → f ≡ from_grammar g
            by _ (of_bytes k h) = no_fault k h
            by _ (of_tokens ts k h first) = ap from_grammar (same_first k g _ gs _ first (ap (grammar_faults text) (same_tokens ts h)) e)
            by _ (of_steps d k h first) = absurd (let no = h.grows in let t = ap (grammar_faults text) (same_tokens h.tokens h.lexes) in cc)

    clean : grammar_faults text tokens ≡ [] → HasDocument text the_doc
    unfolding the_doc
    clean e = record { tokens = tokens; lexes = has; grows = e; says = refl }

    -- with a fault of a step
    of_study : grammar_faults text tokens ≡ [] → (g : StudyFault) (gs : List StudyFault) → study_faults the_doc ≡ g ∷ gs → One text
    of_study e g gs s = (Err g, of_steps the_doc g (clean e) (gs, s), others)
      where
        others : (other : Result Study StudyFault) → Says text other → other ≡ Err g
        others (Ok study) h = absurd (let no = h.faultless in let t = ap study_faults (same_doc h.document h.has) in cc)
        others (Err f) h = ap Err (by f h)
          where
            by : (f : StudyFault) → HasFault text f → f ≡ g
            by _ (of_bytes k h) = no_fault k h
            by _ (of_tokens ts k h first) = not_none k _ _ first (ap (grammar_faults text) (same_tokens ts h)) e
            by _ (of_steps d k h first) = same_first k g _ gs _ first (ap study_faults (same_doc d h)) s

    -- without a fault
    of_none : grammar_faults text tokens ≡ [] → study_faults the_doc ≡ [] → One text
    of_none e s = (Ok (study_of the_doc), record { document = the_doc; has = clean e; faultless = s; study_is = refl }, others)
      where
        others : (other : Result Study StudyFault) → Says text other → other ≡ Ok (study_of the_doc)
        others (Ok study) h = ap Ok (h.study_is ∙ ap study_of (same_doc h.document h.has))
        others (Err f) h = by f h
          where
            by : (f : StudyFault) → HasFault text f → Err f ≡ Ok (study_of the_doc)
            by _ (of_bytes k h) = no_fault k h
            by _ (of_tokens ts k h first) = not_none k _ _ first (ap (grammar_faults text) (same_tokens ts h)) e
            by _ (of_steps d k h first) = not_none k _ _ first (ap study_faults (same_doc d h)) s

    one_of_tokens : One text
    one_of_tokens = by (grammar_faults text tokens) refl
      where
        steps : grammar_faults text tokens ≡ [] → (fs : List StudyFault) → study_faults the_doc ≡ fs → One text
        steps e [] s = of_none e s
        steps e (g ∷ gs) s = of_study e g gs s

        by : (fs : List GrammarFault) → grammar_faults text tokens ≡ fs → One text
        by [] e = steps e (study_faults the_doc) refl
        by (g ∷ gs) e = of_grammar g gs e

pub each_says : EachTextLexes → EachTextSays
each_says law text = by (law text).0 (law text).1 (law text).2
  where
    by : (outcome : Result (List Token) LexFault) → LexesTo text outcome → ((other : Result (List Token) LexFault) → LexesTo text other → other ≡ outcome) → One text
    by (Ok tokens) has only = one_of_tokens text tokens has only
    by (Err f) has only = (Err (from_lex f), of_bytes f has, lexical_only text f only)
