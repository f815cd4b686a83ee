-- What reading a text gives, from what its parts give.
use Rattle.std.proofs.Common.{◌≡◌, ℕ, List, [], sym, ap, ◌∙◌, subst}
use Rattle.std.specs.Prelude.{Result, Ok, Err, IfOk}
use Rattle.dk_lex.specs.declared.token.Token.{Token}
use Rattle.dk_lex.specs.declared.token.LexFault.{LexFault}
use Rattle.dk_lex.specs.declared.token.LexFault.TheVariants as lex
use Rattle.dk_lex.specs.Cut.{HasTokens, Lexed}
use Rattle.dk_lex.specs.Spans.{AreSpans, AreStrings}
use Rattle.dk_grammar.specs.declared.parts.GrammarFault.{GrammarFault}
use Rattle.dk_grammar.specs.declared.parts.GrammarFault.TheVariants as grammar
use Rattle.dk_grammar.specs.declared.parts.Tree.{Tree}
use Rattle.dk_grammar.specs.Grammar.{Grown, tree_of}
use Rattle.dk_types.specs.declared.study.Study.{Study}
use Rattle.dk_types.specs.Sound.{IsSound}
use Rattle.dk_reader.specs.declared.document.Document.{Document}
use Rattle.dk_reader.specs.declared.fault.ReadRefusal.{ReadRefusal}
use Rattle.dk_reader.specs.declared.fault.ReadRefusal.TheVariants as refusal
use Rattle.dk_reader.specs.Document.{AreNamed, document_of}
use Rattle.dk_reader.specs.Readable.{AreReadable}
use Rattle.dk_reader.specs.Steps.{study_faults}
use Rattle.dk_reader.specs.Study.{study_of}
use Rattle.dk_reader.specs.Checks.{DocumentRead}
use Rattle.dk_reader.specs.Reading.{HasDocument, of_bytes, of_tokens, of_steps, StudyRead, DocumentOf, lexical_refusal, grammar_refusal}
use Rattle.dk_reader.proofs.Readable.{tree_readable}
use Rattle.dk_reader.proofs.TableEntries.{text_named}
use Rattle.dk_reader.proofs.Sound.{study_is_sound}

module _ (text : List ℕ) where
  pub bytes_refused : (f : LexFault) → Lexed text (Err f) → DocumentOf text (Err (lexical_refusal f))
  bytes_refused (lex.OpenString s) h = of_bytes (lex.OpenString s) h
  bytes_refused (lex.BadByte s) h = of_bytes (lex.BadByte s) h
  bytes_refused lex.NoMemory h = tt

  module _ (tokens : List Token) (has : HasTokens text tokens) where
    pub tokens_refused : (f : GrammarFault) → Grown text tokens (Err f) → DocumentOf text (Err (grammar_refusal f))
    tokens_refused (grammar.UnknownKeyword s) h = of_tokens tokens (grammar.UnknownKeyword s) has h
    tokens_refused (grammar.Unsupported s) h = of_tokens tokens (grammar.Unsupported s) has h
    tokens_refused (grammar.Repeated s) h = of_tokens tokens (grammar.Repeated s) has h
    tokens_refused (grammar.Misplaced s) h = of_tokens tokens (grammar.Misplaced s) has h
    tokens_refused (grammar.MissingBlock b s) h = of_tokens tokens (grammar.MissingBlock b s) has h
    tokens_refused grammar.NoMemory h = tt

    -- a tree without a fault gives the text's document
    pub has_document : (tree : Tree) (d : Document) → Grown text tokens (Ok tree) → d ≡ document_of text tree → HasDocument text d
    has_document tree d h e = record { tokens = tokens; lexes = has; grows = h.0; says = e ∙ ap (document_of text) h.1 }

    pub readable : (tree : Tree) → AreSpans text tokens → AreStrings text tokens → Grown text tokens (Ok tree) → AreReadable text tree.items
    readable tree spans strings h = subst (λ (t : Tree). AreReadable text t.items) (sym h.1) (tree_readable text tokens spans strings)

  -- the keywords of a text's document have their own entries
  pub document_named : (d : Document) → HasDocument text d → AreNamed d.fields
  document_named d has = subst (λ (x : Document). AreNamed x.fields) (sym has.says) (text_named text has.tokens)

  -- the study of the text's document, or its first fault, is the text's
  pub document_read : (d : Document) (result : Result Study ReadRefusal) → HasDocument text d → DocumentRead d result → StudyRead text result
  document_read d (Ok study) has h = record { document = d; has = has; faultless = h.0; study_is = h.1 }
  document_read d (Err (refusal.Study f)) has h = of_steps d f has h
  document_read d (Err refusal.NoMemory) has h = tt

  -- and it is sound
  pub sound_read : (d : Document) (result : Result Study ReadRefusal) → HasDocument text d → DocumentRead d result → IfOk result IsSound
  sound_read d (Ok study) has h =
      let t = tree_of text has.tokens in
      let named : AreNamed (document_of text t).fields = text_named text has.tokens in
      let none : study_faults (document_of text t) ≡ [] = ap study_faults (sym has.says) ∙ h.0 in
      let is : study ≡ study_of (document_of text t) = h.1 ∙ ap study_of has.says in
      subst IsSound (sym is) (study_is_sound text t named none)
  sound_read d (Err f) has h = tt
