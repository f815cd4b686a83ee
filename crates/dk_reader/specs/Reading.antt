-- A text says one study, or has a first fault.
use Rattle.std.specs.Prelude.{◌≡◌, ℕ, List, [], Result, Ok, Err}
use Rattle.dk_lex.specs.declared.token.Span.{Span}
use Rattle.dk_lex.specs.declared.token.Token.{Token}
use Rattle.dk_lex.specs.declared.token.LexFault.{LexFault}
use Rattle.dk_lex.specs.declared.token.LexFault.TheVariants as lex
use Rattle.dk_lex.specs.Cut.{HasTokens, IsFirstLexFault}
use Rattle.dk_grammar.specs.declared.parts.GrammarFault.{GrammarFault}
use Rattle.dk_grammar.specs.declared.parts.GrammarFault.TheVariants as grammar
use Rattle.dk_grammar.specs.Lists.{IsFirst}
use Rattle.dk_grammar.specs.Grammar.{grammar_faults, tree_of}
use Rattle.dk_types.specs.declared.study.Study.{Study}
use Rattle.dk_reader.specs.declared.fault.StudyKind.{StudyKind}
use Rattle.dk_reader.specs.declared.fault.StudyKind.TheVariants as kind
use Rattle.dk_reader.specs.declared.fault.StudyFault.{StudyFault}
use Rattle.dk_reader.specs.declared.document.Document.{Document}
use Rattle.dk_reader.specs.declared.fault.ReadRefusal.{ReadRefusal}
use Rattle.dk_reader.specs.declared.fault.ReadRefusal.TheVariants as refusal
use Rattle.dk_reader.specs.Document.{document_of, empty_span}
use Rattle.dk_reader.specs.Steps.{study_faults, fault}
use Rattle.dk_reader.specs.Study.{study_of}

abbrev pub from_lex : LexFault → StudyFault
from_lex (lex.OpenString s) = fault kind.OpenString s
from_lex (lex.BadByte s) = fault kind.BadByte s
from_lex lex.NoMemory = fault kind.BadByte empty_span

abbrev pub from_grammar : GrammarFault → StudyFault
from_grammar (grammar.UnknownKeyword s) = fault kind.UnknownKeyword s
from_grammar (grammar.Unsupported s) = fault kind.Unsupported s
from_grammar (grammar.Repeated s) = fault kind.Repeated s
from_grammar (grammar.Misplaced s) = fault kind.Misplaced s
from_grammar (grammar.MissingBlock b s) = fault kind.MissingBlock s
from_grammar grammar.NoMemory = fault kind.MissingBlock empty_span

-- the text is cut into tokens without a fault, and they say this
pub record HasDocument (text : List ℕ) (d : Document) : Type 0 where
  pub tokens : List Token
  pub lexes : HasTokens text tokens
  pub grows : grammar_faults text tokens ≡ []
  pub says : d ≡ document_of text (tree_of text tokens)

-- the first fault of a text: of its bytes, else of its tokens, else of its steps
pub data HasFault (text : List ℕ) : StudyFault → Type 0 where
  of_bytes : (f : LexFault) → IsFirstLexFault text f → HasFault text (from_lex f)
  of_tokens : (tokens : List Token) (f : GrammarFault) → HasTokens text tokens → IsFirst f (grammar_faults text tokens) → HasFault text (from_grammar f)
  of_steps : (d : Document) (f : StudyFault) → HasDocument text d → IsFirst f (study_faults d) → HasFault text f

-- the text has no fault and says this study
pub record Reads (text : List ℕ) (study : Study) : Type 0 where
  pub document : Document
  pub has : HasDocument text document
  pub faultless : study_faults document ≡ []
  pub study_is : study ≡ study_of document

abbrev pub Says : List ℕ → Result Study StudyFault → Type 0
Says text (Ok study) = Reads text study
Says text (Err f) = HasFault text f

abbrev pub StudyRead : List ℕ → Result Study ReadRefusal → Type 0
StudyRead text (Ok study) = Reads text study
StudyRead text (Err (refusal.Study f)) = HasFault text f
StudyRead text (Err refusal.NoMemory) = Unit {0}

-- each text has just one study or just one first fault
abbrev pub EachTextSays : Type 0
EachTextSays = (text : List ℕ) → (outcome : Result Study StudyFault) × Says text outcome × ((other : Result Study StudyFault) → Says text other → other ≡ outcome)

abbrev pub refused : StudyKind → Span → ReadRefusal
refused k s = refusal.Study (fault k s)

-- a fault of the bytes as a refusal
abbrev pub lexical_refusal : LexFault → ReadRefusal
lexical_refusal lex.NoMemory = refusal.NoMemory
lexical_refusal f = refusal.Study (from_lex f)

-- a fault of the tokens as a refusal
abbrev pub grammar_refusal : GrammarFault → ReadRefusal
grammar_refusal grammar.NoMemory = refusal.NoMemory
grammar_refusal f = refusal.Study (from_grammar f)

-- the document of a text, or a fault of its bytes or tokens
abbrev pub DocumentOf : List ℕ → Result Document ReadRefusal → Type 0
DocumentOf text (Ok d) = HasDocument text d
DocumentOf text (Err (refusal.Study f)) = HasFault text f
DocumentOf text (Err refusal.NoMemory) = Unit {0}
