-- The faults of a token, by what is known of it.
use Rattle.std.specs.Prelude.{◌≤◌, ℕ, length, is_some, List, ◌++◌, ◌&&◌, ◌||◌, not, if◌then◌else◌}
use Rattle.std.specs.List.{All}
use Rattle.dk_lex.specs.declared.token.Span.{Span}
use Rattle.dk_lex.specs.declared.token.Token.{Token}
use Rattle.dk_grammar.specs.Lists.{when}
use Rattle.dk_grammar.specs.Meanings.{is_mode, is_keyword, is_refused}
use Rattle.dk_grammar.specs.Grammar.{word, is_word, opens_any, wants_mode, entry_at, is_wanted, is_seen}
use Rattle.dk_grammar.specs.declared.judge.Known.{Known}
use Rattle.dk_grammar.specs.declared.parts.GrammarFault.{GrammarFault}
use Rattle.dk_grammar.specs.declared.parts.GrammarFault.TheVariants.{UnknownKeyword, Unsupported, Repeated, Misplaced}

-- the faults of a token of which this is known
abbrev pub faults_by : Span → Known → List GrammarFault
faults_by span k =
    when (k.word && not k.opens && (if k.wants_mode then not k.mode else not (k.keyword || k.refused))) (UnknownKeyword span)
    ++ when (k.word && not k.opens && not k.wants_mode && k.refused) (Unsupported span)
    ++ when (if k.word then not (k.opens || k.wants_mode) && k.keyword && not k.entry else not k.taken) (Misplaced span)
    ++ when (if k.opens then k.seen else not k.wants_mode && k.entry && k.seen) (Repeated span)

-- what the faults need: words are looked up for word tokens alone, and sought among the earlier ones for blocks and
-- their keywords alone
abbrev pub known_at : List ℕ → List Token → Token → Known
known_at text before t = record {
  word = is_word text t;
  opens = opens_any text t;
  wants_mode = wants_mode text before;
  mode = is_word text t && is_mode (word text t);
  keyword = is_word text t && is_keyword (word text t);
  refused = is_word text t && is_refused (word text t);
  entry = is_some (entry_at text before t);
  taken = is_wanted text before t;
  seen = (opens_any text t || is_some (entry_at text before t)) && is_seen text before t;
}

-- the token lies in the text
abbrev pub IsSpan : List ℕ → Token → Type 0
IsSpan text t = (t.span.from ≤ t.span.to) × (t.span.to ≤ length text)

-- the tokens lie in the text
abbrev pub AreSpans : List ℕ → List Token → Type 0
AreSpans text tokens = All (IsSpan text) tokens
