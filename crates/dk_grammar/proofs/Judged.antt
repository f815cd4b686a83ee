-- The faults of a token are those by what is known of it.
use Rattle.std.proofs.Common.{◌≡◌, ℕ, Bool, true, false, List, refl}
use Rattle.std.specs.Prelude.{◌&&◌, ◌||◌, is_some}
use Rattle.dk_lex.specs.declared.token.Span.{Span}
use Rattle.dk_lex.specs.declared.token.Token.{Token}
use Rattle.dk_grammar.specs.Lists.{Place}
use Rattle.dk_grammar.specs.Meanings.{is_mode, is_keyword, is_refused}
use Rattle.dk_grammar.specs.Grammar.{token_faults, word, is_word, opens_any, wants_mode, entry_at, is_wanted, is_seen}
use Rattle.dk_grammar.specs.Judging.{faults_by, known_at}
use Rattle.dk_grammar.specs.declared.judge.Known.{Known}

abbrev known : Bool → Bool → Bool → Bool → Bool → Bool → Bool → Bool → Bool → Known
known w o m mode keyword refused e taken seen = record { word = w; opens = o; wants_mode = m; mode = mode; keyword = keyword; refused = refused; entry = e; taken = taken; seen = seen }

-- what isn't looked up makes no difference
masked : (s : Span) (w o m mode keyword refused e taken seen : Bool) →
    faults_by s (known w o m (w && mode) (w && keyword) (w && refused) e taken ((o || e) && seen)) ≡ faults_by s (known w o m mode keyword refused e taken seen)
masked s true true m mode keyword refused e taken seen = refl
masked s true false m mode keyword refused true taken seen = refl
masked s true false true mode keyword refused false taken seen = refl
masked s true false false mode keyword refused false taken seen = refl
masked s false true m mode keyword refused e taken seen = refl
masked s false false m mode keyword refused true taken seen = refl
masked s false false true mode keyword refused false taken seen = refl
masked s false false false mode keyword refused false taken seen = refl

-- so what the code knows of a token gives the token's faults
pub judged : (text : List ℕ) (p : Place Token) → faults_by p.here.span (known_at text p.before p.here) ≡ token_faults text p
judged text p = masked p.here.span (is_word text p.here) (opens_any text p.here) (wants_mode text p.before) (is_mode (word text p.here)) (is_keyword (word text p.here)) (is_refused (word text p.here)) (is_some (entry_at text p.before p.here)) (is_wanted text p.before p.here) (is_seen text p.before p.here)
