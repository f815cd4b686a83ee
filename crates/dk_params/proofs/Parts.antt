-- A text that is written line by line.
use Rattle.std.proofs.Common.{◌≡◌, ℕ, ◌+◌, ◌*◌, ◌≤◌, List, [], ◌∷◌, ◌++◌, refl, ap, sym, arith}
use Rattle.std.specs.List.{flat_map}
use Rattle.std.proofs.lemmas.List.{append-nil}
use Rattle.std.proofs.lemmas.List.Concat.{flat_map-append}
use Rattle.dk_params.specs.Params.{Line, line_text}
use Rattle.dk_params.specs.Pages.{Adds, AddsLine, AddsLines}
use Rattle.dk_params.specs.declared.page.Page.{Page}
use Rattle.dk_params.proofs.Lines.{then, same_bytes}

-- so many lines went in, a front of the text, and the rest is to come
pub record Part (old new : Page) (count : ℕ) (rest whole : List ℕ) : Type 0 where
  pub front : List ℕ
  pub adds : Adds old new front
  pub is : front ++ rest ≡ whole
  pub short : new.length ≤ old.length + count * 320

-- these lines went in, so many of them
pub record Written (old new : Page) (count : ℕ) (lines : List Line) : Type 0 where
  pub adds : Adds old new (flat_map (line_text old.form) lines)
  pub short : new.length ≤ old.length + count * 320

pub written_none : (a : Page) → Written a a 0 []
written_none a = record {
  adds = record { same = refl; room = refl; form = refl; length = omega arith; text = sym (append-nil _) };
  short = omega arith;
}

-- further lines
pub written_lines : {a b c : Page} {n m : ℕ} {ls : List Line} (ms : List Line) → Written a b n ls → AddsLines b c m (flat_map (line_text b.form) ms) → Written a c (n + m) (ls ++ ms)
written_lines {a} {b} {c} {n} {m} {ls} ms was more = record {
  adds = same_bytes (sym (flat_map-append (line_text a.form) ls ms)) (then was.adds (same_bytes (ap (λ f. flat_map (line_text f) ms) was.adds.form) more.adds));
  short = omega (arith, was.short, more.short);
}

-- a further line
pub written_line : {a b c : Page} {n : ℕ} {ls : List Line} (l : Line) → Written a b n ls → AddsLine b c (line_text b.form l) → Written a c (n + 1) (ls ++ (l ∷ []))
written_line {a} {b} {c} {n} {ls} l was more =
    written_lines {m = 1} (l ∷ []) was (record { adds = same_bytes (sym (append-nil (line_text b.form l))) more.adds; short = omega (arith, more.short) })

-- all lines
pub written_all : {a b : Page} {n m : ℕ} {ls : List Line} (ms : List Line) → Written a b n ls → ls ≡ ms → n ≤ m → AddsLines a b m (flat_map (line_text a.form) ms)
written_all {a} ms was e h = record { adds = same_bytes (ap (flat_map (line_text a.form)) e) was.adds; short = omega (arith, was.short) }
