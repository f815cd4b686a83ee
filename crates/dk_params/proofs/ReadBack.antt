-- That a file's lines and its point are read back.
use Rattle.std.proofs.Common.{◌≡◌, ℕ, ◌||◌, Bool, true, false, not, List, [], ◌∷◌, ◌++◌, length, drop, map, cond, refl, ap, ◌∙◌, arith}
use Rattle.std.specs.Prelude.{Option, Some, Result, Ok, option_map}
use Rattle.std.specs.List.{All, find, list_any}
use Rattle.std.specs.Str.{bytes_eq}
use Rattle.std.proofs.lemmas.Bool.{and_parts, and_from, not-true, eq-eqb}
use Rattle.std.proofs.lemmas.List.Elements.{All-head, All-tail}
use Rattle.dk_num.specs.Decimal.{Decimal, IsCanonical}
use Rattle.dk_num.specs.Numbers.{read_of}
use Rattle.dk_num.specs.Texts.{sci_text}
use Rattle.dk_num.specs.declared.read.NumFault.{NumFault}
use Rattle.dk_num.proofs.ReadsBack.{sci_reads}
use Rattle.dk_types.specs.Labels.{are_distinct}
use Rattle.dk_params.specs.Params.{Line, line, tags, lines_with, variable_lines}
use Rattle.dk_params.specs.Reading.{value_of, EachLineIsRead, EachPointIsRead}
use Rattle.dk_params.proofs.Words.{lines_read}
use Rattle.dk_params.proofs.Visible.{lines_plain}

pub each_line_is_read : EachLineIsRead
each_line_is_read form variables responses evaluation point vs rs lt width all =
    lines_read form (lines_with (tags form) variables responses evaluation point) (lines_plain form variables responses evaluation point vs rs lt all).each

-- the number that stands with a label
abbrev number_of : List Line → List ℕ → Option (Result Decimal NumFault)
number_of lines label = option_map read_of (value_of label lines)

either_false : (x y : Bool) → (x || y) ≡ false → (x ≡ false) × (y ≡ false)
either_false true y h = absurd (cc)
either_false false y h = (refl, h)

-- a line with this tag
found_first : (value tag label : List ℕ) (lines : List Line) → bytes_eq tag label ≡ true → number_of (line value tag ∷ lines) label ≡ Some (read_of value)
found_first value tag label lines h =
    ap (λ t. option_map read_of (option_map (λ (l : Line). l.value) (cond t (Some (line value tag)) (find (λ (l : Line). bytes_eq l.tag label) lines)))) h

-- a line with another tag
found_later : (value tag label : List ℕ) (lines : List Line) → bytes_eq tag label ≡ false → number_of (line value tag ∷ lines) label ≡ number_of lines label
found_later value tag label lines h =
    ap (λ t. option_map read_of (option_map (λ (l : Line). l.value) (cond t (Some (line value tag)) (find (λ (l : Line). bytes_eq l.tag label) lines)))) h

cons_same : {A : Type 0} {x y : A} {xs ys : List A} → x ≡ y → xs ≡ ys → x ∷ xs ≡ y ∷ ys
cons_same {A} {x} {y} {xs} {ys} p q = ap (λ h. h ∷ xs) p ∙ ap (λ t. y ∷ t) q

-- a line with a tag that is none of these labels
passed : (value tag : List ℕ) (lines : List Line) (labels : List (List ℕ)) → list_any (bytes_eq tag) labels ≡ false →
    map (number_of (line value tag ∷ lines)) labels ≡ map (number_of lines) labels
passed value tag lines [] h = refl
passed value tag lines (label ∷ labels) h =
    let e = either_false (bytes_eq tag label) (list_any (bytes_eq tag) labels) h in
    cons_same (found_later value tag label lines e.0) (passed value tag lines labels e.1)

same : (bs : List ℕ) → bytes_eq bs bs ≡ true
same [] = refl
same (b ∷ bs) = and_from _ _ (eq-eqb b b refl) (same bs)

numbers_read : (labels : List (List ℕ)) (point : List Decimal) (lines : List Line) → are_distinct labels ≡ true → length point ≡ length labels → All IsCanonical point →
    map (number_of (variable_lines labels point ++ lines)) labels ≡ map (λ x. Some (Ok x)) point
numbers_read [] [] lines h width all = refl
numbers_read [] (x ∷ point) lines h width all = absurd (omega arith)
numbers_read (label ∷ labels) [] lines h width all = absurd (omega arith)
numbers_read (label ∷ labels) (x ∷ point) lines h width all =
    let apart = and_parts (not (list_any (bytes_eq label) labels)) (are_distinct labels) h in
    let others = variable_lines labels point ++ lines in
    let narrower : length point ≡ length labels = omega arith in
    cons_same (found_first (sci_text x) label label others (same label) ∙ ap Some (sci_reads x (All-head IsCanonical x point all)))
    (passed (sci_text x) label others labels (not-true _ apart.0) ∙ numbers_read labels point lines apart.1 narrower (All-tail IsCanonical x point all))

pub each_point_is_read : EachPointIsRead
each_point_is_read form variables responses evaluation point vs rs lt width all =
    ap (λ ls. map (number_of (drop 1 ls)) variables) (each_line_is_read form variables responses evaluation point vs rs lt width all)
    ∙ numbers_read variables point _ vs.distinct width all
