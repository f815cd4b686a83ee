-- How many bytes a parameters file takes at most.
use Rattle.std.proofs.Common.{◌≡◌, ℕ, suc, ◌+◌, ◌*◌, ◌^◌, ◌<◌, ◌≤◌, ◌&&◌, ◌||◌, ◌==◌, Bool, true, false, List, [], ◌∷◌, ◌++◌, length, map, refl, ap, arith, nat_le, length-append, length-take, length-drop}
use Rattle.std.specs.Prelude.{IsTrue, codes, decimal, ℤ, pos, neg_ℤ, ◌≤ℤ◌, unsigned_abs, int_lt, nat_lt, if◌then◌else◌}
use Rattle.std.specs.List.{All, list_all, flat_map, enumerate_from}
use Rattle.std.specs.Char.{is_ascii_alphabetic}
use Rattle.std.proofs.lemmas.Bool.{and_parts, leb-true, ltb-true, eqb-false}
use Rattle.std.proofs.lemmas.Int.{ints}
use Rattle.std.proofs.lemmas.List.{length-replicate}
use Rattle.std.proofs.lemmas.List.Concat.{flat_map-append}
use Rattle.std.proofs.lemmas.List.Elements.{All-head, All-tail}
use Rattle.dk_num.specs.Decimal.{Decimal, IsCanonical, is_zero, leading}
use Rattle.dk_num.specs.Texts.{sci_text, joined, sign_text, pointed_fully, exponent_text, places_text}
use Rattle.dk_num.proofs.Lengths.{one_digit, four_digits, mantissa_length}
use Rattle.dk_types.specs.Labels.{is_label, is_visible, AreLabels}
use Rattle.dk_types.specs.declared.study.ParamForm.{ParamForm}
use Rattle.dk_types.specs.declared.study.ParamForm.TheVariants.{Standard, Aprepro}
use Rattle.dk_params.specs.Params.{Line, line, line_text, numbered, tags, count_line, variable_lines, asked_lines, derivative_lines, lines_with, params_of}
use Rattle.dk_params.specs.Pages.{AreShort}
use Rattle.dk_params.specs.Bounds.{bound_of, CoversEach}
use Rattle.dk_params.specs.declared.task.Task.{Task}
use Rattle.dk_params.proofs.Lines.{ten_digits}

-- one of two texts
cond_few : (b : Bool) (x y : List ℕ) (k : ℕ) → length x ≤ k → length y ≤ k → length (if b then x else y) ≤ k
cond_few true x y k h h' = h
cond_few false x y k h h' = h'

places_few : (mark : List ℕ) (n : ℕ) → length mark ≤ 2 → n ≤ 9999 → length (places_text mark n) ≤ 6
places_few mark n h le = by (nat_lt n 10) refl
  where
    by : (b : Bool) → nat_lt n 10 ≡ b → length (joined (mark ∷ (if b then codes "0" else []) ∷ decimal n ∷ [])) ≤ 6
    by true e = let d = one_digit n (ltb-true n 10 e) in simp length-append (omega (arith, d, h))
    by false e = let d = four_digits n le in simp length-append (omega (arith, d, h))

exponent_few : (e : ℤ) → unsigned_abs e ≤ 9999 → length (exponent_text e) ≤ 6
exponent_few e h = cond_few (int_lt e (pos 0)) _ _ 6 (places_few (codes "e-") (unsigned_abs e) (omega arith) h) (places_few (codes "e+") (unsigned_abs e) (omega arith) h)

pointed_few : (ds : List ℕ) → length ds ≤ 34 → length (pointed_fully ds) ≤ 35
pointed_few ds h = simp (length-append, length-take, length-drop, length-replicate) (omega arith)

sign_few : (z : ℤ) → length (sign_text z) ≤ 1
sign_few z = cond_few (int_lt z (pos 0)) (codes "-") [] 1 (omega arith) (omega arith)

near : (z : ℤ) → neg_ℤ (pos 9999) ≤ℤ z → z ≤ℤ pos 9999 → unsigned_abs z ≤ 9999
near z low high = omega (arith, ints)

-- the power of ten of the first digit of a decimal that isn't zero
pub leading_near : (d : Decimal) → IsCanonical d → is_zero d ≡ false → unsigned_abs (leading d) ≤ 9999
leading_near d canonical e =
    let f : unsigned_abs d.mantissa ≡ 0 → ⊥ = eqb-false (unsigned_abs d.mantissa) 0 e in
    let some : 0 < unsigned_abs d.mantissa = omega (arith, f) in
    near (leading d) (canonical.lowest some) (canonical.highest some)

three_few : (x y z : List ℕ) → length x ≤ 1 → length y ≤ 35 → length z ≤ 6 → length (x ++ (y ++ z)) ≤ 42
three_few x y z h h' h'' = simp length-append (omega arith)

-- the text of a decimal
sci_few : (d : Decimal) → IsCanonical d → length (sci_text d) ≤ 42
unfolding sci_text
sci_few d canonical = by (is_zero d) refl
  where
    n : ℕ
    n = unsigned_abs d.mantissa

    by : (b : Bool) → is_zero d ≡ b →
        length (if b then pointed_fully (codes "0") ++ exponent_text (pos 0) else sign_text d.mantissa ++ (pointed_fully (decimal n) ++ exponent_text (leading d))) ≤ 42
    by true e = three_few [] (pointed_fully (codes "0")) (exponent_text (pos 0)) (omega arith) (pointed_few (codes "0") (omega arith)) (exponent_few (pos 0) (omega arith))
    by false e =
        let x : length (exponent_text (leading d)) ≤ 6 = exponent_few (leading d) (leading_near d canonical e) in
        let p : length (pointed_fully (decimal n)) ≤ 35 = pointed_few (decimal n) (mantissa_length n canonical.small) in
        let s : length (sign_text d.mantissa) ≤ 1 = sign_few d.mantissa in
        three_few (sign_text d.mantissa) (pointed_fully (decimal n)) (exponent_text (leading d)) s p x

-- a line that is as short as any is
record IsShort (l : Line) : Type 0 where
  pub short_value : length l.value ≤ 42
  pub short_tag : length l.tag ≤ 270

line_few : (form : ParamForm) (l : Line) → IsShort l → length (line_text form l) ≤ 320
line_few Standard l h = simp (length-append, length-replicate) (omega (arith, h.short_value, h.short_tag))
line_few Aprepro l h = simp length-append (omega (arith, h.short_value, h.short_tag))

-- lines that take no more than so many
record Few (form : ParamForm) (count : ℕ) (lines : List Line) : Type 0 where
  pub most : length (flat_map (line_text form) lines) ≤ count * 320

few_cons : (form : ParamForm) (k : ℕ) (l : Line) (ls : List Line) → IsShort l → Few form k ls → Few form (suc k) (l ∷ ls)
few_cons form k l ls h h' = let n = line_few form l h in record { most = omega (arith, n, h'.most, length-append (line_text form l) (flat_map (line_text form) ls)) }

few_append : (form : ParamForm) (j k : ℕ) (ls ms : List Line) → Few form j ls → Few form k ms → Few form (j + k) (ls ++ ms)
few_append form j k ls ms h h' =
    let n = ap length (flat_map-append (line_text form) ls ms) in
    record { most = omega (arith, n, length-append (flat_map (line_text form) ls) (flat_map (line_text form) ms), h.most, h'.most) }

few_none : (form : ParamForm) → Few form 0 []
few_none form = record { most = omega arith }

label_few : (label : List ℕ) → is_label label ≡ true → length label ≤ 255
label_few [] h = absurd (cc)
label_few (b ∷ bs) h = leb-true (length (b ∷ bs)) 255 ((and_parts ((is_ascii_alphabetic b || b == 95) && list_all is_visible (b ∷ bs)) (nat_le (length (b ∷ bs)) 255) h).1)

-- each may be a label
abbrev pub AllLabels : List (List ℕ) → Type 0
AllLabels labels = All (λ label. IsTrue (is_label label)) labels

ten_most : (n : ℕ) → n < 2 ^ 32 → length (decimal n) ≤ 42
ten_most n h = let d = ten_digits n h in omega (arith, d)

numbered_few : (prefix label : List ℕ) (n : ℕ) → length prefix ≤ 4 → n < 2 ^ 32 → is_label label ≡ true → length (numbered prefix n label) ≤ 270
numbered_few prefix label n h lt is = let d = ten_digits n lt in let l = label_few label is in simp length-append (omega (arith, d, l, h))

variables_few : (form : ParamForm) (labels : List (List ℕ)) (point : List Decimal) → AllLabels labels → All IsCanonical point → Few form (length labels) (variable_lines labels point)
variables_few form [] point are all = few_none form
variables_few form (label ∷ labels) [] are all = record { most = omega arith }
variables_few form (label ∷ labels) (x ∷ point) are all =
    let rest = variables_few form labels point (All-tail (λ l. IsTrue (is_label l)) label labels are) (All-tail IsCanonical x point all) in
    let first = label_few label (All-head (λ l. IsTrue (is_label l)) label labels are) in
    few_cons form (length labels) (line (sci_text x) label) (variable_lines labels point)
    (record { short_value = sci_few x (All-head IsCanonical x point all); short_tag = omega (arith, first) }) rest

-- numbered lines, each of which is short
numbered_lines_few : (form : ParamForm) (f : ℕ × List ℕ → Line) (labels : List (List ℕ)) (from : ℕ) → from + length labels < 2 ^ 32 → AllLabels labels →
    ((n : ℕ) (label : List ℕ) → n < 2 ^ 32 → is_label label ≡ true → IsShort (f (n, label))) → Few form (length labels) (map f (enumerate_from from labels))
numbered_lines_few form f [] from lt are each = few_none form
numbered_lines_few form f (label ∷ labels) from lt are each =
    few_cons form (length labels) (f (from, label)) (map f (enumerate_from (from + 1) labels))
    (each from label (omega arith) (All-head (λ l. IsTrue (is_label l)) label labels are))
    (numbered_lines_few form f labels (from + 1) (omega arith) (All-tail (λ l. IsTrue (is_label l)) label labels are) each)

tags_short : (form : ParamForm) → AreShort (tags form)
tags_short Standard = record { variables = omega arith; functions = omega arith; derivatives = omega arith; components = omega arith; evaluation = omega arith }
tags_short Aprepro = record { variables = omega arith; functions = omega arith; derivatives = omega arith; components = omega arith; evaluation = omega arith }

count_short : (n : ℕ) (tag : List ℕ) → n < 2 ^ 32 → length tag ≤ 270 → IsShort (count_line n tag)
count_short n tag lt h = record { short_value = ten_most n lt; short_tag = h }

pub covered : (task : Task) (most : ℕ) → AreLabels task.variables → AreLabels task.responses → most ≡ bound_of task → CoversEach task most
covered task most vs rs is evaluation point lt width all =
    let form = task.interface.form in
    let t = tags form in
    let short = tags_short form in
    let n = length task.variables in
    let m = length task.responses in
    let few = vs.few in
    let few' = rs.few in
    let line8 : Few form 1 (count_line evaluation t.evaluation ∷ []) = few_cons form 0 _ [] (count_short evaluation t.evaluation lt short.evaluation) (few_none form) in
    let line7 : Few form 2 _ = few_cons form 1 _ _ (count_short 0 t.components (omega arith) short.components) line8 in
    let lines6 : Few form n (derivative_lines task.variables)
    = numbered_lines_few form (λ (number, label). line (decimal number) (numbered (codes "DVV_") number label)) task.variables 1 (omega (arith, few)) vs.each
    (λ k label below is. record { short_value = ten_most k below; short_tag = numbered_few (codes "DVV_") label k (omega arith) below is }) in
    let line5 = few_cons form (n + 2) _ _ (count_short n t.derivatives (omega (arith, few)) short.derivatives) (few_append form n 2 _ _ lines6 line7) in
    let lines4 : Few form m (asked_lines task.responses)
    = numbered_lines_few form (λ (number, label). line (codes "1") (numbered (codes "ASV_") number label)) task.responses 1 (omega (arith, few')) rs.each
    (λ k label below is. record { short_value = omega arith; short_tag = numbered_few (codes "ASV_") label k (omega arith) below is }) in
    let line3 = few_cons form (m + suc (n + 2)) _ _ (count_short m t.functions (omega (arith, few')) short.functions) (few_append form m (suc (n + 2)) _ _ lines4 line5) in
    let lines2 = variables_few form task.variables point vs.each all in
    let line1 : Few form (suc (n + suc (m + suc (n + 2)))) (lines_with t task.variables task.responses evaluation point)
    = few_cons form (n + suc (m + suc (n + 2))) _ _ (count_short n t.variables (omega (arith, few)) short.variables) (few_append form n (suc (m + suc (n + 2))) _ _ lines2 line3) in
    let all_lines : length (params_of task evaluation point) ≤ suc (n + suc (m + suc (n + 2))) * 320 = line1.most in
    omega (arith, all_lines, is)
