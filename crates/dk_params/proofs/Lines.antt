-- The texts of lines in parts, and how long they are.
use Rattle.std.proofs.Common.{◌≡◌, ℕ, ◌+◌, ◌≤◌, List, ◌++◌, length, refl, ap, subst, ◌∙◌, append_assoc, arith, lit<, ◌<◌, ◌^◌, length-append}
use Rattle.std.proofs.lemmas.Fmt.{length-decimal-le}
use Rattle.std.proofs.lemmas.List.{length-replicate}
use Rattle.std.specs.Prelude.{decimal}
use Rattle.dk_types.specs.declared.study.ParamForm.{ParamForm}
use Rattle.dk_types.specs.declared.study.ParamForm.TheVariants.{Standard, Aprepro}
use Rattle.dk_params.specs.Params.{line, line_text, numbered}
use Rattle.dk_params.specs.Pages.{Adds, AddsLine, HasRoom, FitsLine, opening, closing}
use Rattle.dk_params.specs.declared.page.Page.{Page}

pub ten_digits : (n : ℕ) → n < 2 ^ 32 → length (decimal n) ≤ 10
ten_digits n h = length-decimal-le 10 n (lit< tt) (omega arith) (omega arith)

-- a line's text is what stands before its tag, the tag and what stands behind it
line_parts : (form : ParamForm) (value tag : List ℕ) → opening form value ++ (tag ++ closing form value) ≡ line_text form (line value tag)
line_parts Standard value tag = simp append_assoc refl
line_parts Aprepro value tag = refl

-- what stands round the tag has at most 8 bytes and the value's, or 24
round_tag : (form : ParamForm) (value : List ℕ) → length value ≤ 42 → length (opening form value) + length (closing form value) ≤ 50
round_tag Standard value h = simp (length-append, length-replicate) (omega arith)
round_tag Aprepro value h = simp length-append (omega arith)

-- one piece and then another
pub then : {a b c : Page} {x y : List ℕ} → Adds a b x → Adds b c y → Adds a c (x ++ y)
then {a} {b} {c} {x} {y} h k = record {
  same = k.same ∙ h.same;
  room = k.room ∙ h.room;
  form = k.form ∙ h.form;
  length = simp length-append (omega (arith, h.length, k.length));
  text = k.text ∙ ap (λ t. t ++ y) h.text ∙ append_assoc _ x y;
}

pub same_bytes : {a b : Page} {x y : List ℕ} → x ≡ y → Adds a b x → Adds a b y
same_bytes {a} {b} e h = subst (Adds a b) e h

module _ {a : Page} {value tag : List ℕ} (fits : FitsLine a value tag) where
  pub opens : HasRoom a (length (opening a.form value))
  opens = let r = round_tag a.form value fits.short_value in omega (arith, fits.room)

  pub tags : {b : Page} → Adds a b (opening a.form value) → HasRoom b (length tag)
  tags h = let r = round_tag a.form value fits.short_value in omega (arith, fits.room, fits.short_tag, h.room, h.length)

  pub closes : {b c : Page} → Adds a b (opening a.form value) → Adds b c tag → HasRoom c (length (closing c.form value))
  closes {b} {c} h k =
      let r = round_tag a.form value fits.short_value in
      let e : length (closing c.form value) ≡ length (closing a.form value) = ap (λ f. length (closing f value)) (k.form ∙ h.form) in
      omega (arith, fits.room, fits.short_tag, h.room, h.length, k.room, k.length)

  pub whole : {b c d : Page} → Adds a b (opening a.form value) → Adds b c tag → Adds c d (closing c.form value) → AddsLine a d (line_text a.form (line value tag))
  whole {b} {c} {d} h k l =
      let r = round_tag a.form value fits.short_value in
      let e : length (closing c.form value) ≡ length (closing a.form value) = ap (λ f. length (closing f value)) (k.form ∙ h.form) in
      record {
        adds = same_bytes (line_parts a.form value tag) (then h (then k (same_bytes (ap (λ f. closing f value) (k.form ∙ h.form)) l)));
        short = omega (arith, fits.short_tag, h.length, k.length, l.length);
      }

-- a numbered line fits where its label and its prefix are short
pub fits_numbered : (page : Page) (value prefix label : List ℕ) (n : ℕ) → HasRoom page 320 → length value ≤ 42 → length prefix ≤ 4 → n < 2 ^ 32 → length label ≤ 255 →
    FitsLine page value (numbered prefix n label)
fits_numbered page value prefix label n room short few below h = record {
  room = room;
  short_value = short;
  short_tag = let d = ten_digits n below in simp length-append (omega (arith, d, few, h));
}
