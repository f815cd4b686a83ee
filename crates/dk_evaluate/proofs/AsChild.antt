-- A study that a child's answers decide is decided as it is over the child alone.
use Rattle.std.proofs.Common.{◌≡◌, ℕ, Bool, true, false, List, [], ◌∷◌, ◌++◌, map, Option, Some, None, ◌==◌, ◌&&◌, cond, refl, sym, ap, ◌∙◌, arith, ℤ}
use Rattle.std.specs.List.{All}
use Rattle.std.specs.Option.{option_or}
use Rattle.std.specs.Ordering.{is_eq, int_cmp}
use Rattle.std.specs.declared.cmp.Ordering.{Ordering}
use Rattle.std.specs.declared.cmp.Ordering.TheVariants.{Less, Equal, Greater}
use Rattle.std.proofs.lemmas.Cmp.{int_ranked}
use Rattle.std.proofs.lemmas.Grind.{common_steps}
use Rattle.std.proofs.lemmas.List.Elements.{All-head, All-tail}
use Rattle.dk_num.specs.Decimal.{Decimal}
use Rattle.dk_num.specs.Arithmetic.{decimal_cmp, whole_value}
use Rattle.dk_num.specs.Units.{IsUnitExponent, in_units}
use Rattle.dk_num.proofs.UnitLaws.{units_canonical}
use Rattle.dk_num.proofs.ValueLaws.{one_for_a_value}
use Rattle.dk_types.specs.declared.study.Study.{Study}
use Rattle.dk_types.specs.declared.study.Ending.{Ending}
use Rattle.dk_types.specs.declared.entry.Entry.{Entry}
use Rattle.dk_types.specs.declared.entry.Said.{Said}
use Rattle.dk_types.specs.declared.rows.Row.{Row}
use Rattle.dk_types.specs.Best.{same_point}
use Rattle.dk_types.specs.Planned.{next, At}
use Rattle.dk_types.specs.Sound.{IsSound}
use Rattle.dk_types.specs.Entries.{said}
use Rattle.dk_types.specs.Answers.{Answer, Value, Dead}
use Rattle.dk_types.specs.Laws.{answer_in}
use Rattle.dk_types.specs.EntryLaws.{AreAnswersOf, is_answered}
use Rattle.dk_types.specs.Solo.{Alone, finished, aborted, goes_on, outcomes_of, Child, Ended, Open, Seq, Solo, with_row}
use Rattle.dk_types.proofs.Alone.{rows_in_order}
use Rattle.dk_types.proofs.Attempts.{said_append, said_one}
use Rattle.dk_types.proofs.Growth.{answer_stays}
use Rattle.dk_method.specs.Laws.{IsSmall}
use Rattle.dk_method.proofs.NextSmall.{IsOfUnits, each_next_is_small}
use Rattle.dk_evaluate.specs.Evaluated.{IsAnswerOf, AreWaitedFor}

-- Points of one unit that are one have the same decimals

equal_from : (a b : ℤ) → is_eq (int_cmp a b) ≡ true → a ≡ b
equal_from a b e = at (int_cmp a b) refl e
  where
    at : (o : Ordering) → int_cmp a b ≡ o → is_eq o ≡ true → a ≡ b
    at Less is e = absurd (cc)
    at Equal is e = int_ranked a b Equal (sym is)
    at Greater is e = absurd (cc)

both : (a b : Bool) → (a && b) ≡ true → (a ≡ true) × (b ≡ true)
both true true e = (refl, refl)
both true false e = absurd (cc)
both false b e = absurd (cc)

points_same : (e : ℤ) (ks ls : List ℤ) → IsUnitExponent e → All IsSmall ks → All IsSmall ls → same_point (map (in_units e) ks) (map (in_units e) ls) ≡ true → map (in_units e) ks ≡ map (in_units e) ls
points_same e [] [] unit a b h = refl
points_same e [] (l ∷ ls) unit a b h = absurd (cc)
points_same e (k ∷ ks) [] unit a b h = absurd (cc)
points_same e (k ∷ ks) (l ∷ ls) unit a b h =
    let x = in_units e k in
    let y = in_units e l in
    let t = both (is_eq (decimal_cmp x y)) (same_point (map (in_units e) ks) (map (in_units e) ls)) h in
    let first : x ≡ y = one_for_a_value x y (units_canonical e k unit (All-head IsSmall k ks a)) (units_canonical e l unit (All-head IsSmall l ls b)) (equal_from (whole_value x) (whole_value y) t.0) in
    ap (λ (d : Decimal). d ∷ map (in_units e) ks) first ∙ ap (λ ds. y ∷ ds) (points_same e ks ls unit (All-tail IsSmall k ks a) (All-tail IsSmall l ls b) t.1)

-- a point that comes next behind some rows
abbrev IsPlanned : Study → List Decimal → Type 0
IsPlanned study p = (rows : List Row) × (next study rows ≡ At p)

planned_same : (study : Study) (p q : List Decimal) → IsSound study → IsPlanned study p → IsPlanned study q → same_point p q ≡ true → p ≡ q
planned_same study p q sound a b h =
    let x : IsOfUnits study p = each_next_is_small study a.0 p sound a.1 in
    let y : IsOfUnits study q = each_next_is_small study b.0 q sound b.1 in
    let e : ℤ = study.unit.exponent in
    let is : same_point (map (in_units e) x.units) (map (in_units e) y.units) ≡ true
    = ap (λ (l : List Decimal). same_point l (map (in_units e) y.units)) (sym x.is) ∙ ap (same_point p) (sym y.is) ∙ h in
    x.is ∙ points_same e x.units y.units sound.unit x.small y.small is ∙ sym y.is

abbrev ArePlanned : Study → List Entry → Type 0
ArePlanned study [] = Unit {0}
ArePlanned study (e ∷ entries) = IsPlanned study e.point × ArePlanned study entries

-- what a study waits for is an attempt of a point that comes next
waited_planned : (study : Study) (before added : List Entry) → AreWaitedFor study before added → ArePlanned study added
waited_planned study before [] waited = tt
waited_planned study before (e ∷ added) waited =
    let is = (rows_in_order study (said before) waited.0.0 (Open e.point e.attempt) waited.0.1).stands in
    ((waited.0.0, is.0), waited_planned study (before ++ e ∷ []) added waited.1)

-- What entries say of the study's points

attempt_is : (n m : ℕ) → (n == m) ≡ true → n ≡ m
attempt_is n m h = grind (arith, common_steps)

said_child : (study : Study) (child : Child) (added : List Entry) (p : List Decimal) (attempt : ℕ) (one : Said) → IsSound study → IsPlanned study p → All (IsAnswerOf child) added → ArePlanned study added →
    said added p attempt ≡ Some one → one ≡ child p attempt
said_child study child [] p attempt one sound planned answers are h = absurd (cc)
said_child study child (e ∷ added) p attempt one sound planned answers are h =
    at (said_child study child added p attempt one sound planned (All-tail (IsAnswerOf child) e added answers) are.1) (same_point e.point p && (e.attempt == attempt)) refl
  where
    all : (b : Bool) → (same_point e.point p && (e.attempt == attempt)) ≡ b → option_or (cond b (Some e.said) None) (said added p attempt) ≡ Some one
    all b t = sym (said_append (e ∷ []) added p attempt ∙ ap (λ (x : Option Said). option_or x (said added p attempt)) (said_one e p attempt ∙ ap (λ (c : Bool). cond c (Some e.said) None) t)) ∙ h

    at : (said added p attempt ≡ Some one → one ≡ child p attempt) → (b : Bool) → (same_point e.point p && (e.attempt == attempt)) ≡ b → one ≡ child p attempt
    at later true t =
        let is = both (same_point e.point p) (e.attempt == attempt) t in
        let given : Some e.said ≡ Some one = all true t in
        let same : e.said ≡ one = cc in
        sym same ∙ All-head (IsAnswerOf child) e added answers
        ∙ ap (λ (q : List Decimal). child q e.attempt) (planned_same study e.point p sound are.0 planned is.0) ∙ ap (child p) (attempt_is e.attempt attempt is.1)
    at later false t = later (all false t)

-- each attempt of the study's points gave what the child gives
abbrev AnswersPlanned : Study → Child → List Entry → Type 0
AnswersPlanned study child entries = (p : List Decimal) → IsPlanned study p → (attempt : ℕ) (one : Said) → said entries p attempt ≡ Some one → one ≡ child p attempt

both_say : (study : Study) (child : Child) (before added : List Entry) → IsSound study → AreAnswersOf child before → All (IsAnswerOf child) added → ArePlanned study added → AnswersPlanned study child (before ++ added)
both_say study child before added sound of_child answers are = λ p planned attempt one h. at p planned attempt one (said before p attempt) refl (sym (said_append before added p attempt) ∙ h)
  where
    at : (p : List Decimal) → IsPlanned study p → (attempt : ℕ) (one : Said) (x : Option Said) → said before p attempt ≡ x → option_or (said before p attempt) (said added p attempt) ≡ Some one → one ≡ child p attempt
    at p planned attempt one None e k = said_child study child added p attempt one sound planned answers are (ap (λ (y : Option Said). option_or y (said added p attempt)) (sym e) ∙ k)
    at p planned attempt one (Some given) e k =
        let stated : Some given ≡ Some one = ap (λ (y : Option Said). option_or y (said added p attempt)) (sym e) ∙ k in
        let same : given ≡ one = cc in
        sym same ∙ of_child p attempt given e

-- A study

settled : (study : Study) (child : Child) (entries : List Entry) → AnswersPlanned study child entries → (p : List Decimal) (a : Answer) → IsPlanned study p → is_answered a ≡ true →
    answer_in study (said entries) p ≡ a → answer_in study (outcomes_of child) p ≡ a
settled study child entries are p a planned h e =
    answer_stays study.interface.rule (said entries p) (outcomes_of child p) (λ attempt one given. ap Some (sym (are p planned attempt one given))) (ap is_answered e ∙ h) ∙ e

alone_child : (study : Study) (child : Child) (entries : List Entry) → AnswersPlanned study child entries → (rows last : List Row) (ending : Ending) → Alone study (said entries) rows last (Ended ending) →
    Alone study (outcomes_of child) rows last (Ended ending)
alone_child study child entries are _ _ _ (finished rows why e) = finished rows why e
alone_child study child entries are _ _ _ (aborted rows p attempts e a) = aborted rows p attempts e (settled study child entries are p (Dead attempts) (rows, e) refl a)
alone_child study child entries are _ _ ending (goes_on rows p v last verdict e a s) =
    goes_on rows p v last (Ended ending) e (settled study child entries are p (Value v) (rows, e) refl a) (alone_child study child entries are (with_row rows p v) last ending s)

-- where the entries of before are the child's answers, and so are those that the study waited for
pub decided_as_child : (study : Study) (child : Child) (before added : List Entry) (rows : List Row) (ending : Ending) → IsSound study → AreAnswersOf child before → All (IsAnswerOf child) added →
    AreWaitedFor study before added → Seq study (before ++ added) rows (Ended ending) → Solo study child [] rows ending
decided_as_child study child before added rows ending sound of_child answers waited decided =
    alone_child study child (before ++ added) (both_say study child before added sound of_child answers (waited_planned study before added waited)) [] rows ending decided
