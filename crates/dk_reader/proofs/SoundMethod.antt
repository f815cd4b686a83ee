-- The points and the counts of a document without faults.
use Rattle.std.proofs.Common.{◌≡◌, ℕ, suc, ◌%◌, ◌<◌, Bool, true, false, List, [], ◌∷◌, length, replicate, refl, sym, ap, ◌∙◌, subst, arith, Some, None, pos}
use Rattle.std.specs.Prelude.{◌||◌, ◌==◌, nat_lt, if◌then◌else◌}
use Rattle.std.specs.List.{All}
use Rattle.std.proofs.lemmas.Bool.{and_parts}
use Rattle.std.proofs.lemmas.Grind.{common_steps}
use Rattle.std.proofs.lemmas.List.{length-map, length-replicate}
use Rattle.std.proofs.lemmas.List.Elements.{All-head, All-weaker, All-map, All-replicate}
use Rattle.dk_types.specs.declared.study.Way.TheVariants.{Step, Final}
use Rattle.dk_types.specs.Sound.{IsBetween, IsNumber, IsPoint, IsBound, AreCounts, ArePoints, IsWay}
use Rattle.dk_reader.proofs.TableEntries.{entry_by_name}
use Rattle.dk_grammar.specs.declared.words.Block.{Block}
use Rattle.dk_grammar.specs.declared.words.Block.TheVariants as block
use Rattle.dk_grammar.specs.declared.words.Name.{Name}
use Rattle.dk_grammar.specs.declared.words.Name.TheVariants as name
use Rattle.dk_grammar.specs.declared.words.Takes.TheVariants as takes
use Rattle.dk_grammar.specs.declared.words.Count.{Count}
use Rattle.dk_grammar.specs.declared.words.Count.TheVariants as counts
use Rattle.dk_reader.specs.declared.document.Document.{Document}
use Rattle.dk_reader.specs.Values.{count_of, spread, whole}
use Rattle.dk_reader.specs.Document.{has, values_at, is_name_in, variable_count}
use Rattle.dk_reader.specs.Study.{is_measured, unit_exponent, units_at, units_if, counts_at, each_count, initial_units, way_of}
use Rattle.dk_reader.specs.Steps.{checked_names, is_bad_whole, are_rows}
use Rattle.dk_reader.proofs.SoundLists.{equal_from}
use Rattle.dk_reader.proofs.SoundSteps.{Checked}
use Rattle.dk_reader.proofs.SoundUnits.{numbers_in}
use Rattle.dk_reader.proofs.SoundReading.{AreWritten}
use Rattle.dk_reader.proofs.SoundPoints.{no_units}
use Rattle.dk_reader.proofs.SoundValues.{between, length_spread, spread_all, numbers_at, length_units, right_count, wholes_at}
use Rattle.dk_reader.proofs.SoundInterface.{variables_few}

module _ (d : Document) (c : Checked d) (w : AreWritten d) where
  -- a keyword that takes one number for each variable says a point
  pub point_at : (b : Block) (n : Name) → has d b n ≡ true → is_measured b ≡ true → numbers_in b n ≡ true → is_name_in checked_names n ≡ false →
      entry_by_name b n ≡ Some (record { name = n; takes = takes.Numbers; count = counts.PerVariable }) → IsPoint (unit_exponent d) (variable_count d) (units_at d b n)
  point_at b n there measured numbers other entry = record {
    one_each = length_units d b n ∙ equal_from (count_of (values_at d b n)) (variable_count d) (right_count d c b n (record { name = n; takes = takes.Numbers; count = counts.PerVariable }) there other entry);
    each = numbers_at d c w b n measured numbers;
  }

  -- bounds, where they are written
  pub bound_at : (n : Name) → numbers_in block.Variables n ≡ true → is_name_in checked_names n ≡ false →
      entry_by_name block.Variables n ≡ Some (record { name = n; takes = takes.Numbers; count = counts.PerVariable }) → IsBound (unit_exponent d) (variable_count d) (units_if d n)
  bound_at n numbers other entry = by (has d block.Variables n) refl
    where
      by : (t : Bool) → has d block.Variables n ≡ t → IsBound (unit_exponent d) (variable_count d) (if t then Some (units_at d block.Variables n) else None)
      by true t = point_at block.Variables n t refl numbers other entry
      by false t = tt

  -- the initial point
  pub initial_point : IsPoint (unit_exponent d) (variable_count d) (initial_units d)
  initial_point = by (has d block.Variables name.InitialPoint) refl
    where
      by : (t : Bool) → has d block.Variables name.InitialPoint ≡ t →
          IsPoint (unit_exponent d) (variable_count d) (if t then units_at d block.Variables name.InitialPoint else replicate (variable_count d) (pos 0))
      by true t = point_at block.Variables name.InitialPoint t refl refl refl refl
      by false t = record {
        one_each = length-replicate (variable_count d) (pos 0);
        each = All-replicate (IsNumber (unit_exponent d)) (variable_count d) (pos 0) (no_units (unit_exponent d));
      }

  -- a step, or a final point where there is none
  pub way : (has d block.Method name.StepVector ≡ false → has d block.Method name.FinalPoint ≡ true) → IsWay (unit_exponent d) (variable_count d) (way_of d)
  way one = by (has d block.Method name.StepVector) refl
    where
      by : (t : Bool) → has d block.Method name.StepVector ≡ t →
          IsWay (unit_exponent d) (variable_count d) (if t then Step (units_at d block.Method name.StepVector) else Final (units_at d block.Method name.FinalPoint))
      by true t = point_at block.Method name.StepVector t refl refl refl refl
      by false t = point_at block.Method name.FinalPoint (one t) refl refl refl refl

  -- the points of a list
  pub points : has d block.Method name.ListOfPoints ≡ true → ArePoints (unit_exponent d) (variable_count d) (units_at d block.Method name.ListOfPoints)
  points there =
      let many : length (units_at d block.Method name.ListOfPoints) ≡ count_of (values_at d block.Method name.ListOfPoints) = length_units d block.Method name.ListOfPoints in
      let p = and_parts _ _ (right_count d c block.Method name.ListOfPoints (record { name = name.ListOfPoints; takes = takes.Numbers; count = counts.RowsOfVariables }) there refl refl) in
      record {
        some = subst (λ n. 0 < n) (sym many) (some (count_of (values_at d block.Method name.ListOfPoints)) p.0);
        whole = ap (λ n. n % variable_count d) many ∙ rows (count_of (values_at d block.Method name.ListOfPoints)) (variable_count d) (variables_few d c) p.1;
        each = numbers_at d c w block.Method name.ListOfPoints refl refl;
      }
    where
      some : (n : ℕ) → nat_lt 0 n ≡ true → 0 < n
      some n e = grind (arith, common_steps)

      rows : (n k : ℕ) → IsBetween 1 100 k → are_rows n k ≡ true → n % k ≡ 0
      rows n k size e = by_none (k == 0) refl e
        where
          by_none : (t : Bool) → (k == 0) ≡ t → (if t then n == 0 else n % k == 0) ≡ true → n % k ≡ 0
          by_none true t e = absurd (let low = size.0 in let none : k ≡ 0 = equal_from k 0 t in omega arith)
          by_none false t e = equal_from (n % k) 0 e

  -- counts of a keyword are in its range
  counts_in : (n : Name) (low high : ℕ) (k : Count) → is_name_in checked_names n ≡ false → entry_by_name block.Method n ≡ Some (record { name = n; takes = takes.Wholes low high; count = k }) →
      All (IsBetween low high) (counts_at d n)
  counts_in n low high k other entry =
      All-map (IsBetween low high) whole (spread (values_at d block.Method n)) (All-weaker (λ v. is_bad_whole low high v ≡ false) (λ v. IsBetween low high (whole v)) (between low high) (spread (values_at d block.Method n))
      (spread_all (λ v. is_bad_whole low high v ≡ false) (values_at d block.Method n) (wholes_at d c block.Method n low high k other entry)))

  length_counts : (n : Name) → length (counts_at d n) ≡ count_of (values_at d block.Method n)
  length_counts n = length-map (spread (values_at d block.Method n)) whole ∙ length_spread (values_at d block.Method n)

  -- the partitions
  pub partitions : has d block.Method name.Partitions ≡ true → AreCounts (variable_count d) 1 10000 (counts_at d name.Partitions)
  partitions there = record {
    one_each = length_counts name.Partitions ∙ equal_from _ _ (right_count d c block.Method name.Partitions (record { name = name.Partitions; takes = takes.Wholes 1 10000; count = counts.PerVariable }) there refl refl);
    each = counts_in name.Partitions 1 10000 counts.PerVariable refl refl;
  }

  -- the counts of steps: one for each variable, or one for all
  pub steps : has d block.Method name.StepsPerVariable ≡ true → AreCounts (variable_count d) 0 10000 (each_count d (counts_at d name.StepsPerVariable))
  steps there =
      by (counts_at d name.StepsPerVariable) (counts_in name.StepsPerVariable 0 10000 counts.OneOrPerVariable refl refl)
      (subst (λ n. (n == 1 || n == variable_count d) ≡ true) (sym (length_counts name.StepsPerVariable))
      (right_count d c block.Method name.StepsPerVariable (record { name = name.StepsPerVariable; takes = takes.Wholes 0 10000; count = counts.OneOrPerVariable }) there refl refl))
    where
      none : (k : ℕ) → IsBetween 1 100 k → (0 == 1 || 0 == k) ≡ true → ⊥
      none k size e = let low = size.0 in let zero_is : 0 ≡ k = equal_from 0 k e in omega arith

      more : (n k : ℕ) → (suc (suc n) == 1 || suc (suc n) == k) ≡ true → suc (suc n) ≡ k
      more n k e = by_one (suc (suc n) == 1) refl e
        where
          by_one : (t : Bool) → (suc (suc n) == 1) ≡ t → (t || suc (suc n) == k) ≡ true → suc (suc n) ≡ k
          by_one true t e = absurd (let no : suc (suc n) ≡ 1 = equal_from _ 1 t in omega arith)
          by_one false t e = equal_from _ k e

      by : (ks : List ℕ) → All (IsBetween 0 10000) ks → (length ks == 1 || length ks == variable_count d) ≡ true → AreCounts (variable_count d) 0 10000 (each_count d ks)
      by [] h e = absurd (none (variable_count d) (variables_few d c) e)
      by (k ∷ []) h e = record { one_each = length-replicate (variable_count d) k; each = All-replicate (IsBetween 0 10000) (variable_count d) k (All-head (IsBetween 0 10000) k [] h) }
      by (k ∷ j ∷ ks) h e = record { one_each = more (length ks) (variable_count d) e; each = h }
