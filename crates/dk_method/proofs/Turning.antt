-- What a compass search finds behind so many values, turn by turn.
use Rattle.std.proofs.Common.{◌≡◌, ℕ, zero, suc, ◌+◌, ◌<◌, ◌≤◌, Bool, true, false, List, [], ◌∷◌, ◌++◌, length, take, drop, get_or, ap, ◌∙◌, arith, ℤ, nat_lt, if◌then◌else◌, append_assoc}
use Rattle.std.specs.Prelude.{int_lt}
use Rattle.std.proofs.Math.Seq.{take-add, drop-cons}
use Rattle.std.proofs.lemmas.List.{length-take-le, length-drop}
use Rattle.dk_num.specs.Decimal.{Decimal}
use Rattle.dk_types.specs.declared.study.Variables.{Variables}
use Rattle.dk_types.specs.declared.study.Why.TheVariants.{Threshold, Iterations, Evaluations}
use Rattle.dk_types.specs.Search.{polls, Iterate, iterated, Found, Poll, Ends, unless_polls_wait, search_from, search}
use Rattle.dk_method.proofs.Onward.{turn, onward}

-- the first values lead to this iterate, with so many iterations left
abbrev pub Leads : Variables → (delta threshold : ℤ) → (iterations evaluations : ℕ) → (values : List (List Decimal)) → (left count : ℕ) → Iterate → Type 0
Leads variables delta threshold iterations evaluations values left count at = (more : List (List Decimal)) →
    search variables delta threshold iterations evaluations (take count values ++ more) ≡ search_from variables threshold evaluations left count at more

-- the values of an iteration's polls
abbrev pub batch : List (List Decimal) → (count polls : ℕ) → List (List Decimal)
batch values count polls = take polls (drop count values)

pub batch_long : (values : List (List Decimal)) (count polls : ℕ) → count + polls ≤ length values → length (batch values count polls) ≡ polls
batch_long values count polls within = let l = length-drop count values in length-take-le polls (drop count values) (omega arith)

module _ (variables : Variables) (delta threshold : ℤ) (iterations evaluations : ℕ) (values : List (List Decimal)) where
  pub leads_first : (v : List Decimal) (others : List (List Decimal)) → values ≡ v ∷ others →
      Leads variables delta threshold iterations evaluations values iterations 1 (record { x = variables.initial; values = v; delta = delta })
  leads_first v others e = λ more. ap (λ (l : List (List Decimal)). search variables delta threshold iterations evaluations (take 1 l ++ more)) e

  module _ (count : ℕ) (at : Iterate) where
    -- behind some values more
    found_behind : (left : ℕ) → Leads variables delta threshold iterations evaluations values left count at → (j : ℕ) →
        search variables delta threshold iterations evaluations (take (count + j) values) ≡ search_from variables threshold evaluations left count at (batch values count j)
    found_behind left leads j = ap (search variables delta threshold iterations evaluations) (take-add count j values) ∙ leads (batch values count j)

    -- all iterations are used up
    pub found_last : Leads variables delta threshold iterations evaluations values zero count at → (b : Bool) → int_lt at.delta threshold ≡ b → (j : ℕ) →
        search variables delta threshold iterations evaluations (take (count + j) values) ≡ (if b then Ends Threshold else Ends Iterations)
    found_last leads b e j = found_behind zero leads j ∙ ap (λ (b : Bool). if b then Ends Threshold else Ends Iterations) e

    module _ (left : ℕ) (leads : Leads variables delta threshold iterations evaluations values (suc left) count at) where
      -- what comes behind the iteration, where so many of its polls have values
      next_behind : ℕ → Found
      next_behind j =
          search_from variables threshold evaluations left (count + length (polls variables at.x at.delta))
          (iterated at (polls variables at.x at.delta) (take (length (polls variables at.x at.delta)) (batch values count j))) (drop (length (polls variables at.x at.delta)) (batch values count j))

      by_turn : (j : ℕ) → search variables delta threshold iterations evaluations (take (count + j) values)
          ≡ turn (int_lt at.delta threshold) (nat_lt evaluations (count + length (polls variables at.x at.delta))) (drop (length (batch values count j)) (polls variables at.x at.delta)) (next_behind j)
      unfolding next_behind
      by_turn j = found_behind (suc left) leads j

      -- the step is too short
      pub found_short : int_lt at.delta threshold ≡ true → (j : ℕ) → search variables delta threshold iterations evaluations (take (count + j) values) ≡ Ends Threshold
      found_short low j =
          by_turn j
          ∙ ap (λ (b : Bool). turn b (nat_lt evaluations (count + length (polls variables at.x at.delta))) (drop (length (batch values count j)) (polls variables at.x at.delta)) (next_behind j)) low

      -- there is no room for the polls
      pub found_full : int_lt at.delta threshold ≡ false → nat_lt evaluations (count + length (polls variables at.x at.delta)) ≡ true → (j : ℕ) →
          search variables delta threshold iterations evaluations (take (count + j) values) ≡ Ends Evaluations
      found_full low full j =
          by_turn j
          ∙ ap (λ (b : Bool). turn b (nat_lt evaluations (count + length (polls variables at.x at.delta))) (drop (length (batch values count j)) (polls variables at.x at.delta)) (next_behind j)) low
          ∙ ap (λ (b : Bool). turn false b (drop (length (batch values count j)) (polls variables at.x at.delta)) (next_behind j)) full

      -- the next poll
      pub found_poll : int_lt at.delta threshold ≡ false → nat_lt evaluations (count + length (polls variables at.x at.delta)) ≡ false →
          (j : ℕ) → j < length (polls variables at.x at.delta) → count + j ≤ length values →
          search variables delta threshold iterations evaluations (take (count + j) values)
          ≡ Poll (get_or (polls variables at.x at.delta) j []) (drop (suc j) (polls variables at.x at.delta))
      found_poll low full j inside within =
          by_turn j
          ∙ ap (λ (b : Bool). turn b (nat_lt evaluations (count + length (polls variables at.x at.delta))) (drop (length (batch values count j)) (polls variables at.x at.delta)) (next_behind j)) low
          ∙ ap (λ (b : Bool). turn false b (drop (length (batch values count j)) (polls variables at.x at.delta)) (next_behind j)) full
          ∙ ap (λ (n : ℕ). unless_polls_wait (drop n (polls variables at.x at.delta)) (next_behind j)) (batch_long values count j within)
          ∙ ap (λ (l : List (List ℤ)). unless_polls_wait l (next_behind j)) (drop-cons (polls variables at.x at.delta) j [] inside)

      -- behind the iteration
      pub leads_on : int_lt at.delta threshold ≡ false → count + length (polls variables at.x at.delta) ≤ evaluations → count + length (polls variables at.x at.delta) ≤ length values →
          Leads variables delta threshold iterations evaluations values left (count + length (polls variables at.x at.delta))
          (iterated at (polls variables at.x at.delta) (batch values count (length (polls variables at.x at.delta))))
      leads_on low room within = λ more.
          let news : List (List Decimal) = batch values count (length (polls variables at.x at.delta)) in
          ap (λ (l : List (List Decimal)). search variables delta threshold iterations evaluations (l ++ more)) (take-add count (length (polls variables at.x at.delta)) values)
          ∙ ap (search variables delta threshold iterations evaluations) (append_assoc (take count values) news more)
          ∙ leads (news ++ more)
          ∙ onward variables threshold evaluations left count at news more low room (batch_long values count (length (polls variables at.x at.delta)) within)
