use Rattle.std.proofs.Common.{◌≡◌, List, [], length, ◌-◌}
use Rattle.std.specs.Prelude.{IsSome}
use Rattle.dk_types.specs.declared.rows.Row.{Row}
use Rattle.dk_method.specs.Searching.{IsSearching, HasLed}
use Rattle.dk_method.proofs.search.Search.plan_polls.Given as goal

abbrev pub invariant-loop-why : goal.invariant-loop-why
invariant-loop-why l = record {
  searching : IsSearching l.study l.count l.self;
  none : l.self.polls.rows ≡ [];
  has_value : IsSome l.self.state.value;
  led : (rows : List Row) → length rows ≡ l.count → HasLed l.study l.initial.self rows → HasLed l.study l.self rows;
}

abbrev pub decreases-loop-why : goal.decreases-loop-why
decreases-loop-why l = l.self.terms.iterations - l.self.state.iteration
