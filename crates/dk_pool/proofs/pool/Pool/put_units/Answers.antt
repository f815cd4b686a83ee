use Rattle.std.proofs.Common.{◌≡◌, ◌∙◌, ◌+◌, ap, length, map}
use Rattle.std.proofs.lemmas.List.{length-map}
use Rattle.dk_num.specs.Units.{in_units}
use Rattle.dk_pool.specs.Rows.{rows_of, written}
use Rattle.dk_pool.specs.declared.pool.Pool.TheInside.{Inside}
use Rattle.dk_pool.proofs.Cut.{counted, row_put, row_counted}
use Rattle.dk_pool.proofs.pool.Pool.put_units.Goals as goal
use Rattle.dk_pool.proofs.pool.Pool.put_units.Goals.{in-Some, in_default}

pub returns-clause-adds_row : goal.returns-clause-adds_row
returns-clause-adds_row c =
    let row = map (in_units c.args.unit.exponent) c.args.units.now in
    let long : length row ≡ length c.args.units.now = length-map c.args.units.now (in_units c.args.unit.exponent) in
    elim c.match-self.branch [
      | in-Some w ↦ ap (λ (p : Inside). rows_of p.width (p.count + 1) (written p.region)) w.self-inside-is
          ∙ row_put _ _ _ _ _ _ c.self.view_is c.self.invariant row (long ∙ c.requires.has_width) w.in-Some.region w.write_units.new.region w.in-Some.is
          (rw long w.write_units.ensures.written) (rw long w.write_units.ensures.reaches)
      | in_default w ↦ ap (λ (p : Inside). rows_of p.width (p.count + 1) (written p.region)) w.self-inside-is
          ∙ row_counted _ _ _ _ _ _ c.self.view_is c.self.invariant row (long ∙ c.requires.has_width) w.in_default.is c.requires.has_room
    ]

pub returns-clause-names_row : goal.returns-clause-names_row
returns-clause-names_row c = counted _ _ _ _ _ _ c.self.view_is c.self.invariant
