use Rattle.std.proofs.Common.{◌∙◌, ap, length, arith}
use Rattle.dk_pool.specs.Rows.{rows_of, written}
use Rattle.dk_pool.specs.declared.pool.Pool.TheInside.{Inside}
use Rattle.dk_pool.proofs.Replaced.{number_lies, number_set}
use Rattle.dk_pool.proofs.pool.Pool.set.Goals as goal
use Rattle.dk_pool.proofs.pool.Pool.set.Goals.{in-Some, in_default}

pub write-requires : goal.write-requires
write-requires c =
    let lies = number_lies _ _ _ _ _ _ c.self.view_is c.self.invariant _ c.args.place c.requires.is_there c.requires.is_place in
    let held = ap (λ r. length (written r)) c.in-Some.is in
    (omega arith, omega (arith, c.in-Some.region.within))

pub returns-clause-sets_number : goal.returns-clause-sets_number
returns-clause-sets_number c = elim c.match-self.branch [
  | in-Some w ↦ ap (λ (p : Inside). rows_of p.width p.count (written p.region)) w.self-inside-is
      ∙ number_set _ _ _ _ _ _ c.self.view_is c.self.invariant _ _ c.requires.is_there (omega arith) w.in-Some.region w.write.new.self _ w.in-Some.is w.write.ensures.2
  | in_default w ↦
      let lies = number_lies _ _ _ _ _ _ c.self.view_is c.self.invariant _ c.args.place c.requires.is_there c.requires.is_place in
      let held = ap (λ r. length (written r)) w.in_default.is in
      absurd (omega arith)
]
