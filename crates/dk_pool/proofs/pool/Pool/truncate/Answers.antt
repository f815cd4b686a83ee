use Rattle.std.proofs.Common.{◌≡◌, ◌∙◌, ◌-◌, ap, take, arith}
use Rattle.std.proofs.Math.Nat.{le_trans}
use Rattle.dk_pool.specs.Pool.{PoolState}
use Rattle.dk_pool.specs.Rows.{written}
use Rattle.dk_pool.proofs.Cut.{counted, fewer, rows_first, rows_long}
use Rattle.dk_pool.proofs.pool.Pool.truncate.Goals as goal

pub invariant_of-self : goal.invariant_of-self
invariant_of-self c =
    let inv = c.self.invariant in let at_most = c.requires.has_rows in let all = counted _ _ _ _ _ _ c.self.view_is inv in
    let enough = inv.enough in let few = inv.few in
    record {
      enough = omega arith;
      few = omega arith;
      fits = le_trans (fewer c.self.inside.width _ c.self.inside.room (omega arith)) inv.fits;
      small = le_trans (fewer c.self.inside.width _ c.self.inside.room (omega arith)) inv.small;
      filled = le_trans (fewer c.self.inside.width _ c.self.inside.count (omega arith)) inv.filled;
      owned = inv.owned;
    }

pub returns-clause-keeps_first_rows : goal.returns-clause-keeps_first_rows
returns-clause-keeps_first_rows c =
    let at_most = c.requires.has_rows in let all = counted _ _ _ _ _ _ c.self.view_is c.self.invariant in
    rows_first c.self.inside.width c.args.rows c.self.inside.count (written c.self.inside.region) (omega arith)
    ∙ ap (λ (p : PoolState). take c.args.rows p.rows) c.self.view_is

pub returns-clause-gives_room_back : goal.returns-clause-gives_room_back
returns-clause-gives_room_back c =
    let at_most = c.requires.has_rows in let enough = c.self.invariant.enough in let all = counted _ _ _ _ _ _ c.self.view_is c.self.invariant in
    let spare : c.self.inside.room - c.self.inside.count ≡ c.args.self.now.spare = ap (λ (p : PoolState). p.spare) c.self.view_is in
    omega (arith, rows_long c.self.inside.width c.args.rows (written c.self.inside.region))
