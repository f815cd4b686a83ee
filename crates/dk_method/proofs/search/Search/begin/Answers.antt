use Rattle.std.proofs.Common.{◌≡◌, ◌∙◌, ◌*◌, [], length, None, inl, refl, sym, ap, arith, ℕ}
use Rattle.dk_pool.specs.Pool.{PoolState}
use Rattle.dk_method.proofs.Standing.{delta_read, begins_standing}
use Rattle.dk_method.proofs.search.Search.begin.Goals as goal

pub returns : goal.returns
returns c =
    let study = c.args.study.now in
    let terms = c.args.terms in
    let step = delta_read study terms c.requires.sound c.requires.terms in
    let wide = ap length c.items-variables.ensures in
    let pool = c.in_ok-reserve.ensures.begins_empty in
    let rows : c.in_ok-reserve.field-0.rows ≡ [] = ap (λ (p : PoolState). p.rows) pool in
    let width = ap (λ (p : PoolState). p.width) pool in
    let spare = ap (λ (p : PoolState). p.spare) pool in
    let none = ap length rows in
    record {
      terms_are = refl;
      searching = record {
        terms = c.requires.terms;
        standing = begins_standing study terms (record { x = c.in_ok-copy.field-0; value = None; delta = _; iteration = 0 }) c.requires.sound c.requires.terms c.in_ok-copy.ensures step refl;
        within = omega arith;
        width = width ∙ wide;
        spare = omega arith;
        values = sym c.in_ok-vec.field-0.ok.0 ∙ c.in_ok-vec.ensures.len ∙ ap (λ (n : ℕ). 2 * n) wide;
        handed_out = record { before_is = refl; x = c.in_ok-copy.ensures; delta = step; iteration = refl; handed = inl rows };
      };
      no_value = refl;
      no_polls = rows;
    }
