use Rattle.std.proofs.Common.{ap}
use Rattle.std.specs.Prelude.{Err}
use Rattle.dk_evaluate.proofs.Appends.{kept_not}
use Rattle.dk_evaluate.proofs.ledger.Ledger.keep.Goals as goal

pub returns-in-Err-clause-keeps : goal.returns-in-Err-clause-keeps
returns-in-Err-clause-keeps g c = λ entries keeps next.
    kept_not c.args.self.now.book c.args.self.now.book c.args.self.now.journal c.append.new.self entries _ c.in-Err.fault (c.in-Err.ensures.appends entries keeps.holds next) (λ size is. (c.in-Err.ensures.full entries keeps.holds size).0 (ap Err is))
