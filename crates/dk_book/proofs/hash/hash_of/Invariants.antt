use Rattle.std.proofs.Common.{◌≡◌, ℕ, ◌<◌, get_or, drop}
use Rattle.std.specs.Prelude.{fold}
use Rattle.dk_num.specs.Decimal.{Decimal, IsCanonical}
use Rattle.dk_book.specs.Hashes.{with_number, hash_of}
use Rattle.dk_book.proofs.hash.hash_of.Given as goal

abbrev pub invariant-loop-number : goal.invariant-loop-number
invariant-loop-number l = record {
  value : fold with_number l.hash (drop l.number-index l.point) ≡ hash_of l.point;
  canonical : (k : ℕ) (d : Decimal) → k < l.number-index → IsCanonical (get_or l.point k d);
}
