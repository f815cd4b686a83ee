use Rattle.std.proofs.Common.{◌≡◌, ◌++◌, take}
use Rattle.std.specs.List.{All, flat_map}
use Rattle.dk_num.specs.Decimal.{IsCanonical}
use Rattle.dk_record.specs.Payloads.{decimal_bytes}
use Rattle.dk_record.proofs.cursor.read_decimals.Given as goal

abbrev pub invariant-loop-place : goal.invariant-loop-place
invariant-loop-place l = record {
  each : All IsCanonical (take l.place l.out);
  split : l.bytes ≡ flat_map decimal_bytes (take l.place l.out) ++ l.rest;
}
