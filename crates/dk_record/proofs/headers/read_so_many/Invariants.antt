use Rattle.std.proofs.Common.{◌≡◌, ◌++◌, length}
use Rattle.std.specs.List.{All, flat_map}
use Rattle.dk_record.specs.Payloads.{label_bytes}
use Rattle.dk_record.specs.Readings.{IsLabel}
use Rattle.dk_record.proofs.headers.read_so_many.Given as goal

abbrev pub invariant-loop-place : goal.invariant-loop-place
invariant-loop-place l = record {
  count : length l.labels.items ≡ l._place;
  each : All IsLabel l.labels.items;
  split : l.bytes ≡ flat_map label_bytes l.labels.items ++ l.rest;
}
