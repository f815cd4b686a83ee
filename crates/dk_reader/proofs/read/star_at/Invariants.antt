use Rattle.std.proofs.Common.{◌≡◌, ◌+◌, drop}
use Rattle.std.specs.List.{position_or_len}
use Rattle.dk_reader.specs.Values.{is_star}
use Rattle.dk_reader.proofs.read.star_at.Given as goal

-- the star is sought in what is left
abbrev pub invariant-loop-byte : goal.invariant-loop-byte
invariant-loop-byte l = record {
  index : l.at ≡ l.byte-index;
  place : l.at + position_or_len is_star (drop l.at l.bytes) ≡ position_or_len is_star l.bytes;
}
