-- What a reader of records has found, and why it has found none.
use Rattle.std.proofs.Common.{◌≡◌, ℕ, ◌-◌, List, ◌++◌, length, sym, ◌∙◌, ap, arith, length-append, append_assoc}
use Rattle.std.specs.Int.{w32, to_le_bytes}
use Rattle.std.specs.List.{flat_map}
use Rattle.dk_num.specs.Decimal.{Decimal}
use Rattle.dk_types.specs.declared.entry.Entry.{Entry}
use Rattle.dk_types.specs.declared.entry.Said.{Said}
use Rattle.dk_record.specs.Payloads.{decimal_bytes, said_bytes, payload, IsStored}
use Rattle.dk_record.specs.Readings.{Begins, NoneBegins, AreDecimals, IsAttempt, IsSaid, HasRecord}
use Rattle.dk_record.proofs.Bytes.{decimals_same}
use Rattle.dk_record.proofs.Once.{attempts_same}
use Rattle.dk_record.proofs.Fronts.{follows, none_behind}

module _ (variables responses : ℕ) where
  -- a record's payload, cut behind its point
  cut : (bytes : List ℕ) (e : Entry) (tail : List ℕ) → bytes ≡ payload e ++ tail → bytes ≡ flat_map decimal_bytes e.point ++ (to_le_bytes w32 e.attempt ++ (said_bytes e.said ++ tail))
  cut bytes e tail is = is ∙ append_assoc (flat_map decimal_bytes e.point) (to_le_bytes w32 e.attempt ++ said_bytes e.said) tail

  are_decimals : (e : Entry) → IsStored variables responses e → AreDecimals variables e.point
  are_decimals e stored = record { long = stored.point_length; each = stored.point }

  is_attempt : (e : Entry) → IsStored variables responses e → IsAttempt e.attempt
  is_attempt e stored = record { first = stored.first; last = stored.last }

  -- no attempt
  pub no_attempt : (bytes : List ℕ) (point : List Decimal) (behind : List ℕ) → Begins (AreDecimals variables) (flat_map decimal_bytes) bytes point behind →
      NoneBegins IsAttempt (to_le_bytes w32) behind → NoneBegins (IsStored variables responses) payload bytes
  no_attempt bytes point behind begins none e tail b =
      none_behind (AreDecimals variables) (flat_map decimal_bytes) (decimals_same variables) IsAttempt (to_le_bytes w32) bytes point behind begins none
      e.point e.attempt (said_bytes e.said ++ tail) (are_decimals e b.is_one) (is_attempt e b.is_one) (cut bytes e tail b.split)

  module _ (bytes : List ℕ) (point : List Decimal) (behind : List ℕ) (attempt : ℕ) (next : List ℕ)
      (points : Begins (AreDecimals variables) (flat_map decimal_bytes) bytes point behind) (attempts : Begins IsAttempt (to_le_bytes w32) behind attempt next) where
    -- nothing that an attempt gives
    pub no_said : NoneBegins (IsSaid responses) said_bytes next → NoneBegins (IsStored variables responses) payload bytes
    no_said none e tail b =
        let rest = follows (AreDecimals variables) (flat_map decimal_bytes) (decimals_same variables) bytes point behind e.point (to_le_bytes w32 e.attempt ++ (said_bytes e.said ++ tail)) points (are_decimals e b.is_one) (cut bytes e tail b.split) in
        none_behind IsAttempt (to_le_bytes w32) attempts_same (IsSaid responses) said_bytes behind attempt next attempts none
        e.attempt e.said tail (is_attempt e b.is_one) (record { values_length = b.is_one.values_length; values = b.is_one.values }) rest.1

    -- the entry that was read
    pub has_record : (said : Said) (rest : List ℕ) → Begins (IsSaid responses) said_bytes next said rest →
        HasRecord variables responses bytes (record { point = point; attempt = attempt; said = said }) (length bytes - length rest)
    has_record said rest says =
        let e : Entry = record { point = point; attempt = attempt; said = said } in
        let behind_is : behind ≡ (to_le_bytes w32 attempt ++ said_bytes said) ++ rest = attempts.split ∙ ap (λ (l : List ℕ). to_le_bytes w32 attempt ++ l) says.split in
        let split : bytes ≡ payload e ++ rest =
        points.split ∙ ap (λ (l : List ℕ). flat_map decimal_bytes point ++ l) behind_is ∙ sym (append_assoc (flat_map decimal_bytes point) (to_le_bytes w32 attempt ++ said_bytes said) rest) in
        record {
          rest = rest;
          begins = record {
            is_one = record {
              point_length = points.is_one.long;
              point = points.is_one.each;
              first = attempts.is_one.first;
              last = attempts.is_one.last;
              values_length = says.is_one.values_length;
              values = says.is_one.values;
            };
            split = split;
          };
          size_is = omega (arith, ap length split, length-append (payload e) rest);
        }
