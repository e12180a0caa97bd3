use Rattle.std.proofs.Common.{◌≡◌, ◌+◌, ◌^◌, ◌<◌, drop}
use Rattle.std.specs.List.{prefix_len}
use Rattle.sheet.specs.Fields.{digit, value}
use Rattle.sheet.proofs.fields.number.Given as goal

-- the first bytes are digits of the value
abbrev pub invariant-loop-b : goal.invariant-loop-b
invariant-loop-b l =
    (prefix_len digit l.digits ≡ l.b-index + prefix_len digit (drop l.b-index l.digits))
    × (value l.value (drop l.b-index l.digits) ≡ value 0 l.digits)
    × (l.value < 10 ^ l.b-index)
