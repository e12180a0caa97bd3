use Rattle.std.proofs.Common.{◌≡◌, ◌≤◌, take, vec_len}
use Rattle.sheet.specs.Days.{trades_of}
use Rattle.sheet.proofs.trades.collect.Given as goal

abbrev pub invariant-loop-trade : goal.invariant-loop-trade
invariant-loop-trade l = record {
  taken : l.own.list.items ≡ trades_of (take l.trade-index l.trades.list.items) l.code;
  few : vec_len l.own.list ≤ l.trade-index;
}
