-- The loop's invariant, where `start` is the number of places that are left: the digits of the rest, and behind them those that stand in
-- the buffer already, are those of the number; there is a place left for each digit of the rest; and the rest is not 0 once none is left.
-- Nothing is put before the digits are there.
use Prim.Native.Nat.{◌+◌, ◌^◌, ◌≤◌, ◌<◌}
use mathlib.Core.Path.{◌≡◌}
use mathlib.Core.List.{◌++◌}
use lib.ListN.{length, drop}
use Rattle.text.specs.Decimal.{decimal}
use Rattle.text.proofs.decimal.put_decimal.Given as goal

abbrev pub invariant-loop-start : goal.invariant-loop-start
invariant-loop-start l =
    record {
      digits : decimal l.rest ++ drop l.start l.digits ≡ decimal l.n;
      size : length l.digits ≡ 20;
      room : l.rest < 10 ^ l.start;
      some : 1 ≤ l.start + l.rest;
      out : l.out ≡ l.initial.out;
    }
