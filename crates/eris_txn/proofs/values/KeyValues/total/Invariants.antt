use Rattle.std.proofs.Common.{◌≡◌, ◌+◌, ◌%◌, ◌^◌, sum}
use Rattle.eris_txn.specs.KeyValues.{total_of}
use Rattle.eris_txn.proofs.values.KeyValues.total.Given as goal

abbrev pub invariant-loop-value : goal.invariant-loop-value
invariant-loop-value l = (l.sum + sum l.value-iterator) % 2 ^ 64 ≡ total_of l.self
