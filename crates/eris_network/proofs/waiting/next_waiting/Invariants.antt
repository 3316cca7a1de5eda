use Rattle.std.proofs.Common.{◌≡◌, ◌≤◌, ◌<◌, ◌-◌, ℕ, length, Some, false}
use Rattle.std.specs.Prelude.{slice_get}
use Rattle.eris_network.proofs.waiting.next_waiting.Given as goal

abbrev pub invariant-loop-next : goal.invariant-loop-next
invariant-loop-next l = record {
  within : l.next ≤ length l.waits;
  between : (number : ℕ) → l.low ≤ number → number < l.next → slice_get l.waits number ≡ Some false;
}

abbrev pub decreases-loop-next : goal.decreases-loop-next
decreases-loop-next l = length l.waits - l.next
