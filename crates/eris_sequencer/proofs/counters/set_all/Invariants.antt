use Rattle.std.proofs.Common.{◌≡◌, take}
use Rattle.eris_sequencer.specs.Stamps.{with_numbers}
use Rattle.eris_sequencer.proofs.counters.set_all.Given as goal

abbrev pub invariant-loop-place : goal.invariant-loop-place
invariant-loop-place l = l.counters ≡ with_numbers l.fn.counters (take l.place-index l.fn.places)
