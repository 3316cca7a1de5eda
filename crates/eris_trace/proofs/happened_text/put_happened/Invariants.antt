use Rattle.std.proofs.Common.{◌≡◌, ◌++◌, take}
use Rattle.std.specs.List.{flat_map}
use Rattle.eris_trace.specs.ItemText.{happened_text}
use Rattle.eris_trace.proofs.happened_text.put_happened.Given as goal

abbrev pub invariant-loop-event : goal.invariant-loop-event
invariant-loop-event l = l.out ≡ l.fn.out ++ flat_map happened_text (take l.event-index l.events)
