use Rattle.std.proofs.Common.{◌≡◌, ◌≤◌, take}
use Rattle.std.specs.Prelude.{count_by}
use Rattle.eris_drill.specs.Summaries.{is_answer}
use Rattle.eris_drill.proofs.summary.answered.Given as goal

abbrev pub invariant-loop-event : goal.invariant-loop-event
invariant-loop-event l = (l.count ≡ count_by is_answer (take l.event-index l.history)) × (l.count ≤ l.event-index)
