use Rattle.std.proofs.Common.{◌≡◌, ◌++◌, map, take}
use Rattle.std.specs.List.{flat_map}
use Rattle.eris_report.specs.HistoryText.{event_words}
use Rattle.eris_words.specs.Words.{line}
use Rattle.eris_report.proofs.history_text.put_history.Given as goal

abbrev pub invariant-loop-event : goal.invariant-loop-event
invariant-loop-event l = l.out ≡ l.fn.out ++ flat_map line (map event_words (take l.event-index l.history))
