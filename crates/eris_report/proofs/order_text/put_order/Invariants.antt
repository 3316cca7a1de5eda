use Rattle.std.proofs.Common.{◌≡◌, ◌++◌, map, take}
use Rattle.std.specs.List.{flat_map}
use Rattle.eris_report.specs.OrderText.{order_words}
use Rattle.eris_words.specs.Words.{line}
use Rattle.eris_report.proofs.order_text.put_order.Given as goal

abbrev pub invariant-loop-entry : goal.invariant-loop-entry
invariant-loop-entry l = l.out ≡ l.fn.out ++ flat_map line (map order_words (take l.entry-index l.order))
