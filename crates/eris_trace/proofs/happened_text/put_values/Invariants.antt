use Rattle.std.proofs.Common.{◌≡◌, ◌++◌, map, take}
use Rattle.eris_report.specs.HistoryText.{value_word}
use Rattle.eris_words.specs.Words.{spaced}
use Rattle.eris_trace.proofs.happened_text.put_values.Given as goal

abbrev pub invariant-loop-value : goal.invariant-loop-value
invariant-loop-value l = l.out ≡ l.fn.out ++ spaced (map value_word (take l.value-index l.values))
