use Rattle.std.proofs.Common.{◌≡◌, ◌++◌, map, take}
use Rattle.eris_trace.specs.PartText.{held_word}
use Rattle.eris_words.specs.Words.{spaced}
use Rattle.eris_trace.proofs.part_text.put_held.Given as goal

abbrev pub invariant-loop-entry : goal.invariant-loop-entry
invariant-loop-entry l = l.out ≡ l.fn.out ++ spaced (map held_word (take l.entry-index l.held))
