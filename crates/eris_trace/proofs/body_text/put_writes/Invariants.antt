use Rattle.std.proofs.Common.{◌≡◌, ◌++◌, take}
use Rattle.std.specs.List.{flat_map}
use Rattle.eris_trace.specs.BodyText.{write_words}
use Rattle.eris_words.specs.Words.{spaced}
use Rattle.eris_trace.proofs.body_text.put_writes.Given as goal

abbrev pub invariant-loop-write : goal.invariant-loop-write
invariant-loop-write l = l.out ≡ l.fn.out ++ spaced (flat_map write_words (take l.write-index l.writes))
