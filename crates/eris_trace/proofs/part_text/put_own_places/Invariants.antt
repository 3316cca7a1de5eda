use Rattle.std.proofs.Common.{◌≡◌, ◌++◌, map, take}
use Rattle.eris_trace.specs.PartText.{own_place_word}
use Rattle.eris_words.specs.Words.{spaced}
use Rattle.eris_trace.proofs.part_text.put_own_places.Given as goal

abbrev pub invariant-loop-place : goal.invariant-loop-place
invariant-loop-place l = l.out ≡ l.fn.out ++ spaced (map own_place_word (take l.place-index l.places))
