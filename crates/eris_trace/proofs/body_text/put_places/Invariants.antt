use Rattle.std.proofs.Common.{◌≡◌, ◌++◌, map, take}
use Rattle.eris_words.specs.Words.{place_word, spaced}
use Rattle.eris_trace.proofs.body_text.put_places.Given as goal

abbrev pub invariant-loop-place : goal.invariant-loop-place
invariant-loop-place l = l.out ≡ l.fn.out ++ spaced (map place_word (take l.place-index l.places))
