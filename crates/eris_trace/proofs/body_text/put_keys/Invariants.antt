use Rattle.std.proofs.Common.{◌≡◌, ◌++◌, map, take}
use Rattle.eris_words.specs.Words.{key_word, spaced}
use Rattle.eris_trace.proofs.body_text.put_keys.Given as goal

abbrev pub invariant-loop-key : goal.invariant-loop-key
invariant-loop-key l = l.out ≡ l.fn.out ++ spaced (map key_word (take l.key-index l.keys))
