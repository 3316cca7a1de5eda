use Rattle.std.proofs.Common.{◌≡◌, ◌++◌, map, take}
use Rattle.eris_trace.specs.BodyText.{lock_word}
use Rattle.eris_words.specs.Words.{spaced}
use Rattle.eris_trace.proofs.body_text.put_locks.Given as goal

abbrev pub invariant-loop-lock : goal.invariant-loop-lock
invariant-loop-lock l = l.out ≡ l.fn.out ++ spaced (map lock_word (take l.lock-index l.locks))
