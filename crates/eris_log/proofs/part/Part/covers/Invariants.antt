use Rattle.std.proofs.Common.{◌≡◌, true}
use Rattle.eris_log.specs.Entries.{covers}
use Rattle.eris_log.proofs.part.Part.covers.Given as goal

abbrev pub invariant-loop-before : goal.invariant-loop-before
invariant-loop-before l = covers l.self l.before ≡ true
