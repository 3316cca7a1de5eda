use Rattle.std.proofs.Common.{◌≡◌, ◌+◌, false, take}
use Rattle.eris_rules.specs.Speaking.{holds_from}
use Rattle.eris_member.proofs.speaking.holds_above.Given as goal

abbrev pub invariant-loop-pair : goal.invariant-loop-pair
invariant-loop-pair l = holds_from (take l.pair-index l.held) (l.number + 1) ≡ false
