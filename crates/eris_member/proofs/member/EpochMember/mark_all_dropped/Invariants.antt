use Rattle.std.proofs.Common.{◌≡◌, take}
use Rattle.eris_rules.specs.Settling.{mark_all_dropped}
use Rattle.eris_member.proofs.member.EpochMember.mark_all_dropped.Given as goal

abbrev pub invariant-loop-place : goal.invariant-loop-place
invariant-loop-place l =
    l.self ≡ record l.fn.self { state = record l.fn.self.state { part = mark_all_dropped l.fn.self.state.part (take l.place-index l.places) } }
