use Rattle.std.proofs.Common.{◌≡◌}
use Rattle.eris_member.proofs.Others.{others_upto}
use Rattle.eris_member.proofs.member.EpochMember.others.Given as goal

abbrev pub invariant-loop-number : goal.invariant-loop-number
invariant-loop-number l = l.nodes ≡ others_upto l.self.me l.number
