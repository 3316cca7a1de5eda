use Rattle.std.proofs.Common.{◌≡◌, ◌++◌}
use Rattle.eris_kept_store.specs.KeptStores.{IfKept}
use Rattle.eris_rules.specs.Outer.{outer_sends}
use Rattle.eris_rules.specs.Speaking.{speaks_after}
use Rattle.eris_member.proofs.member.EpochMember.speak_after.Given as goal

abbrev pub invariant-loop-more : goal.invariant-loop-more
invariant-loop-more l = record {
  sent : l.sends ≡ l.fn.sends ++ outer_sends l.self.epoch (speaks_after l.self.me l.self.state l.self.state.spoken l.more);
  kept : IfKept l.self.me.shard l.self.me.prior l.self.state.part l.kept;
}
