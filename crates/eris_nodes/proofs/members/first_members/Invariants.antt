use Rattle.std.proofs.Common.{◌≡◌, length, replicate}
use Rattle.eris_rules.specs.ReplicaStates.{first_state}
use Rattle.eris_nodes.specs.MemberRows.{AreMembers, states_of}
use Rattle.eris_nodes.proofs.members.first_members.Given as goal

abbrev pub invariant-loop-number : goal.invariant-loop-number
invariant-loop-number l = record {
  count : length l.members.items ≡ l.number;
  states : states_of l.members.items ≡ replicate l.number (first_state l.shard);
  members : AreMembers l.config l.shard 0 l.members.items;
}
