use Rattle.std.proofs.Common.{◌≡◌, ◌++◌, take}
use Rattle.eris_rules.specs.Reports.{shard_lines}
use Rattle.eris_rules.specs.Worlds.{WorldState}
use Rattle.eris_nodes.specs.MemberRows.{states_of}
use Rattle.eris_nodes.proofs.members.add_all_lines.Given as goal

abbrev pub invariant-loop-number : goal.invariant-loop-number
invariant-loop-number l = (world : WorldState) → world.crashed ≡ l.crashed → l.lines ≡ l.fn.lines ++ shard_lines world l.shard 0 (states_of (take l.number l.members))
