use Rattle.std.proofs.Common.{◌≡◌, take}
use Rattle.eris_base.specs.ConfigLimits.{ConfigValue}
use Rattle.eris_rules.specs.Reports.{all_lines}
use Rattle.eris_rules.specs.Worlds.{WorldState}
use Rattle.eris_nodes.specs.ReplicaRows.{AreRows, rows_of}
use Rattle.eris_nodes.proofs.replicas.lines_of.Given as goal

abbrev pub invariant-loop-row : goal.invariant-loop-row
invariant-loop-row l = (world : WorldState) → world.crashed ≡ l.crashed → (config : ConfigValue) → AreRows config 0 l.rows → l.lines ≡ all_lines world 0 (rows_of (take l.row-index l.rows))
