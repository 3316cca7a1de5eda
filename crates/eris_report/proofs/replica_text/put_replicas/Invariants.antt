use Rattle.std.proofs.Common.{◌≡◌, ◌++◌, map, take}
use Rattle.std.specs.List.{flat_map}
use Rattle.eris_report.specs.ReplicaText.{replica_words}
use Rattle.eris_words.specs.Words.{line}
use Rattle.eris_report.proofs.replica_text.put_replicas.Given as goal

abbrev pub invariant-loop-replica : goal.invariant-loop-replica
invariant-loop-replica l = l.out ≡ l.fn.out ++ flat_map line (map replica_words (take l.replica-index l.replicas))
