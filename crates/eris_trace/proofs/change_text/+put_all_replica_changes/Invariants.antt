use Rattle.std.proofs.Common.{length}
use Rattle.eris_trace.proofs.change_text.+put_all_replica_changes.Given as goal

abbrev pub decreases-put_all_replica_changes : goal.decreases-put_all_replica_changes
decreases-put_all_replica_changes l = length l.old.now
