use Rattle.eris_rules.specs.ReplicaAnswers.{log_upto}
use Rattle.eris_kept_store.specs.KeptStores.{IsAfter}
use Rattle.eris_kept_store.proofs.answering.store_upto.Given as goal

abbrev pub invariant-loop-before : goal.invariant-loop-before
invariant-loop-before l = IsAfter l.shard (log_upto l.prior l.part l.before) l.store
