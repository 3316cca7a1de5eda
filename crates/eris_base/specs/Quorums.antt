use Rattle.std.specs.Prelude.{ℕ, ◌+◌, ◌*◌, ◌%◌, Bool, List, ◌==◌, nat_lt}
use Rattle.std.specs.Set.{distinct_count, is_member}
use Rattle.eris_base.specs.declared.ids.ReplicaId.{ReplicaId}
use Rattle.eris_base.specs.declared.ids.View.{View}

-- the designated learner of a view, among 2f+1 replicas
abbrev pub learner_of : View → ℕ → ReplicaId
learner_of view f = record { 0 = view.0 % (2 * f + 1) }

-- the two are one replica
abbrev pub same_replica : ReplicaId → ReplicaId → Bool
same_replica one another = one.0 == another.0

-- the replica is listed
abbrev pub has_replica : List ReplicaId → ReplicaId → Bool
has_replica replicas replica = is_member same_replica replicas replica

-- how many different replicas are listed
abbrev pub different_replicas : List ReplicaId → ℕ
different_replicas replicas = distinct_count same_replica replicas

-- at least f+1 different replicas are listed
abbrev pub are_quorum : List ReplicaId → ℕ → Bool
are_quorum replicas f = nat_lt f (different_replicas replicas)
