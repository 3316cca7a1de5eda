-- Runs of one epoch, computed, so that nothing in its laws is vacuous: a place is dropped for good and the number
-- behind it is settled; and a view begins after a drop, with what the view before it knew, and settles.
use Rattle.std.specs.Prelude.{◌≡◌, ℕ, List, [], ◌∷◌, ◌++◌, length, refl}
use Rattle.eris_base.specs.declared.ids.ReplicaId.{ReplicaId}
use Rattle.eris_base.specs.declared.ids.ShardId.{ShardId}
use Rattle.eris_txn.specs.declared.body.Body.TheVariants.{Independent}
use Rattle.eris_txn.specs.declared.op.Op.TheVariants.{Put}
use Rattle.eris_log.specs.Entries.{length_of}
use Rattle.eris_rules.specs.ReplicaStates.{EpochReplica}
use Rattle.eris_law_epoch.specs.EpochWorlds.{EpochSystem, EpochWorld, EpochEvent, Asks, Delivers, Suspects, Syncs, moment}
use Rattle.eris_law_epoch.specs.Reading.{read}
use Rattle.eris_law_key.proofs.Opened.{all_definitions}

abbrev shard : ℕ → ShardId
shard number = record { 0 = number }

abbrev replica : ℕ → ReplicaId
replica number = record { 0 = number }

-- epoch 3 of a system of one shard, with nothing before it
abbrev system_of : ℕ → EpochSystem
system_of f = record { config = record { shards = 1; f = f; clients = 1 }; epoch = record { 0 = 3 }; prior = λ one. [] }

abbrev asks : ℕ → EpochEvent
asks number = Asks (record { 0 = 0 }) (record { client = record { 0 = 0 }; number = number }) (Independent (Put (record { shard = shard 0; name = 97 ∷ [] }) number ∷ []))

abbrev at_end : ℕ → List EpochEvent → EpochWorld
at_end f events = moment (system_of f) events (length events)

abbrev replica_at_end : ℕ → List EpochEvent → ℕ → EpochReplica
replica_at_end f events number = read (system_of f) (at_end f events).replicas (shard 0) (replica number)

-- how many places are dropped, the view, how many numbers are settled, and the length
abbrev told : ℕ → List EpochEvent → ℕ → List ℕ
told f events number =
    length (at_end f events).coordinator.dropped
    ∷ (replica_at_end f events number).view.0
    ∷ (replica_at_end f events number).settled
    ∷ length_of (replica_at_end f events number).part
    ∷ []

-- With f = 0, packet 1 is lost: packet 2 comes, the replica asks for place 1 and drops it for a time, the coordinator
-- drops it for good, and the log is settled up to number 2.
abbrev dropping : List EpochEvent
dropping = asks 1 ∷ asks 2 ∷ Delivers 1 ∷ Delivers 2 ∷ Delivers 3 ∷ Delivers 4 ∷ Delivers 5 ∷ Syncs (shard 0) (replica 0) ∷ []

dropped_and_settled : told 0 dropping 0 ≡ 1 ∷ 0 ∷ 2 ∷ 2 ∷ []
unfolding all_definitions
dropped_and_settled = refl

-- With f = 1, packet 1 is lost and packet 2 comes to replica 1 alone. Replicas 0 and 1 drop place 1 for a time, and the
-- coordinator drops it for good, of which replica 1 hears. Then replicas 1 and 2 go to view 1, whose learner is 1: it
-- begins the view with what both know, and replica 2 takes part from there.
abbrev changing : List EpochEvent
changing =
    asks 1 ∷ asks 2 ∷ Delivers 4 ∷ Delivers 6 ∷ Delivers 8 ∷ Delivers 7 ∷ Delivers 10 ∷ Delivers 11 ∷ Delivers 13
    ∷ Suspects (shard 0) (replica 1) ∷ Suspects (shard 0) (replica 2) ∷ Delivers 16 ∷ Delivers 18
    ∷ []

learner_begins : told 1 changing 1 ≡ 1 ∷ 1 ∷ 0 ∷ 2 ∷ []
unfolding all_definitions
learner_begins = refl

-- replica 2 never got packet 2, nor heard that place 1 is dropped, but for the view change
other_joins : told 1 changing 2 ≡ 1 ∷ 1 ∷ 0 ∷ 2 ∷ []
unfolding all_definitions
other_joins = refl

-- replica 0 knows nothing of the view
first_stays : told 1 changing 0 ≡ 1 ∷ 0 ∷ 0 ∷ 0 ∷ []
unfolding all_definitions
first_stays = refl

-- In view 1 the learner asks how far the others are, and settles both numbers; replica 2 learns of it.
abbrev settling : List EpochEvent
settling = changing ++ Syncs (shard 0) (replica 1) ∷ Delivers 22 ∷ Delivers 23 ∷ Delivers 25 ∷ []

learner_settles : told 1 settling 1 ≡ 1 ∷ 1 ∷ 2 ∷ 2 ∷ []
unfolding all_definitions
learner_settles = refl

other_learns : told 1 settling 2 ≡ 1 ∷ 1 ∷ 2 ∷ 2 ∷ []
unfolding all_definitions
other_learns = refl
