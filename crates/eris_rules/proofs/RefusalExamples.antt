-- Events that are refused, and settled logs, computed.
use Rattle.std.specs.Prelude.{◌≡◌, ℕ, Option, Some, None, List, [], ◌∷◌, ◌++◌, map, refl}
use Rattle.std.specs.Option.{option_map, option_and_then}
use Rattle.eris_base.specs.declared.ids.Node.TheVariants.{Coordinator}
use Rattle.eris_base.specs.declared.ids.ReplicaId.{ReplicaId}
use Rattle.eris_base.specs.declared.ids.ShardId.{ShardId}
use Rattle.eris_txn.specs.declared.op.Op.TheVariants.{Get, Put}
use Rattle.eris_event.specs.declared.event.Event.{Event}
use Rattle.eris_event.specs.declared.refusal.Refusal.{Refusal}
use Rattle.eris_event.specs.declared.refusal.Refusal.TheVariants.{NoSuchClient, NoSuchShard, NoSuchTxn, OwnTxn, NotGeneral, NoSuchPacket, NoSuchSequencer, NoSuchReplica, Crashed, IsMessage}
use Rattle.eris_rules.specs.Good.{settled_log}
use Rattle.eris_rules.specs.Refusals.{refusal}
use Rattle.eris_rules.specs.Runs.{run}
use Rattle.eris_rules.specs.Worlds.{WorldState, replica_at}
use Rattle.eris_rules.proofs.ExampleWords.{system, a, b, txn, plan, submit, general, retry, abort, deliver, deliver_to, flow, sync, crash, shard, replica, places}
use Rattle.eris_rules.proofs.Opened.{all_rules}
use Rattle.eris_rules.proofs.ViewExamples.{settled}

-- why an event is refused after others, in a system of one shard and two clients
abbrev pub refused : List Event → Event → Option Refusal
refused events event = option_and_then (λ world. refusal (system 1 0 2) world event) (run (system 1 0 2) events)

abbrev pub begun : List Event
begun = submit 0 (Put a 7 ∷ []) ∷ general 1 (plan (a ∷ []) [] []) ∷ []

no_such_client : refused begun (submit 2 (Put b 7 ∷ [])) ≡ Some NoSuchClient
unfolding all_rules
no_such_client = refl

no_such_shard : refused begun (submit 1 (Put a 7 ∷ Get b ∷ [])) ≡ Some NoSuchShard
unfolding all_rules
no_such_shard = refl

no_such_txn : refused begun (retry 0 2) ≡ Some NoSuchTxn
unfolding all_rules
no_such_txn = refl

own_txn : refused begun (abort 0 (txn 0 9)) ≡ Some OwnTxn
unfolding all_rules
own_txn = refl

not_general : refused begun (abort 1 (txn 0 1)) ≡ Some NotGeneral
unfolding all_rules
not_general = refl

aborted : refused begun (abort 0 (txn 1 1)) ≡ None
unfolding all_rules
aborted = refl

no_such_packet : refused begun (deliver 2) ≡ Some NoSuchPacket
unfolding all_rules
no_such_packet = refl

-- an epoch that has no sequencer yet, and one that is named of a message to a replica
no_such_sequencer : refused begun (deliver_to 0 1) ≡ Some NoSuchSequencer
unfolding all_rules
no_such_sequencer = refl

not_an_ask : refused (begun ++ deliver 0 ∷ []) (deliver_to 2 0) ≡ Some NoSuchSequencer
unfolding all_rules
not_an_ask = refl

no_such_replica : refused begun (sync 0 1) ≡ Some NoSuchReplica
unfolding all_rules
no_such_replica = refl

crashed_twice : refused (crash 0 0 ∷ []) (crash 0 0) ≡ Some Crashed
unfolding all_rules
crashed_twice = refl

-- a message to a replica that has crashed isn't delivered, but flows away
crashed_receiver : refused (begun ++ deliver 0 ∷ crash 0 0 ∷ []) (deliver 2) ≡ Some Crashed
unfolding all_rules
crashed_receiver = refl

flowing_away : refused (begun ++ deliver 0 ∷ crash 0 0 ∷ flow 2) Event.Flow ≡ None
unfolding all_rules
flowing_away = refl

-- bytes that are a message can't come from nowhere; bytes that are none can
abbrev pub epoch_ask : ℕ → List ℕ
epoch_ask version = version ∷ 18 ∷ 0 ∷ 0 ∷ 0 ∷ 1 ∷ []

is_message : refused [] (Event.Noise Coordinator (epoch_ask 2)) ≡ Some IsMessage
unfolding all_rules
is_message = refl

is_noise : refused [] (Event.Noise Coordinator (epoch_ask 1)) ≡ None
unfolding all_rules
is_noise = refl

-- a run has no world where an event is refused
no_world : run (system 1 0 1) (deliver 0 ∷ []) ≡ None
unfolding all_rules
no_world = refl

-- SETTLED LOGS, as the stamps of their packets, of one shard that has three replicas
abbrev pub settled_by : ReplicaId → WorldState → Option (List (List (ShardId × ℕ)))
settled_by replica world =
    option_map (λ state. map (λ packet. packet.stamp.places) (settled_log state)) (replica_at world.replicas (shard 0) replica)

abbrev pub settled_after : List Event → ReplicaId → Option (List (List (ShardId × ℕ)))
settled_after events replica = option_and_then (settled_by replica) (run (system 1 1 1) events)

-- the learner and the others have settled the one packet
by_the_learner : settled_after settled (replica 0) ≡ Some (places ((0, 1) ∷ []) ∷ [])
unfolding all_rules
by_the_learner = refl

by_another : settled_after settled (replica 2) ≡ Some (places ((0, 1) ∷ []) ∷ [])
unfolding all_rules
by_another = refl

-- nothing is settled before that
by_nobody : settled_after (submit 0 (Put a 7 ∷ []) ∷ flow 7) (replica 0) ≡ Some []
unfolding all_rules
by_nobody = refl
