-- How many deliveries it takes, computed: with one less a transaction isn't answered yet. Where no replica is to
-- spare, the bound of the law is met exactly.
use Rattle.std.proofs.Common.{◌≡◌, ℕ, Option, Some, List, [], ◌∷◌, ◌++◌, replicate, refl}
use Rattle.std.specs.List.{flat_map}
use Rattle.std.specs.Option.{option_map}
use Rattle.eris_base.specs.declared.ids.TxnId.{TxnId}
use Rattle.eris_base.specs.ConfigLimits.{ConfigValue}
use Rattle.eris_txn.specs.declared.history.HistoryEvent.{HistoryEvent}
use Rattle.eris_txn.specs.declared.key.Key.{Key}
use Rattle.eris_txn.specs.declared.op.Op.{Op}
use Rattle.eris_txn.specs.declared.op.Op.TheVariants.{Add, Get, Put}
use Rattle.eris_event.specs.declared.event.Event.{Event}
use Rattle.eris_rules.specs.Runs.{run}
use Rattle.eris_law_undisturbed.specs.Undisturbed.{packets_for_all}
use Rattle.eris_rules.proofs.Opened.{all_rules}

-- a system of so many shards, faults and clients, and words for what happens to it
abbrev system : ℕ → ℕ → ℕ → ConfigValue
system shards f clients = record { shards = shards; f = f; clients = clients }

abbrev txn : ℕ → ℕ → TxnId
txn owner number = record { client = record { 0 = owner }; number = number }

-- a key of a shard whose name is one letter
abbrev key : ℕ → ℕ → Key
key number letter = record { shard = record { 0 = number }; name = letter ∷ [] }

abbrev a : Key
a = key 0 97

abbrev b : Key
b = key 1 98

abbrev submit : ℕ → List Op → Event
submit owner ops = Event.Submit (record { 0 = owner }) ops

abbrev flow : ℕ → List Event
flow count = replicate count Event.Flow

abbrev crash : ℕ → ℕ → Event
crash number other = Event.Crash (record { 0 = number }) (record { 0 = other })

-- the transactions that are answered, in order
abbrev answer_in : HistoryEvent → List TxnId
answer_in (HistoryEvent.Answer id answer) = id ∷ []
answer_in event = []

abbrev answered : ConfigValue → List Event → Option (List TxnId)
answered config events = option_map (λ world. flat_map answer_in world.history) (run config events)

-- ONE SHARD OF ONE REPLICA: three packets, and each must be delivered
abbrev one_put : List Event
one_put = submit 0 (Put a 7 ∷ []) ∷ []

one_put_bound : packets_for_all (system 1 0 1) one_put ≡ 3
one_put_bound = refl

one_put_answered : answered (system 1 0 1) (one_put ++ flow 3) ≡ Some (txn 0 1 ∷ [])
unfolding all_rules
one_put_answered = refl

one_put_early : answered (system 1 0 1) (one_put ++ flow 2) ≡ Some []
unfolding all_rules
one_put_early = refl

-- THREE SHARDS OF ONE REPLICA, and two transactions: seven packets and three
abbrev three_shards : List Event
three_shards = submit 0 (Put a 1 ∷ Put b 2 ∷ Add (key 2 99) 3 ∷ []) ∷ submit 1 (Get b ∷ []) ∷ []

three_shards_bound : packets_for_all (system 3 0 2) three_shards ≡ 10
three_shards_bound = refl

three_shards_answered : answered (system 3 0 2) (three_shards ++ flow 10) ≡ Some (txn 0 1 ∷ txn 1 1 ∷ [])
unfolding all_rules
three_shards_answered = refl

three_shards_early : answered (system 3 0 2) (three_shards ++ flow 9) ≡ Some (txn 0 1 ∷ [])
unfolding all_rules
three_shards_early = refl

-- TWO SHARDS OF THREE REPLICAS, of each of which one has crashed: the votes of all that are up are needed, and they
-- are the last of eleven packets
abbrev two_crashed : List Event
two_crashed = crash 0 1 ∷ crash 1 2 ∷ submit 0 (Put a 1 ∷ Put b 2 ∷ []) ∷ []

two_crashed_bound : packets_for_all (system 2 1 1) two_crashed ≡ 13
two_crashed_bound = refl

two_crashed_answered : answered (system 2 1 1) (two_crashed ++ flow 11) ≡ Some (txn 0 1 ∷ [])
unfolding all_rules
two_crashed_answered = refl

two_crashed_early : answered (system 2 1 1) (two_crashed ++ flow 10) ≡ Some []
unfolding all_rules
two_crashed_early = refl

-- ONE SHARD OF FIVE REPLICAS, of which two crash after a first delivery: three votes are needed
abbrev five_replicas : List Event
five_replicas = submit 0 (Put a 1 ∷ []) ∷ (flow 1 ++ crash 0 1 ∷ crash 0 3 ∷ [])

five_replicas_bound : packets_for_all (system 1 2 1) five_replicas ≡ 11
five_replicas_bound = refl

five_replicas_answered : answered (system 1 2 1) (five_replicas ++ flow 8) ≡ Some (txn 0 1 ∷ [])
unfolding all_rules
five_replicas_answered = refl

five_replicas_early : answered (system 1 2 1) (five_replicas ++ flow 7) ≡ Some []
unfolding all_rules
five_replicas_early = refl

-- ONE CRASH TOO MANY: with the learner down nobody answers, however much is delivered
learner_down : answered (system 1 1 1) (crash 0 0 ∷ one_put ++ flow 20) ≡ Some []
unfolding all_rules
learner_down = refl

-- A SUBMISSION OF NO OPERATION is on no shard, and nobody answers it: so of events it is asked that they are fit
no_operation : answered (system 1 0 1) (submit 0 [] ∷ flow 20) ≡ Some []
unfolding all_rules
no_operation = refl
