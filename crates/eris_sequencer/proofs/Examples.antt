-- Asks, one after another, computed by hand: 3 shards of 3 replicas, and 2 clients.
use Rattle.std.specs.Prelude.{◌≡◌, ℕ, Some, None, List, [], ◌∷◌, map, refl}
use Rattle.eris_base.specs.declared.config.Config.{Config}
use Rattle.eris_base.specs.declared.ids.Epoch.{Epoch}
use Rattle.eris_base.specs.declared.ids.Node.TheVariants as node
use Rattle.eris_base.specs.declared.ids.ShardId.{ShardId}
use Rattle.eris_txn.specs.declared.body.Body.{Body}
use Rattle.eris_txn.specs.declared.body.Body.TheVariants.{Abort}
use Rattle.eris_msg.specs.declared.message.Message.{Message}
use Rattle.eris_msg.specs.declared.message.Message.TheVariants.{Ask, Request}
use Rattle.eris_sequencer.specs.Asks.{ask, Asked, sends_of, sends_to, sends_stamped, stamp_message, asked_by}
use Rattle.eris_sequencer.specs.Sequencers.{first_stampings, new_stamping, replace, stamped_in, packets_of, stamp, stamp_by, stamp_at, no_stamp, is_in_place, are_shards_of}
use Rattle.eris_sequencer.specs.Stamps.{new_sequencer, counter_of, next_places, with_numbers, is_full, next_stamp, next_packet, after_stamp, stamped_next}

abbrev pub three : Config
three = record { shards = 3; f = 1; clients = 2 }

abbrev pub epoch : ℕ → Epoch
epoch number = record { 0 = number }

abbrev pub shard : ℕ → ShardId
shard number = record { 0 = number }

-- an abort on keys of these shards
abbrev pub abort_on : List ℕ → Body
abort_on shards = Abort (map (λ number. record { shard = shard number; name = 97 ∷ [] }) shards)

-- an ask of client 0
abbrev pub ask_on : List ℕ → Message
ask_on shards = Ask (record { 0 = 0 }) (record { client = record { 0 = 0 }; number = 1 }) (abort_on shards)

-- the places of the packets that were stamped in an epoch
abbrev pub places_in : Asked → ℕ → List (List (ShardId × ℕ))
places_in asked number = map (λ packet. packet.stamp.places) (stamped_in asked.stampings (epoch number))

abbrev pub first : Asked
first = ask three (first_stampings three) (epoch 0) (ask_on (2 ∷ 0 ∷ []))

abbrev pub second : Asked
second = ask three (replace three first.stampings) (epoch 0) (ask_on (2 ∷ 1 ∷ 2 ∷ []))

abbrev pub third : Asked
third = ask three second.stampings (epoch 1) (ask_on (0 ∷ []))

-- the participants of each get their next numbers, also of a sequencer that was replaced
stamped_first : places_in third 0 ≡ ((shard 0, 1) ∷ (shard 2, 1) ∷ []) ∷ ((shard 1, 1) ∷ (shard 2, 2) ∷ []) ∷ []
unfolding ask asked_by stamp_message first_stampings new_stamping replace stamped_in packets_of stamp stamp_by stamp_at no_stamp is_in_place are_shards_of new_sequencer counter_of next_places with_numbers is_full next_stamp next_packet after_stamp stamped_next
stamped_first = refl

-- a later epoch counts from 1 again
stamped_later : places_in third 1 ≡ ((shard 0, 1) ∷ []) ∷ []
unfolding ask asked_by stamp_message first_stampings new_stamping replace stamped_in packets_of stamp stamp_by stamp_at no_stamp is_in_place are_shards_of new_sequencer counter_of next_places with_numbers is_full next_stamp next_packet after_stamp stamped_next
stamped_later = refl

-- it goes to all replicas of its shards, by shard and then by replica
sent : map (λ sent. sent.to) first.sends
    ≡ node.Replica (shard 0) (record { 0 = 0 }) ∷ node.Replica (shard 0) (record { 0 = 1 }) ∷ node.Replica (shard 0) (record { 0 = 2 })
    ∷ node.Replica (shard 2) (record { 0 = 0 }) ∷ node.Replica (shard 2) (record { 0 = 1 }) ∷ node.Replica (shard 2) (record { 0 = 2 }) ∷ []
unfolding ask asked_by stamp_message first_stampings new_stamping stamp stamp_by stamp_at is_in_place are_shards_of new_sequencer counter_of next_places with_numbers is_full next_stamp next_packet after_stamp stamped_next sends_of sends_to sends_stamped
sent = refl

-- another message, and an ask on a shard that isn't there, change nothing and send nothing
unasked : ask three second.stampings (epoch 0) (Request (record { epoch = epoch 0; shard = shard 0; number = 1 })) ≡ record { stampings = second.stampings; sends = [] }
unfolding ask asked_by stamp_message no_stamp sends_stamped
unasked = refl

out_of_place : ask three (first_stampings three) (epoch 0) (ask_on (0 ∷ 3 ∷ [])) ≡ record { stampings = first_stampings three; sends = [] }
unfolding ask asked_by stamp_message first_stampings new_stamping stamp no_stamp is_in_place are_shards_of sends_stamped
out_of_place = refl

-- a full counter stamps nothing, also for the other shards
full : stamp_by (record { sequencer = record { epoch = epoch 0; counters = 4294967295 ∷ 5 ∷ [] }; stamped = [] } ∷ []) (epoch 0)
    (Some (record { sequencer = record { epoch = epoch 0; counters = 4294967295 ∷ 5 ∷ [] }; stamped = [] }))
    (record { 0 = 0 }) (record { client = record { 0 = 0 }; number = 1 }) (abort_on (1 ∷ 0 ∷ []))
    ≡ record { stampings = record { sequencer = record { epoch = epoch 0; counters = 4294967295 ∷ 5 ∷ [] }; stamped = [] } ∷ []; packet = None }
unfolding stamp_by no_stamp is_full counter_of
full = refl
