-- AT THE START nothing was sent, and every replica has nothing.
use Rattle.std.proofs.Common.{◌≡◌, ◌<◌, ◌+◌, ℕ, zero, suc, true, Some, [], map, replicate, refl, ap, ◌∙◌, arith}
use Rattle.std.proofs.lemmas.Bool.{ltb-true}
use Rattle.std.proofs.lemmas.List.{length-replicate}
use Rattle.std.specs.List.{range_with_len}
use Rattle.std.specs.Prelude.{slice_get}
use Rattle.eris_base.specs.declared.ids.ClientId.{ClientId}
use Rattle.eris_base.specs.declared.ids.ReplicaId.{ReplicaId}
use Rattle.eris_base.specs.declared.ids.ShardId.{ShardId}
use Rattle.eris_base.specs.ConfigLimits.{ConfigValue}
use Rattle.eris_log.specs.Parts.{empty_part}
use Rattle.eris_sequencer.specs.Sequencers.{first_stampings, new_stamping}
use Rattle.eris_sequencer.specs.Stamps.{counter_of, new_sequencer}
use Rattle.eris_rules.specs.Addressees.{replica_count}
use Rattle.eris_rules.specs.ClientStates.{ClientState, first_client}
use Rattle.eris_rules.specs.Known.{knows_client}
use Rattle.eris_rules.specs.ReplicaStates.{begun, first_state, fresh}
use Rattle.eris_rules.specs.Worlds.{client_at, first_replicas, first_world, in_row, replica_at}
use Rattle.eris_law_epoch.proofs.StampList.{zero_counter}
use Rattle.eris_law_calm.specs.Calm.{IsCalm, IsCell}
use Rattle.eris_law_calm.specs.Received.{state_after}

one_of_many : {X : Type 0} (many i : ℕ) (x : X) → i < many → slice_get (replicate many x) i ≡ Some x
one_of_many zero i x low = absurd (omega arith)
one_of_many (suc many) zero x low = refl
one_of_many (suc many) (suc i) x low = one_of_many many i x (omega arith)

row_at : {X : Type 0} (make : ℕ → X) (from many i : ℕ) → i < many → slice_get (map make (range_with_len from many)) i ≡ Some (make (from + i))
row_at make from zero i low = absurd (omega arith)
row_at make from (suc many) zero low = let here : from ≡ from + 0 = omega arith in ap (λ n. Some (make n)) here
row_at make from (suc many) (suc i) low = let next : (from + 1) + i ≡ from + suc i = omega arith in row_at make (from + 1) many i (omega arith) ∙ ap (λ n. Some (make n)) next

module _ (config : ConfigValue) where
  starts : (shard : ShardId) (replica : ReplicaId) → shard.0 < config.shards → replica.0 < replica_count config → replica_at (first_world config).replicas shard replica ≡ Some (state_after shard [])
  unfolding first_world first_replicas replica_at first_state begun fresh empty_part
  starts shard replica low high =
      let zero_more : 0 + shard.0 ≡ shard.0 = omega arith in
      ap (λ row. in_row row replica.0) (row_at (λ number. first_replicas config (record { 0 = number })) 0 config.shards shard.0 low)
      ∙ one_of_many (replica_count config) replica.0 (first_state (record { 0 = 0 + shard.0 })) high
      ∙ ap (λ n. Some (state_after (record { 0 = n }) [])) zero_more

  first_cell : (shard : ShardId) (replica : ReplicaId) → shard.0 < config.shards → replica.0 < replica_count config → IsCell [] (first_world config).replicas [] 0 [] (new_stamping config (record { 0 = 0 })).sequencer.counters shard replica
  unfolding new_stamping new_sequencer counter_of
  first_cell shard replica low high = record {
    taken = 0;
    low = omega arith;
    counter = (let none = zero_counter config.shards shard.0 in omega (arith, none));
    numbered = tt;
    lives = λ up. record { packets = []; at = starts shard replica low high; many = refl; whole = tt };
  }

  first_clients : (client : ClientId) → knows_client config client ≡ true → (state : ClientState) × (client_at (replicate config.clients first_client) client ≡ Some state)
  unfolding client_at
  first_clients client known = (first_client, one_of_many config.clients client.0 first_client (ltb-true _ _ known))

  pub calm_start : IsCalm config (λ shard. 0) 0 (first_world config)
  unfolding first_world first_stampings new_stamping new_sequencer
  calm_start = (
    [],
    [],
    record {
      queue = record { sent_is = refl; waiting_is = refl };
      few_sent = omega arith;
      weighs = omega arith;
      stamping = new_stamping config (record { 0 = 0 });
      stampings = refl;
      epoch = refl;
      counters = length-replicate config.shards 0;
      fine = tt;
      cells = first_cell;
      few = λ shard. omega arith;
      first_up = λ shard. refl;
      clients = first_clients;
      whole = λ id txn i. absurd i;
      jobs = λ id ops i. absurd i;
    },
  )
