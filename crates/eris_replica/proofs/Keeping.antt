-- A replica stays in the messages' ranges from its start on; used for its invariant and for what it sends.
use Rattle.std.proofs.Common.{◌≡◌, ◌≤◌, ◌+◌, ◌*◌, true, List, sym, subst, arith}
use Rattle.std.proofs.lemmas.Bool.{and_from, le-leb, lt-ltb, ltb-true}
use Rattle.eris_base.specs.declared.ids.ReplicaId.{ReplicaId}
use Rattle.eris_base.specs.declared.ids.ShardId.{ShardId}
use Rattle.eris_base.specs.ConfigLimits.{ConfigValue, IsConfig}
use Rattle.eris_in_place.specs.MessageRanges.{SendsFit}
use Rattle.eris_in_place.proofs.MessageRangeLaws.{message_is_in_range}
use Rattle.eris_msg.specs.declared.outgoing.Outgoing.{Outgoing}
use Rattle.eris_codec.specs.Fields as f
use Rattle.eris_codec.proofs.FieldLaws.{tag_is}
use Rattle.eris_law_range.specs.Fitting.{ReplicaFits, ReplicaInputFits}
use Rattle.eris_law_range.proofs.EpochRanges.{first_state_fits, replica_step_fits}
use Rattle.eris_rules.specs.declared.replica_input.ReplicaInput.{ReplicaInput}
use Rattle.eris_rules.specs.Known.{knows_shard, knows_replica}
use Rattle.eris_rules.specs.ReplicaStates.{first_state}
use Rattle.eris_rules.specs.Replicas.{replica_step}
use Rattle.eris_replica.specs.ReplicaValues.{EpochsValue, InputFits, after}

shard_in_range : (config : ConfigValue) (shard : ShardId) → config.shards ≤ 64 → knows_shard config shard ≡ true → f.shard.fits shard ≡ true
unfolding f.shard
shard_in_range config shard few known =
    let lt = ltb-true shard.0 config.shards known in
    tag_is 0 63 shard.0 (lt-ltb shard.0 256 (omega arith)) (and_from _ _ (le-leb 0 shard.0 (omega arith)) (le-leb shard.0 63 (omega arith)))

replica_in_range : (config : ConfigValue) (replica : ReplicaId) → config.f ≤ 3 → knows_replica config replica ≡ true → f.replica.fits replica ≡ true
unfolding f.replica
replica_in_range config replica few known =
    let lt = ltb-true replica.0 (2 * config.f + 1) known in
    tag_is 0 6 replica.0 (lt-ltb replica.0 256 (omega arith)) (and_from _ _ (le-leb 0 replica.0 (omega arith)) (le-leb replica.0 6 (omega arith)))

-- at the start
pub first_fits : (config : ConfigValue) (shard : ShardId) (replica : ReplicaId) → IsConfig config → knows_shard config shard ≡ true → knows_replica config replica ≡ true
    → ReplicaFits (record { config = config; shard = shard; replica = replica }) (first_state shard)
first_fits config shard replica is s r =
    first_state_fits (record { config = config; shard = shard; replica = replica }) is (shard_in_range config shard is.few_shards s) (replica_in_range config replica is.few_faults r)

input_fits : (input : ReplicaInput) → InputFits input → ReplicaInputFits input
input_fits (ReplicaInput.Message message) h = message_is_in_range message h
input_fits ReplicaInput.Probe h = tt
input_fits ReplicaInput.Suspect h = tt
input_fits ReplicaInput.Sync h = tt

-- after a step
pub step_keeps : (old new : EpochsValue) (sends : List Outgoing) (input : ReplicaInput) → (new, sends) ≡ after old (replica_step old.me old.state input)
    → ReplicaFits old.me old.state → InputFits input → ReplicaFits new.me new.state
step_keeps old new sends input e h k =
    let P : EpochsValue × List Outgoing → Type 0 = λ pair. ReplicaFits pair.0.me pair.0.state in
    subst P (sym e) (replica_step_fits old.me old.state input h (input_fits input k)).state

pub step_sends : (old new : EpochsValue) (sends : List Outgoing) (input : ReplicaInput) → (new, sends) ≡ after old (replica_step old.me old.state input)
    → ReplicaFits old.me old.state → InputFits input → SendsFit sends
step_sends old new sends input e h k =
    let P : EpochsValue × List Outgoing → Type 0 = λ pair. SendsFit pair.1 in
    subst P (sym e) (replica_step_fits old.me old.state input h (input_fits input k)).sends
