-- What a message that is in place tells of its kind, its sender and its epoch; used where a message is taken.
use Rattle.std.proofs.Common.{◌≡◌, ◌+◌, ◌*◌, true, subst}
use Rattle.std.proofs.lemmas.Bool.{and_parts, ltb-true}
use Rattle.eris_base.specs.declared.ids.Epoch.{Epoch}
use Rattle.eris_base.specs.ConfigLimits.{ConfigValue}
use Rattle.eris_member.specs.declared.input.MemberInput.{MemberInput}
use Rattle.eris_member.specs.MemberInputs.{IsFor}
use Rattle.eris_msg.specs.declared.message.Message.{Message}
use Rattle.eris_rules.specs.InPlace.{is_for_replica, is_in_place_at_replica, is_sound}
use Rattle.eris_rules.specs.Known.{knows_all}
use Rattle.eris_rules.proofs.OuterLaws.{places_of_epoch}
use Rattle.eris_rules.proofs.InPlaceLaws.{kind_in_place}
use Rattle.eris_replica.specs.ReplicaValues.{IsSenderKnown}

known_in_place : (config : ConfigValue) (message : Message) → is_in_place_at_replica config message ≡ true → knows_all config message ≡ true
unfolding is_in_place_at_replica is_sound
known_in_place config message h = (and_parts (knows_all config message) _ (and_parts (is_for_replica message) (is_sound config message) h).1).0

sender_known : (config : ConfigValue) (message : Message) → knows_all config message ≡ true → IsSenderKnown config message
unfolding knows_all
sender_known config (Message.Ack replica epoch view length) h = ltb-true replica.0 (2 * config.f + 1) h
sender_known config (Message.Ask asker id body) h = tt
sender_known config (Message.Txn packet) h = tt
sender_known config (Message.Vouch view shard replica stamp id phase) h = tt
sender_known config (Message.Reply view shard replica stamp id phase answer) h = tt
sender_known config (Message.Late shard replica id phase answer) h = tt
sender_known config (Message.Find replica place) h = tt
sender_known config (Message.Request place) h = tt
sender_known config (Message.Has packet) h = tt
sender_known config (Message.TempDropped place shard replica view) h = tt
sender_known config (Message.Found packet) h = tt
sender_known config (Message.Dropped place) h = tt
sender_known config (Message.ViewChange replica view part) h = tt
sender_known config (Message.StartView view part) h = tt
sender_known config (Message.SyncAsk epoch view) h = tt
sender_known config (Message.Settled epoch view number places) h = tt
sender_known config (Message.NewEpoch shard replica epoch) h = tt
sender_known config (Message.EpochAsk epoch) h = tt
sender_known config (Message.EpochState replica epoch part) h = tt
sender_known config (Message.StartEpoch epoch shard packets) h = tt

pub sender_in_place : (config : ConfigValue) (message : Message) → is_in_place_at_replica config message ≡ true → IsSenderKnown config message
sender_in_place config message h = sender_known config message (known_in_place config message h)

-- what is of an epoch is of the own one, where that is the same
pub is_for_own : (epoch own : Epoch) (config : ConfigValue) (input : MemberInput) → epoch ≡ own → IsFor epoch config input → IsFor own config input
is_for_own epoch own config input e h = subst (λ (one : Epoch). IsFor one config input) e h

pub ruleset in_place = (kind_in_place, sender_in_place)

pub ruleset of_epoch = (places_of_epoch)

pub ruleset for_own = (is_for_own)
