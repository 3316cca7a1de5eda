-- A message that is in place at a replica is of a kind for replicas.
use Rattle.std.proofs.Common.{◌≡◌, true}
use Rattle.std.proofs.lemmas.Bool.{and_parts}
use Rattle.eris_base.specs.ConfigLimits.{ConfigValue}
use Rattle.eris_msg.specs.declared.message.Message.{Message}
use Rattle.eris_rules.specs.InPlace.{is_for_replica, is_in_place_at_replica, is_sound}

pub kind_in_place : (config : ConfigValue) (message : Message) → is_in_place_at_replica config message ≡ true → is_for_replica message ≡ true
unfolding is_in_place_at_replica
kind_in_place config message h = (and_parts (is_for_replica message) (is_sound config message) h).0
