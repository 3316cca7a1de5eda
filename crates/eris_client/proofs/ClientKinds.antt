-- A message in place is of a kind that a client takes. Used where it comes to its row.
use Rattle.std.proofs.Common.{◌≡◌, true}
use Rattle.std.proofs.lemmas.Bool.{and_parts}
use Rattle.eris_base.specs.ConfigLimits.{ConfigValue}
use Rattle.eris_msg.specs.declared.message.Message.{Message}
use Rattle.eris_rules.specs.InPlace.{is_for_client, is_in_place_at_client, is_sound}

pub kind_in_place : (config : ConfigValue) (message : Message) → is_in_place_at_client config message ≡ true → is_for_client message ≡ true
unfolding is_in_place_at_client
kind_in_place config message h = (and_parts (is_for_client message) (is_sound config message) h).0
