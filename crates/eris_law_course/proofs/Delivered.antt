-- WHAT CAME TO A CLIENT was sent: each message that came in place, at any moment, stands among the sent ones of every
-- later moment.
use Rattle.std.proofs.Common.{◌≡◌, ℕ, suc, ◌≤◌, true, List, Some, arith}
use Rattle.std.specs.Prelude.{slice_get}
use Rattle.eris_base.specs.declared.ids.ClientId.{ClientId}
use Rattle.eris_base.specs.ConfigLimits.{ConfigValue}
use Rattle.eris_msg.specs.declared.message.Message.{Message}
use Rattle.eris_event.specs.declared.event.Event.{Event}
use Rattle.eris_rules.specs.InPlace.{is_in_place_at_client}
use Rattle.eris_law_agreement.specs.WorldMoments.{world_at}
use Rattle.eris_law_agreement.proofs.Growth.{sent_kept}
use Rattle.eris_law_client.specs.ClientRuns.{Gets}
use Rattle.eris_law_course.specs.Inputs.{inputs_of}
use Rattle.eris_law_course.specs.Submitted.{IsAmongSent}
use Rattle.eris_law_course.proofs.Calls.{event_of, gets_sent}

pub delivered : (config : ConfigValue) (events : List Event) (client : ClientId) (k at : ℕ) (message : Message) → suc at ≤ k → slice_get (inputs_of config events client) at ≡ Some (Gets message)
    → is_in_place_at_client config message ≡ true → IsAmongSent (world_at config events k).sent message
delivered config events client k at message before came ok =
    let input = event_of config events client at (Gets message) came in
    let sent = gets_sent config (world_at config events at) client message ok input.event input.is in
    record { to = sent.0; there = sent_kept config events (record { to = sent.0; message = message }) at k (omega (arith, before)) sent.1 }
