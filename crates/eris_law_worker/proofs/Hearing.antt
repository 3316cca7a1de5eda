-- One more fetched packet changes nothing of a node; and what the delivery of one says.
use Rattle.std.proofs.Common.{◌≡◌, ◌||◌, ◌==◌, ◌∙◌, ℕ, Bool, true, false, cond, List, [], ◌∷◌, ◌++◌, Option, refl, ap, eq-eqb}
use Rattle.std.specs.Prelude.{unwrap_or}
use Rattle.eris_base.specs.declared.ids.Epoch.{Epoch}
use Rattle.eris_base.specs.declared.ids.Node.{Node}
use Rattle.eris_codec.specs.Codecs.{whole}
use Rattle.eris_event.specs.declared.event.Event.{Event}
use Rattle.eris_journal.specs.Packets.{is_fetched}
use Rattle.eris_journal.specs.declared.fetched.Fetched.{Fetched}
use Rattle.eris_law_agreement.specs.NodeSteps.{NodeStep}
use Rattle.eris_law_live.specs.LiveBooks.{WasFetched}
use Rattle.eris_law_live.specs.LiveSteps.{events_of, fetched_message, hears, own_step, read_of, replay, replay_from}
use Rattle.eris_law_live.specs.OwnStates.{OwnState, first_own, own_after, own_newest}
use Rattle.eris_law_live.specs.declared.entry.LiveEntry.{LiveEntry}
use Rattle.eris_law_worker.specs.Undelivered.{AreFetched}
use Rattle.eris_msg.specs.Messages.{message}

-- the message of a fetched packet stays
message_stays : (number : ℕ) (fetched : List Fetched) (packet : Fetched) → is_fetched number fetched ≡ true → fetched_message number (fetched ++ packet ∷ []) ≡ fetched_message number fetched
message_stays number [] packet has = absurd (cc)
message_stays number (first ∷ rest) packet has = by_test (first.number == number) has (message_stays number rest packet)
  where
    by_test : (test : Bool) → (test || is_fetched number rest) ≡ true → (is_fetched number rest ≡ true → fetched_message number (rest ++ packet ∷ []) ≡ fetched_message number rest)
        → cond test (read_of (whole message first.message)) (fetched_message number (rest ++ packet ∷ [])) ≡ cond test (read_of (whole message first.message)) (fetched_message number rest)
    by_test true here more = refl
    by_test false later more = more later

step_stays : (node : Node) (fetched : List Fetched) (packet : Fetched) (state : OwnState) (event : Event) → WasFetched fetched event
    → own_step node (fetched ++ packet ∷ []) state event ≡ own_step node fetched state event
unfolding own_step
step_stays node fetched packet state (Event.Submit client ops) has = refl
step_stays node fetched packet state (Event.General client plan) has = refl
step_stays node fetched packet state (Event.Retry client number) has = refl
step_stays node fetched packet state (Event.Abort asker id) has = refl
step_stays node fetched packet state (Event.Deliver number epoch) has = ap (hears (unwrap_or epoch (own_newest state)) node) (message_stays number fetched packet has)
step_stays node fetched packet state Event.Flow has = refl
step_stays node fetched packet state Event.Lose has = refl
step_stays node fetched packet state (Event.Probe shard replica) has = refl
step_stays node fetched packet state (Event.Suspect shard replica) has = refl
step_stays node fetched packet state (Event.Sync shard replica) has = refl
step_stays node fetched packet state (Event.Crash shard replica) has = refl
step_stays node fetched packet state Event.Nudge has = refl
step_stays node fetched packet state Event.Replace has = refl
step_stays node fetched packet state (Event.Noise to bytes) has = refl

stays_from : (node : Node) (fetched : List Fetched) (packet : Fetched) (state : OwnState) (events : List Event) → AreFetched fetched events
    → replay_from node (fetched ++ packet ∷ []) state events ≡ replay_from node fetched state events
unfolding replay_from
stays_from node fetched packet state [] has = refl
stays_from node fetched packet state (event ∷ events) has =
    ap (λ (step : NodeStep). replay_from node (fetched ++ packet ∷ []) (own_after step state) events) (step_stays node fetched packet state event has.0)
    ∙ stays_from node fetched packet (own_after (own_step node fetched state event) state) events has.1

pub replay_stays : (node : Node) (fetched : List Fetched) (entries : List LiveEntry) (packet : Fetched) → AreFetched fetched (events_of entries)
    → replay node (fetched ++ packet ∷ []) entries ≡ replay node fetched entries
replay_stays node fetched entries packet has = stays_from node fetched packet (first_own node) (events_of entries) has

-- ---- what a delivery says
message_at : (some more : List Fetched) (packet : Fetched) → is_fetched packet.number some ≡ false → fetched_message packet.number (some ++ packet ∷ more) ≡ read_of (whole message packet.message)
message_at [] more packet new =
    ap (λ (test : Bool). cond test (read_of (whole message packet.message)) (fetched_message packet.number more)) (eq-eqb packet.number packet.number refl)
message_at (first ∷ rest) more packet new = by_test (first.number == packet.number) new (message_at rest more packet)
  where
    by_test : (test : Bool) → (test || is_fetched packet.number rest) ≡ false → (is_fetched packet.number rest ≡ false → fetched_message packet.number (rest ++ packet ∷ more) ≡ read_of (whole message packet.message))
        → cond test (read_of (whole message first.message)) (fetched_message packet.number (rest ++ packet ∷ more)) ≡ read_of (whole message packet.message)
    by_test true here later = absurd (cc)
    by_test false here later = later here

pub heard : (node : Node) (some more : List Fetched) (packet : Fetched) (state : OwnState) (epoch : Option Epoch) → is_fetched packet.number some ≡ false
    → own_step node (some ++ packet ∷ more) state (Event.Deliver packet.number epoch) ≡ hears (unwrap_or epoch (own_newest state)) node (read_of (whole message packet.message))
unfolding own_step
heard node some more packet state epoch new = ap (hears (unwrap_or epoch (own_newest state)) node) (message_at some more packet new)
