-- The step of a replica within one epoch.
use Rattle.std.specs.Prelude.{ℕ, Bool, ◌&&◌, nat_le, is_some, Option, Some, None, [], ◌∷◌, if◌then◌else◌}
use Rattle.eris_base.specs.declared.ids.Node.TheVariants.{Coordinator}
use Rattle.eris_base.specs.declared.ids.Place.{Place}
use Rattle.eris_base.specs.Places.{number_in}
use Rattle.eris_txn.specs.declared.packet.Packet.{Packet}
use Rattle.eris_log.specs.Entries.{entry_of, length_of}
use Rattle.eris_log.specs.Held.{packet_at}
use Rattle.eris_log.specs.Parts.{hold, mark_temp, mark_found, mark_dropped}
use Rattle.eris_drop.specs.declared.request.RequestAnswer.{RequestAnswer}
use Rattle.eris_drop.specs.Requests.{answer_request}
use Rattle.eris_rules.specs.EpochMessages.{EpochMessage, Stamped, Instructs, Notifies, Exchanges, Responds, Instruction, Request, Found, Dropped, Exchange, ViewChange, StartView, SyncAsk, Ack, Settled, Has, TempDropped, send}
use Rattle.eris_rules.specs.ReplicaAnswers.{is_open}
use Rattle.eris_rules.specs.ReplicaStates.{Member, EpochReplica, EpochOut, quiet, is_normal, is_learner}
use Rattle.eris_rules.specs.Settling.{sync_ask_row, ack_row, settled_row, sync_row}
use Rattle.eris_rules.specs.Speaking.{speaks_for, has_gap, find_gap, tail}
use Rattle.eris_rules.specs.Views.{shows_part, suspect_row, view_change_row, start_view_row}

-- it has spoken for the number in this view, and would still do so
unfoldable pub has_spoken_for : EpochReplica → ℕ → Bool
has_spoken_for state number =
    is_normal state.status
    && (nat_le number state.spoken && (nat_le number (length_of state.part) && is_open (entry_of state.part number)))

-- A packet that came before comes again, since its client asks again or the network repeats it: the client may
-- have missed what was said, so it is said again.
unfoldable pub speaks_again : Member → EpochReplica → ℕ → EpochOut
speaks_again me state number =
    if has_spoken_for state number then record { state = state; sends = speaks_for me state number } else quiet state

unfoldable pub holds_packet : EpochReplica → Packet → EpochOut
holds_packet state packet = quiet (record state { part = hold state.part packet })

unfoldable pub txn_at : Member → EpochReplica → Packet → ℕ → EpochOut
txn_at me state packet number =
    if is_some (packet_at state.part.held number) then speaks_again me state number else holds_packet state packet

abbrev pub txn_named : Member → EpochReplica → Packet → Option ℕ → EpochOut
txn_named me state packet None = quiet state
txn_named me state packet (Some number) = txn_at me state packet number

-- TXN, a stamped packet: it is held at the number that its stamp gives the shard
unfoldable pub txn_row : Member → EpochReplica → Packet → EpochOut
txn_row me state packet = txn_named me state packet (number_in packet.stamp.places me.shard)

abbrev pub gives_packet : EpochReplica → Option Packet → EpochOut
gives_packet state None = quiet state
gives_packet state (Some packet) = record { state = state; sends = send Coordinator (Notifies (Has packet)) ∷ [] }

-- It drops the place for a time: from now on a packet that has it doesn't count here unless the coordinator
-- found it. So where f+1 replicas of each shard have done so in a view, the packet can be dropped for good.
unfoldable pub drops_for_a_time : Member → EpochReplica → Place → EpochOut
drops_for_a_time me state place =
    record {
      state = record state { part = mark_temp state.part place };
      sends = send Coordinator (Notifies (TempDropped place me.shard me.replica state.view)) ∷ [];
    }

abbrev pub answers_request : Member → EpochReplica → Place → RequestAnswer → EpochOut
answers_request me state place (RequestAnswer.Has number) = gives_packet state (packet_at state.part.held number)
answers_request me state place RequestAnswer.Silent = quiet state
answers_request me state place RequestAnswer.Temp = drops_for_a_time me state place

-- REQUEST: it gives the packet that has the place; or drops the place for a time; or, where the place is
-- decided already, says nothing
unfoldable pub request_row : Member → EpochReplica → Place → EpochOut
request_row me state place =
    if is_normal state.status then answers_request me state place (answer_request state.part place) else quiet state

-- FOUND: the packet is held where it names the shard, and its places are found, so that a temporary drop of
-- one of them no longer hinders it
unfoldable pub found_row : EpochReplica → Packet → EpochOut
found_row state packet = quiet (record state { part = mark_found (hold state.part packet) packet.stamp })

-- DROPPED: the place is dropped for good
unfoldable pub dropped_row : EpochReplica → Place → EpochOut
dropped_row state place = quiet (record state { part = mark_dropped state.part place })

unfoldable pub probe_normal : Member → EpochReplica → EpochOut
probe_normal me state =
    if has_gap state.part then record { state = state; sends = find_gap me state.part ∷ [] } else quiet state

unfoldable pub probe_changing : Member → EpochReplica → EpochOut
probe_changing me state = if is_learner me state.view then quiet state else shows_part me state

-- PROBE: it asks again for the gap that it waits for, or shows its part again to the learner that it waits for
unfoldable pub probe_row : Member → EpochReplica → EpochOut
probe_row me state = if is_normal state.status then probe_normal me state else probe_changing me state

-- what makes a replica step within an epoch
pub data EpochInput : Type 0 where
  Get : (message : EpochMessage) → EpochInput
  Probe : EpochInput
  Suspect : EpochInput
  Sync : EpochInput

abbrev pub instruction_row : Member → EpochReplica → Instruction → EpochOut
instruction_row me state (Request place) = request_row me state place
instruction_row me state (Found packet) = found_row state packet
instruction_row me state (Dropped place) = dropped_row state place

abbrev pub exchange_row : Member → EpochReplica → Exchange → EpochOut
exchange_row me state (ViewChange replica view part) = view_change_row me state replica view part
exchange_row me state (StartView view part) = start_view_row me state view part
exchange_row me state (SyncAsk view) = sync_ask_row me state view
exchange_row me state (Ack replica view length) = ack_row me state replica view length
exchange_row me state (Settled view number places) = settled_row me state view number places

-- what is said to the coordinator or to a client is not for a replica
abbrev pub message_row : Member → EpochReplica → EpochMessage → EpochOut
message_row me state (Stamped packet) = txn_row me state packet
message_row me state (Instructs instruction) = instruction_row me state instruction
message_row me state (Notifies notice) = quiet state
message_row me state (Exchanges exchange) = exchange_row me state exchange
message_row me state (Responds response) = quiet state

abbrev pub row : Member → EpochReplica → EpochInput → EpochOut
row me state (Get message) = message_row me state message
row me state Probe = probe_row me state
row me state Suspect = suspect_row me state
row me state Sync = sync_row me state

-- THE STEP of a replica within one epoch: the input's row, then the tail
unfoldable pub epoch_step : Member → EpochReplica → EpochInput → EpochOut
epoch_step me state input = tail me (row me state input)
