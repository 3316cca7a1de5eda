-- What a replica tells clients, and what it asks for where a packet is missing.
use Rattle.std.specs.Prelude.{ℕ, zero, suc, ◌+◌, ◌-◌, max, Bool, not, ◌&&◌, nat_le, Option, Some, None, List, [], ◌∷◌, ◌++◌, if◌then◌else◌}
use Rattle.std.specs.List.{list_any}
use Rattle.eris_base.specs.declared.ids.Node.TheVariants.{Coordinator, Client}
use Rattle.eris_base.specs.StampPlaces.{is_number}
use Rattle.eris_txn.specs.declared.answer.Answer.{Answer}
use Rattle.eris_txn.specs.declared.packet.Packet.{Packet}
use Rattle.eris_log.specs.Entries.{entry_of, length_of, own_place}
use Rattle.eris_log.specs.Held.{packet_at}
use Rattle.eris_log.specs.PartValues.{PartValue}
use Rattle.eris_locks.specs.States.{phase_of}
use Rattle.eris_rules.specs.EpochMessages.{EpochSend, send, Notifies, Responds, Find, Vouch, Reply}
use Rattle.eris_rules.specs.ReplicaAnswers.{is_open, log_upto, answer_after}
use Rattle.eris_rules.specs.ReplicaStates.{Member, EpochReplica, EpochOut, is_normal, is_learner}

-- SPEAKING for a number, which tells the asker of the packet there. A client counts a shard when f+1 of its
-- replicas, the learner among them, spoke for one stamp in one view; so what was counted is in the part of
-- one of any f+1 replicas, and no later view or epoch can lose it.

-- a replica that isn't the learner vouches: it has the packet, and has no gap before it
abbrev pub vouch_for : Member → EpochReplica → Packet → EpochSend
vouch_for me state packet =
    send (Client packet.asker) (Responds (Vouch state.view me.shard me.replica packet.stamp packet.id (phase_of packet.body)))

-- the learner gives the store's answer
abbrev pub reply_for : Member → EpochReplica → Packet → Answer → EpochSend
reply_for me state packet answer =
    send (Client packet.asker) (Responds (Reply state.view me.shard me.replica packet.stamp packet.id (phase_of packet.body) answer))

-- and says nothing where the packet waits for a lock: its answer isn't known yet
abbrev pub replies_with : Member → EpochReplica → Packet → Option Answer → List EpochSend
replies_with me state packet None = []
replies_with me state packet (Some answer) = reply_for me state packet answer ∷ []

-- the learner executes over the log before the packet, before anything is settled
unfoldable pub speaks_of : Member → EpochReplica → ℕ → Packet → List EpochSend
speaks_of me state number packet =
    if is_learner me state.view
    then replies_with me state packet (answer_after me.shard (log_upto me.prior state.part (number - 1)) packet)
    else vouch_for me state packet ∷ []

abbrev pub speaks_of_held : Member → EpochReplica → ℕ → Option Packet → List EpochSend
speaks_of_held me state number None = []
speaks_of_held me state number (Some packet) = speaks_of me state number packet

unfoldable pub speaks_for : Member → EpochReplica → ℕ → List EpochSend
speaks_for me state number = speaks_of_held me state number (packet_at state.part.held number)

-- only an open entry is spoken for
unfoldable pub speaks_at : Member → EpochReplica → ℕ → List EpochSend
speaks_at me state number = if is_open (entry_of state.part number) then speaks_for me state number else []

-- for so many numbers after this one, ascending
unfoldable pub speaks_after : Member → EpochReplica → ℕ → ℕ → List EpochSend
speaks_after me state number zero = []
speaks_after me state number (suc count) = speaks_after me state number count ++ speaks_at me state (number + count + 1)

-- it speaks for each number up to its length that it hasn't spoken for, ascending
unfoldable pub speaks_on : Member → EpochOut → EpochOut
speaks_on me out =
    record {
      state = record out.state { spoken = max out.state.spoken (length_of out.state.part) };
      sends = out.sends ++ speaks_after me out.state out.state.spoken (length_of out.state.part - out.state.spoken);
    }

-- A GAP: the entry behind the length is always one that hinders; it is a gap to ask about where a packet is
-- held at that number or above, for the sequencer then has stamped something there.
unfoldable pub holds_from : List (ℕ × Packet) → ℕ → Bool
holds_from held number = list_any (λ pair. nat_le number pair.0) held

unfoldable pub has_gap : PartValue → Bool
has_gap part = holds_from part.held (length_of part + 1)

-- it asks the coordinator for the place behind its length
abbrev pub find_gap : Member → PartValue → EpochSend
find_gap me part = send Coordinator (Notifies (Find me.replica (own_place part (length_of part + 1))))

-- it asks, and keeps for which number, so that it asks by itself only once
unfoldable pub asks_gap : Member → EpochOut → EpochOut
asks_gap me out =
    record {
      state = record out.state { asked = Some (length_of out.state.part + 1) };
      sends = out.sends ++ find_gap me out.state.part ∷ [];
    }

unfoldable pub asks_once : Member → EpochOut → EpochOut
asks_once me out =
    if has_gap out.state.part && not (is_number out.state.asked (length_of out.state.part + 1))
    then asks_gap me out
    else out

-- THE TAIL, which follows each input of the epoch: a replica that takes part in its view speaks for what it
-- has now, and asks for what is missing
unfoldable pub tail : Member → EpochOut → EpochOut
tail me out = if is_normal out.state.status then asks_once me (speaks_on me out) else out
