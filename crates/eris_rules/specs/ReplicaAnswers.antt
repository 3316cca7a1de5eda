-- The log of a replica up to a number, and what the shard's store answers over it.
use Rattle.std.specs.Prelude.{ℕ, zero, suc, ◌+◌, Bool, true, false, not, ◌==◌, ◌&&◌, nat_lt, Option, Some, None, List, [], ◌∷◌, ◌++◌, find}
use Rattle.std.specs.List.{filter}
use Rattle.std.specs.Option.{option_map}
use Rattle.eris_base.specs.declared.ids.Epoch.{Epoch}
use Rattle.eris_base.specs.declared.ids.ShardId.{ShardId}
use Rattle.eris_txn.specs.declared.answer.Answer.{Answer}
use Rattle.eris_txn.specs.declared.packet.Packet.{Packet}
use Rattle.eris_log.specs.declared.entry.Entry.{Entry}
use Rattle.eris_log.specs.Entries.{entry_of}
use Rattle.eris_log.specs.Held.{packet_at}
use Rattle.eris_log.specs.PartValues.{PartValue}
use Rattle.eris_locks.specs.declared.done.Done.{Done}
use Rattle.eris_locks.specs.LockTable.{step, run_dones, run_state}
use Rattle.eris_locks.specs.Shards.{cut, on_shard}
use Rattle.eris_locks.specs.States.{StoreState, empty}

-- a packet stands there that isn't dropped, and of which no place is dropped for a time and not found
abbrev pub is_open : Entry → Bool
is_open Entry.Txn = true
is_open Entry.Dropped = false
is_open Entry.Gap = false

-- the packet, where the entry is open
abbrev pub open_packet : Bool → Option Packet → List Packet
open_packet true (Some packet) = packet ∷ []
open_packet true None = []
open_packet false packet = []

unfoldable pub open_at : PartValue → ℕ → List Packet
open_at part number = open_packet (is_open (entry_of part number)) (packet_at part.held number)

-- the packets at the places from 1 to the number whose entries are open
unfoldable pub open_upto : PartValue → ℕ → List Packet
open_upto part zero = []
open_upto part (suc number) = open_upto part number ++ open_at part (number + 1)

-- THE LOG AT A NUMBER: the packets of the epochs before, then those of this one
unfoldable pub log_upto : List Packet → PartValue → ℕ → List Packet
log_upto prior part number = prior ++ open_upto part number

-- the shard's store after a log
unfoldable pub store_after : ShardId → List Packet → StoreState
store_after shard log = run_state empty (on_shard shard log)

-- all that the shard's store answers over a log, in order
unfoldable pub store_answers : ShardId → List Packet → List Done
store_answers shard log = run_dones empty (on_shard shard log)

-- the answer that isn't late
unfoldable pub prompt_answer : List Done → Option Answer
prompt_answer dones = option_map (λ done. done.answer) (find (λ done. not done.late) dones)

-- what the store, after a log, answers a packet at its own place; None where the packet waits there
unfoldable pub answer_after : ShardId → List Packet → Packet → Option Answer
answer_after shard log packet = prompt_answer (step (store_after shard log) (cut shard packet)).dones

-- an answer to a packet that had waited, given at a place of the epoch with a number above this one
unfoldable pub is_late_above : Epoch → ℕ → Done → Bool
is_late_above epoch number done = done.late && (done.at.epoch.0 == epoch.0 && nat_lt number done.at.number)

-- the late answers that the store gives over a log at places of the epoch with numbers above this one, by
-- place and then in the store's order
unfoldable pub late_answers : ShardId → Epoch → List Packet → ℕ → List Done
late_answers shard epoch log number = filter (is_late_above epoch number) (store_answers shard log)
