use Rattle.std.specs.Prelude.{Bool, true, false, Option, Some, None, List, [], ◌&&◌, ◌||◌, not, if◌then◌else◌}
use Rattle.std.specs.List.{filter, list_any}
use Rattle.eris_base.specs.declared.ids.Phase.{Phase}
use Rattle.eris_base.specs.declared.ids.TxnId.{TxnId}
use Rattle.eris_txn.specs.declared.answer.Answer.{Answer}
use Rattle.eris_txn.specs.declared.body.Body.{Body}
use Rattle.eris_txn.specs.declared.body.Body.TheVariants.{Independent, Prelim, Commit, Abort}
use Rattle.eris_txn.specs.declared.lock.Lock.{Lock}
use Rattle.eris_txn.specs.Keys.{Values, no_values}
use Rattle.eris_locks.specs.declared.held.Held.{Held}
use Rattle.eris_locks.specs.declared.shard_packet.ShardPacket.{ShardPacket}
use Rattle.eris_locks.specs.Locks.{locks_of, conflict}
use Rattle.eris_base.specs.TxnIds.{same_id}

-- The state of a shard's store: the values of its keys, the answers kept by id and phase, the outcomes
-- decided by id, the preliminaries that hold their locks, and the packets that wait, in order of place.
pub record StoreState : Type 0 where
  pub values : Values
  pub recorded : TxnId → Phase → Option Answer
  pub decided : TxnId → Option Answer
  pub holding : List Held
  pub waiting : List ShardPacket

abbrev pub empty : StoreState
empty = record {
  values = no_values;
  recorded = λ id phase. None;
  decided = λ id. None;
  holding = [];
  waiting = [];
}

abbrev pub same_phase : Phase → Phase → Bool
same_phase Phase.Whole Phase.Whole = true
same_phase Phase.Whole Phase.Prelim = false
same_phase Phase.Whole Phase.Conclude = false
same_phase Phase.Prelim Phase.Whole = false
same_phase Phase.Prelim Phase.Prelim = true
same_phase Phase.Prelim Phase.Conclude = false
same_phase Phase.Conclude Phase.Whole = false
same_phase Phase.Conclude Phase.Prelim = false
same_phase Phase.Conclude Phase.Conclude = true

abbrev pub phase_of : Body → Phase
phase_of (Independent ops) = Phase.Whole
phase_of (Prelim locks) = Phase.Prelim
phase_of (Commit keys writes) = Phase.Conclude
phase_of (Abort keys) = Phase.Conclude

abbrev pub is_prelim : Body → Bool
is_prelim (Independent ops) = false
is_prelim (Prelim locks) = true
is_prelim (Commit keys writes) = false
is_prelim (Abort keys) = false

abbrev pub is_conclusory : Body → Bool
is_conclusory (Independent ops) = false
is_conclusory (Prelim locks) = false
is_conclusory (Commit keys writes) = true
is_conclusory (Abort keys) = true

-- one more answer is recorded for an id and a phase
abbrev pub note : (TxnId → Phase → Option Answer) → TxnId → Phase → Answer → TxnId → Phase → Option Answer
note recorded id phase answer =
    λ other kind. if same_id id other && same_phase phase kind then Some answer else recorded other kind

-- one more id is decided
abbrev pub decide : (TxnId → Option Answer) → TxnId → Answer → TxnId → Option Answer
decide decided id outcome = λ other. if same_id id other then Some outcome else decided other

abbrev pub is_decided : Option Answer → Bool
is_decided None = false
is_decided (Some outcome) = true

-- a preliminary of that id holds
abbrev pub holds : TxnId → List Held → Bool
holds id holding = list_any (λ held. same_id id held.id) holding

abbrev pub no_longer_holding : TxnId → List Held → List Held
no_longer_holding id holding = filter (λ held. not (same_id id held.id)) holding

-- a packet of that id waits
abbrev pub waits : TxnId → List ShardPacket → Bool
waits id waiting = list_any (λ packet. same_id id packet.id) waiting

-- the packet is a preliminary of that id
abbrev pub is_prelim_of : TxnId → ShardPacket → Bool
is_prelim_of id packet = same_id id packet.id && is_prelim packet.body

abbrev pub no_longer_waiting : TxnId → List ShardPacket → List ShardPacket
no_longer_waiting id waiting = filter (λ packet. not (is_prelim_of id packet)) waiting

-- locks that conflict with a holding preliminary, or with a packet that waits before
abbrev pub blocked : List Held → List ShardPacket → List Lock → Bool
blocked holding before locks =
    list_any (λ held. conflict held.locks locks) holding
    || list_any (λ packet. conflict (locks_of packet.body) locks) before
