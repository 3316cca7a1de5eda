use Rattle.std.specs.Prelude.{◌≡◌, Bool, true, false, List, [], ◌∷◌, ◌++◌, ◌&&◌, not, if◌then◌else◌}
use Rattle.std.specs.List.{list_any}
use Rattle.eris_base.specs.declared.ids.Place.{Place}
use Rattle.eris_base.specs.declared.ids.TxnId.{TxnId}
use Rattle.eris_base.specs.Each.{EachAfter}
use Rattle.eris_base.specs.TxnIds.{is_among}
use Rattle.eris_txn.specs.declared.body.Body.{Body}
use Rattle.eris_txn.specs.declared.body.Body.TheVariants.{Independent, Prelim, Commit, Abort}
use Rattle.eris_txn.specs.declared.key.Key.{Key}
use Rattle.eris_txn.specs.declared.lock.Lock.{Lock}
use Rattle.eris_locks.specs.declared.held.Held.{Held}
use Rattle.eris_locks.specs.declared.shard_packet.ShardPacket.{ShardPacket}
use Rattle.eris_locks.specs.Locks.{alters, clash, locks_of}
use Rattle.eris_locks.specs.LockTable.{Stepped, also, answer_of, done, execute, nothing_done}
use Rattle.eris_locks.specs.States.{StoreState, blocked}

-- one that waits before locks the key Exclusive
abbrev pub is_behind_writer : Key → List ShardPacket → Bool
is_behind_writer key before = list_any (λ packet. alters key (locks_of packet.body)) before

-- Of the locks that have left, one was in the way of these locks, and none that waits before locks its key
-- Exclusive: in the queue of that key it is one of those up to and with the first Exclusive.
abbrev pub is_freed : List Lock → List ShardPacket → List Lock → Bool
is_freed left before locks = list_any (λ lock. list_any (clash lock) locks && not (is_behind_writer lock.key before)) left

-- the locks that leave the shard when a waiting packet is executed: a preliminary goes on holding its own
abbrev pub leaving : Body → List Lock
leaving (Independent ops) = locks_of (Independent ops)
leaving (Prelim locks) = []
leaving (Commit keys writes) = []
leaving (Abort keys) = []

-- the ids of those of the waiting packets that are freed
abbrev pub freed_ids : List Lock → List ShardPacket → List ShardPacket → List TxnId
freed_ids left before [] = []
freed_ids left before (packet ∷ packets) =
    if is_freed left before (locks_of packet.body) then packet.id ∷ freed_ids left (before ++ packet ∷ []) packets
    else freed_ids left (before ++ packet ∷ []) packets

-- each waiting packet is blocked, but for candidates
abbrev pub AllBlockedBut : List TxnId → List Held → List ShardPacket → List ShardPacket → Type 0
AllBlockedBut chosen holding before packets =
    EachAfter (λ ahead packet. is_among packet.id chosen ≡ false → blocked holding ahead (locks_of packet.body) ≡ true) before packets

-- THE RELEASE THAT LOOKS AT CANDIDATES ALONE, in order of place: each one that isn't blocked is executed, and then
-- those that its leaving frees are candidates too
abbrev pub release_chosen : Place → List TxnId → StoreState → List ShardPacket → List ShardPacket → Stepped
release_chosen at chosen state before [] = nothing_done (record state { waiting = before })
release_chosen at chosen state before (packet ∷ packets) =
    elim (is_among packet.id chosen && not (blocked state.holding before (locks_of packet.body))) [
      | true ↦ also (done at packet (answer_of packet.body state.values) true)
          (release_chosen at (chosen ++ freed_ids (leaving packet.body) before packets) (execute state packet) before packets)
      | false ↦ release_chosen at chosen state (before ++ packet ∷ []) packets
    ]
