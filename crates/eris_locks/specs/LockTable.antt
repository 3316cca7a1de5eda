use Rattle.std.specs.Prelude.{Bool, true, false, Some, None, List, [], ◌∷◌, ◌++◌, ◌&&◌, map}
use Rattle.std.specs.List.{list_any}
use Rattle.eris_base.specs.declared.ids.Phase.{Phase}
use Rattle.eris_base.specs.declared.ids.Place.{Place}
use Rattle.eris_base.specs.declared.ids.TxnId.{TxnId}
use Rattle.eris_txn.specs.declared.answer.Answer.{Answer}
use Rattle.eris_txn.specs.declared.answer.Answer.TheVariants.{Ops, Committed, Aborted}
use Rattle.eris_txn.specs.declared.body.Body.{Body}
use Rattle.eris_txn.specs.declared.body.Body.TheVariants.{Independent, Prelim, Commit, Abort}
use Rattle.eris_txn.specs.declared.plan.Write.{Write}
use Rattle.eris_txn.specs.Keys.{Values}
use Rattle.eris_txn.specs.Operations.{after_all, answers}
use Rattle.eris_txn.specs.Plans.{written}
use Rattle.eris_locks.specs.declared.done.Done.{Done}
use Rattle.eris_locks.specs.declared.held.Held.{Held}
use Rattle.eris_locks.specs.declared.shard_packet.ShardPacket.{ShardPacket}
use Rattle.eris_locks.specs.Locks.{locks_of}
use Rattle.eris_locks.specs.States.{StoreState, phase_of, is_prelim, note, decide, is_decided, holds, no_longer_holding, waits, is_prelim_of, no_longer_waiting, blocked}

-- what a packet answers over these values
abbrev pub answer_of : Body → Values → Answer
answer_of (Independent ops) values = Ops (answers ops values)
answer_of (Prelim locks) values = Answer.Values (map (λ lock. values lock.key) locks)
answer_of (Commit keys writes) values = Committed
answer_of (Abort keys) values = Aborted

-- the values after it was executed
abbrev pub values_after : Body → Values → Values
values_after (Independent ops) values = after_all ops values
values_after (Prelim locks) values = values
values_after (Commit keys writes) values = values
values_after (Abort keys) values = values

abbrev pub holding_after : TxnId → Body → List Held → List Held
holding_after id (Independent ops) holding = holding
holding_after id (Prelim locks) holding = holding ++ record { id = id; locks = locks } ∷ []
holding_after id (Commit keys writes) holding = holding
holding_after id (Abort keys) holding = holding

-- Executing an Independent applies its operations in order and records their answers. Executing a Prelim
-- records the values of its keys and makes it holding.
abbrev pub execute : StoreState → ShardPacket → StoreState
execute state packet = record state {
  values = values_after packet.body state.values;
  recorded = note state.recorded packet.id (phase_of packet.body) (answer_of packet.body state.values);
  holding = holding_after packet.id packet.body state.holding;
}

-- the answer to a packet, in the step of the packet at that place
abbrev pub done : Place → ShardPacket → Answer → Bool → Done
done at packet answer late = record {
  id = packet.id;
  phase = phase_of packet.body;
  asker = packet.asker;
  answer = answer;
  at = at;
  late = late;
}

-- what a step gives: the state after it, and its answers
pub record Stepped : Type 0 where
  pub state : StoreState
  pub dones : List Done

abbrev pub also : Done → Stepped → Stepped
also first stepped = record { state = stepped.state; dones = first ∷ stepped.dones }

abbrev pub only : StoreState → Done → Stepped
only state first = record { state = state; dones = first ∷ [] }

abbrev pub nothing_done : StoreState → Stepped
nothing_done state = record { state = state; dones = [] }

-- Releasing goes through the waiting packets in order of place: each that isn't blocked is executed,
-- leaves waiting, and gives a late Done with its own id, phase and asker.
abbrev pub release : Place → StoreState → List ShardPacket → List ShardPacket → Stepped
release at state before [] = nothing_done (record state { waiting = before })
release at state before (packet ∷ packets) =
    elim (blocked state.holding before (locks_of packet.body)) [
      | true ↦ release at state (before ++ packet ∷ []) packets
      | false ↦ also (done at packet (answer_of packet.body state.values) true) (release at (execute state packet) before packets)
    ]

-- AN INDEPENDENT OR A PRELIM that is neither recorded nor waiting: a preliminary whose id is decided is
-- answered Aborted; one that is blocked waits; else it is executed
abbrev pub arrive_new : StoreState → ShardPacket → Stepped
arrive_new state packet =
    elim (is_prelim packet.body && is_decided (state.decided packet.id)) [
      | true ↦ only (record state { recorded = note state.recorded packet.id (phase_of packet.body) Aborted }) (done packet.at packet Aborted false)
      | false ↦
          elim (blocked state.holding state.waiting (locks_of packet.body)) [
            | true ↦ nothing_done (record state { waiting = state.waiting ++ packet ∷ [] })
            | false ↦ only (execute state packet) (done packet.at packet (answer_of packet.body state.values) false)
          ]
    ]

-- AN INDEPENDENT OR A PRELIM: a recorded answer is given again; where the same id waits, nothing
abbrev pub arrive : StoreState → ShardPacket → Stepped
arrive state packet =
    elim (state.recorded packet.id (phase_of packet.body)) [
      | Some answer ↦ only state (done packet.at packet answer false)
      | None ↦ elim (waits packet.id state.waiting) [ true ↦ nothing_done state | false ↦ arrive_new state packet ]
    ]

-- the late answer to a waiting preliminary that is aborted, to its own asker
abbrev pub aborted_late : Place → TxnId → List ShardPacket → List Done
aborted_late at id [] = []
aborted_late at id (packet ∷ packets) =
    elim (is_prelim_of id packet) [ true ↦ done at packet Aborted true ∷ [] | false ↦ aborted_late at id packets ]

-- what a holding preliminary leaves that is decided
abbrev pub end_holding : StoreState → ShardPacket → Answer → List Write → StoreState
end_holding state packet outcome writes = record {
  values = written writes state.values;
  recorded = state.recorded;
  decided = decide state.decided packet.id outcome;
  holding = no_longer_holding packet.id state.holding;
  waiting = [];
}

-- what a waiting preliminary leaves that is aborted
abbrev pub end_waiting : StoreState → ShardPacket → StoreState
end_waiting state packet = record {
  values = state.values;
  recorded = note state.recorded packet.id Phase.Prelim Aborted;
  decided = decide state.decided packet.id Aborted;
  holding = state.holding;
  waiting = [];
}

abbrev pub all_also : List Done → Stepped → Stepped
all_also firsts stepped = record { state = stepped.state; dones = firsts ++ stepped.dones }

-- A COMMIT OR AN ABORT of an id that isn't decided: its preliminary holds, it waits, or neither
abbrev pub conclude_first : StoreState → ShardPacket → Answer → List Write → Stepped
conclude_first state packet outcome writes =
    elim (holds packet.id state.holding) [
      | true ↦ also (done packet.at packet outcome false) (release packet.at (end_holding state packet outcome writes) [] state.waiting)
      | false ↦
          elim (list_any (is_prelim_of packet.id) state.waiting) [
            | true ↦ also (done packet.at packet Aborted false)
                (all_also (aborted_late packet.at packet.id state.waiting)
                (release packet.at (end_waiting state packet) [] (no_longer_waiting packet.id state.waiting)))
            | false ↦ only (record state { decided = decide state.decided packet.id Aborted }) (done packet.at packet Aborted false)
          ]
    ]

-- A COMMIT OR AN ABORT: where the id is decided, its outcome is given again
abbrev pub conclude : StoreState → ShardPacket → Answer → List Write → Stepped
conclude state packet outcome writes =
    elim (state.decided packet.id) [
      | Some decided ↦ only state (done packet.at packet decided false)
      | None ↦ conclude_first state packet outcome writes
    ]

abbrev pub step_by : Body → StoreState → ShardPacket → Stepped
step_by (Independent ops) state packet = arrive state packet
step_by (Prelim locks) state packet = arrive state packet
step_by (Commit keys writes) state packet = conclude state packet Committed writes
step_by (Abort keys) state packet = conclude state packet Aborted []

-- THE LOCK TABLE: the step of one packet
abbrev pub step : StoreState → ShardPacket → Stepped
step state packet = step_by packet.body state packet

-- the answers of a list of packets, and the state after it
abbrev pub run_dones : StoreState → List ShardPacket → List Done
run_dones state [] = []
run_dones state (packet ∷ packets) = (step state packet).dones ++ run_dones (step state packet).state packets

abbrev pub run_state : StoreState → List ShardPacket → StoreState
run_state state [] = state
run_state state (packet ∷ packets) = run_state (step state packet).state packets
