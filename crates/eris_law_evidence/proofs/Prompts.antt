-- What a shard's store says over a log: a packet's own answer, at its place, is said of its id and phase; and a late
-- answer is among what is said. So both are said over the log.
use Rattle.std.proofs.Common.{◌≡◌, inl, inr, ℕ, List, [], ◌∷◌, ◌++◌, Bool, true, false, cond, not, ◌&&◌, find, option_map, Option, Some, None, refl, sym, ap, ◌∙◌, subst}
use Rattle.std.specs.List.{list_any}
use Rattle.eris_base.specs.declared.ids.Epoch.{Epoch}
use Rattle.eris_base.specs.declared.ids.Phase.{Phase}
use Rattle.eris_base.specs.declared.ids.ShardId.{ShardId}
use Rattle.eris_base.specs.declared.ids.TxnId.{TxnId}
use Rattle.eris_txn.specs.declared.answer.Answer.{Answer}
use Rattle.eris_txn.specs.declared.answer.Answer.TheVariants.{Aborted, Committed}
use Rattle.eris_txn.specs.declared.body.Body.{Body}
use Rattle.eris_txn.specs.declared.body.Body.TheVariants.{Independent, Prelim, Commit, Abort}
use Rattle.eris_txn.specs.declared.packet.Packet.{Packet}
use Rattle.eris_txn.specs.declared.plan.Write.{Write}
use Rattle.eris_locks.specs.declared.done.Done.{Done}
use Rattle.eris_locks.specs.declared.shard_packet.ShardPacket.{ShardPacket}
use Rattle.eris_locks.specs.Law.{Said}
use Rattle.eris_locks.specs.Locks.{locks_of}
use Rattle.eris_locks.specs.LockTable.{Stepped, aborted_late, all_also, also, answer_of, arrive, arrive_new, conclude, conclude_first, done, end_holding, end_waiting, execute, nothing_done, only, release, run_dones, run_state, step, step_by}
use Rattle.eris_locks.specs.Shards.{cut, cut_body, names_shard, on_shard}
use Rattle.eris_locks.specs.States.{StoreState, blocked, decide, empty, holds, is_decided, is_prelim, is_prelim_of, no_longer_waiting, note, phase_of, waits}
use Rattle.eris_law_lock.proofs.Runs.{dones_of_prefix}
use Rattle.eris_order.specs.Orders.{packets_on}
use Rattle.eris_rules.specs.ReplicaAnswers.{answer_after, is_late_above, late_answers, prompt_answer, store_after, store_answers}
use Rattle.eris_serial.specs.Evidence.{SaidOn}
use Rattle.eris_serial.proofs.SaidByLogs.{said_before, on_shard-append}
use Rattle.eris_law_epoch.specs.Members.{In}
use Rattle.eris_law_epoch.proofs.Members.{In-filtered}

-- where an answer isn't late, it is the packet's own, of its id and phase
abbrev IsOwnAnswer : ShardPacket → List Done → Type 0
IsOwnAnswer packet dones = (answer : Answer) → option_map (λ (given : Done). given.answer) (find (λ (given : Done). not given.late) dones) ≡ Some answer → Said packet.id (phase_of packet.body) answer dones

abbrev dones_of : Stepped → List Done
dones_of stepped = stepped.dones

no_answer_is : (packet : ShardPacket) → IsOwnAnswer packet []
no_answer_is packet answer h = absurd (cc)

first_is : (packet : ShardPacket) (given : Answer) (rest : List Done) → IsOwnAnswer packet (done packet.at packet given false ∷ rest)
first_is packet given rest answer h = let e : given ≡ answer = cc in inl (refl, refl, e)

module _ (state : StoreState) (packet : ShardPacket) where
  own_new : IsOwnAnswer packet (dones_of (arrive_new state packet))
  own_new = by_early (is_prelim packet.body && is_decided (state.decided packet.id)) (blocked state.holding state.waiting (locks_of packet.body))
    where
      by_early : (early free : Bool) → IsOwnAnswer packet (dones_of (elim early [
        | true ↦ only (record state { recorded = note state.recorded packet.id (phase_of packet.body) Aborted }) (done packet.at packet Aborted false)
        | false ↦
            elim free [
              | true ↦ nothing_done (record state { waiting = state.waiting ++ packet ∷ [] })
              | false ↦ only (execute state packet) (done packet.at packet (answer_of packet.body state.values) false)
            ]
      ]))
      by_early true free = first_is packet _ []
      by_early false true = no_answer_is packet
      by_early false false = first_is packet _ []

  own_arrives : IsOwnAnswer packet (dones_of (arrive state packet))
  own_arrives = by_record (state.recorded packet.id (phase_of packet.body)) (waits packet.id state.waiting)
    where
      by_record : (found : Option Answer) (waiting : Bool) → IsOwnAnswer packet (dones_of (elim found [
        | Some answer ↦ only state (done packet.at packet answer false)
        | None ↦ elim waiting [ true ↦ nothing_done state | false ↦ arrive_new state packet ]
      ]))
      by_record (Some answer) waiting = first_is packet answer []
      by_record None true = no_answer_is packet
      by_record None false = own_new

  own_first : (outcome : Answer) (writes : List Write) → IsOwnAnswer packet (dones_of (conclude_first state packet outcome writes))
  own_first outcome writes = by_holding (holds packet.id state.holding) (list_any (is_prelim_of packet.id) state.waiting)
    where
      by_holding : (holding waiting : Bool) → IsOwnAnswer packet (dones_of (elim holding [
        | true ↦ also (done packet.at packet outcome false) (release packet.at (end_holding state packet outcome writes) [] state.waiting)
        | false ↦
            elim waiting [
              | true ↦ also (done packet.at packet Aborted false)
                  (all_also (aborted_late packet.at packet.id state.waiting)
                  (release packet.at (end_waiting state packet) [] (no_longer_waiting packet.id state.waiting)))
              | false ↦ only (record state { decided = decide state.decided packet.id Aborted }) (done packet.at packet Aborted false)
            ]
      ]))
      by_holding true waiting = first_is packet outcome (release packet.at (end_holding state packet outcome writes) [] state.waiting).dones
      by_holding false true = first_is packet Aborted (aborted_late packet.at packet.id state.waiting ++ (release packet.at (end_waiting state packet) [] (no_longer_waiting packet.id state.waiting)).dones)
      by_holding false false = first_is packet Aborted []

  own_concludes : (outcome : Answer) (writes : List Write) → IsOwnAnswer packet (dones_of (conclude state packet outcome writes))
  own_concludes outcome writes = by_decided (state.decided packet.id)
    where
      by_decided : (found : Option Answer) → IsOwnAnswer packet (dones_of (elim found [
        | Some decided ↦ only state (done packet.at packet decided false)
        | None ↦ conclude_first state packet outcome writes
      ]))
      by_decided (Some decided) = first_is packet _ []
      by_decided None = own_first outcome writes

  own_by : (body : Body) → IsOwnAnswer packet (dones_of (step_by body state packet))
  own_by (Independent ops) = own_arrives
  own_by (Prelim locks) = own_arrives
  own_by (Commit keys writes) = own_concludes Committed writes
  own_by (Abort keys) = own_concludes Aborted []

-- ---- over a log
said_right : (id : TxnId) (phase : Phase) (answer : Answer) (dones others : List Done) → Said id phase answer others → Said id phase answer (dones ++ others)
said_right id phase answer [] others said = said
said_right id phase answer (given ∷ dones) others said = inr (said_right id phase answer dones others said)

same_phase : (shard : ShardId) (body : Body) → phase_of (cut_body shard body) ≡ phase_of body
same_phase shard (Independent ops) = refl
same_phase shard (Prelim locks) = refl
same_phase shard (Commit keys writes) = refl
same_phase shard (Abort keys) = refl

on_shard-named : (shard : ShardId) (packet : Packet) (packets : List Packet) → names_shard shard packet ≡ true → on_shard shard (packet ∷ packets) ≡ cut shard packet ∷ on_shard shard packets
on_shard-named shard packet packets h = by_test (names_shard shard packet) h
  where
    by_test : (named : Bool) → named ≡ true → elim named [ true ↦ cut shard packet ∷ on_shard shard packets | false ↦ on_shard shard packets ] ≡ cut shard packet ∷ on_shard shard packets
    by_test true e = refl
    by_test false e = absurd (cc)

-- what a shard sees of a list is what it sees of the packets on it
pub on_shard-same : (shard : ShardId) (packets : List Packet) → on_shard shard packets ≡ on_shard shard (packets_on shard packets)
on_shard-same shard [] = refl
on_shard-same shard (packet ∷ packets) = by_test (names_shard shard packet) refl (on_shard-same shard packets)
  where
    by_test : (named : Bool) → names_shard shard packet ≡ named → on_shard shard packets ≡ on_shard shard (packets_on shard packets)
        → elim named [ true ↦ cut shard packet ∷ on_shard shard packets | false ↦ on_shard shard packets ] ≡ on_shard shard (cond named (packet ∷ packets_on shard packets) (packets_on shard packets))
    by_test true e rest = ap (λ list. cut shard packet ∷ list) rest ∙ sym (on_shard-named shard packet (packets_on shard packets) e)
    by_test false e rest = rest

-- WHAT A PACKET IS ANSWERED at its own place is said over the log that ends with it
pub said_prompt : (shard : ShardId) (log : List Packet) (packet : Packet) (answer : Answer) → names_shard shard packet ≡ true → answer_after shard log packet ≡ Some answer
    → SaidOn shard packet.id (phase_of packet.body) answer (log ++ packet ∷ [])
unfolding answer_after store_after prompt_answer
said_prompt shard log packet answer named h =
    let state : StoreState = run_state empty (on_shard shard log) in
    let own = own_by state (cut shard packet) (cut_body shard packet.body) answer h in
    let own_phase : Said packet.id (phase_of packet.body) answer (step state (cut shard packet)).dones = subst (λ phase. Said packet.id phase answer (step state (cut shard packet)).dones) (same_phase shard packet.body) own in
    let last : Said packet.id (phase_of packet.body) answer (run_dones state (cut shard packet ∷ [])) = said_before packet.id (phase_of packet.body) answer (step state (cut shard packet)).dones [] own_phase in
    let all : Said packet.id (phase_of packet.body) answer (run_dones empty (on_shard shard log ++ cut shard packet ∷ [])) =
    subst (Said packet.id (phase_of packet.body) answer) (sym (dones_of_prefix (on_shard shard log) (cut shard packet ∷ []) empty)) (said_right packet.id (phase_of packet.body) answer (run_dones empty (on_shard shard log)) _ last) in
    subst (λ (list : List ShardPacket). Said packet.id (phase_of packet.body) answer (run_dones empty list))
    (sym (on_shard-append shard log (packet ∷ []) ∙ ap (λ list. on_shard shard log ++ list) (on_shard-named shard packet [] named))) all

said_among : (given : Done) (dones : List Done) → In given dones → Said given.id given.phase given.answer dones
said_among given [] i = absurd i
said_among given (other ∷ dones) (inl e) = inl (ap (λ (d : Done). d.id) (sym e), ap (λ (d : Done). d.phase) (sym e), ap (λ (d : Done). d.answer) (sym e))
said_among given (other ∷ dones) (inr i) = inr (said_among given dones i)

-- A LATE ANSWER is said over the log that gave it
pub said_late : (shard : ShardId) (epoch : Epoch) (log : List Packet) (above : ℕ) (given : Done) → In given (late_answers shard epoch log above) → SaidOn shard given.id given.phase given.answer log
unfolding late_answers store_answers
said_late shard epoch log above given i = said_among given (run_dones empty (on_shard shard log)) (In-filtered (is_late_above epoch above) (run_dones empty (on_shard shard log)) given i).0
