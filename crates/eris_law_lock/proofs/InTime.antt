-- A preliminary that was granted wasn't ended early.
use Rattle.eris_base.specs.declared.ids.Phase.{Phase}
use Rattle.eris_base.specs.declared.ids.TxnId.{TxnId}
use Rattle.eris_law_lock.proofs.Apart.{holder_waits_not}
use Rattle.eris_base.proofs.TxnIdLaws.{same_id-from}
use Rattle.eris_law_lock.proofs.Lost.{said_finds}
use Rattle.eris_law_lock.proofs.Once.{never_aborted}
use Rattle.eris_law_lock.proofs.SaidFrom.{is_granted, ran}
use Rattle.eris_locks.specs.Law.{EndedEarly, HasPacket, IsPlain, Said}
use Rattle.eris_locks.specs.LockTable.{run_dones, run_state}
use Rattle.eris_locks.specs.ShardRun.{outcome_by, outcome_in}
use Rattle.eris_locks.specs.States.{empty, holds, is_prelim, is_prelim_of, phase_of}
use Rattle.eris_base.specs.TxnIds.{same_id}
use Rattle.eris_locks.specs.declared.shard_packet.ShardPacket.{ShardPacket}
use Rattle.eris_txn.specs.Keys.{no_values}
use Rattle.eris_txn.specs.declared.answer.Answer.{Answer}
use Rattle.eris_txn.specs.declared.answer.Answer.TheVariants.{Aborted, Committed, Ops}
use Rattle.eris_txn.specs.declared.body.Body.{Body}
use Rattle.eris_txn.specs.declared.body.Body.TheVariants.{Abort, Commit, Independent, Prelim}
use Rattle.std.proofs.Common.{Bool, List, None, Option, Some, [], ap, false, inl, inr, refl, subst, sym, true, ◌∙◌, ◌∷◌, ◌≡◌, ◌⊎◌}
use Rattle.std.proofs.lemmas.Bool.{and_from, both_ways, or_left, or_right}
use Rattle.std.specs.List.{list_any}

prelim_from : (body : Body) → phase_of body ≡ Phase.Prelim → is_prelim body ≡ true
prelim_from (Independent ops) h = cc
prelim_from (Prelim locks) h = refl
prelim_from (Commit keys writes) h = cc
prelim_from (Abort keys) h = cc

prelim_came : (id : TxnId) (packets : List ShardPacket) → HasPacket id Phase.Prelim packets
    → list_any (is_prelim_of id) packets ≡ true
prelim_came id [] h = absurd h
prelim_came id (packet ∷ packets) (inl h) =
    or_left (is_prelim_of id packet) (list_any (is_prelim_of id) packets)
    (and_from (same_id id packet.id) (is_prelim packet.body) (same_id-from id packet.id (sym h.0)) (prelim_from packet.body h.1))
prelim_came id (packet ∷ packets) (inr h) =
    or_right (is_prelim_of id packet) (list_any (is_prelim_of id) packets) (prelim_came id packets h)

outcome_here : (body : Body) (later : Option Answer) → phase_of body ≡ Phase.Conclude → outcome_by body true later ≡ None → ⊥
outcome_here (Independent ops) later h e = cc
outcome_here (Prelim locks) later h e = cc
outcome_here (Commit keys writes) later h e = cc
outcome_here (Abort keys) later h e = cc

pub outcome_later : (body : Body) (here : Bool) (later : Option Answer) → outcome_by body here later ≡ None → later ≡ None
outcome_later (Independent ops) here later h = h
outcome_later (Prelim locks) here later h = h
outcome_later (Commit keys writes) true later h = cc
outcome_later (Commit keys writes) false later h = h
outcome_later (Abort keys) true later h = cc
outcome_later (Abort keys) false later h = h

conclusory_came : (id : TxnId) (packets : List ShardPacket) → HasPacket id Phase.Conclude packets → outcome_in id packets ≡ None → ⊥
conclusory_came id [] h e = h
conclusory_came id (packet ∷ packets) (inl h) e =
    outcome_here packet.body (outcome_in id packets) h.1 (ap (λ (here : Bool). outcome_by packet.body here (outcome_in id packets)) (sym (same_id-from id packet.id (sym h.0))) ∙ e)
conclusory_came id (packet ∷ packets) (inr h) e =
    conclusory_came id packets h (outcome_later packet.body (same_id id packet.id) (outcome_in id packets) e)

-- where no conclusory packet of an id came, it isn't decided
undecided : (packets : List ShardPacket) (id : TxnId) → outcome_in id packets ≡ None → (run_state empty packets).decided id ≡ None
undecided packets id none = by_decided ((run_state empty packets).decided id) refl
  where
    by_decided : (found : Option Answer) → (run_state empty packets).decided id ≡ found → found ≡ None
    by_decided None e = refl
    by_decided (Some answer) e = absurd (conclusory_came id packets ((ran packets).state.decided id answer e) none)

pub in_time : (packets : List ShardPacket) (id : TxnId) (answer : Answer) → is_granted (Some answer) ≡ true
    → Said id Phase.Prelim answer (run_dones empty packets) → EndedEarly packets id → ⊥
in_time packets id answer granted said early = by_unread early.unread
  where
    holding : holds id (run_state empty early.before).holding ≡ true
    holding = said_finds id answer early.before early.rest early.conclusory early.of_id early.concludes granted
        (subst (λ (list : List ShardPacket). Said id Phase.Prelim answer (run_dones empty list)) early.cut said) (undecided early.before id early.first)

    by_unread : ((list_any (is_prelim_of id) (run_state empty early.before).waiting ≡ true) ⊎ (list_any (is_prelim_of id) early.before ≡ false))
        → ⊥
    by_unread (inl waiting) = holder_waits_not early.before id holding waiting
    by_unread (inr none) = both_ways _ none (prelim_came id early.before ((ran early.before).state.held id holding))

-- what the plain run answers isn't Aborted
pub plain_granted : (packets : List ShardPacket) (id : TxnId) (answer : Answer) → IsPlain packets id answer
    → is_granted (Some answer) ≡ true
plain_granted packets id (Ops made) h = refl
plain_granted packets id (Answer.Values read) h = refl
plain_granted packets id Committed h = refl
plain_granted packets id Aborted h = absurd (never_aborted packets no_values [] [] id h)
