-- The law of the lock store, for a store that took packets before.
use Rattle.std.proofs.Common.{◌≡◌, Option, None, List, [], ◌++◌, ap, sym, ◌∙◌, subst}
use Rattle.eris_base.specs.declared.ids.Phase.{Phase}
use Rattle.eris_base.specs.declared.ids.Phase.TheVariants.{Conclude}
use Rattle.eris_base.specs.declared.ids.TxnId.{TxnId}
use Rattle.eris_txn.specs.declared.answer.Answer.{Answer}
use Rattle.eris_law_lock.proofs.Unrecorded.{conclusion_unrecorded}
use Rattle.eris_base.specs.Each.{Each}
use Rattle.eris_base.proofs.Each.{Each-right}
use Rattle.eris_law_lock.proofs.Ended.{state_after}
use Rattle.eris_law_lock.proofs.Final.{answers_right, beginning_right, values_right, waiting_none}
use Rattle.eris_law_lock.proofs.Runs.{dones_of_prefix}
use Rattle.eris_locks.specs.declared.done.Done.{Done}
use Rattle.eris_locks.specs.declared.shard_packet.ShardPacket.{ShardPacket}
use Rattle.eris_locks.specs.Law.{IsRightDone, plain_end}
use Rattle.eris_locks.specs.LockTable.{run_dones, run_state}
use Rattle.eris_locks.specs.States.{StoreState, empty}
use Rattle.eris_locks.specs.WellFormed.{WellFormed}

-- the answers of a list are those before and those now
dones_now : (before packets : List ShardPacket) (state : StoreState) → state ≡ run_state empty before
    → run_dones empty (before ++ packets) ≡ run_dones empty before ++ run_dones state packets
dones_now before packets state is =
    dones_of_prefix before packets empty
    ∙ ap (λ (s : StoreState). run_dones empty before ++ run_dones s packets) (sym is)

pub right_now : (before packets : List ShardPacket) (state : StoreState) → state ≡ run_state empty before
    → WellFormed (before ++ packets) → Each (IsRightDone (before ++ packets)) (run_dones state packets)
right_now before packets state is well =
    Each-right (IsRightDone (before ++ packets)) (run_dones empty before) (run_dones state packets)
    (subst (λ (dones : List Done). Each (IsRightDone (before ++ packets)) dones) (dones_now before packets state is) (answers_right (before ++ packets) well))

pub right_in_part : (before packets rest : List ShardPacket) (state : StoreState) → state ≡ run_state empty before
    → WellFormed ((before ++ packets) ++ rest) → Each (IsRightDone ((before ++ packets) ++ rest)) (run_dones state packets)
right_in_part before packets rest state is well =
    let all = (before ++ packets) ++ rest in
    Each-right (IsRightDone all) (run_dones empty before) (run_dones state packets)
    (subst (λ (dones : List Done). Each (IsRightDone all) dones) (dones_now before packets state is) (beginning_right (before ++ packets) rest well))

pub plain_at_end : (before packets : List ShardPacket) (old new : StoreState) → old ≡ run_state empty before → new ≡ run_state old packets
    → new.holding ≡ []
    → (new.waiting ≡ []) × (WellFormed (before ++ packets) → new.values ≡ plain_end (before ++ packets))
plain_at_end before packets old new is ran =
    subst (λ (s : StoreState). s.holding ≡ [] → (s.waiting ≡ []) × (WellFormed (before ++ packets) → s.values ≡ plain_end (before ++ packets)))
    (state_after before packets empty ∙ ap (λ (s : StoreState). run_state s packets) (sym is) ∙ sym ran)
    (λ h. (waiting_none (before ++ packets) h, λ well. values_right (before ++ packets) well h))

-- no conclusion is recorded
pub none_recorded : (packets : List ShardPacket) (state : StoreState) (id : TxnId) (phase : Phase) (found : Option Answer)
    → state ≡ run_state empty packets → phase ≡ Conclude → found ≡ state.recorded id phase → found ≡ None
none_recorded packets state id phase found is concludes here =
    here
    ∙ ap (λ (s : StoreState). s.recorded id phase) is
    ∙ ap (λ (kind : Phase). (run_state empty packets).recorded id kind) concludes
    ∙ conclusion_unrecorded packets id
