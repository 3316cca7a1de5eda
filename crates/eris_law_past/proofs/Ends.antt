-- At the end of a list in which each preliminary is concluded, nothing is held.
use Rattle.std.proofs.Common.{◌≡◌, inl, inr, true, List, [], ◌∷◌, refl, ap, ◌∙◌, subst}
use Rattle.std.proofs.lemmas.Bool.{both_ways, or_left}
use Rattle.eris_base.specs.declared.ids.Phase.{Phase}
use Rattle.eris_base.specs.declared.ids.TxnId.{TxnId}
use Rattle.eris_base.specs.Each.{Each}
use Rattle.eris_base.proofs.TxnIdLaws.{same_id-refl}
use Rattle.eris_txn.specs.declared.body.Body.{Body}
use Rattle.eris_txn.specs.declared.body.Body.TheVariants.{Abort, Commit, Independent, Prelim}
use Rattle.eris_locks.specs.declared.held.Held.{Held}
use Rattle.eris_locks.specs.declared.shard_packet.ShardPacket.{ShardPacket}
use Rattle.eris_locks.specs.Law.{HasPacket, plain_end}
use Rattle.eris_locks.specs.LockTable.{run_state}
use Rattle.eris_locks.specs.States.{empty, holds, is_prelim, phase_of}
use Rattle.eris_locks.specs.WellFormed.{WellFormed}
use Rattle.eris_law_lock.proofs.Final.{values_right, waiting_none}
use Rattle.eris_law_lock.proofs.SaidFrom.{ran}
use Rattle.eris_law_past.specs.Pasts.{AllConcluded}
use Rattle.eris_law_past.proofs.Parted.{ended_holds_not}

is_prelim_from : (body : Body) → phase_of body ≡ Phase.Prelim → is_prelim body ≡ true
is_prelim_from (Independent ops) is = cc
is_prelim_from (Prelim locks) is = refl
is_prelim_from (Commit keys writes) is = cc
is_prelim_from (Abort keys) is = cc

-- of a preliminary that came
pub concluded_of : (id : TxnId) (all packets : List ShardPacket) → Each (λ packet. is_prelim packet.body ≡ true → HasPacket packet.id Phase.Conclude all) packets
    → HasPacket id Phase.Prelim packets → HasPacket id Phase.Conclude all
concluded_of id all [] each has = absurd has
concluded_of id all (packet ∷ packets) each (inl here) = subst (λ (one : TxnId). HasPacket one Phase.Conclude all) here.0 (each.0 (is_prelim_from packet.body here.1))
concluded_of id all (packet ∷ packets) each (inr there) = concluded_of id all packets each.1 there

-- NOTHING IS HELD
pub nothing_holds : (packets : List ShardPacket) → AllConcluded packets → (run_state empty packets).holding ≡ []
nothing_holds packets concluded = by_holding (run_state empty packets).holding refl
  where
    by_holding : (holding : List Held) → (run_state empty packets).holding ≡ holding → (run_state empty packets).holding ≡ []
    by_holding [] is = is
    by_holding (held ∷ holding) is =
        let still : holds held.id (run_state empty packets).holding ≡ true = ap (holds held.id) is ∙ or_left _ (holds held.id holding) (same_id-refl held.id) in
        let came = (ran packets).state.held held.id still in
        absurd (both_ways _ (ended_holds_not packets held.id (concluded_of held.id packets packets concluded came)) still)

pub nothing_waits : (packets : List ShardPacket) → AllConcluded packets → (run_state empty packets).waiting ≡ []
nothing_waits packets concluded = waiting_none packets (nothing_holds packets concluded)

pub values_are : (packets : List ShardPacket) → WellFormed packets → AllConcluded packets → (run_state empty packets).values ≡ plain_end packets
values_are packets formed concluded = values_right packets formed (nothing_holds packets concluded)
