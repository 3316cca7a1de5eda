-- What evidence says of the order alone: where its packets come from, and that their transactions can be run. Used by
-- the rules, which then need the order's origins alone.
use Rattle.std.proofs.Common.{◌≡◌, List, ap, sym, ◌∙◌}
use Rattle.std.specs.Prelude.{IsTrue}
use Rattle.eris_base.specs.declared.ids.TxnId.{TxnId}
use Rattle.eris_base.specs.Each.{Each}
use Rattle.eris_base.proofs.Each.{Each-weaker}
use Rattle.eris_txn.specs.declared.body.Body.{Body}
use Rattle.eris_txn.specs.declared.body.Body.TheVariants.{Independent, Prelim, Commit, Abort}
use Rattle.eris_txn.specs.declared.history.HistoryEvent.{HistoryEvent}
use Rattle.eris_txn.specs.declared.history.HistoryEvent.TheVariants.{Read}
use Rattle.eris_txn.specs.declared.packet.Packet.{Packet}
use Rattle.eris_txn.specs.declared.txn.Txn.{Txn}
use Rattle.eris_txn.specs.declared.txn.Txn.TheVariants.{General}
use Rattle.eris_txn.specs.PlanValues.{PlanValue}
use Rattle.eris_txn.specs.Plans.{guards_hold, value_in, writes_from}
use Rattle.eris_audit.specs.Histories.{is_submitted, txn_of}
use Rattle.eris_serial.specs.Evidence.{Counted, Evidence, HasCommitEvidence, HasCommitOrigin, Origins}
use Rattle.eris_serial.proofs.Runnable.{Each-in, txn_can_run}
use Rattle.eris_serial.specs.Transactions.{CanRun}

pub same_plan : (txn : Txn) (some other : PlanValue) → txn ≡ General some → txn ≡ General other → some ≡ other
same_plan txn some other is is' = cc

-- what a Read rests on, its Commit rests on too
commit_by : (history : List HistoryEvent) (order : List Packet) → Each (Counted history order) history → (id : TxnId) (body : Body) → HasCommitOrigin history id body
    → HasCommitEvidence (txn_of history) order id body
commit_by history order counted id (Independent ops) origin = tt
commit_by history order counted id (Prelim locks) origin = tt
commit_by history order counted id (Commit keys writes) origin =
    let read = Each-in (Counted history order) history (Read id origin.values) counted origin.read in
    let same = same_plan (txn_of history id) origin.plan read.plan origin.is read.is in
    record {
      values = origin.values;
      read = read;
      guards = ap (λ (plan : PlanValue). guards_hold plan.guards (value_in plan.keys origin.values)) (sym same) ∙ origin.guards;
      writes_are = origin.writes_are ∙ ap (λ (plan : PlanValue). writes_from plan.settings (value_in plan.keys origin.values)) same;
    }
commit_by history order counted id (Abort keys) origin = tt

-- THE ORIGINS of the packets
pub origins_of : (history : List HistoryEvent) (order : List Packet) → Evidence history order → Origins (txn_of history) order
origins_of history order evidence = record {
  can_run = Each-weaker (λ packet. IsTrue (is_submitted history packet.id)) (λ packet. CanRun (txn_of history packet.id))
      (λ packet submitted. txn_can_run history packet.id evidence.submits submitted) order evidence.submitted;
  shards = evidence.shards;
  bodies = evidence.bodies;
  commits = Each-weaker (λ packet. HasCommitOrigin history packet.id packet.body) (λ packet. HasCommitEvidence (txn_of history) order packet.id packet.body)
      (λ packet origin. commit_by history order evidence.counted packet.id packet.body origin) order evidence.commits;
}
