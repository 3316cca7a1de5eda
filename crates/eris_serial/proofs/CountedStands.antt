-- What was counted over a list of packets stands in it: the own packet of an id that was read or answered. Used for
-- rule 2, and by a protocol to show that what was answered stands in the order by then.
use Rattle.std.proofs.Common.{◌≡◌, ℕ, Bool, true, false, Option, List, [], ◌∷◌, map, refl, ap, sym, ◌∙◌, inl, inr}
use Rattle.std.proofs.lemmas.Bool.{eq-eqb, or_left}
use Rattle.eris_base.specs.declared.ids.Phase.{Phase}
use Rattle.eris_base.specs.declared.ids.ShardId.{ShardId}
use Rattle.eris_base.specs.declared.ids.TxnId.{TxnId}
use Rattle.eris_base.specs.Each.{Each}
use Rattle.eris_txn.specs.declared.answer.Answer.{Answer}
use Rattle.eris_txn.specs.declared.answer.Answer.TheVariants.{Ops, Aborted}
use Rattle.eris_txn.specs.declared.body.Body.{Body}
use Rattle.eris_txn.specs.declared.body.Body.TheVariants.{Independent, Prelim, Commit, Abort}
use Rattle.eris_txn.specs.declared.history.HistoryEvent.{HistoryEvent}
use Rattle.eris_txn.specs.declared.key.Key.{Key}
use Rattle.eris_txn.specs.declared.op.Op.{Op}
use Rattle.eris_txn.specs.declared.packet.Packet.{Packet}
use Rattle.eris_txn.specs.declared.txn.Txn.{Txn}
use Rattle.eris_txn.specs.Bodies.{any_on}
use Rattle.eris_txn.specs.Operations.{key_of}
use Rattle.eris_locks.specs.Law.{HasPacket}
use Rattle.eris_locks.specs.Shards.{is_on, names_shard, on_shard, cut, cut_body}
use Rattle.eris_locks.specs.States.{is_conclusory, phase_of}
use Rattle.eris_law_lock.proofs.SaidFrom.{said_from}
use Rattle.eris_audit.specs.Histories.{txn_of}
use Rattle.eris_serial.specs.Evidence.{HasOwn, ReadEvidence, RefusalEvidence, SubmitsWell, WholeEvidence}
use Rattle.eris_serial.specs.Shares.{share}
use Rattle.eris_serial.specs.Transactions.{takes_part}
use Rattle.eris_serial.proofs.Runnable.{plan_can_run}

-- A PACKET ON A SHARD is one of the order: an own one
own_phase : (shard : ShardId) (body : Body) (phase : Phase) → phase_of (cut_body shard body) ≡ phase → (phase ≡ Phase.Conclude → ⊥) → is_conclusory body ≡ false
own_phase shard (Independent ops) phase is not = refl
own_phase shard (Prelim locks) phase is not = refl
own_phase shard (Commit keys writes) phase is not = absurd (not (sym is))
own_phase shard (Abort keys) phase is not = absurd (not (sym is))

pub own_from_shard : (shard : ShardId) (id : TxnId) (phase : Phase) (packets : List Packet) → (phase ≡ Phase.Conclude → ⊥) → HasPacket id phase (on_shard shard packets) → HasOwn id packets
own_from_shard shard id phase [] not = λ has. has
own_from_shard shard id phase (packet ∷ packets) not = by_test (names_shard shard packet) (own_from_shard shard id phase packets not)
  where
    by_test : (named : Bool) → (HasPacket id phase (on_shard shard packets) → HasOwn id packets)
        → HasPacket id phase (elim named [ true ↦ cut shard packet ∷ on_shard shard packets | false ↦ on_shard shard packets ]) → HasOwn id (packet ∷ packets)
    by_test true rest (inl here) = inl (here.0, own_phase shard packet.body phase here.1 not)
    by_test true rest (inr there) = inr (rest there)
    by_test false rest there = inr (rest there)

-- some shard takes part, where there is a key or an operation
pub some_shard : (keys : List Key) → (keys ≡ [] → ⊥) → (shard : ShardId) × (any_on keys shard ≡ true)
some_shard [] some = absurd (some refl)
some_shard (key ∷ keys) some = (key.shard, or_left _ _ (eq-eqb key.shard.0 key.shard.0 refl))

some_op_shard : (ops : List Op) → (ops ≡ [] → ⊥) → (shard : ShardId) × (any_on (map key_of ops) shard ≡ true)
some_op_shard [] some = absurd (some refl)
some_op_shard (op ∷ ops) some = ((key_of op).shard, or_left _ _ (eq-eqb (key_of op).shard.0 (key_of op).shard.0 refl))

pub prelim_is_own : Phase.Prelim ≡ Phase.Conclude → ⊥
prelim_is_own is = cc

pub whole_is_own : Phase.Whole ≡ Phase.Conclude → ⊥
whole_is_own is = cc

-- WHAT WAS SAID OVER A LIST STANDS IN IT
pub read_has_own : (history : List HistoryEvent) → Each SubmitsWell history → (id : TxnId) (values : List (Option ℕ)) (packets : List Packet)
    → ReadEvidence (txn_of history) id values packets → HasOwn id packets
read_has_own history well id values packets read =
    let some = some_shard read.plan.keys (plan_can_run history id read.plan well read.is).some_key in
    own_from_shard some.0 id Phase.Prelim packets prelim_is_own
    (said_from id Phase.Prelim (Answer.Values (share (is_on some.0) read.plan.keys values)) (on_shard some.0 packets) (read.said some.0 (ap (takes_part some.0) read.is ∙ some.1)))

pub whole_has_own : (txn : TxnId → Txn) (id : TxnId) (answer : Answer) (packets : List Packet) → WholeEvidence txn id answer packets → HasOwn id packets
whole_has_own txn id answer packets whole =
    let some = some_op_shard whole.operations whole.some_operation in
    own_from_shard some.0 id Phase.Whole packets whole_is_own
    (said_from id Phase.Whole (Ops (share (λ op. is_on some.0 (key_of op)) whole.operations whole.answers)) (on_shard some.0 packets) (whole.said some.0 (ap (takes_part some.0) whole.is ∙ some.1)))

pub refusal_has_own : (txn : TxnId → Txn) (id : TxnId) (answer : Answer) (packets : List Packet) → RefusalEvidence txn id answer packets → HasOwn id packets
refusal_has_own txn id answer packets refusal =
    own_from_shard refusal.shard id Phase.Prelim packets prelim_is_own (said_from id Phase.Prelim Aborted (on_shard refusal.shard packets) refusal.said)
