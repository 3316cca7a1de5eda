-- What an order's packets come from, those of a closed cut come from too. The values that a Commit of the cut was
-- made of were said over the whole order; on each shard the cut is a beginning with that Commit in it, and values
-- said over a whole list are said over a beginning that has a conclusory packet of the id. Used by nothing here: it
-- is for those who keep a closed cut.
use Rattle.std.proofs.Common.{◌≡◌, Bool, true, false, List, [], ◌∷◌, refl, ap, ◌∙◌, subst, ◌⊎◌, inl, inr}
use Rattle.std.proofs.lemmas.Bool.{both_ways}
use Rattle.eris_base.specs.declared.ids.Phase.{Phase}
use Rattle.eris_base.specs.declared.ids.ShardId.{ShardId}
use Rattle.eris_base.specs.declared.ids.TxnId.{TxnId}
use Rattle.eris_txn.specs.declared.answer.Answer.{Answer}
use Rattle.eris_txn.specs.declared.body.Body.{Body}
use Rattle.eris_txn.specs.declared.body.Body.TheVariants.{Independent, Prelim, Commit, Abort}
use Rattle.eris_txn.specs.declared.packet.Packet.{Packet}
use Rattle.eris_txn.specs.declared.txn.Txn.{Txn}
use Rattle.eris_locks.specs.declared.shard_packet.ShardPacket.{ShardPacket}
use Rattle.eris_locks.specs.Law.{HasPacket, Said}
use Rattle.eris_locks.specs.LockTable.{run_dones}
use Rattle.eris_locks.specs.Shards.{cut, cut_body, is_on, names_shard, on_shard}
use Rattle.eris_locks.specs.States.{empty, phase_of}
use Rattle.eris_locks.specs.WellFormed.{WellFormed}
use Rattle.eris_law_lock.proofs.InPart.{said_in_part}
use Rattle.eris_serial.specs.Cuts.{IsClosedCut}
use Rattle.eris_serial.specs.Evidence.{BodyOrigin, HasCommitEvidence, IsIn, Origins}
use Rattle.eris_serial.specs.Shares.{share}
use Rattle.eris_serial.specs.Transactions.{takes_part, CanRun}
use Rattle.eris_serial.proofs.Runnable.{Each-in, Each-of}
use Rattle.eris_law_serial.proofs.WellFormedOrder.{well_formed}

-- a conclusory packet of a list is one on each shard that it names
conclusory_there : (shard : ShardId) (packet : Packet) (packets : List Packet) → names_shard shard packet ≡ true → phase_of (cut_body shard packet.body) ≡ Phase.Conclude → IsIn packet packets
    → HasPacket packet.id Phase.Conclude (on_shard shard packets)
conclusory_there shard packet [] named concludes = λ there. absurd there
conclusory_there shard packet (other ∷ packets) named concludes = by_test (names_shard shard other) refl (conclusory_there shard packet packets named concludes)
  where
    by_test : (test : Bool) → names_shard shard other ≡ test → (IsIn packet packets → HasPacket packet.id Phase.Conclude (on_shard shard packets)) → ((other ≡ packet) ⊎ IsIn packet packets)
        → HasPacket packet.id Phase.Conclude (elim test as (λ b. List ShardPacket) [ true ↦ cut shard other ∷ on_shard shard packets | false ↦ on_shard shard packets ])
    by_test true is rest (inl same) = inl (ap (λ (p : Packet). p.id) same, ap (λ (p : Packet). phase_of (cut_body shard p.body)) same ∙ concludes)
    by_test true is rest (inr there) = inr (rest there)
    by_test false is rest (inl same) = absurd (both_ways _ is (ap (names_shard shard) same ∙ named))
    by_test false is rest (inr there) = rest there

pub cut_origins : (txn : TxnId → Txn) (order part : List Packet) → Origins txn order → IsClosedCut order part → Origins txn part
cut_origins txn order part origins closed = record {
  can_run = Each-of (λ packet. CanRun (txn packet.id)) part (λ packet there. Each-in (λ p. CanRun (txn p.id)) order packet origins.can_run (closed.inside packet there));
  shards = Each-of (λ packet. (shard : ShardId) → names_shard shard packet ≡ takes_part shard (txn packet.id)) part named;
  bodies = Each-of (λ packet. BodyOrigin (txn packet.id) packet.body) part (λ packet there. Each-in (λ p. BodyOrigin (txn p.id) p.body) order packet origins.bodies (closed.inside packet there));
  commits = Each-of (λ packet. HasCommitEvidence txn part packet.id packet.body) part
      (λ packet there. by_body packet there packet.body refl (Each-in (λ p. HasCommitEvidence txn order p.id p.body) order packet origins.commits (closed.inside packet there)));
}
  where
    named : (packet : Packet) → IsIn packet part → (shard : ShardId) → names_shard shard packet ≡ takes_part shard (txn packet.id)
    named packet there = Each-in (λ p. (shard : ShardId) → names_shard shard p ≡ takes_part shard (txn p.id)) order packet origins.shards (closed.inside packet there)

    by_body : (packet : Packet) → IsIn packet part → (body : Body) → packet.body ≡ body → HasCommitEvidence txn order packet.id body → HasCommitEvidence txn part packet.id body
    by_body packet there (Independent ops) is commit = tt
    by_body packet there (Prelim locks) is commit = tt
    by_body packet there (Commit keys writes) is commit = record {
      values = commit.values;
      read = record {
        plan = commit.read.plan;
        is = commit.read.is;
        each = commit.read.each;
        said = λ shard takes.
            said_in_part packet.id (share (is_on shard) commit.read.plan.keys commit.values) (on_shard shard part) (closed.rest shard)
            (subst WellFormed (closed.begins shard) (well_formed txn order origins shard))
            (conclusory_there shard packet part (named packet there shard ∙ takes) (ap (λ b. phase_of (cut_body shard b)) is) there)
            (subst (λ (list : List ShardPacket). Said packet.id Phase.Prelim (Answer.Values (share (is_on shard) commit.read.plan.keys commit.values)) (run_dones empty list))
            (closed.begins shard) (commit.read.said shard takes));
      };
      guards = commit.guards;
      writes_are = commit.writes_are;
    }
    by_body packet there (Abort keys) is commit = tt
