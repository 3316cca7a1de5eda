-- In a computed run a shard is answered by a quorum: the learner and replica 1. So the law of answers speaks of it.
use Rattle.std.proofs.Common.{◌≡◌, inl, inr, ◌==◌, ◌||◌, true, false, [], ◌∷◌, refl, sym, subst, arith}
use Rattle.std.proofs.lemmas.Bool.{eqb-true, or_cases}
use Rattle.eris_base.specs.declared.ids.Node.TheVariants.{Client}
use Rattle.eris_base.specs.declared.ids.Phase.{Phase}
use Rattle.eris_base.specs.declared.ids.ReplicaId.{ReplicaId}
use Rattle.eris_base.specs.Quorums.{has_replica}
use Rattle.eris_txn.specs.declared.answer.Answer.{Answer}
use Rattle.eris_txn.specs.declared.op.OpAnswer.{OpAnswer}
use Rattle.eris_msg.specs.declared.message.Message.{Message}
use Rattle.eris_law_epoch.proofs.Frame.{replica_equal}
use Rattle.eris_law_evidence.specs.Fronts.{IsSaidFrom}
use Rattle.eris_law_evidence.specs.Heard.{ByReply, ByVouch, WasAnswered, WasSent, WasSpoken}
use Rattle.eris_law_evidence.proofs.SaidFronts.{replies_front}
use Rattle.eris_law_schedules.specs.Schedules.{client, its_stamp, replica, sent_then, shard, txn, with_faults, without_learner}
use Rattle.eris_law_schedules.proofs.Opened.{all_rules}

reply_there : WasSent sent_then (Message.Reply (record { 0 = 0 }) shard (replica 0) its_stamp (txn 1) Phase.Whole (Answer.Ops (OpAnswer.Done ∷ [])))
unfolding all_rules
reply_there = record { to = Client client; there = inr (inr (inr (inr (inl refl)))) }

vouch_there : WasSent sent_then (Message.Vouch (record { 0 = 0 }) shard (replica 1) its_stamp (txn 1) Phase.Whole)
unfolding all_rules
vouch_there = record { to = Client client; there = inr (inr (inr (inr (inr (inl refl))))) }

spoken : (other : ReplicaId) → has_replica (replica 0 ∷ replica 1 ∷ []) other ≡ true → WasSpoken sent_then (record { 0 = 0 }) shard its_stamp (txn 1) Phase.Whole other
spoken other listed = elim (or_cases (other.0 == 0) (other.0 == 1 || false) listed) [
  | inl first ↦ subst (WasSpoken sent_then (record { 0 = 0 }) shard its_stamp (txn 1) Phase.Whole) (sym (replica_equal other (replica 0) (eqb-true _ _ first))) (ByReply (Answer.Ops (OpAnswer.Done ∷ [])) reply_there)
  | inr rest ↦ elim (or_cases (other.0 == 1) false rest) [
    | inl second ↦ subst (WasSpoken sent_then (record { 0 = 0 }) shard its_stamp (txn 1) Phase.Whole) (sym (replica_equal other (replica 1) (eqb-true _ _ second))) (ByVouch vouch_there)
    | inr none ↦ absurd (cc)
  ]
]

pub was_answered : WasAnswered (with_faults 1) sent_then shard (txn 1) Phase.Whole (Answer.Ops (OpAnswer.Done ∷ []))
was_answered =
    record { view = record { 0 = 0 }; stamp = its_stamp; who = replica 0 ∷ replica 1 ∷ []; quorum = record { below = (omega arith, (omega arith, tt)); many = refl }; each = spoken; reply = reply_there }

pub said_ever_after : IsSaidFrom (with_faults 1) without_learner 4 shard (txn 1) Phase.Whole (Answer.Ops (OpAnswer.Done ∷ []))
said_ever_after = replies_front (with_faults 1) without_learner 4 shard (txn 1) Phase.Whole (Answer.Ops (OpAnswer.Done ∷ [])) was_answered
