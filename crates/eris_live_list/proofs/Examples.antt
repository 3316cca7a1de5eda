-- Small journals, by hand.
use Rattle.std.proofs.Common.{◌≡◌, ◌≤◌, ◌<◌, ◌==◌, ℕ, zero, suc, Bool, true, false, cond, List, [], ◌∷◌, None, refl, arith, eq-eqb, ne_eqb}
use Rattle.eris_base.specs.declared.ids.ClientId.{ClientId}
use Rattle.eris_base.specs.declared.ids.ReplicaId.{ReplicaId}
use Rattle.eris_base.specs.declared.ids.ShardId.{ShardId}
use Rattle.eris_txn.specs.declared.op.Op.{Op}
use Rattle.eris_msg.specs.declared.outgoing.Outgoing.{Outgoing}
use Rattle.eris_event.specs.declared.event.Event.{Event}
use Rattle.eris_law_live.specs.FirstDeliveries.{is_delivered}
use Rattle.eris_live_list.specs.LiveJournals.{AreMarks, Serves, alarms, begin_of, others, submissions_of}

-- a packet that is delivered again, and a question that is repeated
pub two_others : others [] (Event.Deliver 0 None ∷ Event.Deliver 0 None ∷ Event.Nudge ∷ Event.Deliver 1 None ∷ []) ≡ 2
unfolding others is_delivered
two_others = refl

pub two_alarms : (shard : ShardId) (replica : ReplicaId) → alarms (Event.Suspect shard replica ∷ Event.Nudge ∷ Event.Replace ∷ []) ≡ 2
unfolding alarms
two_alarms shard replica = refl

pub one_submission : (some more : ClientId) (ops : List Op) → some.0 ≡ 0 → more.0 ≡ 1
    → submissions_of more (Event.Submit some ops ∷ Event.Nudge ∷ Event.Submit more ops ∷ Event.Retry more 1 ∷ []) ≡ Event.Submit more ops ∷ []
unfolding submissions_of
one_submission some more ops zero_th first = by_tests (some.0 == more.0) (more.0 == more.0) (ne_eqb some.0 more.0 (λ e. omega (arith, e, zero_th, first))) (eq-eqb more.0 more.0 refl)
  where
    by_tests : (theirs mine : Bool) → theirs ≡ false → mine ≡ true
        → cond theirs (Event.Submit some ops ∷ cond mine (Event.Submit more ops ∷ []) []) (cond mine (Event.Submit more ops ∷ []) []) ≡ Event.Submit more ops ∷ []
    by_tests true mine e f = absurd (cc)
    by_tests false false e f = absurd (cc)
    by_tests false true e f = refl

rises : (round : ℕ) → round < 3 → begin_of (2 ∷ 2 ∷ 3 ∷ []) round ≤ begin_of (2 ∷ 2 ∷ 3 ∷ []) (suc round)
rises zero low = omega arith
rises (suc zero) low = omega arith
rises (suc (suc zero)) low = omega arith
rises (suc (suc (suc round))) low = absurd (omega (arith, low))

pub three_marks : AreMarks 3 3 (2 ∷ 2 ∷ 3 ∷ [])
three_marks = record { each_round = refl; rise = rises; last = refl }

-- a packet that is open before the round is delivered in it
pub one_served : (one : Outgoing) → Serves (one ∷ []) (one ∷ []) [] (Event.Nudge ∷ Event.Deliver 0 None ∷ []) one.to
unfolding is_delivered
one_served one = λ number still. (Event.Nudge ∷ [], [], 0, None, refl, ((one, refl, refl), refl))
