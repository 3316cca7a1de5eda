-- A replica's part stays of its epoch and shard, and so do the parts that it notes; used by the small changes
-- of its state.
use Rattle.std.proofs.Common.{◌≡◌, ℕ, Option, None, Some, List, [], ◌∷◌, ◌==◌, cond, nat_lt, sym, ◌∙◌, ap}
use Rattle.std.proofs.lemmas.Bool.{cond_both}
use Rattle.eris_base.specs.declared.ids.Epoch.{Epoch}
use Rattle.eris_base.specs.declared.ids.ReplicaId.{ReplicaId}
use Rattle.eris_base.specs.declared.ids.ShardId.{ShardId}
use Rattle.eris_base.specs.Each.{Each}
use Rattle.eris_base.specs.Places.{number_in}
use Rattle.eris_base.specs.Quorums.{same_replica}
use Rattle.eris_txn.specs.declared.packet.Packet.{Packet}
use Rattle.eris_log.specs.Held.{with_packet}
use Rattle.eris_log.specs.PartValues.{PartValue}
use Rattle.eris_log.specs.Parts.{hold, hold_at, merge}
use Rattle.eris_view.specs.ViewTallies.{ViewTallyValue, with_part, union_of, is_ready}
use Rattle.eris_view.specs.ViewTallyFacts.{AreOfShard}
use Rattle.eris_member.specs.MemberValues.{IsOfOwn}

abbrev AllOwn : Epoch → ShardId → List (ReplicaId × PartValue) → Type 0
AllOwn epoch shard noted = Each (λ one. IsOfOwn epoch shard one.1) noted

pub noted_of_shard : (epoch : Epoch) (shard : ShardId) (part : PartValue) (noted : List (ReplicaId × PartValue)) → IsOfOwn epoch shard part → AllOwn epoch shard noted → AreOfShard part noted
noted_of_shard epoch shard part [] own all = tt
noted_of_shard epoch shard part (one ∷ noted) own all =
    (record { epoch = all.0.in_epoch ∙ sym own.in_epoch; shard = all.0.on_shard ∙ sym own.on_shard }, noted_of_shard epoch shard part noted own all.1)

pub with_part_own : (epoch : Epoch) (shard : ShardId) (noted : List (ReplicaId × PartValue)) (replica : ReplicaId) (part : PartValue)
    → AllOwn epoch shard noted → IsOfOwn epoch shard part → AllOwn epoch shard (with_part noted replica part)
unfolding with_part
with_part_own epoch shard [] replica part all own = (own, tt)
with_part_own epoch shard (other ∷ noted) replica part all own =
    cond_both (nat_lt replica.0 other.0.0) ((replica, part) ∷ other ∷ noted)
    (cond (same_replica replica other.0) ((replica, part) ∷ noted) (other ∷ with_part noted replica part)) (AllOwn epoch shard)
    (λ _. (own, all))
    (λ _. cond_both (same_replica replica other.0) ((replica, part) ∷ noted) (other ∷ with_part noted replica part) (AllOwn epoch shard)
    (λ _. (own, all.1))
    (λ _. (all.0, with_part_own epoch shard noted replica part all.1 own)))

pub union_of_own : (epoch : Epoch) (shard : ShardId) (noted : List (ReplicaId × PartValue)) (part : PartValue) → IsOfOwn epoch shard part → IsOfOwn epoch shard (union_of noted part)
unfolding union_of merge
union_of_own epoch shard [] part own = own
union_of_own epoch shard (one ∷ noted) part own =
    union_of_own epoch shard noted (merge part one.1) (record { in_epoch = own.in_epoch; on_shard = own.on_shard })

hold_at_own : (epoch : Epoch) (shard : ShardId) (part : PartValue) (number : Option ℕ) (packet : Packet) → IsOfOwn epoch shard part → IsOfOwn epoch shard (hold_at part number packet)
unfolding hold_at
hold_at_own epoch shard part None packet own = own
hold_at_own epoch shard part (Some number) packet own =
    cond_both (number == 0) part (record part { held = with_packet part.held number packet }) (IsOfOwn epoch shard)
    (λ _. own) (λ _. record { in_epoch = own.in_epoch; on_shard = own.on_shard })

pub hold_own : (epoch : Epoch) (shard : ShardId) (part : PartValue) (packet : Packet) → IsOfOwn epoch shard part → IsOfOwn epoch shard (hold part packet)
unfolding hold
hold_own epoch shard part packet own = hold_at_own epoch shard part (number_in packet.stamp.places part.shard) packet own

-- the tally counts with the faults of the config
pub ready_is : (tally : ViewTallyValue) (f : ℕ) (own : ReplicaId) → tally.f ≡ f → is_ready (record { view = tally.view; f = f; noted = tally.noted }) own ≡ is_ready tally own
ready_is tally f own same = ap (λ (n : ℕ). is_ready (record { view = tally.view; f = n; noted = tally.noted }) own) (sym same)

pub ruleset kept = (noted_of_shard, with_part_own, union_of_own, hold_own, ready_is)
