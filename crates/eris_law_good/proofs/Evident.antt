-- THERE IS EVIDENCE for the history of each moment of a run, by the order of that moment.
use Rattle.std.proofs.Common.{◌≡◌, ℕ, List}
use Rattle.std.specs.Prelude.{IsTrue}
use Rattle.eris_base.specs.declared.ids.ShardId.{ShardId}
use Rattle.eris_base.specs.ConfigLimits.{ConfigValue}
use Rattle.eris_base.specs.Each.{Each}
use Rattle.eris_txn.specs.declared.packet.Packet.{Packet}
use Rattle.eris_audit.specs.Histories.{is_submitted, txn_of}
use Rattle.eris_locks.specs.Shards.{names_shard}
use Rattle.eris_event.specs.declared.event.Event.{Event}
use Rattle.eris_rules.specs.WorldOrders.{order, stamping_list, survives}
use Rattle.eris_serial.specs.Evidence.{BodyOrigin, HasCommitOrigin}
use Rattle.eris_serial.specs.Transactions.{takes_part}
use Rattle.eris_law_epoch.specs.Members.{In}
use Rattle.eris_law_epoch.proofs.Members.{Each-by_In, In-filter}
use Rattle.eris_law_agreement.specs.WorldMoments.{world_at}
use Rattle.eris_law_course.specs.Accepted.{AreEventsFit, IsAccepted}
use Rattle.eris_law_course.specs.Asked.{WasAsked}
use Rattle.eris_law_course.proofs.Merged.{submits_well}
use Rattle.eris_law_course.proofs.Packets.{packet_body, packet_commit, packet_shards, packet_submitted, was_asked}
use Rattle.eris_law_good.specs.Evident.{HasEvidence}
use Rattle.eris_law_good.proofs.Answered.{all_later}
use Rattle.eris_law_good.proofs.Counted.{events_counted}

module _ (config : ConfigValue) (events : List Event) (ok : IsAccepted config events) where
  -- each packet of the order was asked for
  ordered_asked : (k : ℕ) (packet : Packet) → In packet (order (world_at config events k)) → WasAsked config events k packet
  unfolding order
  ordered_asked k packet i =
      was_asked config events ok k packet (In-filter (survives (world_at config events k)) (stamping_list (world_at config events k).stampings) packet i)

  each_ordered : (k : ℕ) (P : Packet → Type 0) → ((packet : Packet) → WasAsked config events k packet → P packet) → Each P (order (world_at config events k))
  each_ordered k P h = Each-by_In P (order (world_at config events k)) (λ packet i. h packet (ordered_asked k packet i))

  -- THE EVIDENCE
  pub evidence : AreEventsFit events → (k : ℕ) → HasEvidence config events k
  evidence fit k =
      record {
        submitted = each_ordered k (λ packet. IsTrue (is_submitted (world_at config events k).history packet.id)) (packet_submitted config events ok k);
        submits = submits_well config events ok fit k;
        shards = each_ordered k (λ packet. (shard : ShardId) → names_shard shard packet ≡ takes_part shard (txn_of (world_at config events k).history packet.id)) (packet_shards config events ok k);
        bodies = each_ordered k (λ packet. BodyOrigin (txn_of (world_at config events k).history packet.id) packet.body) (packet_body config events ok k);
        commits = each_ordered k (λ packet. HasCommitOrigin (world_at config events k).history packet.id packet.body) (packet_commit config events ok k);
        counted = events_counted config events ok fit k;
        later = all_later config events ok fit k;
      }
