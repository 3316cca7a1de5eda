-- What a client counts: from the Vouches and the Reply that were sent, each replica of a quorum held the packet with
-- no gap before it, so the packet and the log behind the answer are kept.
use Rattle.std.proofs.Common.{◌≡◌, inl, inr, ℕ, suc, ◌+◌, ◌*◌, ◌≤◌, ◌<◌, List, Some, sym, ap, ◌∙◌, subst, arith}
use Rattle.std.proofs.lemmas.Bool.{cases_Bool, both_ways}
use Rattle.eris_base.specs.declared.ids.Node.{Node}
use Rattle.eris_base.specs.declared.ids.Phase.{Phase}
use Rattle.eris_base.specs.declared.ids.ReplicaId.{ReplicaId}
use Rattle.eris_base.specs.declared.ids.ShardId.{ShardId}
use Rattle.eris_base.specs.declared.ids.TxnId.{TxnId}
use Rattle.eris_base.specs.declared.ids.View.{View}
use Rattle.eris_base.specs.declared.stamp.Stamp.{Stamp}
use Rattle.eris_base.specs.Places.{number_in}
use Rattle.eris_base.specs.Quorums.{learner_of}
use Rattle.eris_txn.specs.declared.answer.Answer.{Answer}
use Rattle.eris_txn.specs.declared.packet.Packet.{Packet}
use Rattle.eris_log.specs.Entries.{is_dropped}
use Rattle.eris_log.specs.Laws.Entries.{NoGap}
use Rattle.eris_log.specs.Places.{any_among}
use Rattle.eris_rules.specs.EpochMessages.{Responds, Vouch, Reply, Late}
use Rattle.eris_rules.specs.ReplicaStates.{EpochReplica}
use Rattle.eris_law_epoch.specs.Causes.{Cause, ByReplica, ByCoordinator, BySequencer, Spoke, Replied, GaveLate}
use Rattle.eris_law_epoch.specs.EpochWorlds.{EpochSystem, EpochWorld, EpochEvent, member_of, moment}
use Rattle.eris_law_epoch.specs.Fine.{known_in}
use Rattle.eris_law_epoch.specs.Members.{In}
use Rattle.eris_law_key.specs.Quorums.{SpokePast}
use Rattle.eris_law_epoch.specs.Reading.{replica_then}
use Rattle.eris_law_key.specs.Spoken.{SpokeThen, RepliedThen, GaveLateThen, IsCounted}
use Rattle.eris_law_epoch.specs.Stamped.{HasNumber}
use Rattle.eris_law_epoch.proofs.FineParts.{held_fine}
use Rattle.eris_law_epoch.proofs.Grow.{NoGap-less}
use Rattle.eris_law_key.proofs.KeyLemma.{no_gap, fine_part, own_shard, dropped_by, key}
use Rattle.eris_law_epoch.proofs.Moments.{later, cause}

module _ (system : EpochSystem) (events : List EpochEvent) where
  abbrev at : ℕ → EpochWorld
  at k = moment system events k

  abbrev then : ℕ → ShardId → ReplicaId → EpochReplica
  then k shard x = replica_then system events k shard x

  -- ---- who spoke
  spoke_by : (k j : ℕ) → j < k → (shard : ShardId) (view : View) (stamp : Stamp) (id : TxnId) (phase : Phase) (replica : ReplicaId) (a : ShardId) (b : ReplicaId) → b.0 < 2 * system.config.f + 1
      → Spoke (member_of system a b) (then (suc j) a b).view (then (suc j) a b).status (then (suc j) a b).part view shard replica stamp id phase → SpokeThen system events k shard view stamp id phase replica
  spoke_by k j lt shard view stamp id phase replica a b range said = record {
    moment = suc j;
    by = omega arith;
    there = subst (λ (x : ReplicaId). x.0 < 2 * system.config.f + 1) (sym said.own) range;
    spoke = subst (λ z. Spoke (member_of system shard z) (then (suc j) shard z).view (then (suc j) shard z).status (then (suc j) shard z).part view shard replica stamp id phase) (sym said.own)
        (subst (λ z. Spoke (member_of system z b) (then (suc j) z b).view (then (suc j) z b).status (then (suc j) z b).part view shard replica stamp id phase) (sym said.own_shard) said);
  }

  pub vouched : (k : ℕ) (to : Node) (view : View) (shard : ShardId) (replica : ReplicaId) (stamp : Stamp) (id : TxnId) (phase : Phase) → In (record { to = to; message = Responds (Vouch view shard replica stamp id phase) }) (at k).sent
      → SpokeThen system events k shard view stamp id phase replica
  vouched k to view shard replica stamp id phase i = let c = cause system events k _ i in of_cause c.0 c.1 c.2
    where
      of_cause : (j : ℕ) → j < k → Cause system (at j) (at (suc j)) (record { to = to; message = Responds (Vouch view shard replica stamp id phase) }) → SpokeThen system events k shard view stamp id phase replica
      of_cause j lt (ByReplica a b range there said home) = spoke_by k j lt shard view stamp id phase replica a b there said.spoke
      of_cause j lt (ByCoordinator said) = absurd said
      of_cause j lt (BySequencer packet p e) = absurd (cc)

  pub replied : (k : ℕ) (to : Node) (view : View) (shard : ShardId) (replica : ReplicaId) (stamp : Stamp) (id : TxnId) (phase : Phase) (answer : Answer)
      → In (record { to = to; message = Responds (Reply view shard replica stamp id phase answer) }) (at k).sent → RepliedThen system events k shard view stamp id phase answer replica
  replied k to view shard replica stamp id phase answer i = let c = cause system events k _ i in of_cause c.0 c.1 c.2
    where
      named : (j : ℕ) → j < k → (a : ShardId) (b : ReplicaId) → b.0 < 2 * system.config.f + 1
          → Replied (member_of system a b) (then (suc j) a b).view (then (suc j) a b).status (then (suc j) a b).part view shard replica stamp id phase answer → RepliedThen system events k shard view stamp id phase answer replica
      named j lt a b range said = record {
        moment = suc j;
        by = omega arith;
        there = subst (λ (x : ReplicaId). x.0 < 2 * system.config.f + 1) (sym said.spoke.own) range;
        replied = subst (λ z. Replied (member_of system shard z) (then (suc j) shard z).view (then (suc j) shard z).status (then (suc j) shard z).part view shard replica stamp id phase answer) (sym said.spoke.own)
            (subst (λ z. Replied (member_of system z b) (then (suc j) z b).view (then (suc j) z b).status (then (suc j) z b).part view shard replica stamp id phase answer) (sym said.spoke.own_shard) said);
      }

      of_cause : (j : ℕ) → j < k → Cause system (at j) (at (suc j)) (record { to = to; message = Responds (Reply view shard replica stamp id phase answer) }) → RepliedThen system events k shard view stamp id phase answer replica
      of_cause j lt (ByReplica a b range there said home) = named j lt a b there said
      of_cause j lt (ByCoordinator said) = absurd said
      of_cause j lt (BySequencer packet p e) = absurd (cc)

  pub gave_late : (k : ℕ) (to : Node) (shard : ShardId) (replica : ReplicaId) (id : TxnId) (phase : Phase) (answer : Answer)
      → In (record { to = to; message = Responds (Late shard replica id phase answer) }) (at k).sent → GaveLateThen system events k shard id phase answer replica
  gave_late k to shard replica id phase answer i = let c = cause system events k _ i in of_cause c.0 c.1 c.2
    where
      named : (j : ℕ) → j < k → (a : ShardId) (b : ReplicaId) → b.0 < 2 * system.config.f + 1
          → GaveLate (member_of system a b) (then j a b) (then (suc j) a b).view (then (suc j) a b).status (then (suc j) a b).part (then (suc j) a b).settled shard replica id phase answer → GaveLateThen system events k shard id phase answer replica
      named j lt a b range said = record {
        moment_before = j;
        by = lt;
        there = subst (λ (x : ReplicaId). x.0 < 2 * system.config.f + 1) (sym said.own) range;
        gave = subst (λ z. GaveLate (member_of system shard z) (then j shard z) (then (suc j) shard z).view (then (suc j) shard z).status (then (suc j) shard z).part (then (suc j) shard z).settled shard replica id phase answer) (sym said.own)
            (subst (λ z. GaveLate (member_of system z b) (then j z b) (then (suc j) z b).view (then (suc j) z b).status (then (suc j) z b).part (then (suc j) z b).settled shard replica id phase answer) (sym said.own_shard) said);
      }

      of_cause : (j : ℕ) → j < k → Cause system (at j) (at (suc j)) (record { to = to; message = Responds (Late shard replica id phase answer) }) → GaveLateThen system events k shard id phase answer replica
      of_cause j lt (ByReplica a b range there said home) = named j lt a b there said
      of_cause j lt (ByCoordinator said) = absurd said
      of_cause j lt (BySequencer packet p e) = absurd (cc)

  -- ---- a counted shard
  -- who spoke held the packet, which was stamped, at the number that the stamp gives the shard
  pub spoke_number : (k : ℕ) (shard : ShardId) (view : View) (stamp : Stamp) (id : TxnId) (phase : Phase) (replica : ReplicaId) (s : SpokeThen system events k shard view stamp id phase replica) → number_in stamp.places shard ≡ Some s.spoke.number
  spoke_number k shard view stamp id phase replica s =
      let f = held_fine system.epoch (known_in (at s.moment)) (then s.moment shard replica).part s.spoke.number s.spoke.packet (fine_part system events s.moment shard replica) s.spoke.held in
      ap (λ (st : Stamp). number_in st.places shard) (sym s.spoke.of_stamp) ∙ subst (λ a. HasNumber s.spoke.packet a s.spoke.number) (own_shard system events s.moment shard replica) f.number

  pub spoke_stamped : (k : ℕ) (shard : ShardId) (view : View) (stamp : Stamp) (id : TxnId) (phase : Phase) (replica : ReplicaId) (s : SpokeThen system events k shard view stamp id phase replica) → In s.spoke.packet (at k).stamping.stamped
  spoke_stamped k shard view stamp id phase replica s =
      let f = held_fine system.epoch (known_in (at s.moment)) (then s.moment shard replica).part s.spoke.number s.spoke.packet (fine_part system events s.moment shard replica) s.spoke.held in
      (later system events s.moment k s.by).stamped s.spoke.packet f.packet.stamped

  abbrev pub spoke_reply : (k : ℕ) (shard : ShardId) (view : View) (stamp : Stamp) (id : TxnId) (phase : Phase) (answer : Answer) (replica : ReplicaId) → RepliedThen system events k shard view stamp id phase answer replica
      → SpokeThen system events k shard view stamp id phase replica
  spoke_reply k shard view stamp id phase answer replica r = record { moment = r.moment; by = r.by; there = r.there; spoke = r.replied.spoke }

  pub same_number : (k : ℕ) (shard : ShardId) (view : View) (stamp : Stamp) (id : TxnId) (phase : Phase) (x y : ReplicaId) (s : SpokeThen system events k shard view stamp id phase x) (t : SpokeThen system events k shard view stamp id phase y) → s.spoke.number ≡ t.spoke.number
  same_number k shard view stamp id phase x y s t = let e : Some s.spoke.number ≡ Some t.spoke.number = sym (spoke_number k shard view stamp id phase x s) ∙ spoke_number k shard view stamp id phase y t in cc

  module _ (k : ℕ) (shard : ShardId) (view : View) (stamp : Stamp) (id : TxnId) (phase : Phase) (answer : Answer) (counted : IsCounted system events k shard view stamp id phase answer) where
    abbrev pub said : SpokeThen system events k shard view stamp id phase (learner_of view system.config.f)
    said = spoke_reply k shard view stamp id phase answer (learner_of view system.config.f) counted.reply

    -- its quorum spoke past the packet's number
    abbrev pub counted_past : SpokePast system events k shard view said.spoke.number
    counted_past = record {
      who = counted.who;
      quorum = counted.quorum;
      each = λ x h.
          let s = counted.each x h in
          record {
            moment = s.moment;
            by = s.by;
            there = s.there;
            in_view = sym s.spoke.in_view;
            normal = s.spoke.normal;
            whole = subst (NoGap (then s.moment shard x).part) (same_number k shard view stamp id phase x (learner_of view system.config.f) s said) s.spoke.whole;
          };
      learner = record { moment = said.moment; by = said.by; there = said.there; in_view = sym said.spoke.in_view; normal = said.spoke.normal; whole = said.spoke.whole };
    }

    -- each packet before it, and it itself, that the learner counted is dropped at no later moment, and each that it
    -- left out is dropped
    module _ (l : ℕ) (le : k ≤ l) (n : ℕ) (t : Packet) (stamped : In t (at l).stamping.stamped) (number : HasNumber t shard n) (low : 1 ≤ n) (high : n ≤ said.spoke.number) where
      abbrev past_then : SpokePast system events l shard view n
      past_then = record {
        who = counted.who;
        quorum = counted.quorum;
        each = λ x h. let r = counted_past.each x h in record { moment = r.moment; by = (let by = r.by in omega arith); there = r.there; in_view = r.in_view; normal = r.normal; whole = NoGap-less _ said.spoke.number n high r.whole };
        learner = record {
          moment = said.moment;
          by = (let by = said.by in omega arith);
          there = said.there;
          in_view = sym said.spoke.in_view;
          normal = said.spoke.normal;
          whole = NoGap-less _ said.spoke.number n high said.spoke.whole;
        };
      }

      -- THE LOG BEHIND AN ANSWER IS KEPT: the learner left out just what is dropped, at any later moment
      pub counted_kept : is_dropped (then said.moment shard (learner_of view system.config.f)).part n ≡ any_among (at l).coordinator.dropped t.stamp
      counted_kept = elim (cases_Bool (is_dropped (then said.moment shard (learner_of view system.config.f)).part n)) [
        | inl lost ↦ lost ∙ sym (dropped_by system events l shard n t stamped number said.moment l (learner_of view system.config.f) (let by = said.by in omega arith) (let by = said.by in omega arith) lost)
        | inr kept ↦ elim (no_gap (then said.moment shard (learner_of view system.config.f)).part n (said.spoke.whole.at n low high)) [
          | inl lost ↦ absurd (both_ways _ kept lost)
          | inr counts ↦ kept ∙ sym (key system events l shard n t stamped number view past_then counts)
        ]
      ]
