-- WHAT WAS ANSWERED IS SAID FOR GOOD. The log from which a learner replied, where a quorum spoke for the same stamp in
-- its view, is how the order begins on the shard at every later moment; and so is the log up to which a learner was
-- settled when it gave a late answer. Over this log the shard's store gives the answer.
use Rattle.std.proofs.Common.{◌≡◌, ◌⊎◌, inl, inr, ℕ, zero, suc, ◌+◌, ◌-◌, ◌≤◌, List, [], ◌∷◌, ◌++◌, true, Some, refl, sym, ap, ◌∙◌, subst, append_assoc, arith}
use Rattle.eris_base.specs.declared.ids.Epoch.{Epoch}
use Rattle.eris_base.specs.declared.ids.Phase.{Phase}
use Rattle.eris_base.specs.declared.ids.ReplicaId.{ReplicaId}
use Rattle.eris_base.specs.declared.ids.ShardId.{ShardId}
use Rattle.eris_base.specs.declared.ids.TxnId.{TxnId}
use Rattle.eris_base.specs.declared.ids.View.{View}
use Rattle.eris_base.specs.declared.stamp.Stamp.{Stamp}
use Rattle.eris_base.specs.ConfigLimits.{ConfigValue}
use Rattle.eris_base.specs.Places.{number_in}
use Rattle.eris_base.specs.Quorums.{learner_of}
use Rattle.eris_txn.specs.declared.answer.Answer.{Answer}
use Rattle.eris_txn.specs.declared.packet.Packet.{Packet}
use Rattle.eris_log.specs.declared.entry.Entry.{Entry}
use Rattle.eris_log.specs.Entries.{entry_of, is_dropped}
use Rattle.eris_log.specs.Held.{packet_at}
use Rattle.eris_log.specs.Laws.Entries.{NoGap, entry_of-dropped}
use Rattle.eris_log.specs.PartValues.{PartValue}
use Rattle.eris_locks.specs.Shards.{names_shard}
use Rattle.eris_locks.specs.States.{phase_of}
use Rattle.eris_msg.specs.declared.message.Message.{Message}
use Rattle.eris_event.specs.declared.event.Event.{Event}
use Rattle.eris_rules.specs.EpochMessages.{EpochMessage, Responds, Vouch, Reply}
use Rattle.eris_rules.specs.Good.{BeginsWith, is_kept, kept_at, kept_upto, settled_log}
use Rattle.eris_rules.specs.Outer.{said_in}
use Rattle.eris_rules.specs.ReplicaAnswers.{is_open, log_upto, open_at, open_packet, open_upto}
use Rattle.eris_rules.specs.ReplicaStates.{EpochReplica, ReplicaState, is_normal}
use Rattle.eris_rules.specs.WorldOrders.{order_on}
use Rattle.eris_serial.specs.Evidence.{SaidOn}
use Rattle.eris_law_epoch.specs.EpochWorlds.{EpochEvent, EpochSystem}
use Rattle.eris_law_epoch.specs.Fine.{IsFineHeld, known_in}
use Rattle.eris_law_epoch.specs.Reading.{replica_then}
use Rattle.eris_law_epoch.specs.Stamped.{HasNumber}
use Rattle.eris_law_epoch.proofs.FineParts.{held_fine}
use Rattle.eris_law_epoch.proofs.FineWorlds.{all_fine}
use Rattle.eris_law_epoch.proofs.Grow.{NoGap-less}
use Rattle.eris_law_epoch.proofs.StampList.{stamps}
use Rattle.eris_law_key.specs.Quorums.{Reached, SpokePast}
use Rattle.eris_law_key.specs.Spoken.{SpokeThen}
use Rattle.eris_law_key.proofs.Counted.{replied, spoke_number, spoke_reply, vouched}
use Rattle.eris_law_key.proofs.KeyLemma.{no_gap}
use Rattle.eris_law_agreement.specs.Alone.{state_of}
use Rattle.eris_law_agreement.specs.EpochRuns.{servers_at, system_of}
use Rattle.eris_law_agreement.specs.Servers.{Servers}
use Rattle.eris_law_agreement.specs.WorldMoments.{world_at}
use Rattle.eris_law_agreement.proofs.Reduction.{own_events}
use Rattle.eris_law_order.proofs.Closings.{alone, is_alone}
use Rattle.eris_law_order.proofs.LearnerFronts.{learner_cut}
use Rattle.eris_law_order.proofs.OrderFronts.{IsUpto}
use Rattle.eris_law_order.proofs.OrderMembers.{names-has}
use Rattle.eris_law_order.proofs.SettledFronts.{settled_begins}
use Rattle.eris_law_order.proofs.ShardLists.{Cut}
use Rattle.eris_law_evidence.specs.Fronts.{IsSaidFrom}
use Rattle.eris_law_evidence.specs.Heard.{ByReply, ByVouch, WasAnswered, WasSent, WasSpoken}
use Rattle.eris_law_evidence.proofs.Prompts.{said_late, said_prompt}
use Rattle.eris_law_evidence.proofs.Tellers.{IsLateIn, LateBy, RepliedBy, late_by, replied_by}

-- ---- with no gap, what is kept is what the store steps over
same_test : (part : PartValue) (n : ℕ) → (is_dropped part n ≡ true) ⊎ (entry_of part n ≡ Entry.Txn) → is_open (entry_of part n) ≡ is_kept (entry_of part n)
same_test part n (inl lost) = let e = entry_of-dropped part n lost in ap is_open e ∙ sym (ap is_kept e)
same_test part n (inr counts) = ap is_open counts ∙ sym (ap is_kept counts)

open_same : (part : PartValue) (n : ℕ) → (is_dropped part n ≡ true) ⊎ (entry_of part n ≡ Entry.Txn) → open_at part n ≡ kept_at part n
unfolding open_at kept_at
open_same part n h = ap (λ b. open_packet b (packet_at part.held n)) (same_test part n h)

pub open_kept : (part : PartValue) (n : ℕ) → NoGap part n → open_upto part n ≡ kept_upto part n
unfolding open_upto kept_upto
open_kept part zero whole = refl
open_kept part (suc n) whole =
    (λ i. open_kept part n (NoGap-less part (suc n) n (omega arith) whole) i ++ open_same part (n + 1) (no_gap part (n + 1) (whole.at (n + 1) (omega arith) (omega arith))) i)

-- the log of a learner up to the packet that it replies to: the log before it, and it
kept_last : (part : PartValue) (n : ℕ) (packet : Packet) → packet_at part.held n ≡ Some packet → entry_of part n ≡ Entry.Txn → kept_at part n ≡ packet ∷ []
unfolding kept_at
kept_last part n packet held counts = (λ i. open_packet (is_kept (counts i)) (held i))

kept_to : (prior : List Packet) (part : PartValue) (n : ℕ) (packet : Packet) → 1 ≤ n → NoGap part n → packet_at part.held n ≡ Some packet → entry_of part n ≡ Entry.Txn
    → prior ++ kept_upto part n ≡ log_upto prior part (n - 1) ++ packet ∷ []
unfolding log_upto kept_upto
kept_to prior part zero packet one whole held counts = absurd (omega arith)
kept_to prior part (suc n) packet one whole held counts =
    let back : suc n - 1 ≡ n = omega arith in
    let next : suc n ≡ n + 1 = omega arith in
    let last : kept_at part (n + 1) ≡ packet ∷ [] = kept_last part (n + 1) packet (ap (packet_at part.held) (sym next) ∙ held) (ap (entry_of part) (sym next) ∙ counts) in
    ap (λ list. prior ++ (kept_upto part n ++ list)) last
    ∙ sym (append_assoc prior (kept_upto part n) (packet ∷ []))
    ∙ ap (λ list. (prior ++ list) ++ packet ∷ []) (sym (open_kept part n (NoGap-less part (suc n) n (omega arith) whole)))
    ∙ ap (λ m. (prior ++ open_upto part m) ++ packet ∷ []) (sym back)

-- ---- a reply
module _ (config : ConfigValue) (events : List Event) (j : ℕ) (shard : ShardId) (id : TxnId) (phase : Phase) (answer : Answer) where
  abbrev at : ℕ → Servers
  at k = servers_at config events k

  module _ (answered : WasAnswered config (at j).sent shard id phase answer) where
    abbrev view : View
    view = answered.view

    abbrev learner : ReplicaId
    learner = learner_of answered.view config.f

    abbrev told : RepliedBy config events j answered.view shard learner answered.stamp id phase answer
    told = replied_by config events j answered.reply.to answered.view shard learner answered.stamp id phase answer answered.reply.there

    abbrev m : ℕ
    m = told.moment

    abbrev state : ReplicaState
    state = state_of (at m).replicas shard learner

    abbrev n : ℕ
    n = told.replied.spoke.number

    abbrev packet : Packet
    packet = told.replied.spoke.packet

    abbrev epoch : Epoch
    epoch = state.epoch

    abbrev log : List Packet
    log = state.prior ++ kept_upto state.inner.part n

    -- ---- seen from a later moment
    module _ (k : ℕ) (le : j ≤ k) where
      abbrev system : EpochSystem
      system = system_of config events k epoch

      abbrev own : List EpochEvent
      own = own_events config events k epoch

      m_low : m ≤ k
      m_low = let by = told.by in omega arith

      reads : replica_then system own m shard learner ≡ state.inner
      reads = (is_alone config events k epoch m m_low).there shard learner refl

      fine : IsFineHeld epoch (known_in (alone config events k epoch m)) shard (n, packet)
      fine =
          let replicas = (all_fine system own m).replicas shard learner in
          subst (λ s. IsFineHeld epoch (known_in (alone config events k epoch m)) s (n, packet)) replicas.own
          (held_fine epoch (known_in (alone config events k epoch m)) (replica_then system own m shard learner).part n packet replicas.part
          (ap (λ (x : EpochReplica). packet_at x.part.held n) reads ∙ told.replied.spoke.held))

      -- the stamp is of the learner's epoch, and names the number
      of_epoch : answered.stamp.epoch ≡ epoch
      of_epoch = ap (λ (s : Stamp). s.epoch) (sym told.replied.spoke.of_stamp) ∙ fine.packet.of_epoch.epoch_is

      has : HasNumber packet shard n
      has = fine.number

      low : 1 ≤ n
      low = (stamps system own m).low packet shard n fine.packet.stamped has

      in_epoch : (message : EpochMessage) → said_in answered.stamp.epoch message ≡ said_in epoch message
      in_epoch message = ap (λ (e : Epoch). said_in e message) of_epoch

      spoke_then : (replica : ReplicaId) → WasSpoken (at j).sent answered.view shard answered.stamp id phase replica → SpokeThen system own j shard answered.view answered.stamp id phase replica
      spoke_then replica (ByVouch sent) =
          vouched system own j sent.to answered.view shard replica answered.stamp id phase
          ((is_alone config events k epoch j le).sent sent.to (Message.Vouch answered.view shard replica answered.stamp id phase) (Responds (Vouch answered.view shard replica answered.stamp id phase)) sent.there
          (in_epoch (Responds (Vouch answered.view shard replica answered.stamp id phase))))
      spoke_then replica (ByReply other sent) =
          spoke_reply system own j shard answered.view answered.stamp id phase other replica
          (replied system own j sent.to answered.view shard replica answered.stamp id phase other
          ((is_alone config events k epoch j le).sent sent.to (Message.Reply answered.view shard replica answered.stamp id phase other) (Responds (Reply answered.view shard replica answered.stamp id phase other)) sent.there
          (in_epoch (Responds (Reply answered.view shard replica answered.stamp id phase other)))))

      same_number : (replica : ReplicaId) (spoke : SpokeThen system own j shard answered.view answered.stamp id phase replica) → spoke.spoke.number ≡ n
      same_number replica spoke =
          let named : number_in answered.stamp.places shard ≡ Some n = ap (λ (s : Stamp). number_in s.places shard) (sym told.replied.spoke.of_stamp) ∙ has in
          let e : Some spoke.spoke.number ≡ Some n = sym (spoke_number system own j shard answered.view answered.stamp id phase replica spoke) ∙ named in
          cc

      reached : (replica : ReplicaId) → SpokeThen system own j shard answered.view answered.stamp id phase replica → Reached system own k shard answered.view n replica
      reached replica spoke = record {
        moment = spoke.moment;
        by = (let by = spoke.by in omega arith);
        there = spoke.there;
        in_view = sym spoke.spoke.in_view;
        normal = spoke.spoke.normal;
        whole = subst (NoGap (replica_then system own spoke.moment shard replica).part) (same_number replica spoke) spoke.spoke.whole;
      }

      learner_spoke : SpokeThen system own j shard answered.view answered.stamp id phase learner
      learner_spoke = spoke_then learner (ByReply answer answered.reply)

      learner_reached : Reached system own k shard answered.view n learner
      learner_reached = record {
        moment = m;
        by = m_low;
        there = learner_spoke.there;
        in_view = ap (λ (x : EpochReplica). x.view) reads ∙ sym told.replied.spoke.in_view;
        normal = ap (λ (x : EpochReplica). is_normal x.status) reads ∙ told.replied.spoke.normal;
        whole = subst (λ (x : EpochReplica). NoGap x.part n) (sym reads) told.replied.spoke.whole;
      }

      past : SpokePast system own k shard answered.view n
      unfolding learner_reached
      past = record {
        who = answered.who;
        quorum = answered.quorum;
        each = λ replica listed. reached replica (spoke_then replica (answered.each replica listed));
        learner = learner_reached;
      }

      at_m : past.learner.moment ≡ m
      unfolding past learner_reached
      at_m = refl

      -- THE FRONT: nothing behind it is of an earlier place
      pub replied_cut : Cut (IsUpto shard epoch n) log (order_on shard (world_at config events k))
      replied_cut = subst (λ (x : EpochReplica). Cut (IsUpto shard epoch n) (state.prior ++ kept_upto x.part n) (order_on shard (world_at config events k))) reads
          (learner_cut config events m k m_low shard answered.view n past at_m)

    named : names_shard shard packet ≡ true
    named = names-has shard packet n (has j (omega arith))

    log_is : log ≡ log_upto state.prior state.inner.part (n - 1) ++ packet ∷ []
    log_is = kept_to state.prior state.inner.part n packet (low j (omega arith)) told.replied.spoke.whole told.replied.spoke.held told.replied.spoke.entry

    said : SaidOn shard id phase answer log
    said =
        let own = said_prompt shard (log_upto state.prior state.inner.part (n - 1)) packet answer named told.replied.is_answer in
        subst (SaidOn shard id phase answer) (sym log_is)
        (subst (λ p. SaidOn shard id p answer (log_upto state.prior state.inner.part (n - 1) ++ packet ∷ [])) told.replied.spoke.of_phase
        (subst (λ i. SaidOn shard i (phase_of packet.body) answer (log_upto state.prior state.inner.part (n - 1) ++ packet ∷ [])) told.replied.spoke.of_id own))

    begins : (k : ℕ) → j ≤ k → BeginsWith (order_on shard (world_at config events k)) log
    begins k le = let front = replied_cut k le in record { rest = front.rest; joined = front.joined }

    -- the log ends with the packet of that stamp
    pub front_ends : (front : List Packet) × (packet : Packet) × (packet.stamp ≡ answered.stamp) × ((k : ℕ) → j ≤ k → BeginsWith (order_on shard (world_at config events k)) (front ++ packet ∷ []))
    front_ends = (
      log_upto state.prior state.inner.part (n - 1),
      packet,
      told.replied.spoke.of_stamp,
      λ k le. subst (BeginsWith (order_on shard (world_at config events k))) log_is (begins k le),
    )

    -- ANSWERED BY A QUORUM
    pub replies_front : IsSaidFrom config events j shard id phase answer
    replies_front = record { log = log; said = said; begins = begins }

  -- ---- a late answer
  late_said : (state : ReplicaState) → IsLateIn shard id phase answer state → SaidOn shard id phase answer (settled_log state)
  unfolding settled_log log_upto
  late_said state late =
      let own = said_late shard state.inner.part.epoch (log_upto state.prior state.inner.part state.inner.settled) late.above late.given late.among in
      let named : SaidOn shard id phase answer (state.prior ++ open_upto state.inner.part state.inner.settled) =
      subst (λ a. SaidOn shard id phase a (log_upto state.prior state.inner.part state.inner.settled)) late.is_answer
      (subst (λ p. SaidOn shard id p late.given.answer (log_upto state.prior state.inner.part state.inner.settled)) late.of_phase
      (subst (λ i. SaidOn shard i late.given.phase late.given.answer (log_upto state.prior state.inner.part state.inner.settled)) late.of_id own)) in
      subst (λ list. SaidOn shard id phase answer (state.prior ++ list)) (open_kept state.inner.part state.inner.settled late.whole) named

  by_late : LateBy config events j shard id phase answer → IsSaidFrom config events j shard id phase answer
  by_late late = record {
    log = settled_log (state_of (at late.moment).replicas shard late.replica);
    said = late_said (state_of (at late.moment).replicas shard late.replica) late.late;
    begins = λ k le. settled_begins config events late.moment k (let by = late.by in omega arith) shard late.replica;
  }

  -- ANSWERED LATE
  pub late_front : (replica : ReplicaId) → WasSent (at j).sent (Message.Late shard replica id phase answer) → IsSaidFrom config events j shard id phase answer
  late_front replica sent = by_late (late_by config events j sent.to shard replica id phase answer sent.there)
